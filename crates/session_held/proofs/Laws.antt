-- The laws of how a session is held that others use; each is proved in the file that it is passed on from. Assumes nothing.

-- ---- slots of numbers and messages
pub use Rattle.session_held.proofs.Slots.{slot_small, heard-small, message-small, slot_apart, heard-apart, message-apart}
pub use Rattle.session_held.proofs.Slots.{apart-before}
pub use Rattle.session_held.proofs.Slots.{apart-here, has-packet-slot, has-message-slot, slot_of, heard-slot-of, slot-after}
pub use Rattle.session_held.proofs.Slots.{slot-comes}
pub use Rattle.session_held.proofs.Slots.{heard-after, heard-leaves}
-- ---- kinds and states
pub use Rattle.session_held.proofs.States.{kind-same}
-- ---- what the view says of a place of the table
pub use Rattle.session_held.proofs.Seen.{length-cells, length-held, cell-at, held-at, unknown-at, octets-long, octet-at, cell-right}
pub use Rattle.session_held.proofs.Seen.{cell_parts, held-right, unknown-empty, n-small}
-- ---- a message in its slot
pub use Rattle.session_held.proofs.Messages.{message-length}
-- ---- the ranges
pub use Rattle.session_held.proofs.Ranges.{message-fits, message-none, message-zeros, laid-message, in-ranges-of, in-ranges-true}
pub use Rattle.session_held.proofs.Ranges.{session-in-ranges}
-- ---- the places of one number
pub use Rattle.session_held.proofs.Places.{long_kept, long-dropped, kept-zero, kept-elsewhere, dropped-stays, dropped}
pub use Rattle.session_held.proofs.Places.{dropped-elsewhere}
pub use Rattle.session_held.proofs.Places.{unknown-number}
-- ---- a packet is placed
pub use Rattle.session_held.proofs.Placed.{beyond, placed-held, placed-cells, placed-ranges}
-- ---- a datagram is marked and its messages laid
pub use Rattle.session_held.proofs.Heard.{heard-cells, heard-held, heard-ranges}
-- ---- one view, one session
pub use Rattle.session_held.proofs.Injective.{lent_same, session-same, fresh-same}
