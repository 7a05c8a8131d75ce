-- The laws of a session's meaning that others use; each is proved in the file that it is passed on from. Assumes nothing.

-- ---- the members that pass a test
pub use Rattle.session.proofs.Passing.{passing-yes, passing-no, passing-among, passing-append, xor_at-parted}
-- ---- known and unknown, usable messages, fills
pub use Rattle.session.proofs.Fill.{missing, unknown-inside, known-not-unknown, same-unknown, usable-says, length-mended}
pub use Rattle.session.proofs.Fill.{makes-repaired, Usable, usable-of}
-- ---- the first usable message
pub use Rattle.session.proofs.Search.{first_usable-front, first_usable-rest, found-usable, none_found}
-- ---- the messages from a number on, as a search goes
pub use Rattle.session.proofs.Turns.{held_from, held_from-start, held_from-turn, held_from-end}
-- ---- what repair keeps
pub use Rattle.session.proofs.Grows.{repair_f-done, repair_f-fill, found-or-none, length-repair, repair-known, repair-made}
-- ---- known exactly if reached
pub use Rattle.session.proofs.Least.{reached-within, known-within, known-closed, known-reached, reached-known}
-- ---- members and reach
pub use Rattle.session.proofs.Members.{member-says, member-in-reach}
-- ---- the held messages
pub use Rattle.session.proofs.Held.{held-at, messages_of-among, held-distinct, held-honest}
-- ---- equal up to zeros at the end
pub use Rattle.session.proofs.Zeros.{up-to-zeros-same}
-- ---- an honest sender
pub use Rattle.session.proofs.Honest.{repair-right}
-- ---- a burst
pub use Rattle.session.proofs.MendedBurst.{burst-mended}
-- ---- what a packet and its spares fill, with no parity held
pub use Rattle.session.proofs.Spares.{keep-unknown, keep_known, keep-other, keep-stays, spares-exact, repair-no-parity}
-- ---- the ranges: lengths, n and m
pub use Rattle.session.proofs.Sizes.{unknown-size, mark-sizes, held-sizes, reach-kept}
-- ---- the ranges: the test and the record
pub use Rattle.session.proofs.Ranges.{base-small, size_fits, sound-of, in_ranges-of}
-- ---- the ranges: a number is filled
pub use Rattle.session.proofs.Filled.{fill-size, held-known, filled_at, filled-sound}
-- ---- the ranges: a datagram is held
pub use Rattle.session.proofs.Holding.{held_there, held_none, accepted-right, held-sound}
-- ---- the ranges: the base goes on
pub use Rattle.session.proofs.GoesOn.{last_place, last_ahead, cell-next, cell-last, held_next, held-last, sound-goes-on}
-- ---- the ranges: every call keeps them
pub use Rattle.session.proofs.Stays.{fresh-sound, offer-sound, sum-counted, release-sound}
-- ---- a release
pub use Rattle.session.proofs.Release.{Leaves, release-leaves}
