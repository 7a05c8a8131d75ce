-- What the crates above use of this one's laws. Assumes nothing.

-- ---- the history, a slot for each number
pub use Rattle.sender.proofs.Slots.{slot_small, has-slot, covered-kept}
pub use Rattle.sender.proofs.History.{history-at, history-number, packet-octet, packet-short, length-packet}
-- ---- spares and messages of the next datagram
pub use Rattle.sender.proofs.ItemLaws.{items-count, item-spare, item-message, members-short, count-inside}
-- ---- a packet kept, and the ranges after it
pub use Rattle.sender.proofs.Kept.{packet-fits, sent-limit, size-limit, arrays-kept, stored_of, history-kept, ranges-kept}
-- ---- what a send that is no refusal says
pub use Rattle.sender.proofs.SendAccepted.{accepted, size-done, size-refused}
-- ---- honest senders
pub use Rattle.sender.proofs.HonestLaws.{before-length, extra-same}
-- ---- a chain of sends, what an accepted or refused send says, and when one is accepted
pub use Rattle.sender.proofs.Chain.{sending_after, RunHolds, run_holds}
pub use Rattle.sender.proofs.Outcome.{SentSays, sent-says, refused_says}
pub use Rattle.sender.proofs.Takes.{send-takes}
