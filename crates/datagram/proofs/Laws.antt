-- What the crates above use of this one's laws. Assumes nothing.

-- ---- how many octets
pub use Rattle.datagram.proofs.SizeLaws.{number-length, item-length, front_length, sum-next, size-next, items-bound, kind-bound}
-- ---- what the datagram writer writes
pub use Rattle.datagram.proofs.WriteLaws.{cut-length, extra-form, datagram-form, items-length, datagram-length, count-few, n-fits}
pub use Rattle.datagram.proofs.WriteLaws.{Allowed, allowed-bounded, allowed-written, written-allowed}
-- ---- what a piece of a datagram that reads says of the octets
pub use Rattle.datagram.proofs.PieceLaws.{octet-done, within-ends, item-done, items-done, items-each, extra-done}
-- ---- and a whole one
pub use Rattle.datagram.proofs.ReadLaws.{Datagram, read_done, read-inside, number_small, whole-reads, outcome-whole}
pub use Rattle.datagram.proofs.ReadLaws.{refused-read, accepted-read, accepted-count, accepted-inside}
-- ---- what is written reads back
pub use Rattle.datagram.proofs.ReadBack.{rest-after, first-left, some_left, ItemBack, item_back, item-sizes, most-fits}
pub use Rattle.datagram.proofs.ReadBack.{ExtraBack, extra-back}
pub use Rattle.datagram.proofs.ReadBack.{cut-flatten, Fit, fit-allowed, datagram-back}
