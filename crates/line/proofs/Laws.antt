-- What the crates above use of this one's laws. Assumes nothing.

-- ---- hexadecimal
pub use Rattle.line.proofs.HexLaws.{length-octets_in, length-hex_of}
-- ---- text that is put behind what stands in a buffer
pub use Rattle.line.proofs.Appending.{appends-none, appends-one, appends-then, appends-front, appends-rest, appends-long}
-- ---- characters taken in
pub use Rattle.line.proofs.Feeding.{NoFeed, step_kept, keeps-all, taken_in-feed, fed-plain, fed-append}
pub use Rattle.line.proofs.FeedTaken.{taken-line, taken-full}
-- ---- a text cut into lines
pub use Rattle.line.proofs.LineCuts.{at-feed, at_other, past-plain, past-line}
-- ---- one block after another
pub use Rattle.line.proofs.BlockLaws.{line-fresh, begun-length, feedable-block, feeds-on, feeds-some}
pub use Rattle.line.proofs.InTurn.{part-way-start, part-way-block, part-way-end}
