-- What the crates above use of this one's laws; each is proved in the file that it is passed on from. Assumes nothing.

-- ---- formats in whole octets: what is written of a value, what reads, and how they are put together
pub use Rattle.image.proofs.Plain.{Plain, octets-for, whole-reads, reads_whole}
-- ---- numbers, packets and messages
pub use Rattle.image.proofs.Numbers.{length-number, plain-number, plain-octet-to, plain-octet-is, plain-item}
-- ---- lines of hexadecimal
pub use Rattle.image.proofs.Text.{Pairs, pairs_of, hex-back, octets-small, octets-back, hex-pairs, hex-line, line-ended}
pub use Rattle.image.proofs.Text.{length-line}
pub use Rattle.image.proofs.HexLine.{line_reads, reads-line, plain-line}
-- ---- the octets of each line, and what may stand in it
pub use Rattle.image.proofs.Productions.{plain-first, plain-number-line, NumberFits}
pub use Rattle.image.proofs.Productions.{number_fits, fits-number, nothing-held}
-- ---- the whole
pub use Rattle.image.proofs.Whole.{plain-image, image-lines}
pub use Rattle.image.proofs.Holds.{holds_fits, fits-holds, sound-holds}
-- ---- how long it is
pub use Rattle.image.proofs.Sizes.{number-length, image-length, image-most}
-- ---- what a text reads as
pub use Rattle.image.proofs.Answers.{held_reads, ImageOf, reads_held, read-lines, read-only, read-image}
-- ---- a session as it is lent
pub use Rattle.image.proofs.Lent.{lent-octets, lent_back, struct_back}
-- ---- two editions
pub use Rattle.image.proofs.Editions.{Names, by01, by02, text01, text02, reads01, reads02, either-reads}
