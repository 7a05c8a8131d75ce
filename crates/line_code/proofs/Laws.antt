-- What the crates above use of this one's laws. Assumes nothing.

-- ---- what `hex_to_octets` says of a line's octets
pub use Rattle.line_code.proofs.Offering.{line-fits, read-octets, read-refused, line-inside, line-length}
