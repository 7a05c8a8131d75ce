-- The laws of formats that others use; each is proved in the file that it is passed on from. Assumes nothing.

-- ---- how wide what is spelt is
pub use Rattle.format.proofs.Standing.{wide-append, wide-whole, wide-spelt, gap-past}
-- ---- the laws of a format, for each way to put parts together
pub use Rattle.format.proofs.Lawful.{Lawful, lawful-known, lawful-item, lawful-guarded, lawful-demand, lawful_then, lawful-made}
pub use Rattle.format.proofs.Lawful.{lawful-either, lawful-sequence-of}
-- ---- and for each part
pub use Rattle.format.proofs.Parts.{lawful-flag, lawful-bits, lawful-align, lawful-here}
pub use Rattle.format.proofs.WholeOctets.{lawful-octets, lawful-two-octets, lawful-length-rule, Fronts, lawful-octetwise}
-- ---- what was read, taken apart
pub use Rattle.format.proofs.Standing.{stepped, passed}
pub use Rattle.format.proofs.WholeOctets.{from_found}
pub use Rattle.format.proofs.Apart.{then_found, made_found}
-- ---- a format keeps to its octets, and to what it found in them when more follow
pub use Rattle.format.proofs.Steady.{Steady, steady-known, steady-item, steady-guarded, steady-demand, steady_then, steady-made}
pub use Rattle.format.proofs.Steady.{steady-either, steady-sequence-of, steady-flag, steady-bits, steady-align, steady-here}
pub use Rattle.format.proofs.Steady.{align-edge}
pub use Rattle.format.proofs.SteadyOctets.{steady-octets, steady-two-octets, steady-length-rule}
-- ---- into octets, and back
pub use Rattle.format.proofs.Packing.{packed-whole, written-found, found-written}
-- ---- what a part reads at a place, told by the octets there
pub use Rattle.format.proofs.Edges.{onward, flag-some, flag-cut, bits_in, bits-at, bits-more, bits-cut, parted, edge-at}
pub use Rattle.format.proofs.Edges.{octetwise-at, octetwise-edge}
-- ---- bits that wait for the rest of their octet
pub use Rattle.format.proofs.Filling.{none-waits, joined_small, waits-left, left_at, full_octets-long, closed-long, spelt-join}
pub use Rattle.format.proofs.Filling.{packed-spelt, packed-closed}
