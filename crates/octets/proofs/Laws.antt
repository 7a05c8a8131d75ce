-- The laws of this crate that others use; each is proved in the file that it is passed on from. Assumes nothing.

-- ---- two cases that a proof goes by, and tests joined
pub use Rattle.octets.proofs.Either.{below_or_not, same_or_not, true-or-false, and_left, and_right, and_both, or-true}
-- ---- lists given by place, and tests over a range
pub use Rattle.octets.proofs.Place.{length-tab, tab-at, tab-ext, tab-get_d, tab-set, all_below-more, all_below-at, all_below-of}
pub use Rattle.octets.proofs.Place.{all_below-ext, tab-among, among-tab, tab-snoc, tab-more, tab-shift, tab-same, map-tab, tab-take}
-- ---- the exclusive or
pub use Rattle.octets.proofs.ExclusiveOr.{xor_assoc, xor-cancel-right, xor-left-comm, xor_at-cons, xor_at-same, xor_at-zeros}
pub use Rattle.octets.proofs.ExclusiveOr.{longest-reaches, longest-least, longest-more, length-exclusive_or, exclusive_or-at}
pub use Rattle.octets.proofs.ExclusiveOr.{exclusive_or-past, exclusive_or-longest, exclusive_or-octet, exclusive_or-none}
pub use Rattle.octets.proofs.ExclusiveOr.{exclusive_or-more}
