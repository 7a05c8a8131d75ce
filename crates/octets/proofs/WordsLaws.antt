-- Laws of the exclusive or of two runs, for the crates above. Assumes nothing.
use Prim.Native.Nat.{ℕ, ◌<◌}
use mathlib.Core.Path.{◌≡◌}
use mathlib.Core.List.{List}
use lib.ListN.{length, get_or}
use lib.Bits.{bit_xor}
use Rattle.octets.proofs.Laws.{length-tab, tab-at}
use Rattle.octets.specs.Words.{both}

pub length_both : (src sum : List ℕ) → length (both src sum) ≡ length sum
unfolding both
length_both src sum = length-tab (length sum) _

pub both_at : (src sum : List ℕ) (j : ℕ) → j < length sum → get_or (both src sum) j 0 ≡ bit_xor (get_or sum j 0) (get_or src j 0)
unfolding both
both_at src sum j below = tab-at (length sum) _ j 0 below
