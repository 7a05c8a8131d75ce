-- The lengths of the fields: their sum, and whether they are within the packet limit. Assumes nothing.
use Rattle.std.specs.List.{sum}
use Rattle.std.proofs.lemmas.List.Sums.{sum_by-cons}
use Prim.Native.Nat.{ℕ, ◌+◌}
use mathlib.Core.Path.{◌≡◌, refl, sym, ap, ◌∙◌}
use mathlib.Core.Bool.{Bool, true, false}
use mathlib.Core.List.{List, [], ◌∷◌}
use lib.Dec.{leb}
use Rattle.datagram.specs.Sizes.{packet_limit}
use Rattle.packet.specs.Packet.{every}
use Rattle.packet.specs.Write.{total, lengths_sum, in_sizes}
use Rattle.packet_writer.proofs.Measure.{both_left, both_right}

-- ---- the library's sum
pub sum-lengths : (ns : List ℕ) → sum ns ≡ lengths_sum ns
unfolding total
sum-lengths [] = refl
sum-lengths (x ∷ rest) = sum_by-cons (λ (n : ℕ). n) x rest ∙ ap (λ (n : ℕ). x + n) (sum-lengths rest)

-- ---- within the packet limit, or 4
module _ (ns : List ℕ) (size : ℕ) where
  pub sizes-not : {b : Bool} → b ≡ every (λ n. leb n packet_limit) ns → b ≡ false → false ≡ in_sizes ns size
  unfolding in_sizes
  sizes-not {b} is wrong = both_left (every (λ n. leb n packet_limit) ns) _ (sym is ∙ wrong)

  pub sizes-is : {b : Bool} → b ≡ every (λ n. leb n packet_limit) ns → b ≡ true → leb size packet_limit ≡ in_sizes ns size
  unfolding in_sizes
  sizes-is {b} is right = both_right (every (λ n. leb n packet_limit) ns) _ _ (sym is ∙ right) refl

pub ruleset sizings = (sizes-not, sizes-is)
