-- Laws of padded octets, and what a solution says at one place of the octets. Assumes nothing.
use Prim.Native.Nat.{ℕ, ◌≤◌, ◌<◌}
use mathlib.Core.Path.{◌≡◌, refl, sym, ap, ap₂, ◌∙◌}
use mathlib.Core.Logic.{◌⊎◌, inl, inr, ⊎_elim}
use mathlib.Core.List.{List, [], ◌∷◌, map, Memᴰ as Among}
use lib.ListN.{length, get_or, get_or-eq_default}
use lib.Seq.{ext_get_or}
use native.Mathlib.Omega.{arith}
use Rattle.octets.specs.Place.{tab}
use Rattle.octets.specs.ExclusiveOr.{xor_at, exclusive_or}
use Rattle.octets.proofs.Laws.{tab-at, tab-ext, length-tab, below_or_not, same_or_not, exclusive_or-at}
use Rattle.datagram.specs.Sizes.{packet_limit}
use Rattle.session.specs.Cells.{Cell, cell_at}
use Rattle.session.specs.Repair.{Message}
use Rattle.session.specs.Reached.{Known}
use Rattle.session.specs.Honest.{UpToZeros}
use Rattle.solve.specs.Equations.{padded, Solution}

-- ---- padded octets
pub padded-at : (octets : List ℕ) (k : ℕ) → k < packet_limit → get_or (padded octets) k 0 ≡ get_or octets k 0
unfolding padded
padded-at octets k inside = tab-at packet_limit (λ j. get_or octets j 0) k 0 inside

pub length-padded : (octets : List ℕ) → length (padded octets) ≡ packet_limit
unfolding padded
length-padded octets = length-tab packet_limit (λ k. get_or octets k 0)

pub padded-same : (x y : List ℕ) → ((k : ℕ) → get_or x k 0 ≡ get_or y k 0) → padded x ≡ padded y
unfolding padded
padded-same x y same = tab-ext packet_limit (λ k. get_or x k 0) (λ k. get_or y k 0) (λ k inside. same k)

-- what is as long as the limit stays
pub padded-whole : (x : List ℕ) → length x ≡ packet_limit → padded x ≡ x
padded-whole x long =
    ext_get_or 0 (padded x) x (length-padded x ∙ sym long) (λ k below. padded-at x k (omega (arith, length-padded x)))

-- what is no longer than the limit is followed by zeros
pub padded-zeros : (x : List ℕ) → length x ≤ packet_limit → UpToZeros (padded x) x
padded-zeros x short =
    record {
      long = omega (arith, length-padded x);
      same = λ k.
          ⊎_elim (λ inside. padded-at x k inside)
          (λ past.
          get_or-eq_default (padded x) 0 {n = k} (omega (arith, length-padded x))
          ∙ sym (get_or-eq_default x 0 {n = k} (omega arith)))
          (below_or_not k packet_limit);
    }

-- ---- two rows of octets are the same, or not
pub lists-same-or-not : (x y : List ℕ) → (x ≡ y) ⊎ (x ≡ y → ⊥)
lists-same-or-not [] [] = inl refl
lists-same-or-not [] (b ∷ y) = inr (λ e. let z = ap length e in omega arith)
lists-same-or-not (a ∷ x) [] = inr (λ e. let z = ap length e in omega arith)
lists-same-or-not (a ∷ x) (b ∷ y) =
    ⊎_elim
    (λ first.
    ⊎_elim (λ rest. inl (ap₂ (λ (c : ℕ) (z : List ℕ). c ∷ z) first rest))
    (λ differ. inr (λ e. differ (ap tail e)))
    (lists-same-or-not x y))
    (λ differ. inr (λ e. differ (ap (λ (l : List ℕ). get_or l 0 0) e)))
    (same_or_not a b)
  where
    tail : List ℕ → List ℕ
    tail [] = []
    tail (c ∷ z) = z

-- ---- a solution at one place of the octets
module _ {cells : List Cell} {messages : List Message} {x : ℕ → List ℕ} (s : Solution cells messages x) where
  pub known_at : (p k : ℕ) → k < packet_limit → Known cells p → get_or (x p) k 0 ≡ get_or (cell_at cells p).octets k 0
  known_at p k inside known = ap (λ (l : List ℕ). get_or l k 0) (s.known p known) ∙ padded-at (cell_at cells p).octets k inside

  pub equation-at : (message : Message) → Among message messages → (k : ℕ) → k < packet_limit
      → xor_at (map x message.members) k ≡ get_or message.octets k 0
  equation-at message held k inside =
      sym (exclusive_or-at packet_limit (map x message.members) k inside)
      ∙ ap (λ (l : List ℕ). get_or l k 0) (s.equation message held)
      ∙ padded-at message.octets k inside
