-- A text is cut into lines at its line feeds. Assumes nothing.
use Prim.Native.Nat.{ℕ, suc}
use mathlib.Core.Path.{◌≡◌, refl, sym, ap, ◌∙◌}
use mathlib.Core.Bool.{Bool, cond}
use mathlib.Core.List.{List, [], ◌∷◌, ◌++◌, append_assoc, append-nil}
use lib.ListN.{length}
use native.Mathlib.Omega.{arith}
use borrow.Author.Tests.{eq-eqb, ne_eqb}
use Rattle.line.specs.Lines.{line_feed, lines_from}
use Rattle.line.proofs.Feeding.{NoFeed}

-- the definition at a line feed, and at another character
pub at-feed : (begun : List ℕ) (c : ℕ) (input : List ℕ) → c ≡ line_feed → lines_from begun (c ∷ input) ≡ begun ∷ lines_from [] input
unfolding lines_from
at-feed begun c input e =
    ap (λ (b : Bool). cond b (begun ∷ lines_from [] input) (lines_from (begun ++ (c ∷ [])) input)) (eq-eqb c line_feed e)

pub at_other : (begun : List ℕ) (c : ℕ) (input : List ℕ) → (c ≡ line_feed → ⊥)
    → lines_from begun (c ∷ input) ≡ lines_from (begun ++ (c ∷ [])) input
unfolding lines_from
at_other begun c input other =
    ap (λ (b : Bool). cond b (begun ∷ lines_from [] input) (lines_from (begun ++ (c ∷ [])) input)) (ne_eqb c line_feed other)

-- characters that are no line feeds go to the line that has begun
pub past-plain : (begun s input : List ℕ) → NoFeed s (length s) → lines_from begun (s ++ input) ≡ lines_from (begun ++ s) input
past-plain begun [] input plain = ap (λ (l : List ℕ). lines_from l input) (sym (append-nil begun))
past-plain begun (c ∷ s) input plain =
    at_other begun c (s ++ input) (plain 0 (omega arith))
    ∙ past-plain (begun ++ (c ∷ [])) s input (λ k below. plain (suc k) (omega arith))
    ∙ ap (λ (l : List ℕ). lines_from l input) (append_assoc begun (c ∷ []) s)

pub past-line : (s input : List ℕ) → NoFeed s (length s) → lines_from [] (s ++ line_feed ∷ input) ≡ s ∷ lines_from [] input
past-line s input plain = past-plain [] s (line_feed ∷ input) plain ∙ at-feed s line_feed input refl
