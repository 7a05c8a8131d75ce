-- Repair comes to its end: each fill makes one unknown number known, so as many steps as there are numbers are enough, and
-- after them no message is usable. Assumes nothing.
use Prim.Native.Nat.{ℕ, zero, suc, ◌≤◌}
use mathlib.Core.Path.{◌≡◌, refl, sym, ap, ◌∙◌}
use mathlib.Core.Logic.{⊎_elim}
use mathlib.Core.Bool.{Bool, true, false, cond, false≢true}
use mathlib.Core.List.{List, [], ◌∷◌}
use mathlib.Core.Option.{none, some}
use lib.ListN.{length, set}
use native.Mathlib.Omega.{arith}
use Rattle.session.specs.Cells.{Cell, Makes, is_unknown}
use Rattle.session.specs.Repair.{Message, usable, first_usable, fill, mended, repair_f, repair}
use Rattle.session.specs.Reached.{Unknown}
use Rattle.session.proofs.Fill.{missing, usable-says, length-fill}
use Rattle.session.proofs.Search.{found-usable}
use Rattle.session.proofs.Grows.{repair_f-done, repair_f-fill, found-or-none}

-- ---- how many numbers are unknown
unfoldable pub unknowns : List Cell → ℕ
unknowns [] = 0
unknowns (cell ∷ cells) = cond (is_unknown cell.state) (suc (unknowns cells)) (unknowns cells)

counted : (b : Bool) (n : ℕ) → cond b (suc n) n ≤ suc n
counted true n = omega arith
counted false n = omega arith

pub unknowns-fit : (cells : List Cell) → unknowns cells ≤ length cells
unfolding unknowns
unknowns-fit [] = omega arith
unknowns-fit (cell ∷ cells) = omega (arith, counted (is_unknown cell.state) (unknowns cells), unknowns-fit cells)

cond-suc : (b : Bool) (n k : ℕ) → suc n ≡ k → suc (cond b (suc n) n) ≡ cond b (suc k) k
cond-suc true n k e = ap suc e
cond-suc false n k e = e

-- an unknown number that becomes known is one less
pub unknowns-set : (cells : List Cell) (p : ℕ) (cell : Cell) → Unknown cells p → is_unknown cell.state ≡ false
    → suc (unknowns (set cells p cell)) ≡ unknowns cells
unfolding unknowns
unknowns-set [] p cell u k = absurd (false≢true u)
unknowns-set (old ∷ cells) zero cell u k = rw (u, k)
unknowns-set (old ∷ cells) (suc p) cell u k =
    cond-suc (is_unknown old.state) (unknowns (set cells p cell)) (unknowns cells) (unknowns-set cells p cell u k)

-- where a fill is known, however it is made
module _ {made : List ℕ → Cell} (makes : Makes made) where
  pub unknowns-fill : (cells : List Cell) (message : Message) → usable cells message ≡ true
      → suc (unknowns (fill made cells message)) ≡ unknowns cells
  unfolding fill
  unknowns-fill cells message e =
      unknowns-set cells (missing cells message) (made (mended cells message))
      (usable-says cells message e).unknown
      (makes.known (mended cells message))

  -- ---- the steps are enough
  no-unknown : (cells : List Cell) (messages : List Message) (found : Message) → unknowns cells ≤ 0
      → first_usable cells messages ≡ some found → ⊥
  no-unknown cells messages found few e = omega (arith, unknowns-fill cells found (found-usable cells messages found e).1)

  -- after as many steps as there are unknown numbers no message is usable
  pub repair_f-closed : (k : ℕ) (cells : List Cell) (messages : List Message) → unknowns cells ≤ k
      → first_usable (repair_f made k cells messages) messages ≡ none
  unfolding repair_f
  repair_f-closed zero cells messages few =
      ⊎_elim (λ t. absurd (no-unknown cells messages t.0 few t.1)) (λ e. e) (found-or-none cells messages)
  repair_f-closed (suc k) cells messages few =
      ⊎_elim
      (λ t.
      rw (repair_f-fill made k cells messages t.0 t.1)
      (repair_f-closed k (fill made cells t.0) messages
      (omega (arith, unknowns-fill cells t.0 (found-usable cells messages t.0 t.1).1))))
      (λ e. rw (repair_f-done made (suc k) cells messages e) e)
      (found-or-none cells messages)

  -- more steps change nothing
  pub repair_f-more : (k j : ℕ) (cells : List Cell) (messages : List Message) → unknowns cells ≤ k → unknowns cells ≤ j
      → repair_f made k cells messages ≡ repair_f made j cells messages
  unfolding repair_f
  repair_f-more zero j cells messages few enough =
      ⊎_elim (λ t. absurd (no-unknown cells messages t.0 few t.1)) (λ e. sym (repair_f-done made j cells messages e))
      (found-or-none cells messages)
  repair_f-more (suc k) zero cells messages few enough =
      ⊎_elim (λ t. absurd (no-unknown cells messages t.0 enough t.1)) (λ e. repair_f-done made (suc k) cells messages e)
      (found-or-none cells messages)
  repair_f-more (suc k) (suc j) cells messages few enough =
      ⊎_elim
      (λ t.
      let one_less = unknowns-fill cells t.0 (found-usable cells messages t.0 t.1).1 in
      repair_f-fill made k cells messages t.0 t.1
      ∙ repair_f-more k j (fill made cells t.0) messages (omega arith) (omega arith)
      ∙ sym (repair_f-fill made j cells messages t.0 t.1))
      (λ e. repair_f-done made (suc k) cells messages e ∙ sym (repair_f-done made (suc j) cells messages e))
      (found-or-none cells messages)

  -- ---- repair, without a count of steps
  -- no usable message is left, so repair stops (rule 11.4)
  pub repair-closed : (cells : List Cell) (messages : List Message) → first_usable (repair made cells messages) messages ≡ none
  unfolding repair
  repair-closed cells messages = repair_f-closed (length cells) cells messages (unknowns-fit cells)

  pub repair-done : (cells : List Cell) (messages : List Message) → first_usable cells messages ≡ none → repair made cells messages ≡ cells
  unfolding repair
  repair-done cells messages e = repair_f-done made (length cells) cells messages e

  -- one fill, after which the search begins again (rule 11.4)
  pub repair-fill : (cells : List Cell) (messages : List Message) (found : Message) → first_usable cells messages ≡ some found
      → repair made cells messages ≡ repair made (fill made cells found) messages
  unfolding repair
  repair-fill cells messages found e =
      let one_less = unknowns-fill cells found (found-usable cells messages found e).1 in
      let fits = unknowns-fit cells in
      repair_f-more (length cells) (suc (length cells)) cells messages (omega arith) (omega arith)
      ∙ repair_f-fill made (length cells) cells messages found e
      ∙ ap (λ (k : ℕ). repair_f made k (fill made cells found) messages) (sym (length-fill made cells found))

  -- any number of steps that is no smaller than the view gives the same
  pub repair_f-enough : (k : ℕ) (cells : List Cell) (messages : List Message) → length cells ≤ k
      → repair_f made k cells messages ≡ repair made cells messages
  unfolding repair
  repair_f-enough k cells messages enough =
      let fits = unknowns-fit cells in repair_f-more k (length cells) cells messages (omega arith) (omega arith)
