-- Repair keeps what is known: a number known before is the same after, its state and its octets, and the view keeps its
-- length. Assumes nothing.
use Prim.Native.Nat.{ℕ, zero, suc}
use mathlib.Core.Path.{◌≡◌, refl, sym, ◌∙◌, subst}
use mathlib.Core.Logic.{◌⊎◌, inl, inr, ⊎_elim}
use mathlib.Core.Bool.{true}
use mathlib.Core.List.{List, Memᴰ as Among}
use mathlib.Core.Option.{Option, none, some}
use lib.ListN.{length}
use Rattle.octets.proofs.Laws.{same_or_not}
use Rattle.session.specs.Cells.{Cell, cell_at}
use Rattle.session.specs.Repair.{Message, usable, first_usable, mended, fill, repair_f, repair}
use Rattle.session.specs.Reached.{Known}
use Rattle.session.proofs.Fill.{missing, length-fill, fill-missing, fill-other, fill_known, same-unknown}
use Rattle.session.proofs.Search.{found-usable}

-- a usable message is found, or not
pub found-or-none : (cells : List Cell) (messages : List Message)
    → ((found : Message) × (first_usable cells messages ≡ some found)) ⊎ (first_usable cells messages ≡ none)
found-or-none cells messages = pick (first_usable cells messages) refl where
  pick : (o : Option Message) → first_usable cells messages ≡ o
      → ((found : Message) × (first_usable cells messages ≡ some found)) ⊎ (first_usable cells messages ≡ none)
  pick none e = inr e
  pick (some found) e = inl (found, e)

-- however a fill is made
module _ (made : List ℕ → Cell) where
  -- ---- steps
  -- nothing found, nothing done
  pub repair_f-done : (k : ℕ) (cells : List Cell) (messages : List Message) → first_usable cells messages ≡ none
      → repair_f made k cells messages ≡ cells
  unfolding repair_f
  repair_f-done zero cells messages e = refl
  repair_f-done (suc k) cells messages e = rw (e, repair_f)

  -- one step: the message that is found fills, and repair begins again
  pub repair_f-fill : (k : ℕ) (cells : List Cell) (messages : List Message) (found : Message)
      → first_usable cells messages ≡ some found → repair_f made (suc k) cells messages ≡ repair_f made k (fill made cells found) messages
  unfolding repair_f
  repair_f-fill k cells messages found e = rw (e, repair_f)

  -- what every fill by a usable message keeps, repair keeps
  pub repair_f-keeps : (P : List Cell → Type 0) (messages : List Message)
      → ((cells : List Cell) (found : Message) → first_usable cells messages ≡ some found → P cells → P (fill made cells found))
      → (k : ℕ) (cells : List Cell) → P cells → P (repair_f made k cells messages)
  unfolding repair_f
  repair_f-keeps P messages step zero cells start = start
  repair_f-keeps P messages step (suc k) cells start =
      ⊎_elim
      (λ t.
      rw (repair_f-fill k cells messages t.0 t.1)
      (repair_f-keeps P messages step k (fill made cells t.0) (step cells t.0 t.1 start)))
      (λ e. rw (repair_f-done (suc k) cells messages e) start)
      (found-or-none cells messages)

  pub repair-keeps : (P : List Cell → Type 0) (messages : List Message)
      → ((cells : List Cell) (found : Message) → first_usable cells messages ≡ some found → P cells → P (fill made cells found))
      → (cells : List Cell) → P cells → P (repair made cells messages)
  unfolding repair
  repair-keeps P messages step cells start = repair_f-keeps P messages step (length cells) cells start

  -- what holds of each number, and of each that a usable message fills, holds of each number after repair
  pub repair-each : (P : ℕ → Cell → Type 0) (messages : List Message)
      → ((cells : List Cell) (found : Message) → Among found messages → usable cells found ≡ true
      → ((p : ℕ) → P p (cell_at cells p)) → P (missing cells found) (made (mended cells found)))
      → (cells : List Cell) → ((p : ℕ) → P p (cell_at cells p)) → (p : ℕ) → P p (cell_at (repair made cells messages) p)
  repair-each P messages step =
      repair-keeps (λ now. (p : ℕ) → P p (cell_at now p)) messages
      (λ now found e each p.
      let got = found-usable now messages found e in
      ⊎_elim
      (λ same.
      subst (λ (q : ℕ). P q (cell_at (fill made now found) q)) (sym same)
      (subst (P (missing now found)) (sym (fill-missing made now found got.1)) (step now found got.0 got.1 each)))
      (λ other. subst (P p) (sym (fill-other made now found p other)) (each p))
      (same_or_not p (missing now found)))

  -- ---- length and growth
  pub length-repair : (cells : List Cell) (messages : List Message) → length (repair made cells messages) ≡ length cells
  length-repair cells messages =
      repair-keeps (λ now. length now ≡ length cells) messages (λ now found e same. length-fill made now found ∙ same) cells refl

  -- what is known is never written over (rule 9.9)
  pub repair-known : (cells : List Cell) (messages : List Message) (p : ℕ) → Known cells p
      → cell_at (repair made cells messages) p ≡ cell_at cells p
  repair-known cells messages p k =
      repair-keeps (λ now. cell_at now p ≡ cell_at cells p) messages
      (λ now found e same. fill_known made now found p (found-usable now messages found e).1 (same-unknown cells now p same ∙ k) ∙ same)
      cells
      refl

  -- what is known stays known
  pub known-repair : (cells : List Cell) (messages : List Message) (p : ℕ) → Known cells p → Known (repair made cells messages) p
  known-repair cells messages p k = same-unknown cells (repair made cells messages) p (repair-known cells messages p k) ∙ k

  -- every number is as it was, or it is made of some octets
  pub repair-made : (cells : List Cell) (messages : List Message) (p : ℕ)
      → (cell_at (repair made cells messages) p ≡ cell_at cells p)
      ⊎ ((octets : List ℕ) × (cell_at (repair made cells messages) p ≡ made octets))
  repair-made cells messages =
      repair-each (λ p cell. (cell ≡ cell_at cells p) ⊎ ((octets : List ℕ) × (cell ≡ made octets))) messages
      (λ now found m can each. inr (mended now found, refl)) cells (λ p. inl refl)
