-- What a datagram's packet and its spares fill, place by place; and where no parity is held, that is all an offer fills. Assumes nothing.
use Prim.Native.Nat.{ℕ, zero, suc, ◌-◌, ◌≤◌, ◌<◌}
use mathlib.Core.Path.{◌≡◌, refl, sym, ap, ◌∙◌}
use mathlib.Core.Bool.{Bool, cond}
use mathlib.Core.List.{List, [], ◌∷◌, ◌++◌}
use mathlib.Core.Logic.{⊎_elim}
use lib.ListN.{length, get_or, set}
use lib.Seq.{get_or-set_same, get_or-set_other}
use native.Mathlib.Nat.{not-suc-le-zero}
use native.Mathlib.Omega.{arith}
use Rattle.octets.specs.Place.{tab}
use Rattle.octets.proofs.Laws.{true-or-false}
use Rattle.session.specs.Cells.{State, spare, Cell, blank_cell, filled_cell, cell_at, unknown_at}
use Rattle.session.specs.Held.{Held, held_at, message_at, messages_of, messages_in_row, held_messages}
use Rattle.session.specs.Repair.{first_usable, repair}
use Rattle.session.specs.Reached.{Known, Unknown}
use Rattle.session.specs.Offer.{keep, keep_spares}
use Rattle.session.specs.Spares.{SparesFill, SparesExact}
use Rattle.session.proofs.Fill.{unknown-inside, known-not-unknown, same-unknown}
use Rattle.session.proofs.Grows.{repair_f-done}

-- ---- one packet
module _ (S : ℕ) (state : State) (p : ℕ) (octets : List ℕ) (cells : List Cell) where
  pub keep-unknown : Unknown cells p → cell_at (keep S state p octets cells) p ≡ filled_cell S state octets
  unfolding keep
  keep-unknown u =
      ap (λ (b : Bool). cell_at (cond b (set cells p (filled_cell S state octets)) cells) p) u
      ∙ get_or-set_same cells p (filled_cell S state octets) blank_cell (unknown-inside cells p u)

  pub keep_known : Known cells p → keep S state p octets cells ≡ cells
  unfolding keep
  keep_known k = ap (λ (b : Bool). cond b (set cells p (filled_cell S state octets)) cells) k

  pub keep-other : (i : ℕ) → (i ≡ p → ⊥) → cell_at (keep S state p octets cells) i ≡ cell_at cells i
  unfolding keep
  keep-other i other =
      ⊎_elim
      (λ u.
      ap (λ (b : Bool). cell_at (cond b (set cells p (filled_cell S state octets)) cells) i) u
      ∙ get_or-set_other cells p i (filled_cell S state octets) blank_cell other)
      (λ k. ap (λ (l : List Cell). cell_at l i) (keep_known k))
      (true-or-false (unknown_at cells p))

  -- what is known stays
  pub keep-stays : (i : ℕ) → Known cells i → cell_at (keep S state p octets cells) i ≡ cell_at cells i
  keep-stays i known =
      ⊎_elim (λ u. keep-other i (λ e. known-not-unknown cells p (ap (unknown_at cells) (sym e) ∙ known) u))
      (λ k. ap (λ (l : List Cell). cell_at l i) (keep_known k))
      (true-or-false (unknown_at cells p))

-- ---- the spares
pub spares-exact : SparesExact
unfolding keep_spares
spares-exact S p [] cells few =
    record {
      filled = λ j low u. absurd (not-suc-le-zero low);
      known = λ i k. refl;
      from_here = λ i past. refl;
      further = λ i before. refl;
    }
spares-exact S p (octets ∷ more) cells few =
    let first = keep S spare (p - 1) octets cells in
    let rest = spares-exact S (p - 1) more first (omega arith) in
    record {
      filled = at_place p octets more cells few rest;
      known = λ i k.
          let stays = keep-stays S spare (p - 1) octets cells i k in
          rest.known i (same-unknown cells first i stays ∙ k) ∙ stays;
      from_here = λ i past. rest.from_here i (omega arith) ∙ keep-other S spare (p - 1) octets cells i (λ e. omega arith);
      further = λ i before. rest.further i (omega arith) ∙ keep-other S spare (p - 1) octets cells i (λ e. omega arith);
    }
  where
    at_place : (p : ℕ) (octets : List ℕ) (more : List (List ℕ)) (cells : List Cell) → suc (length more) ≤ p
        → SparesFill S (p - 1) more (keep S spare (p - 1) octets cells) (keep_spares S (p - 1) more (keep S spare (p - 1) octets cells))
        → (j : ℕ) → j < suc (length more) → Unknown cells (p - suc j)
        → cell_at (keep_spares S (p - 1) more (keep S spare (p - 1) octets cells)) (p - suc j)
        ≡ filled_cell S spare (get_or (octets ∷ more) j [])
    at_place p octets more cells few rest zero low u =
        rest.from_here (p - 1) (omega arith) ∙ keep-unknown S spare (p - 1) octets cells u
    at_place p octets more cells few rest (suc j) low u =
        let first = keep S spare (p - 1) octets cells in
        let place : p - suc (suc j) ≡ (p - 1) - suc j = omega arith in
        let other = keep-other S spare (p - 1) octets cells (p - suc (suc j)) (λ e. omega arith) in
        let same = same-unknown cells first (p - suc (suc j)) other in
        ap (cell_at (keep_spares S (p - 1) more first)) place
        ∙ rest.filled j (omega arith) (ap (unknown_at first) (sym place) ∙ same ∙ u)

-- ---- no parity held, nothing repaired
none-in-row : (S : ℕ) (held : List Held) → ((d : ℕ) → d < length held → (held_at held d).messages ≡ []) → messages_in_row S held ≡ []
unfolding messages_in_row messages_of tab
none-in-row S [] each = refl
none-in-row S (h ∷ held) each =
    let rest = none-in-row (suc S) held (λ d low. each (suc d) (omega arith)) in
    none_of h (each 0 (omega arith)) ∙ rest
  where
    none_of : (h : Held) → h.messages ≡ [] → messages_of S h ++ messages_in_row (suc S) held ≡ messages_in_row (suc S) held
    none_of h e = ap (λ (n : ℕ). tab n (message_at S h) ++ messages_in_row (suc S) held) (ap length e)

pub repair-no-parity : (made : List ℕ → Cell) (cells : List Cell) (held : List Held)
    → ((d : ℕ) → d < length held → (held_at held d).messages ≡ [])
    → repair made cells (held_messages held) ≡ cells
unfolding repair held_messages first_usable
repair-no-parity made cells held each =
    let none-held : held_messages held ≡ [] = none-in-row _ held each in
    ap (repair made cells) none-held ∙ repair_f-done made (length cells) cells [] refl
