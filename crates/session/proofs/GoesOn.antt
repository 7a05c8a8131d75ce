-- The base goes on by one: the ranges stay, on the view alone. Assumes nothing.
use Prim.Native.Nat.{ℕ, zero, suc, ◌+◌, ◌-◌, ◌%◌, ◌≤◌, ◌<◌}
use mathlib.Core.Path.{◌≡◌, refl, sym, ap, ap₂, ◌∙◌}
use mathlib.Core.Bool.{Bool, true, not}
use mathlib.Core.List.{List, [], ◌∷◌, ◌++◌}
use mathlib.Core.Logic.{⊎_elim}
use lib.ListN.{length, get_or, drop}
use lib.Dec.{leb, eqb}
use native.Mathlib.Omega.{arith}
use borrow.Author.Tests.{lt-ltb, le-ltb, le-leb, eq-eqb, eqb-true}
use Rattle.octets.specs.Place.{all_below}
use Rattle.octets.proofs.Laws.{same_or_not, below_or_not, and_left, and_both}
use Rattle.session.specs.Cells.{Cell, blank_cell, unknown_cell, cell_at, is_unknown, kept_before, kept_ahead, kept_numbers}
use Rattle.session.specs.Held.{Held, nothing_held, held_at}
use Rattle.session.specs.Ranges.{blank_at, sum_right, size_right, note_right, cell_right, cell_noted, mark_right, held_right, known_at, Sound}
use Rattle.session.specs.View as views
use Rattle.session.specs.View.{View, sum, numbers, number_at, session_limit, following, gone_on}

-- the last place of the view, where a number comes into view, and the last distance from the base
abbrev pub last_place : ℕ
last_place = kept_numbers - 1

abbrev pub last_ahead : ℕ
last_ahead = kept_ahead - 1

-- the base goes on by one: place p of the view is place p + 1 of the one before, and the sum is one more
pub blank-further : (total p : ℕ) → blank_at (total + 1) p ≡ blank_at total (suc p)
blank-further total p = ⊎_elim low high (below_or_not (suc p) kept_before) where
  low : suc p < kept_before → blank_at (total + 1) p ≡ blank_at total (suc p)
  low below =
      ⊎_elim
      (λ (blank : total < kept_before - suc p).
      rw (lt-ltb p kept_before (omega arith), lt-ltb (suc p) kept_before below, lt-ltb total (kept_before - suc p) blank)
      (lt-ltb (total + 1) (kept_before - p) (omega arith)))
      (λ (not : kept_before - suc p ≤ total).
      rw (lt-ltb p kept_before (omega arith), lt-ltb (suc p) kept_before below, le-ltb total (kept_before - suc p) not)
      (le-ltb (total + 1) (kept_before - p) (omega arith)))
      (below_or_not total (kept_before - suc p))

  high : kept_before ≤ suc p → blank_at (total + 1) p ≡ blank_at total (suc p)
  high past =
      ⊎_elim
      (λ (base : p < kept_before).
      rw (lt-ltb p kept_before base, le-ltb (suc p) kept_before past) (le-ltb (total + 1) (kept_before - p) (omega arith)))
      (λ ahead. rw (le-ltb p kept_before ahead, le-ltb (suc p) kept_before past))
      (below_or_not p kept_before)

-- and the number there is the same
number-further : (base p : ℕ) → base < numbers → number_at (following base) p ≡ number_at base (suc p)
number-further base p small = omega arith

-- ---- a list one place further
module _ {A : Type 0} where
  further : (l : List A) (last d : A) (n p : ℕ) → length l ≡ suc n → p < n → get_or (drop 1 l ++ (last ∷ [])) p d ≡ get_or l (suc p) d
  further [] last d n p long below = absurd (omega arith)
  further (x ∷ l) last d n p long below = before l p (omega arith) where
    before : (s : List A) (i : ℕ) → i < length s → get_or (s ++ (last ∷ [])) i d ≡ get_or s i d
    before [] i low = absurd (omega arith)
    before (y ∷ s) zero low = refl
    before (y ∷ s) (suc i) low = before s i (omega arith)

  at-end : (l : List A) (last d : A) (n : ℕ) → length l ≡ suc n → get_or (drop 1 l ++ (last ∷ [])) n d ≡ last
  at-end [] last d n long = absurd (omega arith)
  at-end (x ∷ l) last d n long = ap (λ (k : ℕ). get_or (l ++ (last ∷ [])) k d) (sym e) ∙ end l where
    e : length l ≡ n
    e = omega arith

    end : (s : List A) → get_or (s ++ (last ∷ [])) (length s) d ≡ last
    end [] = refl
    end (y ∷ s) = end s

  as_long : (l : List A) (last : A) (n : ℕ) → length l ≡ suc n → length (drop 1 l ++ (last ∷ [])) ≡ suc n
  as_long [] last n long = absurd (omega arith)
  as_long (x ∷ l) last n long = more l ∙ long where
    more : (s : List A) → length (s ++ (last ∷ [])) ≡ suc (length s)
    more [] = refl
    more (y ∷ s) = ap suc (more s)

-- ---- the ranges, on the view alone
module _ {v : View} (counts : views.Counts) (s : Sound v) (more : sum counts ≡ sum v.counts + 1) (fits : sum counts ≤ session_limit) where
  pub cell-next : (p : ℕ) → p < last_place → cell_at (gone_on counts v).cells p ≡ cell_at v.cells (suc p)
  unfolding gone_on
  cell-next p low = further v.cells unknown_cell blank_cell last_place p s.kept low

  pub cell-last : cell_at (gone_on counts v).cells last_place ≡ unknown_cell
  unfolding gone_on
  cell-last = at-end v.cells unknown_cell blank_cell last_place s.kept

  pub held_next : (d : ℕ) → d < last_ahead → held_at (gone_on counts v).held d ≡ held_at v.held (suc d)
  unfolding gone_on
  held_next d low = further v.held nothing_held nothing_held last_ahead d s.ahead low

  pub held-last : held_at (gone_on counts v).held last_ahead ≡ nothing_held
  unfolding gone_on
  held-last = at-end v.held nothing_held nothing_held last_ahead s.ahead

  total-next : sum_right (gone_on counts v) ≡ true
  unfolding sum_right gone_on
  total-next =
      let S = sum v.counts in
      let same : v.base ≡ S % numbers =
      eqb-true v.base (S % numbers) (and_left (eqb v.base (S % numbers)) (leb S session_limit) s.total) in
      and_both (eq-eqb (following v.base) (sum counts % numbers) (rw more (omega arith))) (le-leb (sum counts) session_limit fits)

  cell-right : (p : ℕ) → p < last_place → cell_right (cell_at (gone_on counts v).cells p) (blank_at (sum counts) p) ≡ true
  cell-right p low =
      ap₂ (λ (c : Cell) (b : Bool). cell_right c b) (cell-next p low) (ap (λ (n : ℕ). blank_at n p) more ∙ blank-further (sum v.counts) p)
      ∙ s.cell (suc p) (omega arith)

  last-right : cell_right (cell_at (gone_on counts v).cells last_place) (blank_at (sum counts) last_place) ≡ true
  unfolding size_right
  last-right = ap (λ (c : Cell). cell_right c (blank_at (sum counts) last_place)) cell-last

  note-right : (p : ℕ) → p < last_place → cell_noted (cell_at (gone_on counts v).cells p) (number_at (following v.base) p) ≡ true
  note-right p low =
      ap₂ (λ (c : Cell) (n : ℕ). cell_noted c n) (cell-next p low) (number-further v.base p s.small) ∙ s.note (suc p) (omega arith)

  last-noted : (n : ℕ) → cell_noted (cell_at (gone_on counts v).cells last_place) n ≡ true
  unfolding note_right
  last-noted n = ap (λ (c : Cell). cell_noted c n) cell-last

  held-right : (d : ℕ) → d < last_ahead → held_right (held_at (gone_on counts v).held d) (known_at (gone_on counts v) (kept_before + d)) ≡ true
  held-right d low =
      let e : suc (kept_before + d) ≡ kept_before + suc d = omega arith in
      ap₂ (λ (h : Held) (c : Cell). held_right h (not (is_unknown c.state))) (held_next d low)
      (cell-next (kept_before + d) (omega arith) ∙ ap (λ (k : ℕ). cell_at v.cells k) e)
      ∙ s.held (suc d) (omega arith)

  gone-right : held_right (held_at (gone_on counts v).held last_ahead) (known_at (gone_on counts v) (kept_before + last_ahead)) ≡ true
  unfolding held_right mark_right all_below
  gone-right = ap (λ (h : Held). held_right h (known_at (gone_on counts v) (kept_before + last_ahead))) held-last

  pub sound-goes-on : Sound (gone_on counts v)
  unfolding gone_on
  sound-goes-on =
      record {
        small = omega arith;
        total = total-next;
        kept = as_long v.cells unknown_cell last_place s.kept;
        ahead = as_long v.held nothing_held last_ahead s.ahead;
        cell = λ p below.
            ⊎_elim (λ (e : p ≡ last_place). rw e last-right) (λ other. cell-right p (omega arith)) (same_or_not p last_place);
        note = λ p below.
            ⊎_elim (λ (e : p ≡ last_place). rw e (last-noted (number_at (following v.base) last_place)))
            (λ other. note-right p (omega arith)) (same_or_not p last_place);
        held = λ d below.
            ⊎_elim (λ (e : d ≡ last_ahead). rw e gone-right) (λ other. held-right d (omega arith)) (same_or_not d last_ahead);
      }
