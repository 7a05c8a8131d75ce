-- An unknown number is filled: it takes the state of a packet, octets within the limit and a note that is right for it; the view stays in
-- the ranges. Its own cell passes by its length, since an unknown number is not blank; a number that must be known is known all the
-- more; every other place is as it was. Assumes nothing.
use Prim.Native.Nat.{ℕ, ◌+◌, ◌≤◌, ◌<◌}
use mathlib.Core.Path.{◌≡◌, refl, ap, ◌∙◌}
use mathlib.Core.Bool.{Bool, true, false, not, false≢true}
use mathlib.Core.List.{List}
use mathlib.Core.Logic.{⊎_elim}
use lib.ListN.{length, set, length-set}
use lib.Seq.{get_or-set_same, get_or-set_other}
use native.Mathlib.Omega.{arith}
use borrow.Author.Tests.{le-leb}
use Rattle.octets.proofs.Laws.{same_or_not, and_left, and_right, and_both}
use Rattle.datagram.specs.Sizes.{packet_least, packet_limit}
use Rattle.session.specs.Cells.{State, unknown, received, spare, repaired, blank, is_unknown, Cell, blank_cell, filled_cell, cell_at}
use Rattle.session.specs.Cells.{unknown_at, kept_before, kept_ahead, kept_numbers}
use Rattle.session.specs.Held.{Held, held_at}
use Rattle.session.proofs.Fill.{unknown-inside}
use Rattle.session.specs.View.{View, sum, number_at}
use Rattle.session.specs.Ranges.{sum_right, blank_at, size_right, note_right, is_fill, cell_right, cell_noted, mark_right, held_right, known_at}
use Rattle.session.specs.Ranges.{Sound}
use Rattle.session.proofs.Sizes.{unknown-size}

-- the view with a packet at place p, filled while datagram S is offered
abbrev pub filled_at : View → ℕ → ℕ → State → List ℕ → View
filled_at v p S state octets =
    record {
      base = v.base;
      counts = v.counts;
      cells = set v.cells p (filled_cell S state octets);
      held = v.held;
    }

-- ---- the tests of one number
pub fill-size : (state : State) (size : ℕ) (must_be_blank : Bool) → is_fill state ≡ true → packet_least ≤ size → size ≤ packet_limit
    → not must_be_blank ≡ true → size_right state size must_be_blank ≡ true
unfolding size_right
fill-size unknown size b f least most e = absurd (false≢true f)
fill-size received size b f least most e = and_both (and_both (le-leb packet_least size least) (le-leb size packet_limit most)) e
fill-size spare size b f least most e = and_both (and_both (le-leb packet_least size least) (le-leb size packet_limit most)) e
fill-size repaired size b f least most e = and_both (and_both (le-leb packet_least size least) (le-leb size packet_limit most)) e
fill-size blank size b f least most e = absurd (false≢true f)

pub fill_known : (state : State) → is_fill state ≡ true → not (is_unknown state) ≡ true
fill_known unknown f = f
fill_known received f = refl
fill_known spare f = refl
fill_known repaired f = refl
fill_known blank f = refl

-- what is right of an unknown number is right of a known one
mark-known : (accepted known : Bool) (n m : ℕ) → mark_right accepted known n m ≡ true → mark_right accepted true n m ≡ true
unfolding mark_right
mark-known true known n m e = and_both refl (and_right known _ e)
mark-known false known n m e = e

pub held-known : (h : Held) (known : Bool) → held_right h known ≡ true → held_right h true ≡ true
unfolding held_right
held-known h known e =
    let mark = mark_right h.accepted known h.n (length h.messages) in
    and_both (mark-known h.accepted known h.n (length h.messages) (and_left mark _ e)) (and_right mark _ e)

-- ---- the view
module _ {v : View} (s : Sound v) (p : ℕ) (free : unknown_at v.cells p ≡ true) (S : ℕ) (state : State) (fills : is_fill state ≡ true)
    (noted : note_right state S (number_at v.base p) ≡ true)
    (b : List ℕ) (least : packet_least ≤ length b) (most : length b ≤ packet_limit) where
  filled : Cell
  filled = filled_cell S state b

  inside : p < length v.cells
  inside = unknown-inside v.cells p free

  cell-here : cell_at (set v.cells p filled) p ≡ filled
  cell-here = get_or-set_same v.cells p filled blank_cell inside

  cell_other : (q : ℕ) → (q ≡ p → ⊥) → cell_at (set v.cells p filled) q ≡ cell_at v.cells q
  cell_other q other = get_or-set_other v.cells p q filled blank_cell other

  not-blank : not (blank_at (sum v.counts) p) ≡ true
  not-blank = (unknown-size _ _ _ free (s.cell p (omega (arith, inside, s.kept)))).1

  cell-each : (q : ℕ) → q < kept_numbers → cell_right (cell_at (set v.cells p filled) q) (blank_at (sum v.counts) q) ≡ true
  unfolding filled
  cell-each q small =
      ⊎_elim
      (λ (same : q ≡ p).
      ap (λ (k : ℕ). cell_right (cell_at (set v.cells p filled) k) (blank_at (sum v.counts) k)) same
      ∙ ap (λ (c : Cell). cell_right c (blank_at (sum v.counts) p)) cell-here
      ∙ fill-size state (length b) (blank_at (sum v.counts) p) fills least most not-blank)
      (λ other. ap (λ (c : Cell). cell_right c (blank_at (sum v.counts) q)) (cell_other q other) ∙ s.cell q small)
      (same_or_not q p)

  note-each : (q : ℕ) → q < kept_numbers → cell_noted (cell_at (set v.cells p filled) q) (number_at v.base q) ≡ true
  unfolding filled
  note-each q small =
      ⊎_elim
      (λ (same : q ≡ p).
      ap (λ (k : ℕ). cell_noted (cell_at (set v.cells p filled) k) (number_at v.base k)) same
      ∙ ap (λ (c : Cell). cell_noted c (number_at v.base p)) cell-here
      ∙ noted)
      (λ other. ap (λ (c : Cell). cell_noted c (number_at v.base q)) (cell_other q other) ∙ s.note q small)
      (same_or_not q p)

  held-each : (d : ℕ) → d < kept_ahead
      → held_right (held_at v.held d) (not (unknown_at (set v.cells p filled) (kept_before + d))) ≡ true
  unfolding filled
  held-each d small =
      let q = kept_before + d in
      let h = held_at v.held d in
      ⊎_elim
      (λ (same : q ≡ p).
      ap (λ (c : Cell). held_right h (not (is_unknown c.state))) (ap (λ (k : ℕ). cell_at (set v.cells p filled) k) same ∙ cell-here)
      ∙ ap (held_right h) (fill_known state fills)
      ∙ held-known h (known_at v q) (s.held d small))
      (λ other. ap (λ (c : Cell). held_right h (not (is_unknown c.state))) (cell_other q other) ∙ s.held d small)
      (same_or_not q p)

  pub filled-sound : Sound (filled_at v p S state b)
  unfolding filled sum_right
  filled-sound =
      record {
        small = s.small;
        total = s.total;
        kept = length-set v.cells p (filled_cell S state b) ∙ s.kept;
        ahead = s.ahead;
        cell = cell-each;
        note = note-each;
        held = held-each;
      }
