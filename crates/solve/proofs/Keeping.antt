-- The call keeps the ranges: each number is as it was, or it was unknown, and so not blank, and has as many octets as the limit now; a
-- number that must be known is known all the more. Assumes nothing.
use Prim.Native.Nat.{ℕ, ◌+◌, ◌<◌}
use mathlib.Core.Path.{◌≡◌, refl, sym, ap, ◌∙◌, subst}
use mathlib.Core.Logic.{◌⊎◌, inl, inr, ⊎_elim}
use mathlib.Core.Bool.{true, not}
use mathlib.Core.List.{List}
use lib.ListN.{length}
use native.Mathlib.Omega.{arith}
use Rattle.octets.proofs.Laws.{true-or-false}
use Rattle.datagram.specs.Sizes.{packet_limit}
use Rattle.session.specs.Cells.{Cell, cell_at, filled_cell, repaired, is_unknown, unknown_at, kept_before, kept_ahead, kept_numbers}
use Rattle.session.specs.Held.{Held, held_at, held_messages}
use Rattle.session.specs.Reached.{Unknown}
use Rattle.session.specs.View.{View, sum, number_at}
use Rattle.session.specs.Ranges.{sum_right, blank_at, cell_right, cell_noted, note_right, held_right, Sound}
use Rattle.session.proofs.Laws.{fill-size, held-known, unknown-size}
use Rattle.solve.specs.Solved.{Solved, SolvedTo}
use Rattle.solve.proofs.After.{known-one, same_left}

-- a number after the call: as it was, or filled where it was unknown
record FilledFull (cells after : List Cell) (p : ℕ) : Type 0 where
  unknown : Unknown cells p
  octets : List ℕ
  long : length octets ≡ packet_limit
  cell : cell_at after p ≡ filled_cell 0 repaired octets

module _ {v w : View} (s : Sound v) (t : SolvedTo v w) where
  either : (p : ℕ) → (cell_at w.cells p ≡ cell_at v.cells p) ⊎ FilledFull v.cells w.cells p
  either p =
      ⊎_elim
      (λ unknown.
      ⊎_elim (λ still. inl (same_left t.cells p unknown still))
      (λ known.
      let x = t.cells.some.0 in
      let sx = t.cells.some.1 in
      inr
      (record {
        unknown = unknown;
        octets = x p;
        long = sx.long p;
        cell = t.cells.filled p unknown (known-one t.cells p known) x sx;
      }))
      (true-or-false (unknown_at w.cells p)))
      (λ was. inl (t.cells.kept p was))
      (true-or-false (unknown_at v.cells p))

  cell-each : (p : ℕ) → p < kept_numbers → cell_right (cell_at w.cells p) (blank_at (sum v.counts) p) ≡ true
  cell-each p small =
      ⊎_elim (λ same. ap (λ (c : Cell). cell_right c (blank_at (sum v.counts) p)) same ∙ s.cell p small)
      (λ f.
      ap (λ (c : Cell). cell_right c (blank_at (sum v.counts) p)) f.cell
      ∙ fill-size repaired (length f.octets) (blank_at (sum v.counts) p) refl (omega (arith, f.long)) (omega (arith, f.long))
      (unknown-size _ _ _ f.unknown (s.cell p small)).1)
      (either p)

  note-each : (p : ℕ) → p < kept_numbers → cell_noted (cell_at w.cells p) (number_at v.base p) ≡ true
  unfolding note_right
  note-each p small =
      ⊎_elim (λ same. ap (λ (c : Cell). cell_noted c (number_at v.base p)) same ∙ s.note p small)
      (λ f. ap (λ (c : Cell). cell_noted c (number_at v.base p)) f.cell)
      (either p)

  held-each : (d : ℕ) → d < kept_ahead → held_right (held_at v.held d) (not (unknown_at w.cells (kept_before + d))) ≡ true
  held-each d small =
      let h = held_at v.held d in
      ⊎_elim (λ same. ap (λ (c : Cell). held_right h (not (is_unknown c.state))) same ∙ s.held d small)
      (λ f.
      ap (λ (c : Cell). held_right h (not (is_unknown c.state))) f.cell
      ∙ held-known h (not (unknown_at v.cells (kept_before + d))) (s.held d small))
      (either (kept_before + d))

  pub solved-sound : Sound w
  unfolding sum_right
  solved-sound =
      record {
        small = rw t.base s.small;
        total = rw (t.base, t.counts) s.total;
        kept = t.cells.size ∙ s.kept;
        ahead = rw t.held s.ahead;
        cell = λ p small. rw t.counts (cell-each p small);
        note = λ p small. rw t.base (note-each p small);
        held = λ d small. rw t.held (held-each d small);
      }
