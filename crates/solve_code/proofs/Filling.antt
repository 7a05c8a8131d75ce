-- The fills, row by row, on plain values. Assumes nothing.
use Rattle.std.proofs.Common.{◌≡◌, ℕ, suc, ◌+◌, ◌-◌, ◌%◌, ◌<◌, ◌≤◌, Bool, true, false, cond, List, length, set, sym, refl, ap, ◌∙◌, subst, ap₂, ⊎_elim, arith, take_all}
use Rattle.octets.proofs.Laws.{length-tab, true-or-false}
use Rattle.datagram.specs.Sizes.{packet_least, packet_limit}
use Rattle.datagram.specs.Claims.{PartInside}
use Rattle.datagram.specs.Read.{octets_of}
use Rattle.datagram.specs.declared.reader.Part.{Part}
use Rattle.solve_algebra.specs.Masks.{mask_places, lone_place}
use Rattle.solve_algebra.specs.MasksPromise.{LoneFound}
use Rattle.solve_algebra.specs.Rows.{table_rows, row_at}
use Rattle.solve_algebra.specs.declared.Row.{Row}
use Rattle.session.specs.Cells.{repaired, filled_cell, unknown_at, kept_before, kept_numbers}
use Rattle.session.specs.Offer.{keep}
use Rattle.session.specs.Ranges.{is_fill, note_right}
use Rattle.session.specs.View.{numbers, number_at}
use Rattle.session.proofs.Laws.{unknown-inside}
use Rattle.session_held.specs.Slots.{kept_octets}
use Rattle.session_held.specs.Table as table
use Rattle.session_held.specs.Table.{Lent, lent, state_numbered, cells_of, held_of}
use Rattle.session_held.specs.Laid.{InRanges}
use Rattle.session_held.specs.declared.Counts.{Counts}
use Rattle.session_held.proofs.Laws.{length-cells}
use Rattle.session_offer.specs.KeepPromise.{CellsNow, MayKeep, Keeps}
use Rattle.solve_code.specs.Steps.{sum_at, row_sum, RowSummed, filled_row, filled_rows, MayFill, RowFills, RowsFill}

-- the number that stands for a repaired one
abbrev pub repaired_number : ℕ
repaired_number = 3

pub repaired-fills : is_fill (state_numbered repaired_number) ≡ true
unfolding state_numbered
repaired-fills = refl

pub repaired-noted : (note number : ℕ) → note_right (state_numbered repaired_number) note number ≡ true
unfolding state_numbered note_right
repaired-noted note number = refl

-- all of a sum
abbrev pub whole_part : Part
whole_part = record { start = 0; size = packet_limit }

sum-long : {all sum : List ℕ} {row : Row} → RowSummed all row sum → length sum ≡ packet_limit
unfolding row_sum
sum-long {all} {sum} {row} s = ap (λ (l : List ℕ). length l) s.answer ∙ length-tab packet_limit (sum_at all row)

pub part-inside : {all sum : List ℕ} {row : Row} → RowSummed all row sum → PartInside packet_least packet_limit sum whole_part
part-inside s = record { low = omega arith; high = omega arith; inside = omega (arith, sum-long s) }

part-whole : {all sum : List ℕ} {row : Row} → RowSummed all row sum → octets_of sum whole_part ≡ row_sum all row
part-whole {all} {sum} {row} s =
    take_all packet_limit sum (omega (arith, sum-long s)) ∙ s.answer

-- ---- the number at a place
module _ (base first : ℕ) {place before near number : ℕ} (small : place < mask_places) (eb : before ≡ kept_before)
    (ef : (first + before) % numbers ≡ base) (en : near ≡ place) (ew : number ≡ (first + near) % numbers) where
  pub stands : number ≡ number_at base place
  stands = omega arith

  pub may-keep : {t o : List ℕ} → MayFill base t o → MayKeep number 0 t o
  may-keep may =
      record {
        base = base;
        counts = may.counts;
        messages = may.messages;
        place = place;
        within = may.within;
        there = small;
        low = omega arith;
        stands = stands;
      }

-- ---- one row
pub row-fills : {base place number : ℕ} {all sum t o new_t new_o : List ℕ} {row : Row} → LoneFound row.mask place → place < mask_places
    → number ≡ number_at base place → RowSummed all row sum
    → Keeps 0 repaired_number number (octets_of sum whole_part) t o new_t new_o → RowFills base all row t o new_t new_o
unfolding filled_row state_numbered
row-fills {base} {place} {number} {all} {sum} {t} {o} {new_t} {new_o} {row} lone small stands summed keeps =
    record {
      fills = λ c g w.
          subst (CellsNow (lent base c t o g) (lent base c new_t new_o g))
          (ap₂ (λ (p : ℕ) (b : List ℕ). keep 0 repaired p b (cells_of base t o)) lone.answer (part-whole summed))
          (keeps.kept base c g place w small stands);
    }

-- a row that has no number alone
outside : (base p : ℕ) (t o b : List ℕ) → mask_places ≤ p → keep 0 repaired p b (cells_of base t o) ≡ cells_of base t o
unfolding keep
outside base p t o b past =
    ⊎_elim
    (λ unknown.
    absurd (omega (arith, unknown-inside (cells_of base t o) p unknown, length-cells base t o)))
    (λ known.
    ap (λ (u : Bool). cond u (set (cells_of base t o) p (filled_cell 0 repaired b)) (cells_of base t o)) known)
    (true-or-false (unknown_at (cells_of base t o) p))

pub row-none : {base place : ℕ} (all t o : List ℕ) {row : Row} → LoneFound row.mask place → mask_places ≤ place
    → RowFills base all row t o t o
unfolding filled_row
row-none {base} {place} all t o {row} lone past =
    record {
      fills = λ c g w.
          record {
            cells = sym (outside base (lone_place row.mask) t o (row_sum all row) (rw lone.answer at past));
            held = refl;
            within = w;
          };
    }

-- ---- the first i rows
pub record FilledTo (base : ℕ) (all : List ℕ) (rows : List Row) (t₀ o₀ t o : List ℕ) (i : ℕ) : Type 0 where
  pub few : i ≤ table_rows
  pub may : MayFill base t o
  pub long : length t ≡ length t₀
  pub octets : length o ≡ length o₀
  pub so : (c : Counts) (g : List ℕ) → InRanges (lent base c t₀ o₀ g)
      → CellsNow (lent base c t₀ o₀ g) (lent base c t o g) (filled_rows all rows i (cells_of base t₀ o₀))

pub filled-start : {base : ℕ} (all : List ℕ) (rows : List Row) {t o : List ℕ} → MayFill base t o → FilledTo base all rows t o t o 0
unfolding filled_rows
filled-start all rows may =
    record {
      few = omega arith;
      may = may;
      long = refl;
      octets = refl;
      so = λ c g w. record { cells = refl; held = refl; within = w };
    }

-- what is lent keeps its length
pub table-long : {base : ℕ} {t o : List ℕ} → MayFill base t o → length t ≡ table.places
table-long may = may.within.laid.long

pub octets-long : {base : ℕ} {t o : List ℕ} → MayFill base t o → length o ≡ kept_octets
octets-long may = may.within.laid.octets

pub filled-turn : {base i : ℕ} {all : List ℕ} {rows : List Row} {t₀ o₀ t o new_t new_o : List ℕ} → FilledTo base all rows t₀ o₀ t o i
    → i < table_rows → RowFills base all (row_at rows i) t o new_t new_o → FilledTo base all rows t₀ o₀ new_t new_o (i + 1)
unfolding filled_rows
filled-turn {base} {i} {all} {rows} {t₀} {o₀} {t} {o} {new_t} {new_o} s more f =
    record {
      few = omega arith;
      may =
          record {
            counts = s.may.counts;
            messages = s.may.messages;
            within = next-within;
          };
      long = next-within.laid.long ∙ sym s.may.within.laid.long ∙ s.long;
      octets = next-within.laid.octets ∙ sym s.may.within.laid.octets ∙ s.octets;
      so = λ c g w.
          let now = s.so c g w in
          let next = f.fills c g now.within in
          record {
            cells =
                next.cells
                ∙ ap (filled_row all (row_at rows i)) now.cells
                ∙ ap (λ (n : ℕ). filled_rows all rows n (cells_of base t₀ o₀)) {x = suc i} {y = i + 1} (omega arith);
            held = next.held ∙ now.held;
            within = next.within;
          };
    }
  where
    next-within : InRanges (lent base s.may.counts new_t new_o s.may.messages)
    next-within = (f.fills s.may.counts s.may.messages s.may.within).within

pub filled-done : {base i : ℕ} {all : List ℕ} {rows : List Row} {t₀ o₀ t o : List ℕ} → FilledTo base all rows t₀ o₀ t o i
    → table_rows ≤ i → RowsFill base all rows t₀ o₀ t o
filled-done {base} {i} {all} {rows} {t₀} {o₀} {t} {o} s done =
    let whole : i ≡ table_rows = omega (arith, s.few) in
    record {
      fills = λ c g w.
          subst (λ (n : ℕ). CellsNow (lent base c t₀ o₀ g) (lent base c t o g) (filled_rows all rows n (cells_of base t₀ o₀))) whole
          (s.so c g w);
    }
