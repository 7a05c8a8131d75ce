-- A row to start with, and whether an equation is in a row's sum, on plain values. Assumes nothing.
use Prim.Native.Nat.{ℕ, ◌-◌, ◌^◌, ◌≤◌, ◌<◌}
use mathlib.Core.Path.{◌≡◌, sym, ap, ◌∙◌}
use mathlib.Core.Logic.{⊎_elim}
use mathlib.Core.Bool.{Bool, cond}
use lib.Dec.{eqb}
use borrow.Author.Tests.{eq-eqb, ne_eqb, lt-ltb, le-ltb}
use native.Mathlib.Omega.{arith}
use Rattle.octets.proofs.Laws.{below_or_not, same_or_not}
use Rattle.solve_algebra.specs.Masks.{mask_places, has_place}
use Rattle.solve_algebra.specs.MasksPromise.{HasTold, OneMade}
use Rattle.solve_algebra.proofs.MasksLaws.{bit-power, no-bit}
use Rattle.solve_algebra.specs.Rows.{table_rows, source_in, start_row}
use Rattle.solve_algebra.specs.Promise.{RowStarted, SourceTold}
use Rattle.solve_algebra.specs.declared.Row.{Row}

-- ---- equations below 64, and those from there on
source-low : (row : Row) (e : ℕ) → e < mask_places → source_in row e ≡ has_place row.low e
unfolding source_in
source-low row e low = ap (λ (t : Bool). cond t (has_place row.low e) (has_place row.high (e - mask_places))) (lt-ltb e mask_places low)

source-high : (row : Row) (e : ℕ) → mask_places ≤ e → source_in row e ≡ has_place row.high (e - mask_places)
unfolding source_in
source-high row e high = ap (λ (t : Bool). cond t (has_place row.low e) (has_place row.high (e - mask_places))) (le-ltb e mask_places high)

pub told-low : {row : Row} {e : ℕ} {there : Bool} → e < mask_places → HasTold row.low e there → SourceTold row e there
told-low {row} {e} low told = record { answer = told.answer ∙ sym (source-low row e low) }

pub told-high : {row : Row} {e past : ℕ} {there : Bool} → mask_places ≤ e → past ≡ e - mask_places → HasTold row.high past there
    → SourceTold row e there
told-high {row} {e} high ep told =
    record { answer = told.answer ∙ ap (has_place row.high) ep ∙ sym (source-high row e high) }

pub ruleset sources = (told-low, told-high)

-- ---- equation e as a row of its own
started-low : (mask e : ℕ) → e < mask_places → start_row mask e ≡ record { mask = mask; low = 2 ^ e; high = 0 }
unfolding start_row
started-low mask e small =
    ap
    (λ (t : Bool).
    cond t (record { mask = mask; low = 2 ^ e; high = 0 }) (record { mask = mask; low = 0; high = 2 ^ (e - mask_places) }))
    (lt-ltb e mask_places small)

started-high : (mask e : ℕ) → mask_places ≤ e → start_row mask e ≡ record { mask = mask; low = 0; high = 2 ^ (e - mask_places) }
unfolding start_row
started-high mask e large =
    ap
    (λ (t : Bool).
    cond t (record { mask = mask; low = 2 ^ e; high = 0 }) (record { mask = mask; low = 0; high = 2 ^ (e - mask_places) }))
    (le-ltb e mask_places large)

pub start-low : {mask e low : ℕ} → e < mask_places → OneMade e low → RowStarted mask e (record { mask = mask; low = low; high = 0 })
start-low {mask} {e} small made =
    record { answer = ap (λ (x : ℕ). record { mask = mask; low = x; high = 0 }) made.answer ∙ sym (started-low mask e small) }

pub start-high : {mask e past high : ℕ} → mask_places ≤ e → past ≡ e - mask_places → OneMade past high
    → RowStarted mask e (record { mask = mask; low = 0; high = high })
start-high {mask} {e} large ep made =
    record {
      answer =
          ap (λ (x : ℕ). record { mask = mask; low = 0; high = x }) (made.answer ∙ ap (λ (x : ℕ). 2 ^ x) ep)
          ∙ sym (started-high mask e large);
    }

pub ruleset starts = (start-low, start-high)

-- ---- what such a row has
pub start-mask : (mask e : ℕ) → (start_row mask e).mask ≡ mask
start-mask mask e =
    ⊎_elim (λ small. ap (λ (r : Row). r.mask) (started-low mask e small)) (λ large. ap (λ (r : Row). r.mask) (started-high mask e large))
    (below_or_not e mask_places)

low-bits : (mask e f : ℕ) → f < mask_places → has_place (start_row mask e).low f ≡ eqb f e
low-bits mask e f low =
    ⊎_elim (λ small. ap (λ (r : Row). has_place r.low f) (started-low mask e small) ∙ bit-power e f small low)
    (λ large.
    ap (λ (r : Row). has_place r.low f) (started-high mask e large) ∙ no-bit f ∙ sym (ne_eqb f e (λ same. omega arith)))
    (below_or_not e mask_places)

high_bits : (mask e f : ℕ) → e < table_rows → f < table_rows → mask_places ≤ f → has_place (start_row mask e).high (f - mask_places) ≡ eqb f e
high_bits mask e f inside below high =
    ⊎_elim
    (λ small.
    ap (λ (r : Row). has_place r.high (f - mask_places)) (started-low mask e small)
    ∙ no-bit (f - mask_places)
    ∙ sym (ne_eqb f e (λ same. omega arith)))
    (λ large.
    ap (λ (r : Row). has_place r.high (f - mask_places)) (started-high mask e large)
    ∙ bit-power (e - mask_places) (f - mask_places) (omega arith) (omega arith)
    ∙ ⊎_elim (λ same. eq-eqb (f - mask_places) (e - mask_places) (omega arith) ∙ sym (eq-eqb f e same))
    (λ apart. ne_eqb (f - mask_places) (e - mask_places) (λ h. apart (omega arith)) ∙ sym (ne_eqb f e apart))
    (same_or_not f e))
    (below_or_not e mask_places)

pub start-source : (mask e f : ℕ) → e < table_rows → f < table_rows → source_in (start_row mask e) f ≡ eqb f e
start-source mask e f inside below =
    ⊎_elim (λ low. source-low (start_row mask e) f low ∙ low-bits mask e f low)
    (λ high. source-high (start_row mask e) f high ∙ high_bits mask e f inside below high)
    (below_or_not f mask_places)
