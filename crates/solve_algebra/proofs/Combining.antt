-- Rows combined: the sums add up, so that given a second row the same values satisfy a row before and after the second is combined
-- into it. Assumes nothing.
use Prim.Native.Nat.{ℕ, ◌-◌}
use mathlib.Core.Path.{◌≡◌, refl, sym, ap, ap₂, ◌∙◌}
use mathlib.Core.Bool.{Bool, true, false, cond, xor}
use lib.Bits.{bit_xor}
use lib.Dec.{ltb}
use Rattle.octets.proofs.Laws.{xor-cancel-right}
use Rattle.solve_algebra.specs.Sums.{sum_over}
use Rattle.solve_algebra.proofs.LinearLaws.{sum_same, sum-combined}
use Rattle.solve_algebra.specs.Masks.{mask_places, has_place}
use Rattle.solve_algebra.proofs.MasksLaws.{bit-xor}
use Rattle.solve_algebra.specs.Rows.{table_rows, columns, source_in, asked_by, RowHolds}
use Rattle.solve_algebra.specs.Eliminated.{combined_row}
use Rattle.solve_algebra.specs.declared.Row.{Row}

pub mask-combined : (a b : Row) (c : ℕ) → has_place (combined_row a b).mask c ≡ xor (has_place a.mask c) (has_place b.mask c)
unfolding combined_row
mask-combined a b c = bit-xor a.mask b.mask c

source-combined : (a b : Row) (e : ℕ) → source_in (combined_row a b) e ≡ xor (source_in a e) (source_in b e)
unfolding combined_row source_in
source-combined a b e = pick (ltb e mask_places)
  where
    pick : (t : Bool)
        → cond t (has_place (bit_xor a.low b.low) e) (has_place (bit_xor a.high b.high) (e - mask_places))
        ≡ xor (cond t (has_place a.low e) (has_place a.high (e - mask_places))) (cond t (has_place b.low e) (has_place b.high (e - mask_places)))
    pick true = bit-xor a.low b.low e
    pick false = bit-xor a.high b.high (e - mask_places)

module _ (asked values : ℕ → ℕ) (a b : Row) where
  sum-of-combined : sum_over columns (has_place (combined_row a b).mask) values
      ≡ bit_xor (sum_over columns (has_place a.mask) values) (sum_over columns (has_place b.mask) values)
  sum-of-combined =
      sum_same columns (has_place (combined_row a b).mask) (λ c. xor (has_place a.mask c) (has_place b.mask c)) values values
      (λ c inside. mask-combined a b c) (λ c inside e. refl)
      ∙ sum-combined columns (has_place a.mask) (has_place b.mask) values

  asked-of-combined : asked_by asked (combined_row a b) ≡ bit_xor (asked_by asked a) (asked_by asked b)
  unfolding asked_by
  asked-of-combined =
      sum_same table_rows (source_in (combined_row a b)) (λ e. xor (source_in a e) (source_in b e)) asked asked
      (λ e inside. source-combined a b e) (λ e inside h. refl)
      ∙ sum-combined table_rows (source_in a) (source_in b) asked

  pub holds-combined : RowHolds asked values a → RowHolds asked values b → RowHolds asked values (combined_row a b)
  holds-combined ha hb = sum-of-combined ∙ ap₂ bit_xor ha hb ∙ sym asked-of-combined

  pub holds-parted : RowHolds asked values (combined_row a b) → RowHolds asked values b → RowHolds asked values a
  holds-parted hc hb =
      sym (xor-cancel-right (sum_over columns (has_place a.mask) values) (sum_over columns (has_place b.mask) values))
      ∙ ap (λ (x : ℕ). bit_xor x (sum_over columns (has_place b.mask) values)) (sym sum-of-combined ∙ hc ∙ asked-of-combined)
      ∙ ap (bit_xor (bit_xor (asked_by asked a) (asked_by asked b))) hb
      ∙ xor-cancel-right (asked_by asked a) (asked_by asked b)
