-- What a row asks for, equation by equation, on plain values. Assumes nothing.
use Rattle.std.proofs.Common.{◌≡◌, ℕ, suc, ◌+◌, ◌*◌, ◌<◌, ◌≤◌, Bool, true, false, cond, List, length, get_or, sym, refl, ap, ◌∙◌, ap₂, arith, ext_get_or}
use lib.Bits.{bit_xor, xor_zero_r}
use Rattle.octets.proofs.Laws.{tab-at, length-tab}
use Rattle.datagram.specs.Sizes.{packet_limit}
use Rattle.solve_algebra.specs.Sums.{sum_over}
use Rattle.solve_algebra.specs.Rows.{table_rows, source_in, asked_by}
use Rattle.solve_algebra.specs.Promise.{SourceTold}
use Rattle.solve_algebra.specs.declared.Row.{Row}
use Rattle.session_slots.specs.Store.{zeros, added}
use Rattle.session_slots.proofs.Laws.{length-zeros, zeros-at, length-added, added-at}
use Rattle.solve_code.specs.Steps.{laid_at, sum_at, row_sum, RowSummed}

-- the sum of the first e equations that the row has
pub record SumTo (all : List ℕ) (row : Row) (sum : List ℕ) (e : ℕ) : Type 0 where
  pub long : length sum ≡ packet_limit
  pub few : e ≤ table_rows
  pub each : (k : ℕ) → k < packet_limit → get_or sum k 0 ≡ sum_over e (source_in row) (laid_at all k)

pub sum-start : (all : List ℕ) (row : Row) → SumTo all row (zeros packet_limit) 0
unfolding sum_over
sum-start all row = record { long = length-zeros packet_limit; few = omega arith; each = λ k below. zeros-at packet_limit k }

one_more : (e : ℕ) (row : ℕ → Bool) (values : ℕ → ℕ)
    → sum_over (e + 1) row values ≡ bit_xor (sum_over e row values) (cond (row e) (values e) 0)
unfolding sum_over
one_more e row values = let next : e + 1 ≡ suc e = omega arith in ap (λ (n : ℕ). sum_over n row values) next

module _ {all sum : List ℕ} {row : Row} {e number : ℕ} {there : Bool} (s : SumTo all row sum e) (below : e < table_rows)
    (en : number ≡ e) (told : SourceTold row number there) where
  source_is : source_in row e ≡ there
  source_is = ap (source_in row) (sym en) ∙ sym told.answer

  pub sum-adds : {next : List ℕ} → there ≡ true → next ≡ added sum all e → SumTo all row next (e + 1)
  sum-adds {next} has laid =
      rw laid
      (record {
        long = length-added sum all e ∙ s.long;
        few = omega arith;
        each = λ k small.
            added-at sum all e k (omega (arith, s.long))
            ∙ ap₂ bit_xor (s.each k small) (sym (ap (λ (b : Bool). cond b (laid_at all k e) 0) (source_is ∙ has)))
            ∙ sym (one_more e (source_in row) (laid_at all k));
      })

  pub sum-skips : there ≡ false → SumTo all row sum (e + 1)
  sum-skips has-not =
      record {
        long = s.long;
        few = omega arith;
        each = λ k small.
            s.each k small
            ∙ sym (xor_zero_r (sum_over e (source_in row) (laid_at all k)))
            ∙ ap (bit_xor (sum_over e (source_in row) (laid_at all k)))
            (sym (ap (λ (b : Bool). cond b (laid_at all k e) 0) (source_is ∙ has-not)))
            ∙ sym (one_more e (source_in row) (laid_at all k));
      }

pub sum_done : {all sum : List ℕ} {row : Row} {e : ℕ} → SumTo all row sum e → table_rows ≤ e → RowSummed all row sum
unfolding row_sum sum_at asked_by
sum_done {all} {sum} {row} {e} s done =
    record {
      answer =
          ext_get_or 0 sum (row_sum all row) (s.long ∙ sym (length-tab packet_limit (sum_at all row)))
          (λ k below.
          let small : k < packet_limit = omega (arith, s.long) in
          let whole : e ≡ table_rows = omega (arith, s.few) in
          s.each k small
          ∙ ap (λ (n : ℕ). sum_over n (source_in row) (laid_at all k)) whole
          ∙ sym (tab-at packet_limit (sum_at all row) k 0 small));
    }
