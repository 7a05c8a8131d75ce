-- The claims about reading lines: two outcomes that a promise allows are equal (rule 28.14). The promise of `read_trace` determines its two
-- lists only as far as the caller needs: the numbers of the lines, and a place for each. Statements alone.
use Rattle.std.specs.Prelude.{ℕ, ◌≡◌, List, [], length, Result}
use Rattle.line.specs.Lines.{lines_from}
use Rattle.trace_compare.specs.declared.TraceRefusal.{TraceRefusal}
use Rattle.trace_compare_code.specs.Lines.{LineCut, ReadsTrace}

pub record OneOutcome : Type 0 where
  pub line_at : {trace : List ℕ} {at end next stop after : ℕ} → LineCut trace at end next → LineCut trace at stop after
      → (end ≡ stop) × (next ≡ after)
  pub count_lines : (trace : List ℕ) {r q : ℕ} → r ≡ length (lines_from [] trace) → q ≡ length (lines_from [] trace) → r ≡ q
  pub read_trace : {which : ℕ} {trace numbers starts others places : List ℕ} {r q : Result ℕ TraceRefusal} → ReadsTrace which trace numbers starts r
      → ReadsTrace which trace others places q
      → r ≡ q

pub record Claims : Type 0 where
  pub one_outcome : OneOutcome
