-- The claims about pairing and differences: two outcomes that a promise allows are equal (rule 28.14). Statements alone.
use Rattle.std.specs.Prelude.{ℕ, ◌≡◌, Bool, List}
use Rattle.line.specs.Promise.{Appends}
use Rattle.trace_compare.specs.Entries.{same}
use Rattle.trace_compare_code.specs.Numbers.{often, KthPlace}

pub record OneOutcome : Type 0 where
  pub count_of : (numbers : List ℕ) (number : ℕ) {r q : ℕ} → r ≡ often number numbers → q ≡ often number numbers → r ≡ q
  pub find_kth : {numbers : List ℕ} {number k r q : ℕ} → KthPlace numbers number k r → KthPlace numbers number k q → r ≡ q
  pub is_same : (a b : List ℕ) {r q : Bool} → r ≡ same a b → q ≡ same a b → r ≡ q
  -- `put_entry` and `put_differences`
  pub put : {text old : List ℕ} {at : ℕ} {new other : List ℕ} {r q : ℕ} → Appends text old at new r → Appends text old at other q
      → (r ≡ q) × (new ≡ other)

pub record Claims : Type 0 where
  pub one_outcome : OneOutcome
