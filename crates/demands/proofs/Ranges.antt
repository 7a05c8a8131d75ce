-- The ranges of a session (rules 13.1 to 13.10) for the view, as far as the proofs of the demands depend on them. All of them are `Sound`
-- (`session`, Ranges); a sound view is such a view. Definitions only.
use Prim.Native.Nat.{ℕ, ◌%◌, ◌≤◌, ◌<◌}
use mathlib.Core.Path.{◌≡◌}
use lib.ListN.{length}
use Rattle.datagram.specs.Sizes.{covered_limit, messages_limit}
use Rattle.session.specs.Cells.{blank, cell_at, kept_before, kept_ahead, kept_numbers}
use Rattle.session.specs.Held.{held_at}
use Rattle.session.specs.View.{View, sum, numbers}

pub record ViewInRanges (view : View) : Type 0 where
  -- a session keeps 64 numbers: the 32 before the base and the 32 from the base on (rule 1.13)
  pub kept : length view.cells ≡ kept_numbers
  pub heard : length view.held ≡ kept_ahead
  -- the base equals the sum of the counts modulo 65,536 (rule 13.1)
  pub base : view.base ≡ sum view.counts % numbers
  -- no number from the base on is blank (rule 13.3)
  pub no_blank : (p : ℕ) → kept_before ≤ p → p < kept_numbers → (cell_at view.cells p).state ≡ blank → ⊥
  -- n and m are within the sizes (rule 13.8)
  pub covered : (d : ℕ) → d < kept_ahead → (held_at view.held d).n ≤ covered_limit
  pub messages : (d : ℕ) → d < kept_ahead → length (held_at view.held d).messages ≤ messages_limit
