-- What stands in the table once a number from the base on is marked: its mark, n and m, and every other place as it was. Assumes
-- nothing.
use Prim.Native.Nat.{ℕ, ◌<◌}
use mathlib.Core.Path.{◌≡◌, ◌∙◌}
use mathlib.Core.List.{List}
use lib.ListN.{length, get_or, set, length-set}
use lib.Seq.{get_or-set_same, get_or-set_other}
use native.Mathlib.Omega.{arith}
use Rattle.session_held.specs.Slots.{slots_heard}
use Rattle.session_held.specs.Table.{places, mark_place, n_place, m_place, mark_in, n_in, m_in, heard_set}

pub long-heard : (t : List ℕ) (j mark n m : ℕ) → length t ≡ places → length (heard_set t j mark n m) ≡ places
long-heard t j mark n m long = simp length-set long

module _ (t : List ℕ) (j mark n m : ℕ) (small : j < slots_heard) (long : length t ≡ places) where
  pub mark_set : mark_in (heard_set t j mark n m) j ≡ mark
  mark_set =
      get_or-set_other (set (set t (mark_place j) mark) (n_place j) n) (m_place j) (mark_place j) m 0 (λ e. omega arith)
      ∙ get_or-set_other (set t (mark_place j) mark) (n_place j) (mark_place j) n 0 (λ e. omega arith)
      ∙ get_or-set_same t (mark_place j) mark 0 (omega arith)

  pub n-set : n_in (heard_set t j mark n m) j ≡ n
  n-set =
      get_or-set_other (set (set t (mark_place j) mark) (n_place j) n) (m_place j) (n_place j) m 0 (λ e. omega arith)
      ∙ get_or-set_same (set t (mark_place j) mark) (n_place j) n 0 (omega (arith, length-set t (mark_place j) mark))

  pub m-set : m_in (heard_set t j mark n m) j ≡ m
  m-set =
      get_or-set_same (set (set t (mark_place j) mark) (n_place j) n) (m_place j) m 0
      (omega (arith, length-set t (mark_place j) mark, length-set (set t (mark_place j) mark) (n_place j) n))

pub heard-elsewhere : (t : List ℕ) (j mark n m k : ℕ) → (k ≡ mark_place j → ⊥) → (k ≡ n_place j → ⊥) → (k ≡ m_place j → ⊥)
    → get_or (heard_set t j mark n m) k 0 ≡ get_or t k 0
heard-elsewhere t j mark n m k no-mark no-n no-m =
    get_or-set_other (set (set t (mark_place j) mark) (n_place j) n) (m_place j) k m 0 no-m
    ∙ get_or-set_other (set t (mark_place j) mark) (n_place j) k n 0 no-n
    ∙ get_or-set_other t (mark_place j) k mark 0 no-mark
