-- The search of the list, on plain values. Assumes nothing.
use Prim.Native.Nat.{ℕ, ◌+◌, ◌≤◌, ◌<◌}
use mathlib.Core.Path.{◌≡◌, sym, ap, ◌∙◌}
use mathlib.Core.Bool.{Bool, false, ◌||◌}
use mathlib.Core.List.{List}
use lib.ListN.{length, get_or, take}
use lib.Seq.{take-suc, take_all}
use lib.Dec.{eqb}
use native.Mathlib.Numerals.{add-one}
use native.Mathlib.Omega.{arith}
use Rattle.trace_replay.specs.Replay.{listed}
use Rattle.trace_replay.proofs.Laws.{listed-none, listed_more}

-- the numbers up to a place are searched
pub record Searched (numbers : List ℕ) (number : ℕ) (found : Bool) (i : ℕ) : Type 0 where
  pub so : found ≡ listed (take i numbers) number
  pub inside : i ≤ length numbers

pub searched-start : (numbers : List ℕ) (number : ℕ) → Searched numbers number false 0
searched-start numbers number = record { so = sym (listed-none number); inside = omega arith }

pub searched-turn : {numbers : List ℕ} {number : ℕ} {found : Bool} {i : ℕ} → Searched numbers number found i → i < length numbers
    → Searched numbers number (found || eqb (get_or numbers i 0) number) (i + 1)
searched-turn {numbers} {number} {found} {i} s more =
    record {
      so =
          ap (λ (b : Bool). b || eqb (get_or numbers i 0) number) s.so
          ∙ sym (listed_more (take i numbers) (get_or numbers i 0) number)
          ∙ ap (λ (l : List ℕ). listed l number) (sym (rw (add-one i) (take-suc numbers i 0 more)));
      inside = omega arith;
    }

pub searched-all : {numbers : List ℕ} {number : ℕ} {found : Bool} {i : ℕ} → Searched numbers number found i → length numbers ≤ i
    → found ≡ listed numbers number
searched-all {numbers} {number} {found} {i} s end = s.so ∙ ap (λ (l : List ℕ). listed l number) (take_all i numbers end)
