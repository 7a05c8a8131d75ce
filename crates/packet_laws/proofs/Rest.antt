-- What follows some octets. Assumes nothing.
use Prim.Native.Nat.{ℕ, ◌-◌}
use mathlib.Core.Path.{◌≡◌}
use mathlib.Core.List.{List}
use lib.ListN.{length, take, drop, length-drop}
use lib.Seq.{take_all}
use native.Mathlib.Omega.{arith}

abbrev pub rest : ℕ → List ℕ → List ℕ
rest n s = take (length s - n) (drop n s)

pub rest-is : (n : ℕ) (s : List ℕ) → rest n s ≡ drop n s
rest-is n s = take_all (length s - n) (drop n s) (omega (arith, length-drop n s))
