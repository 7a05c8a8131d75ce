-- One law for each answer of `within`, in the words of the code: the tests that led there give the promise. Assumes nothing.
use Prim.Native.Nat.{ℕ, ◌≤◌, ◌<◌}
use mathlib.Core.Path.{◌≡◌}
use mathlib.Core.Bool.{false}
use lib.Dec.{leb}
use borrow.Author.Tests.{le-leb, lt-leb}
use Rattle.length.specs.Length.{within}

-- ---- within
pub within_low : (least most n : ℕ) → n < least → false ≡ within least most n
within_low least most n low = rw (lt-leb least n low)

pub within-rest : (least most n : ℕ) → least ≤ n → leb n most ≡ within least most n
within-rest least most n some = rw (le-leb least n some)

pub ruleset tests = (within_low, within-rest)
