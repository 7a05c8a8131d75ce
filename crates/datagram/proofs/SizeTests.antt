-- The test of n and the count, in the words of the code: one law for each answer of `count_inside`. Assumes nothing.
use Prim.Native.Nat.{ℕ}
use mathlib.Core.Path.{◌≡◌, sym, ◌∙◌}
use mathlib.Core.Bool.{Bool, true, false, not}
use lib.Dec.{leb}
use borrow.Author.Tests.{not-true, not-false}
use Rattle.datagram.specs.Sizes.{spares_limit, covered_least, covered_limit, messages_least, messages_limit}
use Rattle.length.specs.Length.{within}
use Rattle.datagram.specs.Write.{count_inside}
use Rattle.datagram.specs.declared.kind.Kind.{Kind}
use Rattle.datagram.specs.declared.kind.Kind.TheVariants as kind

pub count-spares : (k : Kind) (count : ℕ) → k ≡ kind.Spares → leb count spares_limit ≡ count_inside k count
count-spares k count e = rw e

pub count_no : (k : Kind) (count : ℕ) {n : ℕ} {b : Bool} → k ≡ kind.Parity n → b ≡ within covered_least covered_limit n → not b ≡ true
    → false ≡ count_inside k count
count_no k count e found out = rw (e, sym found ∙ not-true _ out)

pub count-parity : (k : Kind) (count : ℕ) {n : ℕ} {b r : Bool} → k ≡ kind.Parity n → b ≡ within covered_least covered_limit n → not b ≡ false
    → r ≡ within messages_least messages_limit count → r ≡ count_inside k count
count-parity k count e found in' last = rw (e, sym found ∙ not-false _ in') last

pub ruleset tests = (count-spares, count_no, count-parity)
