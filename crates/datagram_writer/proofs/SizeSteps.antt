-- How many octets a datagram takes, in the words of the code. Assumes nothing.
use Prim.Native.Nat.{ℕ, ◌+◌, ◌*◌, ◌≤◌}
use mathlib.Core.Path.{◌≡◌}
use mathlib.Core.List.{List}
use lib.ListN.{length}
use native.Mathlib.Omega.{arith}
use Rattle.length.proofs.Laws.{size-written}
use Rattle.datagram.specs.Write.{sum_of}
use Rattle.datagram.specs.Inner.Heads.{kind_head, item_size, items_size, datagram_size}
use Rattle.datagram.specs.declared.kind.Kind.{Kind}
use Rattle.datagram.proofs.Laws.{items-bound, kind-bound, number-length}

pub datagram-bound : (n : ℕ) (k : Kind) (count : ℕ) (lengths : List ℕ) {newest before items : ℕ} → newest ≡ item_size n
    → before ≡ length (kind_head k count) → items ≡ items_size lengths → newest + before + items ≤ n + sum_of lengths + length lengths * 2 + 7
datagram-bound n k count lengths a b c =
    let few = (size-written n).1 in
    let head = kind-bound k count in
    let all = items-bound lengths in
    omega arith

pub datagram-sized : (number : ℕ) (packet : List ℕ) (k : Kind) (lengths : List ℕ) {newest before items : ℕ}
    → newest ≡ item_size (length packet) → before ≡ length (kind_head k (length lengths)) → items ≡ items_size lengths
    → 2 + newest + before + items ≡ datagram_size number packet k lengths
datagram-sized number packet k lengths a b c = rw (number-length number, a, b, c)

-- the answer of `datagram_size`
pub ruleset sizes = (datagram-sized)
