-- The loops that copy octets into a store and out of it, on plain values. Assumes nothing.
use Prim.Native.Nat.{ℕ, ◌+◌, ◌-◌, ◌*◌, ◌≤◌, ◌<◌}
use mathlib.Core.Path.{◌≡◌, refl, sym, ap, ap₂, ◌∙◌}
use mathlib.Core.List.{List, ◌++◌}
use lib.ListN.{length, get_or, set, take, drop, length-set}
use lib.Seq.{paste, paste-zero, paste-suc, take-length}
use native.Mathlib.Nat.{zero-add}
use native.Mathlib.Numerals.{add-one}
use native.Mathlib.Omega.{arith}
use Rattle.datagram.specs.Sizes.{packet_limit}
use Rattle.session_slots.specs.Store.{pasted, part, HasSlot}
use Rattle.session_slots.proofs.Laws.{length_part, part_at}

-- ---- laying octets b into o from place `at` on: j of them are laid
pub record Laying (start b : List ℕ) (at : ℕ) (o : List ℕ) (j : ℕ) : Type 0 where
  pub laid : o ≡ paste start at b j
  pub few : j ≤ length b
  pub long : length o ≡ length start

pub laying-start : (o b : List ℕ) (at : ℕ) → Laying o b at o 0
laying-start o b at = record { laid = paste-zero o at b; few = omega arith; long = refl }

module _ {start b o : List ℕ} {at j : ℕ} (l : Laying start b at o j) (fits : at + length b ≤ length start) (more : j < length b) where
  pub laying-turn : Laying start b at (set o (at + j) (get_or b j 0)) (j + 1)
  laying-turn =
      record {
        laid = rw (l.laid, add-one) (paste-suc start at b j 0 (omega arith) more);
        few = omega arith;
        long = length-set o (at + j) (get_or b j 0) ∙ l.long;
      }

pub putting-turn : (slot : ℕ) {start b o : List ℕ} {j : ℕ} → Laying start b (slot * packet_limit) o j → HasSlot slot start
    → length b ≤ packet_limit → j < length b → Laying start b (slot * packet_limit) (set o (slot * packet_limit + j) (get_or b j 0)) (j + 1)
putting-turn slot l has fits more = laying-turn l (omega arith) more

pub laying-done : (slot : ℕ) {start b o : List ℕ} {j : ℕ} → Laying start b (slot * packet_limit) o j → length b ≤ j → o ≡ pasted start slot b
unfolding pasted
laying-done slot {start} {b} {o} {j} l done =
    let all : j ≡ length b = omega (arith, l.few) in
    l.laid ∙ ap (λ (n : ℕ). paste start (slot * packet_limit) b n) all

-- ---- copying the part of a slot to the front of a buffer: the loop that lays the part's octets from place 0 on
pub copying-turn : (o : List ℕ) (slot n : ℕ) {start out : List ℕ} {j : ℕ} → Laying start (part o slot n) 0 out j → HasSlot slot o
    → n ≤ packet_limit
    → n ≤ length start → j < n → Laying start (part o slot n) 0 (set out j (get_or o (slot * packet_limit + j) 0)) (j + 1)
copying-turn o slot n {start} {out} {j} l has fits room more =
    rw (part_at o slot n j more, zero-add j) at
    (laying-turn l (rw (length_part o slot n has fits) (omega arith)) (rw (length_part o slot n has fits) more))

pub copying-done : (o : List ℕ) (slot n : ℕ) {start out : List ℕ} {j : ℕ} → Laying start (part o slot n) 0 out j → HasSlot slot o
    → n ≤ packet_limit
    → n ≤ j → out ≡ part o slot n ++ drop n start
copying-done o slot n {start} {out} {j} l has fits done =
    let long = length_part o slot n has fits in
    let all : j ≡ length (part o slot n) = omega (arith, l.few) in
    let whole : j ≡ n = omega arith in
    l.laid
    ∙ ap (λ (k : ℕ). paste start 0 (part o slot n) k) all
    ∙ ap₂ (λ (a : List ℕ) (k : ℕ). a ++ drop k start) (take-length (part o slot n)) (zero-add (length (part o slot n)) ∙ long)
