-- The mask of the unknown members of a message: its bits, and the sum over them. Assumes nothing.
use Prim.Native.Nat.{ℕ, zero, suc, ◌+◌, ◌^◌, ◌≤◌, ◌<◌}
use mathlib.Core.Path.{◌≡◌, refl, sym, ap, ap₂, ◌∙◌}
use mathlib.Core.Logic.{⊎_elim}
use mathlib.Core.Bool.{Bool, true, false, cond, ◌&&◌, xor}
use mathlib.Core.List.{List, [], ◌∷◌, map, Memᴰ as Among}
use lib.ListN.{get_or}
use lib.Bits.{bit_xor, bit_and}
use lib.Dec.{eqb}
use borrow.Author.Tests.{eq-eqb, ne_eqb}
use native.Mathlib.Omega.{arith}
use Rattle.octets.specs.ExclusiveOr.{xor_at}
use Rattle.octets.proofs.Laws.{below_or_not, same_or_not, true-or-false}
use Rattle.solve_algebra.specs.Sums.{sum_over}
use Rattle.solve_algebra.proofs.LinearLaws.{xor-false, sum_same}
use Rattle.solve_algebra.specs.Masks.{mask_places, has_place, mask_of}
use Rattle.solve_algebra.proofs.MasksLaws.{bit-xor, bit-and, no-bit, bit-power, sum-mask}
use Rattle.session.specs.Cells.{Cell, unknown_at}
use Rattle.session.specs.Repair.{Message, passing, unknown_members}
use Rattle.session.proofs.Laws.{passing-yes, passing-no}
use Rattle.solve.specs.Table.{unknown_mask, equation_mask}

-- ---- the mask of the places that pass a test
one-or-none : (t : Bool) (n p : ℕ) → n < mask_places → p < mask_places → has_place (cond t (2 ^ n) 0) p ≡ (t && eqb p n)
one-or-none true n p low small = bit-power n p low small
one-or-none false n p low small = no-bit p

and_none : (t : Bool) → (t && false) ≡ false
and_none true = refl
and_none false = refl

and-some : (t : Bool) → (t && true) ≡ t
and-some true = refl
and-some false = refl

false-xor : (t : Bool) → xor false t ≡ t
unfolding xor
false-xor true = refl
false-xor false = refl

sum_past : (n : ℕ) (test : ℕ → Bool) (p : ℕ) → n ≤ mask_places → p < mask_places → n ≤ p → has_place (sum_over n test (λ q. 2 ^ q)) p ≡ false
unfolding sum_over xor
sum_past zero test p few small past = no-bit p
sum_past (suc n) test p few small past =
    bit-xor (sum_over n test (λ q. 2 ^ q)) (cond (test n) (2 ^ n) 0) p
    ∙ ap₂ xor (sum_past n test p (omega arith) small (omega arith))
    (one-or-none (test n) n p (omega arith) small ∙ ap (λ (t : Bool). test n && t) (ne_eqb p n (λ e. omega arith)) ∙ and_none (test n))

sum-bits : (n : ℕ) (test : ℕ → Bool) (p : ℕ) → n ≤ mask_places → p < n → has_place (sum_over n test (λ q. 2 ^ q)) p ≡ test p
unfolding sum_over xor
sum-bits zero test p few below = absurd (omega arith)
sum-bits (suc n) test p few below =
    bit-xor (sum_over n test (λ q. 2 ^ q)) (cond (test n) (2 ^ n) 0) p
    ∙ ⊎_elim
    (λ (last : p ≡ n).
    ap₂ xor (sum_past n test p (omega arith) (omega arith) (omega arith))
    (one-or-none (test n) n p (omega arith) (omega arith)
    ∙ ap (λ (t : Bool). test n && t) (eq-eqb p n last)
    ∙ and-some (test n)
    ∙ ap test (sym last))
    ∙ false-xor (test p))
    (λ before.
    ap₂ xor (sum-bits n test p (omega arith) (omega arith))
    (one-or-none (test n) n p (omega arith) (omega arith)
    ∙ ap (λ (t : Bool). test n && t) (ne_eqb p n before)
    ∙ and_none (test n))
    ∙ xor-false (test p))
    (same_or_not p n)

pub unknown-bit : (cells : List Cell) (p : ℕ) → p < mask_places → has_place (unknown_mask cells) p ≡ unknown_at cells p
unfolding unknown_mask
unknown-bit cells p small = sum-bits mask_places (unknown_at cells) p (omega arith) small

pub equation-bit : (cells : List Cell) (message : Message) (p : ℕ) → p < mask_places
    → has_place (equation_mask cells message) p ≡ (has_place (mask_of message.members) p && unknown_at cells p)
unfolding equation_mask
equation-bit cells message p small =
    bit-and (mask_of message.members) (unknown_mask cells) p
    ∙ ap (λ (t : Bool). has_place (mask_of message.members) p && t) (unknown-bit cells p small)

-- ---- the sum over it
sum-and : (n : ℕ) (row test : ℕ → Bool) (values : ℕ → ℕ)
    → sum_over n (λ c. row c && test c) values ≡ sum_over n row (λ c. cond (test c) (values c) 0)
unfolding sum_over
sum-and zero row test values = refl
sum-and (suc n) row test values = ap₂ bit_xor (sum-and n row test values) (both (row n) (test n))
  where
    both : (r t : Bool) → cond (r && t) (values n) 0 ≡ cond r (cond t (values n) 0) 0
    both true t = refl
    both false t = refl

-- what stands at a place that passes a test; nothing at any other
masked : (ℕ → Bool) → (ℕ → List ℕ) → ℕ → List ℕ
masked test x p = cond (test p) (x p) []

masked-at : (test : ℕ → Bool) (x : ℕ → List ℕ) (p k : ℕ) → get_or (masked test x p) k 0 ≡ cond (test p) (get_or (x p) k 0) 0
unfolding masked
masked-at test x p k = pick (test p)
  where
    pick : (t : Bool) → get_or (cond t (x p) []) k 0 ≡ cond t (get_or (x p) k 0) 0
    pick true = refl
    pick false = refl

xor_at-masked : (test : ℕ → Bool) (x : ℕ → List ℕ) (l : List ℕ) (k : ℕ) → xor_at (map (masked test x) l) k ≡ xor_at (map x (passing test l)) k
unfolding xor_at passing
xor_at-masked test x [] k = refl
xor_at-masked test x (p ∷ l) k =
    ap₂ bit_xor (masked-at test x p k) (xor_at-masked test x l k)
    ∙ ⊎_elim
    (λ pass.
    ap (λ (t : Bool). bit_xor (cond t (get_or (x p) k 0) 0) (xor_at (map x (passing test l)) k)) pass
    ∙ sym (ap (λ (r : List ℕ). xor_at (map x r) k) (passing-yes test p l pass)))
    (λ fail.
    ap (λ (t : Bool). bit_xor (cond t (get_or (x p) k 0) 0) (xor_at (map x (passing test l)) k)) fail
    ∙ sym (ap (λ (r : List ℕ). xor_at (map x r) k) (passing-no test p l fail)))
    (true-or-false (test p))

pub equation-sum : (cells : List Cell) (message : Message) (x : ℕ → List ℕ) (k : ℕ)
    → ((p : ℕ) → Among p message.members → p < mask_places)
    → sum_over mask_places (has_place (equation_mask cells message)) (λ p. get_or (x p) k 0) ≡ xor_at (map x (unknown_members cells message)) k
equation-sum cells message x k inside =
    let u = unknown_at cells in
    let mask = mask_of message.members in
    sum_same mask_places (has_place (equation_mask cells message)) (λ p. has_place mask p && u p) (λ p. get_or (x p) k 0) (λ p. get_or (x p) k 0)
    (λ p small. equation-bit cells message p small)
    (λ p small has. refl)
    ∙ sum-and mask_places (has_place mask) u (λ p. get_or (x p) k 0)
    ∙ sum_same mask_places (has_place mask) (has_place mask) (λ p. cond (u p) (get_or (x p) k 0) 0) (λ p. get_or (masked u x p) k 0) (λ p small. refl)
    (λ p small has. sym (masked-at u x p k))
    ∙ sum-mask (masked u x) k message.members inside
    ∙ xor_at-masked u x message.members k
