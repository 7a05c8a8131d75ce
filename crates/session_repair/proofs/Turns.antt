-- What the loops over the numbers that go back by m keep true, on plain values. Assumes nothing.
use Rattle.std.proofs.Common.{◌≡◌, ℕ, suc, ◌+◌, ◌-◌, ◌<◌, ◌≤◌, Bool, cond, List, sym, ap, ◌∙◌, add_assoc, zero-add, arith, eq-eqb, ne_eqb}
use Rattle.session.specs.View.{distance}
use Rattle.session_held.specs.Slots.{slots_kept}
use Rattle.session_held.specs.Table.{state_in}
use Rattle.session_held.proofs.Laws.{unknown-number}
use Rattle.session_repair.specs.Back.{unknown_one, OneUnknown, slot_of, count_back, find_back}

-- ---- one for an unknown number
pub one-unknown : (t : List ℕ) (slot : ℕ) {state : ℕ} → state ≡ state_in t slot → state ≡ 0 → OneUnknown t slot 1
one-unknown t slot {state} e empty =
    let seen = sym (eq-eqb (state_in t slot) 0 (sym e ∙ empty)) ∙ unknown-number (state_in t slot) in
    record { same = ap (λ (b : Bool). cond b 1 0) seen; small = omega arith }

pub one_known : (t : List ℕ) (slot : ℕ) {state : ℕ} → state ≡ state_in t slot → (state ≡ 0 → ⊥) → OneUnknown t slot 0
one_known t slot {state} e some =
    let seen = sym (ne_eqb (state_in t slot) 0 (λ empty. some (e ∙ empty))) ∙ unknown-number (state_in t slot) in
    record { same = ap (λ (b : Bool). cond b 1 0) seen; small = omega arith }

-- ---- counting: what is counted, with what is left to count, is the whole
pub record Counting (t : List ℕ) (x n m at count k : ℕ) : Type 0 where
  pub left : count + count_back t at (n - k) m ≡ count_back t x n m
  pub few : k ≤ n
  pub small : count ≤ k

pub counting-start : (t : List ℕ) (x n m : ℕ) → Counting t x n m x 0 0
counting-start t x n m =
    record {
      left = zero-add _ ∙ ap (λ (k : ℕ). count_back t x k m) {x = n - 0} {y = n} (omega arith);
      few = omega arith;
      small = omega arith;
    }

one_left : (n k : ℕ) → k < n → n - k ≡ suc (n - (k + 1))
one_left n k more = omega arith

count_back-step : (t : List ℕ) (x n m k : ℕ) → k < n
    → count_back t x (n - k) m ≡ unknown_one t (slot_of (distance m x)) + count_back t (distance m x) (n - (k + 1)) m
unfolding count_back
count_back-step t x n m k more = rw (one_left n k more)

pub counting-turn : {t : List ℕ} {x n m at count k member slot one : ℕ} → Counting t x n m at count k → k < n
    → member ≡ distance m at → slot ≡ slot_of member → OneUnknown t slot one
    → Counting t x n m member (count + one) (k + 1)
counting-turn {t} {x} {n} {m} {at} {count} {k} {member} {slot} {one} c more e f g =
    record {
      left =
          rw (g.same, f, e)
          (add_assoc count _ _ ∙ ap (λ (j : ℕ). count + j) (sym (count_back-step t at n m k more)) ∙ c.left);
      few = omega arith;
      small = omega (arith, c.small, g.small);
    }

pub counting-done : {t : List ℕ} {x n m at count k : ℕ} → Counting t x n m at count k → n ≤ k → count ≡ count_back t x n m
unfolding count_back
counting-done {t} {x} {n} {m} {at} {count} {k} c all =
    let none : n - k ≡ 0 = omega arith in
    let whole : count + 0 ≡ count_back t x n m = rw none at c.left in
    omega (arith, whole)

-- ---- finding: what is left to search holds the whole answer
pub record Finding (t : List ℕ) (x n m at k : ℕ) : Type 0 where
  pub left : find_back t at (n - k) m ≡ find_back t x n m
  pub few : k ≤ n

pub finding-start : (t : List ℕ) (x n m : ℕ) → Finding t x n m x 0
finding-start t x n m = record { left = ap (λ (k : ℕ). find_back t x k m) {x = n - 0} {y = n} (omega arith); few = omega arith }

module _ {t : List ℕ} {x n m at k member slot one : ℕ} (c : Finding t x n m at k) (more : k < n)
    (e : member ≡ distance m at) (f : slot ≡ slot_of member) (g : OneUnknown t slot one) where
  here : unknown_one t (slot_of (distance m at)) ≡ one
  here = sym (g.same ∙ ap (λ (i : ℕ). unknown_one t i) (f ∙ ap slot_of e))

  pub found : one ≡ 1 → slot ≡ find_back t x n m
  unfolding find_back
  found hit =
      let first : find_back t at (n - k) m ≡ slot_of (distance m at) = rw (one_left n k more, eq-eqb _ 1 (here ∙ hit)) in
      f ∙ ap slot_of e ∙ sym first ∙ c.left

  pub finding-turn : (one ≡ 1 → ⊥) → Finding t x n m member (k + 1)
  unfolding find_back
  finding-turn miss =
      let not-here : find_back t at (n - k) m ≡ find_back t (distance m at) (n - (k + 1)) m =
      rw (one_left n k more, here, ne_eqb one 1 miss) in
      record { left = ap (λ (j : ℕ). find_back t j (n - (k + 1)) m) e ∙ sym not-here ∙ c.left; few = omega arith }

pub finding-done : {t : List ℕ} {x n m at k : ℕ} → Finding t x n m at k → n ≤ k → slots_kept ≡ find_back t x n m
unfolding find_back
finding-done {t} {x} {n} {m} {at} {k} c all =
    let none : n - k ≡ 0 = omega arith in
    rw none at c.left
