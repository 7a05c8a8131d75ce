-- The mask of the unknown numbers, place by place, on plain values. Assumes nothing.
use Rattle.std.proofs.Common.{◌≡◌, ℕ, suc, ◌+◌, ◌%◌, ◌^◌, ◌<◌, ◌≤◌, Bool, true, false, cond, not, List, sym, refl, ap, ◌∙◌, ap₂, arith}
use lib.Bits.{bit_xor}
use Rattle.solve_algebra.specs.Sums.{sum_over}
use Rattle.solve_algebra.specs.Masks as masks
use Rattle.solve_algebra.specs.MasksPromise.{OneMade}
use Rattle.session.specs.Cells.{Cell, unknown_at, is_unknown, kept_before, kept_numbers}
use Rattle.session.specs.View.{numbers}
use Rattle.session_held.specs.Slots.{slot_at, slots_kept}
use Rattle.session_held.specs.Table.{state_in, state_numbered, cells_of}
use Rattle.session_held.proofs.Laws.{unknown-at}
use Rattle.solve.specs.Table.{unknown_mask}
use Rattle.solve_code.specs.RowsPromise.{OneUnless, UnknownMade}

-- ---- one place
pub one_known : {known : Bool} {place : ℕ} → known ≡ true → OneUnless known place 0
one_known {known} {place} e = record { answer = sym (ap (λ (b : Bool). cond b 0 (2 ^ place)) e) }

pub one-unknown : {known : Bool} {place r : ℕ} → known ≡ false → OneMade place r → OneUnless known place r
one-unknown {known} {place} {r} e made = record { answer = made.answer ∙ sym (ap (λ (b : Bool). cond b 0 (2 ^ place)) e) }

pub ruleset ones = (one_known, one-unknown)

-- ---- the mask of the first p places
pub record UnknownTo (base : ℕ) (t : List ℕ) (mask p : ℕ) : Type 0 where
  pub few : p ≤ kept_numbers
  pub made : (o : List ℕ) → mask ≡ sum_over p (unknown_at (cells_of base t o)) (λ q. 2 ^ q)

pub unknown-start : (base : ℕ) (t : List ℕ) → UnknownTo base t 0 0
unfolding sum_over
unknown-start base t = record { few = omega arith; made = λ o. refl }

one_more : (p : ℕ) (test : ℕ → Bool) → sum_over (p + 1) test (λ q. 2 ^ q) ≡ bit_xor (sum_over p test (λ q. 2 ^ q)) (cond (test p) (2 ^ p) 0)
unfolding sum_over
one_more p test = let e : p + 1 ≡ suc p = omega arith in ap (λ (n : ℕ). sum_over n test (λ q. 2 ^ q)) e

unless_not : (u : Bool) (x : ℕ) → cond (not u) 0 x ≡ cond u x 0
unless_not true x = refl
unless_not false x = refl

pub unknown-turn : {base : ℕ} {t : List ℕ} {mask p ahead near number slot single place : ℕ} {known : Bool} → UnknownTo base t mask p
    → p < slots_kept → ahead ≡ p + kept_before → near ≡ ahead → number ≡ (base + near) % numbers → slot ≡ number % slots_kept
    → known ≡ not (is_unknown (state_numbered (state_in t slot))) → place ≡ p → OneUnless known place single
    → UnknownTo base t (bit_xor mask single) (p + 1)
unknown-turn {base} {t} {mask} {p} {ahead} {near} {number} {slot} {single} {place} {known} u below ea en eb es ek ep ei =
    record {
      few = omega arith;
      made = λ o.
          ap₂ bit_xor (u.made o)
          (ei.answer
          ∙ ap (λ (q : ℕ). cond known 0 (2 ^ q)) ep
          ∙ ap (λ (b : Bool). cond b 0 (2 ^ p)) (ek ∙ ap (λ (i : ℕ). not (is_unknown (state_numbered (state_in t i)))) slot_is)
          ∙ unless_not (is_unknown (state_numbered (state_in t (slot_at base p)))) (2 ^ p)
          ∙ ap (λ (b : Bool). cond b (2 ^ p) 0) (sym (unknown-at base t o p below)))
          ∙ sym (one_more p (unknown_at (cells_of base t o)));
    }
  where
    slot_is : slot ≡ slot_at base p
    slot_is = omega arith

pub unknown-done : {base : ℕ} {t : List ℕ} {mask p : ℕ} → UnknownTo base t mask p → slots_kept ≤ p → UnknownMade base t mask
unfolding unknown_mask
unknown-done {base} {t} {mask} {p} u all =
    let e : p ≡ masks.mask_places = omega (arith, u.few) in
    record { answer = λ o. u.made o ∙ ap (λ (n : ℕ). sum_over n (unknown_at (cells_of base t o)) (λ q. 2 ^ q)) e }
