-- The first place of a mask and the one that stands alone, as the code finds them, on plain values. Assumes nothing.
use Prim.Native.Nat.{ℕ, ◌^◌, ◌≤◌, ◌<◌}
use mathlib.Core.Path.{◌≡◌, refl, sym, ap, ap₂, ◌∙◌}
use mathlib.Core.Logic.{⊎_elim}
use mathlib.Core.Bool.{true, false, xor, false≢true}
use lib.Bits.{bit_xor}
use lib.Dec.{eqb}
use Rattle.std.specs.Int.{w64, bit_at, trailing_zeros}
use Rattle.std.specs.Int.Count.{trailing_of_zero}
use Rattle.std.proofs.lemmas.Nat.Bits.{bit_at-trailing_zeros}
use borrow.Author.Tests.{eq-eqb, ne_eqb}
use native.Mathlib.Omega.{arith}
use Rattle.octets.proofs.Laws.{same_or_not, true-or-false}
use Rattle.solve_algebra.specs.Systems.{Alone, alone_test}
use Rattle.solve_algebra.proofs.LinearLaws.{xor-false, first_passes, first-before, first-most, first-is, alone-says, alone_of, alone-only}
use Rattle.solve_algebra.specs.Masks.{mask_places, has_place, first_place, lone_place}
use Rattle.solve_algebra.specs.MasksPromise.{OneMade, FirstFound, LoneFound}
use Rattle.solve_algebra.proofs.Bits.{bit-xor, no-bit}
use Rattle.solve_algebra.proofs.Powers.{bit-power}

-- ---- the first place is how many zeros are below the lowest bit
absent : (mask k : ℕ) → bit_at mask k ≡ 0 → has_place mask k ≡ false
unfolding has_place
absent mask k f = rw f refl

present : (mask k : ℕ) → bit_at mask k ≡ 1 → has_place mask k ≡ true
unfolding has_place
present mask k f = rw f refl

pub trailing-first : {mask r : ℕ} → mask < 2 ^ 64 → r ≡ trailing_zeros w64 mask → FirstFound mask r
unfolding first_place
trailing-first {mask} {r} small e =
    ⊎_elim
    (λ zero.
    let none : r ≡ mask_places = e ∙ ap (trailing_zeros w64) zero ∙ trailing_of_zero 64 in
    record {
      answer = rw none (first-is mask_places (has_place mask) mask_places (omega arith) (λ k early. rw zero (no-bit k)) (λ inside. absurd (omega arith)));
    })
    (λ some.
    let t = bit_at-trailing_zeros w64 mask (omega arith) small in
    record {
      answer =
          e
          ∙ first-is mask_places (has_place mask) (trailing_zeros w64 mask) (omega (arith, t.0))
          (λ k early. absent mask k (t.2 k early))
          (λ inside. present mask (trailing_zeros w64 mask) t.1);
    })
    (same_or_not mask 0)

-- ---- the place that stands alone
-- where a mask has p alone, that is the answer; where it has none alone, there is none
lone_of : (mask p : ℕ) → p < mask_places → Alone mask_places (has_place mask) p → p ≡ lone_place mask
unfolding lone_place
lone_of mask p inside alone =
    first-is mask_places (alone_test mask_places (has_place mask)) p (omega arith) before (λ here. alone_of mask_places (has_place mask) p alone)
  where
    before : (k : ℕ) → k < p → alone_test mask_places (has_place mask) k ≡ false
    before k early =
        ⊎_elim
        (λ passes. absurd (omega (arith, alone-only mask_places (has_place mask) k (alone-says mask_places (has_place mask) k passes) p inside alone.has)))
        (λ fails. fails)
        (true-or-false (alone_test mask_places (has_place mask) k))

none-alone : (mask : ℕ) → ((p : ℕ) → p < mask_places → Alone mask_places (has_place mask) p → ⊥) → mask_places ≡ lone_place mask
unfolding lone_place
none-alone mask none =
    first-is mask_places (alone_test mask_places (has_place mask)) mask_places (omega arith)
    (λ k inside.
    ⊎_elim (λ passes. absurd (none k inside (alone-says mask_places (has_place mask) k passes))) (λ fails. fails)
    (true-or-false (alone_test mask_places (has_place mask) k)))
    (λ inside. absurd (omega arith))

pub lone-exact : (mask p : ℕ) → p < mask_places → lone_place mask ≡ p → Alone mask_places (has_place mask) p
unfolding lone_place
lone-exact mask p inside e =
    alone-says mask_places (has_place mask) p (rw e at (first_passes mask_places (alone_test mask_places (has_place mask)) (rw e inside)))

-- an empty mask has none
pub lone-none : {mask place : ℕ} → FirstFound mask place → mask_places ≤ place → LoneFound mask place
unfolding first_place
lone-none {mask} {place} f past =
    let last : place ≡ mask_places = omega (arith, f.answer, first-most mask_places (has_place mask)) in
    record {
      answer =
          last
          ∙ none-alone mask
          (λ p inside alone. false≢true (sym (first-before mask_places (has_place mask) p (omega (arith, f.answer))) ∙ alone.has));
    }

-- the first place taken out: what is left has another place, or has none
module _ {mask place single other : ℕ} (f : FirstFound mask place) (inside : place < mask_places) (made : OneMade place single)
    (g : FirstFound (bit_xor mask single) other) where
  there : has_place mask place ≡ true
  unfolding first_place
  there = rw f.answer (first_passes mask_places (has_place mask) (rw f.answer at inside))

  rest-bit : (q : ℕ) → q < mask_places → has_place (bit_xor mask single) q ≡ xor (has_place mask q) (eqb q place)
  rest-bit q small =
      ap (λ (x : ℕ). has_place (bit_xor mask x) q) made.answer
      ∙ bit-xor mask (2 ^ place) q
      ∙ ap (xor (has_place mask q)) (bit-power place q inside small)

  rest-other : (q : ℕ) → q < mask_places → (q ≡ place → ⊥) → has_place (bit_xor mask single) q ≡ has_place mask q
  rest-other q small apart = rest-bit q small ∙ ap (xor (has_place mask q)) (ne_eqb q place apart) ∙ xor-false (has_place mask q)

  pub lone-one : mask_places ≤ other → LoneFound mask place
  unfolding first_place
  lone-one all =
      record {
        answer =
            lone_of mask place inside
            (record {
              has = there;
              others = λ c small apart.
                  sym (rest-other c small apart) ∙ first-before mask_places (has_place (bit_xor mask single)) c (omega (arith, g.answer));
            });
      }

  pub lone-two : other < mask_places → LoneFound mask mask_places
  unfolding first_place xor
  lone-two small =
      let second : has_place (bit_xor mask single) other ≡ true =
      rw g.answer (first_passes mask_places (has_place (bit_xor mask single)) (rw g.answer at small)) in
      record {
        answer =
            none-alone mask
            (λ p low alone.
            ⊎_elim
            (λ same. false≢true (sym (rest-bit other small ∙ ap₂ xor (ap (has_place mask) same ∙ there) (eq-eqb other place same)) ∙ second))
            (λ apart.
            apart
            (alone-only mask_places (has_place mask) p alone other small (sym (rest-other other small apart) ∙ second)
            ∙ sym (alone-only mask_places (has_place mask) p alone place inside there)))
            (same_or_not other place));
      }

pub lone_is : (mask p : ℕ) → p < mask_places → Alone mask_places (has_place mask) p → lone_place mask ≡ p
lone_is mask p inside alone = sym (lone_of mask p inside alone)
