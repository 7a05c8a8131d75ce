-- What stands in whole octets keeps to them, if what finds it at the front of some octets does. Assumes nothing.
use Prim.Native.Nat.{ℕ, ◌+◌, ◌*◌, ◌/◌, ◌%◌, ◌≤◌}
use mathlib.Core.Path.{◌≡◌, refl, ◌∙◌}
use mathlib.Core.Bool.{Bool, true, false, cond}
use mathlib.Core.List.{List, ◌++◌}
use lib.ListN.{length, get_or, take, drop, length-append, length-drop, get_or-append}
use lib.Seq.{drop-append-le, take-append-le}
use lib.Dec.{leb, ltb}
use native.Mathlib.Omega.{arith}
use borrow.Author.Tests.{le-ltb, ltb-false}
use Rattle.length.specs.Refusals.{ends_early, outside_sizes, refusal}
use Rattle.length.specs.Answers.{Answer, done, refused, LengthAnswer}
use Rattle.length.specs.Length.{length_at, of_two, length_within}
use Rattle.length.proofs.Laws.{Form, one, two, form, length_at-one, length_at-two, allowed-sizes, within-done}
use Rattle.format.specs.Reading.{Finding, found, stopped}
use Rattle.format.specs.Reading as reading
use Rattle.format.specs.Format.{octetwise, octets_front, octets, two_front, two_octets, length_found, length_rule}
use Rattle.format.proofs.Standing.{stepped}
use Rattle.format.proofs.WholeOctets.{from_found}
use Rattle.format.proofs.Steady.{Steady, steady-align, align-edge}

module _ {A : Type 0} where
  -- what is asked of what finds them
  pub record SteadyFront (front : List ℕ → Finding A) : Type 0 where
    pub inside : (s : List ℕ) (a : A) (n : ℕ) → front s ≡ found a n → n ≤ length s
    pub longer : (s more : List ℕ) (a : A) (n : ℕ) → front s ≡ found a n → front (s ++ more) ≡ found a n

  -- from an octet edge on
  module _ {front : List ℕ → Finding A} (x : SteadyFront front) (s : List ℕ) (i p : ℕ) (a : A) (q : ℕ) (from : p ≤ 8 * length s) where
    front-inside : p % 8 ≡ 0 → reading.octetwise front s i p ≡ found a q → q ≤ 8 * length s
    unfolding reading.octetwise
    front-inside edge e =
        let first = stepped (reading.found_from (p / 8) (front (drop (p / 8) s))) _ a q e in
        let was = from_found (p / 8) (front (drop (p / 8) s)) first.value first.at first.was in
        let next : 8 * first.at + p ≡ q = cc in
        omega (arith, x.inside (drop (p / 8) s) first.value first.at was, length-drop (p / 8) s)

    front-longer : (more : List ℕ) → reading.octetwise front s i p ≡ found a q → reading.octetwise front (s ++ more) i p ≡ found a q
    unfolding reading.octetwise
    front-longer more e =
        let first = stepped (reading.found_from (p / 8) (front (drop (p / 8) s))) _ a q e in
        let was = from_found (p / 8) (front (drop (p / 8) s)) first.value first.at first.was in
        rw (drop-append-le (p / 8) s more (omega arith), x.longer (drop (p / 8) s) more first.value first.at was)
        first.gave

  pub steady-octetwise : {front : List ℕ → Finding A} (octets : A → List ℕ) (right : A → Type 0) → SteadyFront front
      → Steady (octetwise front octets right)
  steady-octetwise octets right x =
      record {
        inside =
            λ s i p a q from e.
            let first = stepped (reading.align s i p) _ a q e in
            let on = steady-align.inside s i p first.value first.at from first.was in
            front-inside x s (first.at / 8) first.at a q on (align-edge s i p first.value first.at first.was) first.gave;
        longer =
            λ s more i p a q from e.
            let first = stepped (reading.align s i p) _ a q e in
            let on = steady-align.inside s i p first.value first.at from first.was in
            rw (steady-align.longer s more i p first.value first.at from first.was)
            (front-longer x s (first.at / 8) first.at a q on more first.gave);
      }

octets-steady : (n : ℕ) → SteadyFront (octets_front n)
unfolding octets_front
octets-steady n =
    record {
      inside = λ s l m e. few s l m (ltb (length s) n) refl e;
      longer = λ s more l m e. same s more l m (ltb (length s) n) refl e;
    } where
      few : (s l : List ℕ) (m : ℕ) (b : Bool) → ltb (length s) n ≡ b
          → cond b (stopped (refusal ends_early)) (found (take n s) n) ≡ found l m → m ≤ length s
      few s l m true was e = let z : ◌≡◌ {A = ℕ} 0 1 = cc in absurd (omega arith)
      few s l m false was e = let is : n ≡ m = cc in omega (arith, ltb-false (length s) n was)

      same : (s more l : List ℕ) (m : ℕ) (b : Bool) → ltb (length s) n ≡ b
          → cond b (stopped (refusal ends_early)) (found (take n s) n) ≡ found l m
          → cond (ltb (length (s ++ more)) n) (stopped (refusal ends_early)) (found (take n (s ++ more)) n) ≡ found l m
      same s more l m true was e = let z : ◌≡◌ {A = ℕ} 0 1 = cc in absurd (omega arith)
      same s more l m false was e =
          let there = ltb-false (length s) n was in
          rw (le-ltb (length (s ++ more)) n (omega (arith, length-append s more)), take-append-le n s more there) e

pub steady-octets : (n : ℕ) → Steady (octets n)
steady-octets n = steady-octetwise _ _ (octets-steady n)

two-steady : (most : ℕ) → SteadyFront (two_front most)
unfolding two_front
two-steady most =
    record {
      inside = λ s v m e. few s v m (ltb (length s) 2) (leb (get_or s 0 0 * 256 + get_or s 1 0) most) refl e;
      longer = λ s more v m e. same s more v m (ltb (length s) 2) refl e;
    } where
      few : (s : List ℕ) (v m : ℕ) (b c : Bool) → ltb (length s) 2 ≡ b
          → cond b (stopped (refusal ends_early)) (cond c (found (get_or s 0 0 * 256 + get_or s 1 0) 2) (stopped (refusal outside_sizes)))
          ≡ found v m
          → m ≤ length s
      few s v m true c was e = let z : ◌≡◌ {A = ℕ} 0 1 = cc in absurd (omega arith)
      few s v m false false was e = let z : ◌≡◌ {A = ℕ} 0 1 = cc in absurd (omega arith)
      few s v m false true was e = let is : 2 ≡ m = cc in omega (arith, ltb-false (length s) 2 was)

      same : (s more : List ℕ) (v m : ℕ) (b : Bool) → ltb (length s) 2 ≡ b
          → cond b (stopped (refusal ends_early))
          (cond (leb (get_or s 0 0 * 256 + get_or s 1 0) most) (found (get_or s 0 0 * 256 + get_or s 1 0) 2) (stopped (refusal outside_sizes)))
          ≡ found v m
          → two_front most (s ++ more) ≡ found v m
      same s more v m true was e = let z : ◌≡◌ {A = ℕ} 0 1 = cc in absurd (omega arith)
      same s more v m false was e =
          let there = ltb-false (length s) 2 was in
          rw (
            le-ltb (length (s ++ more)) 2 (omega (arith, length-append s more)),
            get_or-append s more 0 0 (omega arith),
            get_or-append s more 0 1 (omega arith),
          )
          e

pub steady-two-octets : (most : ℕ) → Steady (two_octets most)
steady-two-octets most = steady-octetwise _ _ (two-steady most)

length-longer : (s more : List ℕ) (a : LengthAnswer) → Form s a → length_at (s ++ more) ≡ done a
length-longer s more a (one some low value size) =
    let first = get_or-append s more 0 0 some in
    length_at-one (s ++ more) (omega (arith, length-append s more)) (rw first low) ∙ rw first (answer value size) where
      answer : a.value ≡ get_or s 0 0 → a.size ≡ 1 → done (record { value = get_or s 0 0; size = 1 }) ≡ done a
      answer v n = rw (← v, ← n)
length-longer s more a (two some long low large value size) =
    let first = get_or-append s more 0 0 (omega arith) in
    let second = get_or-append s more 0 1 (omega arith) in
    length_at-two (s ++ more) (omega (arith, length-append s more)) (rw first long) (rw first low) (rw (first, second) large)
    ∙ rw (first, second) (answer value size) where
      answer : a.value ≡ of_two (get_or s 0 0) (get_or s 1 0) → a.size ≡ 2
          → done (record { value = of_two (get_or s 0 0) (get_or s 1 0); size = 2 }) ≡ done a
      answer v n = rw (← v, ← n)

length-steady : (least most : ℕ) → SteadyFront (λ s. length_found (length_within least most s))
unfolding length_within
length-steady least most =
    record {
      inside = λ s n m e. few s n m (length_within least most s) refl e;
      longer = λ s more n m e. same s more n m (length_within least most s) refl e;
    } where
      few : (s : List ℕ) (n m : ℕ) (x : Answer LengthAnswer) → length_within least most s ≡ x → length_found x ≡ found n m → m ≤ length s
      few s n m (done a) was e =
          let is : a.size ≡ m = cc in
          omega (arith, (within-done least most s a was).sizes.inside)
      few s n m (refused r) was e = let z : ◌≡◌ {A = ℕ} 0 1 = cc in absurd (omega arith)

      same : (s more : List ℕ) (n m : ℕ) (x : Answer LengthAnswer) → length_within least most s ≡ x → length_found x ≡ found n m
          → length_found (length_within least most (s ++ more)) ≡ found n m
      same s more n m (done a) was e =
          let w = within-done least most s a was in
          rw (length-longer s more a (form s a w.read), allowed-sizes least most a w.low w.high) e
      same s more n m (refused r) was e = let z : ◌≡◌ {A = ℕ} 0 1 = cc in absurd (omega arith)

pub steady-length-rule : (least most : ℕ) → Steady (length_rule least most)
steady-length-rule least most = steady-octetwise _ _ (length-steady least most)
