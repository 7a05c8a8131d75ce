-- A reader that keeps to its octets: from a place inside them it comes to one inside them, and octets more after them change nothing of
-- what it found. Each part of a format does, and each way to put parts together; whole octets stand in `SteadyOctets`. Assumes nothing.
use Prim.Native.Nat.{ℕ, zero, suc, ◌+◌, ◌*◌, ◌/◌, ◌%◌, ◌^◌, ◌≤◌}
use mathlib.Core.Path.{◌≡◌, refl}
use mathlib.Core.Bool.{Bool, true, false, cond}
use mathlib.Core.List.{List, [], ◌∷◌, ◌++◌}
use lib.ListN.{length, length-append, get_or-append}
use lib.Dec.{ltb, eqb}
use native.Mathlib.Omega.{arith}
use borrow.Author.Tests.{lt-ltb, ltb-true}
use Rattle.length.specs.Refusals.{ends_early, spare_bit}
use Rattle.length.specs.declared.Reason.{Reason}
use Rattle.format.specs.Spelling.{gap}
use Rattle.format.specs.Reading.{found, Reader, give, ◌>>=◌, check, bit_at}
use Rattle.format.specs.Reading as reading
use Rattle.format.specs.Format.{Format, flag, bits, align, here, known, item, guarded, demand, ◌⊳◌, made, sequence_of}
use Rattle.format.proofs.Standing.{stepped, passed, bits-form, wide-spelt, gap-past}

-- ---- readers
record Keeps {A : Type 0} (r : Reader A) : Type 0 where
  inside : (s : List ℕ) (i p : ℕ) (a : A) (q : ℕ) → p ≤ 8 * length s → r s i p ≡ found a q → q ≤ 8 * length s
  longer : (s more : List ℕ) (i p : ℕ) (a : A) (q : ℕ) → p ≤ 8 * length s → r s i p ≡ found a q → r (s ++ more) i p ≡ found a q

module _ {A B : Type 0} where
  keeps-bind : (r : Reader A) (next : A → Reader B) → Keeps r → ((a : A) → Keeps (next a)) → Keeps (◌>>=◌ r next)
  keeps-bind r next x y =
      record {
        inside =
            λ s i p b q from e.
            let first = stepped (r s i p) _ b q e in
            (y first.value).inside s i first.at b q (x.inside s i p first.value first.at from first.was) first.gave;
        longer =
            λ s more i p b q from e.
            let first = stepped (r s i p) _ b q e in
            let on = x.inside s i p first.value first.at from first.was in
            rw (x.longer s more i p first.value first.at from first.was)
            ((y first.value).longer s more i first.at b q on first.gave);
      }

keeps-give : {A : Type 0} (a : A) → Keeps (give a)
keeps-give a =
    record {
      inside = λ s i p b q from e. let next : p ≡ q = cc in omega arith;
      longer = λ s more i p b q from e. e;
    }

keeps-check : (n : Reason) (test : Bool) → Keeps (check n test)
keeps-check n true = keeps-give tt
keeps-check n false =
    record {
      inside = λ s i p b q from e. let z : ◌≡◌ {A = ℕ} 0 1 = cc in absurd (omega arith);
      longer = λ s more i p b q from e. let z : ◌≡◌ {A = ℕ} 0 1 = cc in absurd (omega arith);
    }

keeps-bit : Keeps reading.bit
unfolding reading.bit
keeps-bit =
    record {
      inside = λ s i p b q from e. in-octets s i p b q (ltb p (8 * length s)) refl e;
      longer = λ s more i p b q from e. as_before s more i p b q (ltb p (8 * length s)) refl e;
    } where
      in-octets : (s : List ℕ) (i p b q : ℕ) (t : Bool) → ltb p (8 * length s) ≡ t
          → cond t (found (bit_at s p) (1 + p)) (reading.stop ends_early s i p) ≡ found b q → q ≤ 8 * length s
      in-octets s i p b q true was e = let next : 1 + p ≡ q = cc in omega (arith, ltb-true p (8 * length s) was)
      in-octets s i p b q false was e = let z : ◌≡◌ {A = ℕ} 0 1 = cc in absurd (omega arith)

      as_before : (s more : List ℕ) (i p b q : ℕ) (t : Bool) → ltb p (8 * length s) ≡ t
          → cond t (found (bit_at s p) (1 + p)) (reading.stop ends_early s i p) ≡ found b q
          → cond (ltb p (8 * length (s ++ more))) (found (bit_at (s ++ more) p) (1 + p)) (reading.stop ends_early (s ++ more) i p) ≡ found b q
      as_before s more i p b q true was e =
          let here = ltb-true p (8 * length s) was in
          rw (lt-ltb p (8 * length (s ++ more)) (omega (arith, length-append s more)), get_or-append s more 0 (p / 8) (omega arith)) e
      as_before s more i p b q false was e = let z : ◌≡◌ {A = ℕ} 0 1 = cc in absurd (omega arith)

keeps-bits : (n : ℕ) → Keeps (reading.bits n)
unfolding reading.bits
keeps-bits zero = keeps-give 0
keeps-bits (suc n) =
    keeps-bind reading.bit _ keeps-bit (λ b. keeps-bind (reading.bits n) _ (keeps-bits n) (λ v. keeps-give (b * 2 ^ n + v)))

-- zero bits
keeps-zeros : (n : ℕ) → Keeps (do v ← reading.bits n; check spare_bit (eqb v 0))
keeps-zeros n = keeps-bind (reading.bits n) _ (keeps-bits n) (λ v. keeps-check spare_bit (eqb v 0))

-- ---- formats
pub record Steady {A : Type 0} (f : Format A) : Type 0 where
  pub inside : (s : List ℕ) (i p : ℕ) (a : A) (q : ℕ) → p ≤ 8 * length s → f.read s i p ≡ found a q → q ≤ 8 * length s
  pub longer : (s more : List ℕ) (i p : ℕ) (a : A) (q : ℕ) → p ≤ 8 * length s → f.read s i p ≡ found a q
      → f.read (s ++ more) i p ≡ found a q

module _ {A : Type 0} {f : Format A} where
  steady : Keeps f.read → Steady f
  steady x = record { inside = x.inside; longer = x.longer }

  keeps : Steady f → Keeps f.read
  keeps x = record { inside = x.inside; longer = x.longer }

module _ {A : Type 0} where
  pub steady-known : (a : A) → Steady (known a)
  steady-known a = steady (keeps-give a)

  pub steady-item : {f : Format A} → Steady f → Steady (item f)
  steady-item x =
      record {
        inside = λ s i p a q from e. x.inside s (p / 8) p a q from e;
        longer = λ s more i p a q from e. x.longer s more (p / 8) p a q from e;
      }

  pub steady-guarded : (n : Reason) (test : A → Bool) {f : Format A} → Steady f → Steady (guarded n test f)
  steady-guarded n test {f} x =
      steady (keeps-bind f.read _ (keeps x) (λ a. keeps-bind (check n (test a)) _ (keeps-check n (test a)) (λ _. keeps-give a)))

  -- one of two, by a test that is known
  pub steady-either : (test : Bool) {f g : Format A} → Steady f → Steady g → Steady (cond test f g)
  steady-either true x y = x
  steady-either false x y = y

  keeps-sequence : (n : ℕ) {f : Format A} → Steady f → Keeps (reading.sequence_of n f.read)
  unfolding reading.sequence_of
  keeps-sequence zero x = keeps-give []
  keeps-sequence (suc n) {f} x =
      keeps-bind f.read _ (keeps x)
      (λ a. keeps-bind (reading.sequence_of n f.read) _ (keeps-sequence n x) (λ rest. keeps-give (a ∷ rest)))

  pub steady-sequence-of : (n : ℕ) {f : Format A} → Steady f → Steady (sequence_of n f)
  steady-sequence-of n x = steady (keeps-sequence n x)

pub steady-demand : (n : Reason) (test : Bool) → Steady (demand n test)
steady-demand n test = steady (keeps-check n test)

module _ {A B : Type 0} where
  pub steady_then : {f : Format A} (g : A → Format B) → Steady f → ((a : A) → Steady (g a)) → Steady (f ⊳ g)
  steady_then {f} g x y =
      steady (keeps-bind f.read _ (keeps x) (λ a. keeps-bind (g a).read _ (keeps (y a)) (λ b. keeps-give (a, b))))

  pub steady-made : (to : A → B) (from : B → A) {f : Format A} → Steady f → Steady (made to from f)
  steady-made to from {f} x = steady (keeps-bind f.read _ (keeps x) (λ a. keeps-give (to a)))

-- ---- bits
pub steady-flag : Steady flag
unfolding reading.flag
steady-flag = steady (keeps-bind reading.bit _ keeps-bit (λ b. keeps-give (ltb 0 b)))

pub steady-bits : (n : ℕ) → Steady (bits n)
steady-bits n = steady (keeps-bits n)

pub steady-align : Steady align
unfolding reading.align
steady-align =
    record {
      inside = λ s i p u q from e. (keeps-zeros (gap p)).inside s (p / 8) p u q from e;
      longer = λ s more i p u q from e. (keeps-zeros (gap p)).longer s more (p / 8) p u q from e;
    }

-- it comes to an octet edge
pub align-edge : (s : List ℕ) (i p : ℕ) (u : Unit {0}) (q : ℕ) → reading.align s i p ≡ found u q → q % 8 ≡ 0
unfolding reading.align
align-edge s i p u q e =
    let first = stepped (reading.bits (gap p) s (p / 8) p) _ u q e in
    let form = bits-form (gap p) s (p / 8) p first.value first.at first.was in
    let pass = passed spare_bit (eqb first.value 0) s (p / 8) first.at u q first.gave in
    omega (arith, form.spells.next, pass.stays, wide-spelt (gap p) first.value, gap-past p)

pub steady-here : Steady here
steady-here =
    record {
      inside = λ s i p x q from e. let next : p ≡ q = cc in omega arith;
      longer = λ s more i p x q from e. e;
    }
