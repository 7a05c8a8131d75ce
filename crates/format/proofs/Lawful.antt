-- The laws of a format, what is spelt reads and what reads is spelt, for each way to put parts together. Assumes nothing.
use Prim.Native.Nat.{ℕ, zero, suc, ◌+◌, ◌/◌, ◌%◌, ◌^◌, ◌<◌}
use mathlib.Core.Path.{◌≡◌, refl, sym, ap, subst, ◌∙◌}
use mathlib.Core.Bool.{Bool, true, false, cond}
use mathlib.Core.List.{List, [], ◌∷◌, ◌++◌}
use lib.ListN.{length}
use native.Mathlib.Nat.{mod-lt}
use native.Mathlib.Omega.{arith}
use Rattle.length.specs.Claims.{Octets}
use Rattle.length.specs.declared.Reason.{Reason}
use Rattle.format.specs.Spelling.{Letter, bit, octet, spelt, whole, wide}
use Rattle.format.specs.Reading.{found, check}
use Rattle.format.specs.Reading as reading
use Rattle.format.specs.Format.{Format, known, item, guarded, demand, ◌⊳◌, made, sequence_spelt, sequence_fits, sequence_of}
use Rattle.format.proofs.Standing.{Reads, Spells, stepped, passed, reads-bind, reads_made, reads-give, spells-none, spells-join}

-- ---- what may be packed into octets
-- from a place on: each bit is one, each whole octet begins at an octet edge
unfoldable pub Formed : ℕ → List Letter → Type 0
Formed p [] = Unit {0}
Formed p (bit b ∷ letters) = (b < 2) × Formed (1 + p) letters
Formed p (octet x ∷ letters) = (p % 8 ≡ 0) × Formed (8 + p) letters

pub formed-append : (p : ℕ) (a b : List Letter) → Formed p a → Formed (wide a + p) b → Formed p (a ++ b)
unfolding Formed wide
formed-append p [] b x y = let e : 0 + p ≡ p = omega arith in rw e at y
formed-append p (bit c ∷ a) b x y =
    let e : 1 + wide a + p ≡ wide a + (1 + p) = omega arith in
    (x.0, formed-append (1 + p) a b x.1 (rw e at y))
formed-append p (octet c ∷ a) b x y =
    let e : 8 + wide a + p ≡ wide a + (8 + p) = omega arith in
    (x.0, formed-append (8 + p) a b x.1 (rw e at y))

pub formed-none : (p : ℕ) → Formed p []
unfolding Formed
formed-none p = tt

pub formed-spelt : (n v p : ℕ) → Formed p (spelt n v)
unfolding Formed spelt
formed-spelt zero v p = tt
formed-spelt (suc n) v p = (mod-lt (v / 2 ^ n) {m = 2} (omega arith), formed-spelt n v (1 + p))

pub formed-whole : (s : List ℕ) (p : ℕ) → p % 8 ≡ 0 → Formed p (whole s)
unfolding Formed whole
formed-whole [] p edge = tt
formed-whole (x ∷ s) p edge = (edge, formed-whole s (8 + p) (omega arith))

-- ---- the laws
module _ {A : Type 0} where
  -- a value that was read is spelt there
  pub record Back (f : Format A) (s : List ℕ) (p : ℕ) (a : A) (q : ℕ) : Type 0 where
    pub fits : f.fits a p
    pub spells : Spells s p q (f.spelling a p)

  pub record Lawful (f : Format A) : Type 0 where
    pub reads : (a : A) (p : ℕ) → f.fits a p → Reads f.read p a (f.spelling a p)
    pub formed : (a : A) (p : ℕ) → f.fits a p → Formed p (f.spelling a p)
    pub back : (s : List ℕ) (i p : ℕ) (a : A) (q : ℕ) → Octets s → f.read s i p ≡ found a q → Back f s p a q

  pub back-same : {f : Format A} {s : List ℕ} {p : ℕ} {a b : A} {q r : ℕ} → Back f s p a q → a ≡ b → q ≡ r → Back f s p b r
  back-same x is next = rw (← is, ← next) x

  pub lawful-known : (a : A) → Lawful (known a)
  lawful-known a =
      record {
        reads = λ x p is. rw is reads-give;
        formed = λ x p fits. formed-none p;
        back = λ s i p x q small e. record { fits = cc; spells = spells-none (cc) };
      }

  pub lawful-item : {f : Format A} → Lawful f → Lawful (item f)
  lawful-item l =
      record {
        reads = λ a p fits. record { reads = λ s i st. (l.reads a p fits).reads s (p / 8) st };
        formed = λ a p fits. l.formed a p fits;
        back = λ s i p a q small e. let x = l.back s (p / 8) p a q small e in record { fits = x.fits; spells = x.spells };
      }

  pub lawful-guarded : (n : Reason) (test : A → Bool) {f : Format A} → Lawful f → Lawful (guarded n test f)
  lawful-guarded n test {f} l =
      record {
        reads = λ a p fits. record { reads = λ s i st. rw ((l.reads a p fits.0).reads s i st, fits.1) };
        formed = λ a p fits. l.formed a p fits.0;
        back =
            λ s i p a q small e.
            let first = stepped (f.read s i p) _ a q e in
            let second = stepped (check n (test first.value) s i first.at) _ a q first.gave in
            let pass = passed n (test first.value) s i first.at second.value second.at second.was in
            let x = l.back s i p first.value first.at small first.was in
            let is : first.value ≡ a = cc in
            let next : first.at ≡ q = sym pass.stays ∙ (cc) in
            back-same {f = guarded n test f} (record { fits = (x.fits, pass.holds); spells = x.spells }) is next;
      }

pub lawful-demand : (n : Reason) (test : Bool) → Lawful (demand n test)
lawful-demand n test =
    record {
      reads = λ u p fits. rw fits reads-give;
      formed = λ u p fits. formed-none p;
      back =
          λ s i p u q small e.
          let x = passed n test s i p u q e in
          record { fits = x.holds; spells = spells-none (sym x.stays) };
    }

module _ {A B : Type 0} where
  pub lawful_then : {f : Format A} (g : A → Format B) → Lawful f → ((a : A) → Lawful (g a)) → Lawful (f ⊳ g)
  lawful_then {f} g l m =
      record {
        reads =
            λ x p fits.
            reads-bind _ (l.reads x.0 p fits.0)
            (reads_made (λ b. (x.0, b)) ((m x.0).reads x.1 (wide (f.spelling x.0 p) + p) fits.1));
        formed =
            λ x p fits. formed-append p (f.spelling x.0 p) _ (l.formed x.0 p fits.0) ((m x.0).formed x.1 _ fits.1);
        back =
            λ s i p x q small e.
            let first = stepped (f.read s i p) _ x q e in
            let second = stepped ((g first.value).read s i first.at) _ x q first.gave in
            let a = l.back s i p first.value first.at small first.was in
            let b = (m first.value).back s i first.at second.value second.at small second.was in
            let is : (first.value, second.value) ≡ x = cc in
            let next : second.at ≡ q = cc in
            back-same {f = f ⊳ g} (joined first.value second.value a b) is next;
      } where
        joined : {s : List ℕ} {p k q : ℕ} (a : A) (b : B) → Back f s p a k → Back (g a) s k b q → Back (f ⊳ g) s p (a, b) q
        joined {s} {p} {k} {q} a b x y =
            let z : Back (g a) s (wide (f.spelling a p) + p) b q = subst (λ (n : ℕ). Back (g a) s n b q) x.spells.next y in
            record {
              fits = (x.fits, z.fits);
              spells = spells-join (record { stands = x.spells.stands; next = refl }) z.spells;
            }

  pub lawful-made : (to : A → B) (from : B → A) {f : Format A} → ((a : A) (p : ℕ) → f.fits a p → from (to a) ≡ a) → Lawful f
      → Lawful (made to from f)
  lawful-made to from {f} same l =
      record {
        reads = λ b p fits. rw fits.1 at (reads_made to (l.reads (from b) p fits.0));
        formed = λ b p fits. l.formed (from b) p fits.0;
        back =
            λ s i p b q small e.
            let first = stepped (f.read s i p) _ b q e in
            let x = l.back s i p first.value first.at small first.was in
            let is : to first.value ≡ b = cc in
            let next : first.at ≡ q = cc in
            back-same {f = made to from f} (remade first.value (same first.value p x.fits) x) is next;
      } where
        remade : {s : List ℕ} {p q : ℕ} (a : A) → from (to a) ≡ a → Back f s p a q → Back (made to from f) s p (to a) q
        remade {s} {p} {q} a e x =
            let y = subst (λ (z : A). Back f s p z q) (sym e) x in
            record { fits = (y.fits, ap to e); spells = y.spells }

module _ {A : Type 0} where
  -- one of two, by a test that is known
  pub lawful-either : (test : Bool) {f g : Format A} → Lawful f → Lawful g → Lawful (cond test f g)
  lawful-either true l m = l
  lawful-either false l m = m

  sequence-reads : {f : Format A} → Lawful f → (l : List A) (p : ℕ) → sequence_fits f l p
      → Reads (reading.sequence_of (length l) f.read) p l (sequence_spelt f l p)
  unfolding reading.sequence_of sequence_fits sequence_spelt
  sequence-reads {f} law [] p fits = reads-give
  sequence-reads {f} law (a ∷ l) p fits =
      reads-bind _ (law.reads a p fits.0) (reads_made (λ r. a ∷ r) (sequence-reads law l (wide (f.spelling a p) + p) fits.1))

  sequence-formed : {f : Format A} → Lawful f → (l : List A) (p : ℕ) → sequence_fits f l p → Formed p (sequence_spelt f l p)
  unfolding sequence_fits sequence_spelt
  sequence-formed law [] p fits = formed-none p
  sequence-formed {f} law (a ∷ l) p fits =
      formed-append p (f.spelling a p) _ (law.formed a p fits.0) (sequence-formed law l (wide (f.spelling a p) + p) fits.1)

  sequence-back : {f : Format A} → Lawful f → (n : ℕ) (s : List ℕ) (i p : ℕ) (l : List A) (q : ℕ) → Octets s
      → reading.sequence_of n f.read s i p ≡ found l q → Back (sequence_of n f) s p l q
  unfolding reading.sequence_of sequence_fits sequence_spelt
  sequence-back {f} law zero s i p l q small e =
      let is : [] ≡ l = cc in
      let next : p ≡ q = cc in
      back-same {f = sequence_of 0 f} (record { fits = (tt, refl); spells = spells-none refl }) is next
  sequence-back {f} law (suc n) s i p l q small e =
      let first = stepped (f.read s i p) _ l q e in
      let second = stepped (reading.sequence_of n f.read s i first.at) _ l q first.gave in
      let a = law.back s i p first.value first.at small first.was in
      let b = sequence-back law n s i first.at second.value second.at small second.was in
      let is : first.value ∷ second.value ≡ l = cc in
      let next : second.at ≡ q = cc in
      back-same {f = sequence_of (suc n) f} (joined first.value second.value a b) is next where
        joined : {s : List ℕ} {p m q : ℕ} (a : A) (l : List A) → Back f s p a m → Back (sequence_of n f) s m l q
            → Back (sequence_of (suc n) f) s p (a ∷ l) q
        joined {s} {p} {m} {q} a l x y =
            let z : Back (sequence_of n f) s (wide (f.spelling a p) + p) l q
            = subst (λ (k : ℕ). Back (sequence_of n f) s k l q) x.spells.next y in
            record {
              fits = ((x.fits, z.fits.0), ap suc z.fits.1);
              spells = spells-join (record { stands = x.spells.stands; next = refl }) z.spells;
            }

  pub lawful-sequence-of : (n : ℕ) {f : Format A} → Lawful f → Lawful (sequence_of n f)
  lawful-sequence-of n law =
      record {
        reads = λ l p fits. rw fits.1 at (sequence-reads law l p fits.0);
        formed = λ l p fits. sequence-formed law l p fits.0;
        back = λ s i p l q small e. sequence-back law n s i p l q small e;
      }
