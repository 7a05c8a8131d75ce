-- Formats in whole octets: each is lawful, is written as octets one after the other wherever it begins at an octet edge, and these are
-- octets. One law for each way to put parts together. Assumes nothing.
use Prim.Native.Nat.{ℕ, suc, ◌+◌, ◌-◌, ◌*◌, ◌%◌}
use mathlib.Core.Path.{◌≡◌, refl, sym, ap, ap₂, ◌∙◌}
use mathlib.Core.Bool.{Bool}
use mathlib.Core.List.{List, [], ◌∷◌, ◌++◌, append-nil}
use lib.ListN.{length}
use lib.Dec.{eqb}
use native.Mathlib.Omega.{arith}
use borrow.Author.Tests.{eq-eqb, eqb-true}
use Rattle.length.specs.Refusals.{bad_image}
use Rattle.length.specs.Answers.{done}
use Rattle.length.specs.Claims.{Octets}
use Rattle.length.proofs.Laws.{not_done, cond-met, done-same, octets-cons, octets-none}
use Rattle.length.specs.declared.Reason.{Reason}
use Rattle.format.specs.Spelling.{Letter, octet, whole, wide, spelt, gap, packed, in_octets}
use Rattle.format.specs.Reading.{Finding, found, stopped}
use Rattle.format.specs.Format.{Format, octetwise, guarded, ◌⊳◌, made, sequence_spelt, sequence_fits, sequence_of}
use Rattle.format.proofs.Laws.{wide-whole, packed-whole, written-found, found-written, Fronts, lawful-octetwise, Lawful, lawful-guarded}
use Rattle.format.proofs.Laws.{lawful_then, lawful-made, lawful-sequence-of}
use Rattle.image.specs.Octets.{in_row}
use Rattle.image.specs.Parts.{octets_for, up_to, read_whole}

-- ---- octets
pub octets-append : (a b : List ℕ) → Octets a → Octets b → Octets (a ++ b)
octets-append [] b x y = y
octets-append (o ∷ a) b x y = octets-cons o (a ++ b) (x 0) (octets-append a b (λ i. x (suc i)) y)

whole_append : (a b : List ℕ) → whole a ++ whole b ≡ whole (a ++ b)
unfolding whole
whole_append [] b = refl
whole_append (o ∷ a) b = ap (λ (l : List Letter). octet o ∷ l) (whole_append a b)

-- from an octet edge to the next
edge_on : (l : List ℕ) (p : ℕ) → p % 8 ≡ 0 → (wide (whole l) + p) % 8 ≡ 0
edge_on l p edge = omega (arith, wide-whole l)

no_gap : (p : ℕ) → p % 8 ≡ 0 → spelt (gap p) 0 ≡ []
unfolding spelt
no_gap p edge = rw edge

-- ---- the laws
module _ {A : Type 0} where
  pub record Plain (f : Format A) (octs : A → List ℕ) : Type 0 where
    pub lawful : Lawful f
    pub written : (a : A) (p : ℕ) → p % 8 ≡ 0 → f.spelling a p ≡ whole (octs a)
    pub small : (a : A) (p : ℕ) → f.fits a p → Octets (octs a)

  pub plain-octetwise : {front : List ℕ → Finding A} {octs : A → List ℕ} {right : A → Type 0} → Fronts front octs right
      → ((a : A) → right a → Octets (octs a)) → Plain (octetwise front octs right) octs
  plain-octetwise {front} {octs} {right} fronts small =
      record {
        lawful = lawful-octetwise fronts;
        written = λ a p edge. rw (no_gap p edge);
        small = λ a p fits. small a fits;
      }

  pub plain-guarded : (n : Reason) (test : A → Bool) {f : Format A} {octs : A → List ℕ} → Plain f octs → Plain (guarded n test f) octs
  plain-guarded n test x =
      record {
        lawful = lawful-guarded n test x.lawful;
        written = λ a p edge. x.written a p edge;
        small = λ a p fits. x.small a p fits.0;
      }

  -- so many of the same, one after the other
  row-spelt : {f : Format A} {octs : A → List ℕ} → Plain f octs → (l : List A) (p : ℕ) → p % 8 ≡ 0
      → sequence_spelt f l p ≡ whole (in_row octs l)
  unfolding sequence_spelt in_row whole
  row-spelt {f} {octs} x [] p edge = refl
  row-spelt {f} {octs} x (a ∷ l) p edge =
      rw (x.written a p edge, row-spelt x l (wide (whole (octs a)) + p) (edge_on (octs a) p edge)) (whole_append (octs a) (in_row octs l))

  row_small : {f : Format A} {octs : A → List ℕ} → Plain f octs → (l : List A) (p : ℕ) → sequence_fits f l p → Octets (in_row octs l)
  unfolding sequence_fits in_row
  row_small x [] p fits = octets-none
  row_small {f} {octs} x (a ∷ l) p fits = octets-append (octs a) (in_row octs l) (x.small a p fits.0) (row_small x l _ fits.1)

module _ {A : Type 0} where
  pub plain_row : (n : ℕ) {f : Format A} {octs : A → List ℕ} → Plain f octs → Plain (sequence_of n f) (in_row octs)
  plain_row n x =
      record {
        lawful = lawful-sequence-of n x.lawful;
        written = λ l p edge. row-spelt x l p edge;
        small = λ l p fits. row_small x l p fits.0;
      }

module _ {A B : Type 0} where
  pub plain_then : {f : Format A} (g : A → Format B) {first : A → List ℕ} (second : A → B → List ℕ) → Plain f first
      → ((a : A) → Plain (g a) (second a)) → Plain (f ⊳ g) (λ x. first x.0 ++ second x.0 x.1)
  plain_then {f} g {first} second x y =
      record {
        lawful = lawful_then g x.lawful (λ a. (y a).lawful);
        written =
            λ a p edge.
            rw (x.written a.0 p edge, (y a.0).written a.1 (wide (whole (first a.0)) + p) (edge_on (first a.0) p edge))
            (whole_append (first a.0) (second a.0 a.1));
        small =
            λ a p fits.
            octets-append (first a.0) (second a.0 a.1) (x.small a.0 p fits.0) ((y a.0).small a.1 _ fits.1);
      }

  pub plain-made : (to : A → B) (from : B → A) {f : Format A} {octs : A → List ℕ}
      → ((a : A) (p : ℕ) → f.fits a p → from (to a) ≡ a) → Plain f octs → Plain (made to from f) (λ b. octs (from b))
  plain-made to from same x =
      record {
        lawful = lawful-made to from same x.lawful;
        written = λ b p edge. x.written (from b) p edge;
        small = λ b p fits. x.small (from b) p fits.0;
      }

-- ---- the whole of some octets
module _ {A : Type 0} {f : Format A} {octs : A → List ℕ} (x : Plain f octs) where
  -- what is written of a value
  pub octets-for : (a : A) → octets_for f a ≡ octs a
  unfolding packed
  octets-for a =
      ap in_octets (x.written a 0 refl ∙ sym (append-nil (whole (octs a)))) ∙ packed-whole (octs a) [] ∙ append-nil (octs a)

  -- what was written reads
  pub whole-reads : (a : A) → f.fits a 0 → read_whole f (octets_for f a) ≡ done a
  unfolding read_whole
  whole-reads a fits =
      let o = octets_for f a in
      let edge : wide (f.spelling a 0) % 8 ≡ 0 = rw (x.written a 0 refl) (omega (arith, wide-whole (octs a))) in
      let all : f.read (octets_for f a) 0 0 ≡ found a (8 * length (octets_for f a))
      = rw (append-nil (octets_for f a)) at (written-found x.lawful a 0 [] fits edge) in
      rw (all, eq-eqb (8 * length o) (8 * length o) refl)

  -- and what reads was written so
  pub reads_whole : (s : List ℕ) (a : A) → Octets s → read_whole f s ≡ done a → (f.fits a 0) × (octets_for f a ≡ s)
  unfolding read_whole
  reads_whole s a small e = by (f.read s 0 0) refl e where
    by : (r : Finding A) → f.read s 0 0 ≡ r → up_to (length s) r ≡ done a → (f.fits a 0) × (octets_for f a ≡ s)
    by (found b p) was e =
        let met = cond-met (eqb p (8 * length s)) bad_image (done b) a e in
        let is : b ≡ a = done-same met.1 in
        found-written x.lawful s 0 a small (was ∙ ap₂ (λ (c : A) (q : ℕ). found c q) is (eqb-true p (8 * length s) met.0))
    by (stopped why) was e = absurd (not_done e)
