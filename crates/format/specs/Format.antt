-- A format: how a value is read at a place, how it is spelt there, and when it may be spelt there. A description is a combination of the
-- formats here, so that it says both what is read and what is written (rules 2.28, 5.2 and 5.3). Definitions only.
use Rattle.std.specs.Prelude.{ℕ, zero, ◌+◌, ◌*◌, ◌/◌, ◌%◌, ◌^◌, ◌≤◌, ◌<◌, ◌≡◌, Bool, true, cond, List, [], ◌∷◌, ◌++◌, length, get_or, take, leb, ltb}
use Rattle.length.specs.Refusals.{refusal, ends_early, outside_sizes}
use Rattle.length.specs.Answers.{Answer, done, refused, LengthAnswer}
use Rattle.length.specs.Length.{within, length_within, length_octets, length_limit}
use Rattle.length.specs.declared.Reason.{Reason}
use Rattle.format.specs.Spelling.{Letter, bit, spelt, whole, wide, gap}
use Rattle.format.specs.Reading.{Finding, found, stopped, Reader, give, ◌>>=◌, check}
use Rattle.format.specs.Reading as reading

infixr 2 ◌⊳◌
pub record Format (A : Type 0) : Type 1 where
  pub read : Reader A
  pub spelling : A → ℕ → List Letter
  pub fits : A → ℕ → Type 0

-- ---- bits
abbrev pub flag_bit : Bool → ℕ
flag_bit flag = cond flag 1 0

abbrev pub flag : Format Bool
flag = record { read = reading.flag; spelling = λ b p. bit (flag_bit b) ∷ []; fits = λ b p. Unit {0} }

-- a number in n bits
abbrev pub bits : ℕ → Format ℕ
bits n = record { read = reading.bits n; spelling = λ v p. spelt n v; fits = λ v p. v < 2 ^ n }

-- to an octet edge, by zero bits (rule 5.3)
abbrev pub align : Format (Unit {0})
align = record { read = reading.align; spelling = λ u p. spelt (gap p) 0; fits = λ u p. Unit {0} }

-- the octet that a place is in
abbrev pub here : Format ℕ
here = record { read = λ s i p. found (p / 8) p; spelling = λ x p. []; fits = λ x p. x ≡ p / 8 }

-- ---- whole octets, from an octet edge on
module _ {A : Type 0} where
  -- what `front` finds at the front of some octets, written as `octets` says
  abbrev pub octetwise : (List ℕ → Finding A) → (A → List ℕ) → (A → Type 0) → Format A
  octetwise front octets right = record {
    read = do
      _ ← reading.align
      reading.item (reading.octetwise front);
    spelling = λ a p. spelt (gap p) 0 ++ whole (octets a);
    fits = λ a p. right a;
  }

-- n octets
unfoldable pub octets_front : ℕ → List ℕ → Finding (List ℕ)
octets_front n s = cond (ltb (length s) n) (stopped (refusal ends_early)) (found (take n s) n)

abbrev pub octets : ℕ → Format (List ℕ)
octets n = octetwise (octets_front n) (λ l. l) (λ l. length l ≡ n)

-- a number in two octets, the high one first, that is not over its size; the test is a part of its item (rules 2.28 and 6.9)
unfoldable pub two_front : ℕ → List ℕ → Finding ℕ
two_front most s =
    let value = get_or s 0 0 * 256 + get_or s 1 0 in
    cond (ltb (length s) 2) (stopped (refusal ends_early)) (cond (leb value most) (found value 2) (stopped (refusal outside_sizes)))

abbrev pub two_octets : ℕ → Format ℕ
two_octets most = octetwise (two_front most) (λ v. (v / 256) ∷ (v % 256) ∷ []) (λ v. v ≤ most)

-- a length or count by the length rule, within its sizes (rules 3.1 to 3.6)
abbrev pub length_found : Answer LengthAnswer → Finding ℕ
length_found (done a) = found a.value a.size
length_found (refused r) = stopped r

abbrev pub length_rule : ℕ → ℕ → Format ℕ
length_rule least most =
    octetwise (λ s. length_found (length_within least most s)) length_octets (λ n. (n ≤ length_limit) × (within least most n ≡ true))

-- ---- together
module _ {A : Type 0} where
  -- takes no bits: the value is known
  abbrev pub known : A → Format A
  known a = record { read = give a; spelling = λ x p. []; fits = λ x p. x ≡ a }

  -- an item begins here (rule 2.27)
  abbrev pub item : Format A → Format A
  item f = record { read = reading.item f.read; spelling = f.spelling; fits = f.fits }

  -- what passes a test; otherwise it is refused for this reason
  abbrev pub guarded : Reason → (A → Bool) → Format A → Format A
  guarded why test f = record {
    read = do
      a ← f.read
      _ ← check why (test a)
      give a;
    spelling = f.spelling;
    fits = λ a p. (f.fits a p) × (test a ≡ true);
  }

-- goes on if a test holds; otherwise it is refused for this reason
abbrev pub demand : Reason → Bool → Format (Unit {0})
demand why test = record { read = check why test; spelling = λ u p. []; fits = λ u p. test ≡ true }

module _ {A B : Type 0} where
  -- one after the other
  abbrev pub ◌⊳◌ : Format A → (A → Format B) → Format (A × B)
  ◌⊳◌ f g = record {
    read = do
      a ← f.read
      b ← (g a).read
      give (a, b);
    spelling = λ x p. f.spelling x.0 p ++ (g x.0).spelling x.1 (wide (f.spelling x.0 p) + p);
    fits = λ x p. (f.fits x.0 p) × ((g x.0).fits x.1 (wide (f.spelling x.0 p) + p));
  }

  -- the same, as values of another type: `to` that type, and `from` it back
  abbrev pub made : (A → B) → (B → A) → Format A → Format B
  made to from f = record {
    read = do
      a ← f.read
      give (to a);
    spelling = λ b p. f.spelling (from b) p;
    fits = λ b p. (f.fits (from b) p) × (to (from b) ≡ b);
  }

-- n of the same, one after the other
module _ {A : Type 0} where
  unfoldable pub sequence_spelt : Format A → List A → ℕ → List Letter
  sequence_spelt f [] p = []
  sequence_spelt f (a ∷ l) p = f.spelling a p ++ sequence_spelt f l (wide (f.spelling a p) + p)

  unfoldable pub sequence_fits : Format A → List A → ℕ → Type 0
  sequence_fits f [] p = Unit {0}
  sequence_fits f (a ∷ l) p = (f.fits a p) × (sequence_fits f l (wide (f.spelling a p) + p))

  abbrev pub sequence_of : ℕ → Format A → Format (List A)
  sequence_of n f = record {
    read = reading.sequence_of n f.read;
    spelling = sequence_spelt f;
    fits = λ l p. (sequence_fits f l p) × (length l ≡ n);
  }
