-- The lines of one number, in their order, and the line that another pairs with. Assumes nothing.
use Prim.Native.Nat.{ℕ, zero, suc, ◌+◌}
use mathlib.Core.Path.{◌≡◌, refl, sym, ap, ap₂, ◌∙◌}
use mathlib.Core.Bool.{Bool, cond}
use mathlib.Core.List.{List, [], ◌∷◌, ◌++◌}
use mathlib.Core.Logic.{◌⊎◌, inl, inr, ⊎_elim}
use mathlib.Core.Option.{Option, none, some}
use lib.ListN.{length, drop, get_elem?, length-append}
use native.Mathlib.Nat.{add-zero}
use native.Mathlib.Numerals.{add-one}
use borrow.Author.Tests.{eq-eqb, ne_eqb}
use Rattle.octets.proofs.Laws.{same_or_not}
use Rattle.trace_compare.specs.Pairing.{TraceLine, number_of_line, having, mate, Pair}
use Rattle.trace_compare.specs.Claims.{Mates}

-- ---- one line more
pub having-hit : (number : ℕ) (l : TraceLine) (lines : List TraceLine) → number_of_line l ≡ number
    → having number (l ∷ lines) ≡ l ∷ having number lines
unfolding having
having-hit number l lines is =
    ap (λ (b : Bool). cond b (l ∷ having number lines) (having number lines)) (eq-eqb (number_of_line l) number is)

pub having-miss : (number : ℕ) (l : TraceLine) (lines : List TraceLine) → (number_of_line l ≡ number → ⊥)
    → having number (l ∷ lines) ≡ having number lines
unfolding having
having-miss number l lines not =
    ap (λ (b : Bool). cond b (l ∷ having number lines) (having number lines)) (ne_eqb (number_of_line l) number not)

pub having-none : (number : ℕ) → having number [] ≡ []
unfolding having
having-none number = refl

pub having-append : (number : ℕ) (lines more : List TraceLine) → having number (lines ++ more) ≡ having number lines ++ having number more
having-append number [] more = ap (λ (h : List TraceLine). h ++ having number more) (sym (having-none number))
having-append number (l ∷ lines) more =
    ⊎_elim
    (λ is.
    having-hit number l (lines ++ more) is
    ∙ ap (λ (h : List TraceLine). l ∷ h) (having-append number lines more)
    ∙ ap (λ (h : List TraceLine). h ++ having number more) (sym (having-hit number l lines is)))
    (λ not.
    having-miss number l (lines ++ more) not
    ∙ having-append number lines more
    ∙ ap (λ (h : List TraceLine). h ++ having number more) (sym (having-miss number l lines not)))
    (same_or_not (number_of_line l) number)

-- one more at the end counts, if it has the number
pub count-hit : (number : ℕ) (before : List TraceLine) (l : TraceLine) → number_of_line l ≡ number
    → length (having number (before ++ (l ∷ []))) ≡ suc (length (having number before))
count-hit number before l is =
    ap length
    (having-append number before (l ∷ [])
    ∙ ap (λ (h : List TraceLine). having number before ++ h)
    (having-hit number l [] is ∙ ap (λ (h : List TraceLine). l ∷ h) (having-none number)))
    ∙ length-append (having number before) (l ∷ [])
    ∙ add-one (length (having number before))

pub count-miss : (number : ℕ) (before : List TraceLine) (l : TraceLine) → (number_of_line l ≡ number → ⊥)
    → length (having number (before ++ (l ∷ []))) ≡ length (having number before)
count-miss number before l not =
    ap length
    (having-append number before (l ∷ [])
    ∙ ap (λ (h : List TraceLine). having number before ++ h) (having-miss number l [] not ∙ having-none number))
    ∙ length-append (having number before) []
    ∙ add-zero (length (having number before))

-- ---- each of them has the number
abbrev pub Of : ℕ → List TraceLine → Type 0
Of number [] = Unit {0}
Of number (l ∷ lines) = (number_of_line l ≡ number) × Of number lines

pub having-of : (number : ℕ) (lines : List TraceLine) → Of number (having number lines)
having-of number [] = rw (having-none number) tt
having-of number (l ∷ lines) =
    ⊎_elim
    (λ is. rw (having-hit number l lines is) (is, having-of number lines))
    (λ not. rw (having-miss number l lines not) (having-of number lines))
    (same_or_not (number_of_line l) number)

-- ---- the k-th of some
module _ {A : Type 0} where
  -- what is there from the k-th on begins with it
  pub kth-left : (k : ℕ) (l : List A) → ((get_elem? l k ≡ none) × (drop k l ≡ []) × (drop (suc k) l ≡ []))
      ⊎ ((a : A) × (get_elem? l k ≡ some a) × (drop k l ≡ a ∷ drop (suc k) l))
  kth-left zero [] = inl (refl, refl, refl)
  kth-left (suc k) [] = inl (refl, refl, refl)
  kth-left zero (a ∷ l) = inr (a, refl, refl)
  kth-left (suc k) (a ∷ l) = kth-left k l

  -- the one behind some others
  pub kth-seam : (before : List A) (a : A) (after : List A) → get_elem? (before ++ a ∷ after) (length before) ≡ some a
  kth-seam [] a after = refl
  kth-seam (b ∷ before) a after = kth-seam before a after

-- ---- the line that is looked for is the one that pairs
pub mates : Mates
mates before after second l m e =
    let number = number_of_line l in
    record {
      number = number;
      k = length (having number before);
      left =
          ap (λ (h : List TraceLine). get_elem? h (length (having number before)))
          (having-append number before (l ∷ after)
          ∙ ap (λ (h : List TraceLine). having number before ++ h) (having-hit number l after refl))
          ∙ kth-seam (having number before) l (having number after);
      right = e;
    }
