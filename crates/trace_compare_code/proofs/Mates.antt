-- The line that another pairs with, found by the numbers alone. Assumes nothing.
use Prim.Native.Nat.{ℕ, zero, suc, ◌≤◌, ◌<◌}
use mathlib.Core.Path.{◌≡◌, refl, sym, ap, ap₂, ◌∙◌}
use mathlib.Core.List.{List, [], ◌∷◌, ◌++◌, map}
use mathlib.Core.Logic.{⊎_elim}
use mathlib.Core.Option.{none, some}
use lib.ListN.{length, get_or, get_elem?, take, drop, take-append-drop}
use native.Mathlib.Omega.{arith}
use Rattle.octets.proofs.Laws.{same_or_not}
use Rattle.trace_compare.specs.Pairing.{TraceLine, number_of_line, having}
use Rattle.trace_compare.proofs.Laws.{having-hit, having-miss, having-none, having-append, kth-seam}
use Rattle.trace_compare_code.specs.Numbers.{often, KthPlace}
use Rattle.trace_compare_code.proofs.DifferencesLaws.{often-none, often-hit, often-miss}

-- ---- the k-th of some
module _ {A : Type 0} where
  pub kth-none : (l : List A) (k : ℕ) → length l ≤ k → get_elem? l k ≡ none
  kth-none [] k past = refl
  kth-none (a ∷ l) zero past = absurd (omega arith)
  kth-none (a ∷ l) (suc k) past = kth-none l k (omega arith)

  pub kth-some : (l : List A) (k : ℕ) → k < length l → (a : A) × (get_elem? l k ≡ some a)
  kth-some [] k there = absurd (omega arith)
  kth-some (a ∷ l) zero there = (a, refl)
  kth-some (a ∷ l) (suc k) there = kth-some l k (omega arith)

  -- what stands from it on, and before the next
  pub kth-drop : (l : List A) (k : ℕ) (a : A) → get_elem? l k ≡ some a → drop k l ≡ a ∷ drop (suc k) l
  kth-drop [] k a e = let z : ◌≡◌ {A = ℕ} 0 1 = cc in absurd (omega arith)
  kth-drop (b ∷ l) zero a e = let same : b ≡ a = cc in ap (λ (x : A). x ∷ l) same
  kth-drop (b ∷ l) (suc k) a e = kth-drop l k a e

  pub kth-take : (l : List A) (k : ℕ) (a : A) → get_elem? l k ≡ some a → take (suc k) l ≡ take k l ++ (a ∷ [])
  kth-take [] k a e = let z : ◌≡◌ {A = ℕ} 0 1 = cc in absurd (omega arith)
  kth-take (b ∷ l) zero a e = let same : b ≡ a = cc in ap (λ (x : A). x ∷ []) same
  kth-take (b ∷ l) (suc k) a e = ap (λ (t : List A). b ∷ t) (kth-take l k a e)

-- ---- the numbers of some lines
pub numbers-long : (lines : List TraceLine) → length (map number_of_line lines) ≡ length lines
numbers-long [] = refl
numbers-long (l ∷ lines) = ap suc (numbers-long lines)

pub numbers-take : (k : ℕ) (lines : List TraceLine) → take k (map number_of_line lines) ≡ map number_of_line (take k lines)
numbers-take zero lines = refl
numbers-take (suc k) [] = refl
numbers-take (suc k) (l ∷ lines) = ap (λ (t : List ℕ). number_of_line l ∷ t) (numbers-take k lines)

pub number_at : (lines : List TraceLine) (k : ℕ) (l : TraceLine) → get_elem? lines k ≡ some l → get_or (map number_of_line lines) k 0 ≡ number_of_line l
number_at [] k l e = let z : ◌≡◌ {A = ℕ} 0 1 = cc in absurd (omega arith)
number_at (m ∷ lines) zero l e = let same : m ≡ l = cc in ap number_of_line same
number_at (m ∷ lines) (suc k) l e = number_at lines k l e

pub often-having : (number : ℕ) (lines : List TraceLine) → often number (map number_of_line lines) ≡ length (having number lines)
often-having number [] = often-none number ∙ sym (ap length (having-none number))
often-having number (l ∷ lines) =
    ⊎_elim
    (λ is.
    often-hit number (number_of_line l) (map number_of_line lines) is
    ∙ ap suc (often-having number lines)
    ∙ sym (ap length (having-hit number l lines is)))
    (λ other.
    often-miss number (number_of_line l) (map number_of_line lines) other
    ∙ often-having number lines
    ∙ sym (ap length (having-miss number l lines other)))
    (same_or_not (number_of_line l) number)

-- ---- the line with k of its number before it
module _ (lines : List TraceLine) (number : ℕ) {k j : ℕ} (p : KthPlace (map number_of_line lines) number k j) where
  pub mate-none : length (map number_of_line lines) ≤ j → get_elem? (having number lines) k ≡ none
  mate-none past =
      let few = p.missing past in
      kth-none (having number lines) k (omega (arith, often-having number lines))

  pub mate-some : j < length (map number_of_line lines)
      → (m : TraceLine) × (get_elem? lines j ≡ some m) × (get_elem? (having number lines) k ≡ some m)
  mate-some there =
      let found = p.found there in
      let m = kth-some lines j (omega (arith, numbers-long lines)) in
      let is : number_of_line m.0 ≡ number = sym (number_at lines j m.0 m.1) ∙ found.0 in
      let front = having number (take j lines) in
      let behind = having number (drop (suc j) lines) in
      let count : length front ≡ k =
      sym (often-having number (take j lines)) ∙ ap (often number) (sym (numbers-take j lines)) ∙ found.1 in
      let all : having number lines ≡ front ++ m.0 ∷ behind =
      ap (having number) (sym (take-append-drop j lines) ∙ ap (λ (t : List TraceLine). take j lines ++ t) (kth-drop lines j m.0 m.1))
      ∙ having-append number (take j lines) (m.0 ∷ drop (suc j) lines)
      ∙ ap (λ (t : List TraceLine). front ++ t) (having-hit number m.0 (drop (suc j) lines) is) in (
        m.0,
        m.1,
        ap₂ (λ (h : List TraceLine) (n : ℕ). get_elem? h n) all (sym count) ∙ kth-seam front m.0 behind,
      )
