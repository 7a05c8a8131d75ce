-- Each form of an item of a datagram: octets either are it as it must be, or are wrong for one reason, and never both. A function
-- tells which, in the words of the datagram reader; what is right and each row of what is wrong agrees with it. Assumes nothing.
use Prim.Native.Nat.{ℕ, ◌+◌, ◌/◌, ◌%◌, ◌≤◌, ◌<◌}
use mathlib.Core.Path.{◌≡◌, refl, sym, ap, ◌∙◌}
use mathlib.Core.Logic.{◌⊎◌, inl, inr, ⊎_elim}
use mathlib.Core.Bool.{cond}
use mathlib.Core.List.{List, [], ◌∷◌, ◌++◌}
use lib.ListN.{length, take, drop, take-append-drop, length-append}
use lib.Seq.{length-take-le}
use lib.Dec.{ltb, eqb}
use native.Mathlib.Omega.{arith}
use borrow.Author.Tests.{lt-ltb, le-ltb, le-leb, lt-leb, ne_eqb}
use Rattle.octets.proofs.Laws.{below_or_not, same_or_not}
use Rattle.length.specs.Refusals.{ends_early, outside_sizes, spare_bit, left_over}
use Rattle.length.specs.Answers.{Answer, done, refuse, ◌>>=◌, LengthAnswer}
use Rattle.length.specs.Length.{length_at, length_octets, length_limit, of_two, allowed}
use Rattle.length.specs.Claims.{Octets}
use Rattle.length.proofs.Laws.{length_octets-one, length_octets-two, written-reads, allowed-sizes}
use Rattle.length.specs.declared.Reason.{Reason}
use Rattle.demands.specs.Demand1.DatagramItems.{Form, many, sized, plain, flag, nothing, Right, right_octets, right_size, right_octet}
use Rattle.demands.specs.Demand1.DatagramItems.{right_spares, right_parity}
use Rattle.demands.specs.Demand1.DatagramRefusals.{Wrong, few_octets, no_size, cut_size, no_octet, no_flag, high_size, long_size}
use Rattle.demands.specs.Demand1.DatagramRefusals.{other_size}
use Rattle.demands.specs.Demand1.DatagramRefusals.{other_octet, low_bits, more_octets}

-- ---- as the reader tells
abbrev pub found : ℕ → ℕ → Answer LengthAnswer
found v n = done (record { value = v; size = n })

abbrev pub one_at : List ℕ → (ℕ → Answer LengthAnswer) → Answer LengthAnswer
one_at [] test = refuse ends_early
one_at (first ∷ rest) test = test first

abbrev pub flag_of : ℕ → Answer LengthAnswer
flag_of first = cond (eqb (first % 0x80) 0) (found first 1) (refuse spare_bit)

unfoldable pub form_at : Form → List ℕ → Answer LengthAnswer
form_at (many n) rest = cond (ltb (length rest) n) (refuse ends_early) (found 0 n)
form_at (sized least most) rest = ◌>>=◌ (length_at rest) (allowed least most)
form_at (plain least most) rest = one_at rest (λ first. allowed least most (record { value = first; size = 1 }))
form_at flag rest = one_at rest flag_of
form_at nothing rest = cond (ltb 0 (length rest)) (refuse left_over) (found 0 0)

-- ---- outside the sizes
pub allowed-outside : (least most v n : ℕ) → (v < least) ⊎ (most < v)
    → allowed least most (record { value = v; size = n }) ≡ refuse outside_sizes
unfolding allowed
allowed-outside least most v n (inl low) = rw (lt-leb least v low)
allowed-outside least most v n (inr high) =
    ⊎_elim (λ low. rw (lt-leb least v low)) (λ fits. rw (le-leb least v fits, lt-leb v most high)) (below_or_not v least)

-- ---- what is right
-- the largest value of a length or count, which its two octets can hold
abbrev pub most_in : Form → ℕ
most_in (many n) = 0
most_in (sized least most) = most
most_in (plain least most) = 0
most_in flag = 0
most_in nothing = 0

pub right-at : {f : Form} {x : List ℕ} {v : ℕ} → most_in f ≤ length_limit → Right f x v → (t : List ℕ)
    → form_at f (x ++ t) ≡ found v (length x)
unfolding form_at
right-at fits (right_octets {n} {x} is) t =
    rw (le-ltb (length (x ++ t)) n (omega (arith, length-append x t))) (ap (found 0) (sym is))
right-at fits (right_size {least} {most} {value = v} low high) t =
    rw (written-reads v t (omega arith)) (allowed-sizes least most (record { value = v; size = length (length_octets v) }) low high)
right-at fits (right_octet {least} {most} {value = v} low high) t = allowed-sizes least most (record { value = v; size = 1 }) low high
right-at fits right_spares t = refl
right-at fits right_parity t = refl

-- ---- what is wrong, row by row
abbrev Told : {f : Form} {rest : List ℕ} {n : Reason} → Wrong f rest n → Type 0
Told {f} {rest} {n} w = form_at f rest ≡ refuse n

module _ (least most : ℕ) where
  no_size_lem : Told (no_size {least = least} {most = most})
  unfolding form_at length_at
  no_size_lem = refl

  cut-size : {first : ℕ} (low : 0x80 ≤ first) (high : first < 0xC0) → Told (cut_size {least = least} {most = most} low high)
  unfolding form_at length_at
  cut-size {first} low high = rw (le-ltb first 0x80 low, lt-leb 0xC0 first high)

  high-size : {first : ℕ} (rest : List ℕ) (high : 0xC0 ≤ first) → Told (high_size {least = least} {most = most} {rest = rest} high)
  unfolding form_at length_at
  high-size {first} rest high =
      rw (le-ltb (length (first ∷ rest)) 1 (omega arith), le-ltb first 0x80 (omega arith), le-leb 0xC0 first high)

  long-size : {second : ℕ} (rest : List ℕ) (small : second < 0x80) → Told (long_size {least = least} {most = most} {rest = rest} small)
  unfolding form_at length_at
  long-size {second} rest small =
      rw (
        le-ltb (length (0x80 ∷ second ∷ rest)) 1 (omega arith),
        le-ltb (length (0x80 ∷ second ∷ rest)) 2 (omega arith),
        lt-ltb (of_two 0x80 second) 0x80 (omega arith),
      )

  other-size : {value : ℕ} (rest : List ℕ) (out : (value < least) ⊎ (most < value)) (fits : value ≤ length_limit)
      → Told (other_size rest out fits)
  unfolding form_at
  other-size {value} rest out fits =
      rw (written-reads value rest fits) (allowed-outside least most value (length (length_octets value)) out)

  no-octet : Told (no_octet {least = least} {most = most})
  unfolding form_at
  no-octet = refl

  other-octet : {value : ℕ} (rest : List ℕ) (out : (value < least) ⊎ (most < value)) → Told (other_octet {rest = rest} out)
  unfolding form_at
  other-octet {value} rest out = allowed-outside least most value 1 out

few-octets : {n : ℕ} (rest : List ℕ) (few : length rest < n) → Told (few_octets {rest = rest} few)
unfolding form_at
few-octets {n} rest few = rw (lt-ltb (length rest) n few)

no_flag_lem : Told no_flag
unfolding form_at
no_flag_lem = refl

low-bits : (first : ℕ) (rest : List ℕ) (set : 0 < first % 0x80) → Told (low_bits {rest = rest} set)
unfolding form_at
low-bits first rest set = rw (ne_eqb (first % 0x80) 0 (λ e. omega arith))

more-octets : (first : ℕ) (rest : List ℕ) → Told (more_octets {first = first} {rest = rest})
unfolding form_at
more-octets first rest = rw (lt-ltb 0 (length (first ∷ rest)) (omega arith))

pub wrong-at : {f : Form} {rest : List ℕ} {n : Reason} → Wrong f rest n → form_at f rest ≡ refuse n
wrong-at (few_octets {rest = rest} few) = few-octets rest few
wrong-at (no_size {least} {most}) = no_size_lem least most
wrong-at (cut_size {least} {most} low high) = cut-size least most low high
wrong-at (no_octet {least} {most}) = no-octet least most
wrong-at no_flag = no_flag_lem
wrong-at (high_size {least} {most} {rest = rest} high) = high-size least most rest high
wrong-at (long_size {least} {most} {rest = rest} small) = long-size least most rest small
wrong-at (other_size {least} {most} rest out fits) = other-size least most rest out fits
wrong-at (other_octet {least} {most} {rest = rest} out) = other-octet least most rest out
wrong-at (low_bits {first} {rest} set) = low-bits first rest set
wrong-at (more_octets {first} {rest}) = more-octets first rest

-- ---- one of the two
pub data Stands (f : Form) (rest : List ℕ) : Answer LengthAnswer → Type 0 where
  right : {x : List ℕ} {v n : ℕ} (t : List ℕ) → Right f x v → rest ≡ x ++ t → length x ≡ n → Stands f rest (found v n)
  wrong : {n : Reason} → Wrong f rest n → Stands f rest (refuse n)

pub octets-stand : (n : ℕ) (rest : List ℕ) → Stands (many n) rest (form_at (many n) rest)
unfolding form_at
octets-stand n rest =
    ⊎_elim (λ few. rw (lt-ltb (length rest) n few) (wrong (few_octets few)))
    (λ enough.
    let long = length-take-le n rest enough in
    rw (le-ltb (length rest) n enough) (right {x = take n rest} (drop n rest) (right_octets long) (sym (take-append-drop n rest)) long))
    (below_or_not (length rest) n)

allowed-stands : (f : Form) (rest x t : List ℕ) (least most v n : ℕ) → rest ≡ x ++ t → length x ≡ n
    → (least ≤ v → v ≤ most → Right f x v) → ((v < least) ⊎ (most < v) → Wrong f rest outside_sizes)
    → Stands f rest (allowed least most (record { value = v; size = n }))
allowed-stands f rest x t least most v n is long fits out =
    ⊎_elim (λ low. outside (inl low))
    (λ low. ⊎_elim (λ high. outside (inr high))
    (λ high. rw (allowed-sizes least most (record { value = v; size = n }) low high) (right t (fits low high) is long))
    (below_or_not most v))
    (below_or_not v least) where
      outside : (v < least) ⊎ (most < v) → Stands f rest (allowed least most (record { value = v; size = n }))
      outside o = rw (allowed-outside least most v n o) (wrong (out o))

pub octet-stands : (least most : ℕ) (rest : List ℕ) → Stands (plain least most) rest (form_at (plain least most) rest)
unfolding form_at
octet-stands least most [] = wrong no_octet
octet-stands least most (v ∷ t) =
    allowed-stands (plain least most) (v ∷ t) (v ∷ []) t least most v 1 refl refl (λ low high. right_octet low high) (λ out. other_octet out)

-- a length or count that has its form
sized-stands : (least most n : ℕ) (rest t : List ℕ) → rest ≡ length_octets n ++ t → n ≤ length_limit
    → Stands (sized least most) rest (form_at (sized least most) rest)
unfolding form_at
sized-stands least most n rest t is fits =
    rw (is, written-reads n t fits)
    (allowed-stands (sized least most) (length_octets n ++ t) (length_octets n) t least most n (length (length_octets n)) refl refl
    (λ low high. right_size low high) (λ out. other_size t out fits))

size-one : (least most first : ℕ) (rest : List ℕ) → first < 0x80
    → Stands (sized least most) (first ∷ rest) (form_at (sized least most) (first ∷ rest))
size-one least most first rest small =
    sized-stands least most first (first ∷ rest) rest (ap (λ (l : List ℕ). l ++ rest) (sym (length_octets-one first small))) (omega arith)

size-high : (least most first : ℕ) (rest : List ℕ) → 0xC0 ≤ first
    → Stands (sized least most) (first ∷ rest) (form_at (sized least most) (first ∷ rest))
size-high least most first rest high = rw (high-size least most rest high) (wrong (high_size high))

pub two-octets : (first second : ℕ) → second < 256 → 0x80 ≤ first → first < 0xC0 → 0x80 ≤ of_two first second
    → length_octets (of_two first second) ≡ first ∷ second ∷ []
two-octets first second octet low high large =
    let upper : of_two first second / 256 + 0x80 ≡ first = omega arith in
    let lower : of_two first second % 256 ≡ second = omega arith in
    length_octets-two (of_two first second) large ∙ rw (upper, lower)

size-two : (least most first second : ℕ) (rest : List ℕ) → second < 256 → 0x80 ≤ first → first < 0xC0
    → Stands (sized least most) (first ∷ second ∷ rest) (form_at (sized least most) (first ∷ second ∷ rest))
size-two least most first second rest octet low high =
    ⊎_elim short
    (λ large.
    sized-stands least most (of_two first second) (first ∷ second ∷ rest) rest
    (ap (λ (l : List ℕ). l ++ rest) (sym (two-octets first second octet low high large))) (omega arith))
    (below_or_not (of_two first second) 0x80) where
      short : of_two first second < 0x80
          → Stands (sized least most) (first ∷ second ∷ rest) (form_at (sized least most) (first ∷ second ∷ rest))
      short less =
          let is : first ≡ 0x80 = omega arith in
          let small : second < 0x80 = omega arith in
          rw (is, long-size least most rest small) (wrong (long_size small))

pub size-stands : (least most : ℕ) (rest : List ℕ) → Octets rest → Stands (sized least most) rest (form_at (sized least most) rest)
unfolding form_at length_at
size-stands least most [] octets = wrong no_size
size-stands least most (first ∷ []) octets =
    ⊎_elim (λ small. size-one least most first [] small)
    (λ low.
    ⊎_elim (λ high. rw (cut-size least most low high) (wrong (cut_size low high))) (λ high. size-high least most first [] high)
    (below_or_not first 0xC0))
    (below_or_not first 0x80)
size-stands least most (first ∷ second ∷ rest) octets =
    ⊎_elim (λ small. size-one least most first (second ∷ rest) small)
    (λ low.
    ⊎_elim (λ high. size-two least most first second rest (octets 1) low high) (λ high. size-high least most first (second ∷ rest) high)
    (below_or_not first 0xC0))
    (below_or_not first 0x80)

pub flag-stands : (rest : List ℕ) → Octets rest → Stands flag rest (form_at flag rest)
unfolding form_at
flag-stands [] octets = wrong no_flag
flag-stands (first ∷ rest) octets =
    ⊎_elim (λ clear. ⊎_elim (zero clear) (eighty clear) (below_or_not first 0x80))
    (λ set. let bits : 0 < first % 0x80 = omega arith in rw (low-bits first rest bits) (wrong (low_bits {first = first} bits)))
    (same_or_not (first % 0x80) 0) where
      zero : first % 0x80 ≡ 0 → first < 0x80 → Stands flag (first ∷ rest) (flag_of first)
      zero clear low =
          let is : first ≡ 0x00 = omega arith in
          rw is (right rest right_spares refl refl)

      eighty : first % 0x80 ≡ 0 → 0x80 ≤ first → Stands flag (first ∷ rest) (flag_of first)
      eighty clear high =
          let is : first ≡ 0x80 = omega (arith, octets 0) in
          rw is (right rest right_parity refl refl)
