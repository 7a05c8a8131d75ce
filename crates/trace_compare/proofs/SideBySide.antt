-- The entries of one number are those of its lines, laid side by side. Assumes nothing.
use Prim.Native.Nat.{ℕ, zero, suc}
use mathlib.Core.Path.{◌≡◌, refl, sym, ap, ap₂, ◌∙◌}
use mathlib.Core.Bool.{Bool, cond}
use mathlib.Core.List.{List, [], ◌∷◌, ◌++◌, append_assoc, append-nil}
use mathlib.Core.Logic.{⊎_elim}
use mathlib.Core.Option.{Option, none, some}
use lib.ListN.{length, drop, get_elem?}
use borrow.Author.Tests.{eq-eqb, ne_eqb}
use Rattle.octets.proofs.Laws.{same_or_not}
use Rattle.trace_compare.specs.Pairing.{TraceLine, number_of_line, having, mate}
use Rattle.trace_compare.specs.Entries.{Entry, entries_of, given, differences, only_first, only_second, at_first, at_second}
use Rattle.trace_compare.specs.Entries.{line_by_line, entries}
use Rattle.trace_compare.specs.Claims.{about, side_by_side, ByNumber}
use Rattle.trace_compare.proofs.Having.{having-hit, having-miss, having-none, count-hit, count-miss, kth-left}

-- ---- the entries of one number
pub about-hit : (number : ℕ) (e : Entry) (es : List Entry) → e.number ≡ number → about number (e ∷ es) ≡ e ∷ about number es
unfolding about
about-hit number e es is = ap (λ (b : Bool). cond b (e ∷ about number es) (about number es)) (eq-eqb e.number number is)

pub about-miss : (number : ℕ) (e : Entry) (es : List Entry) → (e.number ≡ number → ⊥) → about number (e ∷ es) ≡ about number es
unfolding about
about-miss number e es not = ap (λ (b : Bool). cond b (e ∷ about number es) (about number es)) (ne_eqb e.number number not)

pub about-none : (number : ℕ) → about number [] ≡ []
unfolding about
about-none number = refl

about-append : (number : ℕ) (es more : List Entry) → about number (es ++ more) ≡ about number es ++ about number more
about-append number [] more = ap (λ (l : List Entry). l ++ about number more) (sym (about-none number))
about-append number (e ∷ es) more =
    ⊎_elim
    (λ is.
    about-hit number e (es ++ more) is
    ∙ ap (λ (l : List Entry). e ∷ l) (about-append number es more)
    ∙ ap (λ (l : List Entry). l ++ about number more) (sym (about-hit number e es is)))
    (λ not.
    about-miss number e (es ++ more) not
    ∙ about-append number es more
    ∙ ap (λ (l : List Entry). l ++ about number more) (sym (about-miss number e es not)))
    (same_or_not e.number number)

about-own : (number other : ℕ) (codes : List ℕ) → other ≡ number → about number (entries_of other codes) ≡ entries_of other codes
about-own number other [] is = about-none number
about-own number other (code ∷ codes) is =
    about-hit number (record { number = other; code = code }) (entries_of other codes) is
    ∙ ap (λ (l : List Entry). record { number = other; code = code } ∷ l) (about-own number other codes is)

about-other : (number other : ℕ) (codes : List ℕ) → (other ≡ number → ⊥) → about number (entries_of other codes) ≡ []
about-other number other [] not = about-none number
about-other number other (code ∷ codes) not =
    about-miss number (record { number = other; code = code }) (entries_of other codes) not ∙ about-other number other codes not

-- ---- what is listed at a line is of its number
abbrev Listing : Type 0
Listing = TraceLine → Option TraceLine → List Entry

record OfItsNumber (at : Listing) : Type 0 where
  own : (number : ℕ) (l : TraceLine) (o : Option TraceLine) → number_of_line l ≡ number → about number (at l o) ≡ at l o
  other : (number : ℕ) (l : TraceLine) (o : Option TraceLine) → (number_of_line l ≡ number → ⊥) → about number (at l o) ≡ []

first-own : (number : ℕ) (l : TraceLine) (o : Option TraceLine) → number_of_line l ≡ number → about number (at_first l o) ≡ at_first l o
first-own number l none is = about-own number (number_of_line l) (only_first ∷ []) is
first-own number l (some m) is = about-own number (number_of_line l) (given (differences l.datagram m.datagram)) is

first-other : (number : ℕ) (l : TraceLine) (o : Option TraceLine) → (number_of_line l ≡ number → ⊥) → about number (at_first l o) ≡ []
first-other number l none not = about-other number (number_of_line l) (only_first ∷ []) not
first-other number l (some m) not = about-other number (number_of_line l) (given (differences l.datagram m.datagram)) not

second-own : (number : ℕ) (l : TraceLine) (o : Option TraceLine) → number_of_line l ≡ number → about number (at_second l o) ≡ at_second l o
second-own number l none is = about-own number (number_of_line l) (only_second ∷ []) is
second-own number l (some m) is = about-none number

second-other : (number : ℕ) (l : TraceLine) (o : Option TraceLine) → (number_of_line l ≡ number → ⊥) → about number (at_second l o) ≡ []
second-other number l none not = about-other number (number_of_line l) (only_second ∷ []) not
second-other number l (some m) not = about-none number

firsts : OfItsNumber at_first
firsts = record { own = first-own; other = first-other }

seconds : OfItsNumber at_second
seconds = record { own = second-own; other = second-other }

-- ---- lines of one number, with those of the other trace that begin with the k-th
walk : Listing → ℕ → List TraceLine → List TraceLine → List Entry
walk at k [] other = []
walk at k (l ∷ lines) other = at l (get_elem? other k) ++ walk at (suc k) lines other

-- the same, side by side
meet : Listing → List TraceLine → List TraceLine → List Entry
meet at [] other = []
meet at (l ∷ lines) [] = at l none ++ meet at lines []
meet at (l ∷ lines) (m ∷ other) = at l (some m) ++ meet at lines other

walk-meet : (at : Listing) (k : ℕ) (lines other : List TraceLine) → walk at k lines other ≡ meet at lines (drop k other)
unfolding walk meet
walk-meet at k [] other = refl
walk-meet at k (l ∷ lines) other =
    let rest = walk-meet at (suc k) lines other in
    ⊎_elim
    (λ past.
    ap₂ (λ (o : Option TraceLine) (es : List Entry). at l o ++ es) past.0
    (rest ∙ ap (meet at lines) past.2)
    ∙ ap (meet at (l ∷ lines)) (sym past.1))
    (λ there.
    ap₂ (λ (o : Option TraceLine) (es : List Entry). at l o ++ es) there.1 rest
    ∙ ap (meet at (l ∷ lines)) (sym there.2))
    (kth-left k other)

module _ (at : Listing) (its : OfItsNumber at) (number : ℕ) where
  -- one line of this number, or of another
  line-hit : (before : List TraceLine) (l : TraceLine) (lines other : List TraceLine) → number_of_line l ≡ number
      → about number (line_by_line at (before ++ (l ∷ [])) lines other)
      ≡ walk at (length (having number (before ++ (l ∷ [])))) (having number lines) (having number other)
      → about number (line_by_line at before (l ∷ lines) other)
      ≡ walk at (length (having number before)) (having number (l ∷ lines)) (having number other)
  unfolding line_by_line walk
  line-hit before l lines other is more =
      let k = length (having number before) in
      about-append number (at l (mate before l other)) (line_by_line at (before ++ (l ∷ [])) lines other)
      ∙ ap₂ (λ (x y : List Entry). x ++ y) (its.own number l (mate before l other) is) more
      ∙ ap₂
      (λ (n j : ℕ). at l (get_elem? (having n other) (length (having n before))) ++ walk at j (having number lines) (having number other))
      is (count-hit number before l is)
      ∙ ap (λ (h : List TraceLine). walk at k h (having number other)) (sym (having-hit number l lines is))

  line-miss : (before : List TraceLine) (l : TraceLine) (lines other : List TraceLine) → (number_of_line l ≡ number → ⊥)
      → about number (line_by_line at (before ++ (l ∷ [])) lines other)
      ≡ walk at (length (having number (before ++ (l ∷ [])))) (having number lines) (having number other)
      → about number (line_by_line at before (l ∷ lines) other)
      ≡ walk at (length (having number before)) (having number (l ∷ lines)) (having number other)
  unfolding line_by_line
  line-miss before l lines other not more =
      about-append number (at l (mate before l other)) (line_by_line at (before ++ (l ∷ [])) lines other)
      ∙ ap₂ (λ (x y : List Entry). x ++ y) (its.other number l (mate before l other) not) more
      ∙ ap (λ (j : ℕ). walk at j (having number lines) (having number other)) (count-miss number before l not)
      ∙ ap (λ (h : List TraceLine). walk at (length (having number before)) h (having number other)) (sym (having-miss number l lines not))

  by_lines : (before lines other : List TraceLine)
      → about number (line_by_line at before lines other)
      ≡ walk at (length (having number before)) (having number lines) (having number other)
  unfolding line_by_line walk having
  by_lines before [] other = about-none number
  by_lines before (l ∷ lines) other =
      ⊎_elim
      (λ is. line-hit before l lines other is (by_lines (before ++ (l ∷ [])) lines other))
      (λ not. line-miss before l lines other not (by_lines (before ++ (l ∷ [])) lines other))
      (same_or_not (number_of_line l) number)

  by-meeting : (lines other : List TraceLine)
      → about number (line_by_line at [] lines other) ≡ meet at (having number lines) (having number other)
  unfolding having
  by-meeting lines other = by_lines [] lines other ∙ walk-meet at 0 (having number lines) (having number other)

-- ---- both ways together
join : (first second : List TraceLine) → meet at_first first second ++ meet at_second second first ≡ side_by_side first second
unfolding meet side_by_side
join [] [] = refl
join [] (m ∷ second) = ap (λ (es : List Entry). entries_of (number_of_line m) (only_second ∷ []) ++ es) (join [] second)
join (l ∷ first) [] = ap (λ (es : List Entry). entries_of (number_of_line l) (only_first ∷ []) ++ es) (join first [])
join (l ∷ first) (m ∷ second) =
    append_assoc (entries_of (number_of_line l) (given (differences l.datagram m.datagram))) (meet at_first first second)
    (meet at_second second first)
    ∙ ap (λ (es : List Entry). entries_of (number_of_line l) (given (differences l.datagram m.datagram)) ++ es) (join first second)

pub by_number : ByNumber
unfolding entries
by_number first second number =
    about-append number (line_by_line at_first [] first second) (line_by_line at_second [] second first)
    ∙ ap₂ (λ (x y : List Entry). x ++ y) (by-meeting at_first firsts number first second) (by-meeting at_second seconds number second first)
    ∙ join (having number first) (having number second)
