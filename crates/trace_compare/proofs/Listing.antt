-- What follows from the entries of each number: when there are none, a trace with itself, and two traces exchanged. Assumes nothing.
use Prim.Native.Nat.{ℕ, zero, suc}
use mathlib.Core.Path.{◌≡◌, refl, sym, ap, ap₂, ◌∙◌}
use mathlib.Core.Bool.{Bool, true, false, not}
use mathlib.Core.List.{List, [], ◌∷◌, ◌++◌, map}
use mathlib.Core.Logic.{◌↔◌}
use mathlib.Core.Option.{Option, none, some}
use lib.ListN.{length, get_elem?}
use native.Mathlib.Omega.{arith}
use Rattle.datagram.specs.Carried.{Carried}
use Rattle.trace_compare.specs.Pairing.{TraceLine, number_of_line, having, Pair}
use Rattle.trace_compare.specs.Entries.{Entry, entries_of, same, spares_apart, parity_apart, given, differences, only_first, only_second}
use Rattle.trace_compare.specs.Entries.{entries}
use Rattle.trace_compare.specs.Claims.{about, side_by_side, AlikeTraces, Mirrored, times, other_code, exchanged}
use Rattle.trace_compare.proofs.Having.{Of, having-of}
use Rattle.trace_compare.proofs.Sameness.{rows_of, given-alike, given-itself, given-sym}
use Rattle.trace_compare.proofs.SideBySide.{by_number, about-hit, about-none}
use Rattle.trace_compare.proofs.AsOften.{times-about, times-exchanged, exchanged-back, length_exchanged, as_many}

-- ---- none
append-none : (x y : List Entry) → x ++ y ≡ [] → (x ≡ []) × (y ≡ [])
append-none [] y e = (refl, e)
append-none (a ∷ x) y e = let z : ◌≡◌ {A = ℕ} 0 1 = cc in absurd (omega arith)

entries_none : (number : ℕ) (codes : List ℕ) → entries_of number codes ≡ [] → codes ≡ []
entries_none number [] e = refl
entries_none number (c ∷ codes) e = let z : ◌≡◌ {A = ℕ} 0 1 = cc in absurd (omega arith)

-- lines side by side, all equal and none left over
record AllBeside (first second : List TraceLine) : Type 0 where
  equal : (k : ℕ) (l m : TraceLine) → get_elem? first k ≡ some l → get_elem? second k ≡ some m → l.datagram ≡ m.datagram
  as_long : length first ≡ length second

beside_none : (number : ℕ) (first second : List TraceLine) → Of number first → Of number second → side_by_side first second ≡ []
    → AllBeside first second
unfolding side_by_side
beside_none number [] [] left right e =
    record { equal = λ k l m at there. let z : ◌≡◌ {A = ℕ} 0 1 = cc in absurd (omega arith); as_long = refl }
beside_none number [] (m ∷ second) left right e = let z : ◌≡◌ {A = ℕ} 0 1 = cc in absurd (omega arith)
beside_none number (l ∷ first) [] left right e = let z : ◌≡◌ {A = ℕ} 0 1 = cc in absurd (omega arith)
beside_none number (l ∷ first) (m ∷ second) left right e =
    let codes = given (differences l.datagram m.datagram) in
    let parts = append-none (entries_of (number_of_line l) codes) (side_by_side first second) e in
    let rest = beside_none number first second left.1 right.1 parts.1 in
    let here : l.datagram ≡ m.datagram =
    given-alike l.datagram m.datagram (left.0 ∙ sym right.0) (entries_none (number_of_line l) codes parts.0) in
    record { equal = by here rest.equal; as_long = ap suc rest.as_long }
  where
    by : l.datagram ≡ m.datagram
        → ((k : ℕ) (a b : TraceLine) → get_elem? first k ≡ some a → get_elem? second k ≡ some b → a.datagram ≡ b.datagram)
        → (k : ℕ) (a b : TraceLine) → get_elem? (l ∷ first) k ≡ some a → get_elem? (m ∷ second) k ≡ some b → a.datagram ≡ b.datagram
    by here rest zero a b at there =
        let one : l ≡ a = cc in
        let two : m ≡ b = cc in
        ap (λ (x : TraceLine). x.datagram) (sym one) ∙ here ∙ ap (λ (x : TraceLine). x.datagram) two
    by here rest (suc k) a b at there = rest k a b at there

none_beside : (first second : List TraceLine) → AllBeside first second → side_by_side first second ≡ []
unfolding side_by_side
none_beside [] [] all = refl
none_beside [] (m ∷ second) all = absurd (omega (arith, all.as_long))
none_beside (l ∷ first) [] all = absurd (omega (arith, all.as_long))
none_beside (l ∷ first) (m ∷ second) all =
    let same : m.datagram ≡ l.datagram = sym (all.equal 0 l m refl refl) in
    let off : given (differences l.datagram m.datagram) ≡ [] =
    ap (λ (d : Carried). given (differences l.datagram d)) same ∙ given-itself l.datagram in
    ap₂ (λ (codes : List ℕ) (es : List Entry). entries_of (number_of_line l) codes ++ es) off
    (none_beside first second (record { equal = λ k a b. all.equal (suc k) a b; as_long = omega (arith, all.as_long) }))

-- a list with nothing of any number is empty
about-empty : (es : List Entry) → ((number : ℕ) → about number es ≡ []) → es ≡ []
about-empty [] nothing = refl
about-empty (e ∷ es) nothing =
    let there = sym (about-hit e.number e es refl) ∙ nothing e.number in
    let z : ◌≡◌ {A = ℕ} 0 1 = cc in
    absurd (omega arith)

module _ (first second : List TraceLine) where
  alike-of-none : entries first second ≡ [] → AlikeTraces first second
  alike-of-none e =
      let beside : (number : ℕ) → AllBeside (having number first) (having number second) = λ number.
      beside_none number (having number first) (having number second) (having-of number first) (having-of number second)
      (sym (by_number first second number) ∙ ap (about number) e ∙ about-none number) in
      record {
        equal = λ l m pair. (beside pair.number).equal pair.k l m pair.left pair.right;
        none_left = λ number. (beside number).as_long;
      }

  none-of-alike : AlikeTraces first second → entries first second ≡ []
  none-of-alike all =
      about-empty (entries first second)
      (λ number.
      by_number first second number
      ∙ none_beside (having number first) (having number second)
      (record {
        equal = λ k l m at there. all.equal l m (record { number = number; k = k; left = at; right = there });
        as_long = all.none_left number;
      }))

  pub empty-exactly : (entries first second ≡ []) ↔ AlikeTraces first second
  empty-exactly = (alike-of-none, none-of-alike)

-- ---- itself
pub itself-none : (lines : List TraceLine) → entries lines lines ≡ []
itself-none lines =
    (empty-exactly lines lines).1
    (record {
      equal = λ l m pair.
          let one : some l ≡ some m = sym pair.left ∙ pair.right in
          let same : l ≡ m = cc in
          ap (λ (x : TraceLine). x.datagram) same;
      none_left = λ number. refl;
    })

-- ---- exchanged
map-append : (x y : List Entry) → map exchanged (x ++ y) ≡ map exchanged x ++ map exchanged y
map-append [] y = refl
map-append (a ∷ x) y = ap (λ (l : List Entry). exchanged a ∷ l) (map-append x y)

-- what differs in a pair is no 1 and no 2
rows_stay : (number : ℕ) (p q r : Bool) → map exchanged (entries_of number (given (rows_of p q r))) ≡ entries_of number (given (rows_of p q r))
unfolding given
rows_stay number false false false = refl
rows_stay number false false true = refl
rows_stay number false true false = refl
rows_stay number false true true = refl
rows_stay number true false false = refl
rows_stay number true false true = refl
rows_stay number true true false = refl
rows_stay number true true true = refl

pair-exchanged : (number other : ℕ) (a b : Carried) → other ≡ number
    → entries_of other (given (differences b a)) ≡ map exchanged (entries_of number (given (differences a b)))
pair-exchanged number other a b is =
    ap₂ (λ (n : ℕ) (codes : List ℕ). entries_of n codes) is (given-sym b a) ∙ sym
    (rows_stay number (not (same a.packet b.packet)) (spares_apart a.extra b.extra) (parity_apart a.extra b.extra))

beside-exchanged : (number : ℕ) (first second : List TraceLine) → Of number first → Of number second
    → side_by_side second first ≡ map exchanged (side_by_side first second)
unfolding side_by_side
beside-exchanged number [] [] left right = refl
beside-exchanged number [] (m ∷ second) left right =
    ap (λ (es : List Entry). record { number = number_of_line m; code = only_first } ∷ es) (beside-exchanged number [] second left right.1)
beside-exchanged number (l ∷ first) [] left right =
    ap (λ (es : List Entry). record { number = number_of_line l; code = only_second } ∷ es) (beside-exchanged number first [] left.1 right)
beside-exchanged number (l ∷ first) (m ∷ second) left right =
    ap₂ (λ (x y : List Entry). x ++ y) (pair-exchanged (number_of_line l) (number_of_line m) l.datagram m.datagram (right.0 ∙ sym left.0))
    (beside-exchanged number first second left.1 right.1)
    ∙ sym (map-append (entries_of (number_of_line l) (given (differences l.datagram m.datagram))) (side_by_side first second))

module _ (first second : List TraceLine) where
  pub number-exchanged : (number : ℕ) → about number (entries second first) ≡ map exchanged (about number (entries first second))
  number-exchanged number =
      by_number second first number
      ∙ beside-exchanged number (having number first) (having number second) (having-of number first) (having-of number second)
      ∙ ap (map exchanged) (sym (by_number first second number))

  often : (e : Entry) → times (exchanged e) (entries second first) ≡ times e (entries first second)
  often e =
      times-about (exchanged e) (entries second first)
      ∙ ap (times (exchanged e)) (number-exchanged e.number)
      ∙ times-exchanged e (about e.number (entries first second))
      ∙ sym (times-about e (entries first second))

  pub mirrored : Mirrored (entries first second) (entries second first)
  mirrored =
      record {
        often = often;
        count =
            as_many (entries second first) (map exchanged (entries first second))
            (λ e.
            ap (λ (x : Entry). times x (entries second first)) (sym (exchanged-back e))
            ∙ often (exchanged e)
            ∙ sym (times-exchanged (exchanged e) (entries first second))
            ∙ ap (λ (x : Entry). times x (map exchanged (entries first second))) (exchanged-back e))
            ∙ length_exchanged (entries first second);
      }
