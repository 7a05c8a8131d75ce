-- What two datagrams differ in, told by their octets: the packets, and what stands behind them. Assumes nothing.
use Prim.Native.Nat.{ℕ, ◌-◌}
use mathlib.Core.Path.{◌≡◌, refl, sym, ap, ap₂, ◌∙◌}
use mathlib.Core.Bool.{Bool, true, false, not, ◌&&◌, ◌||◌, false≢true}
use mathlib.Core.List.{List, [], ◌++◌}
use mathlib.Core.Logic.{⊎_elim}
use lib.ListN.{length, take, drop}
use lib.Dec.{eqb}
use borrow.Author.Tests.{eq-eqb, eqb-true}
use Rattle.octets.proofs.Laws.{and_left, and_right, and_both, true-or-false}
use Rattle.length.specs.Answers.{Answer, done, refused, is_done}
use Rattle.length.specs.Claims.{Octets}
use Rattle.length.proofs.Laws.{rest_of}
use Rattle.datagram.specs.Carried.{Extra, spares, parity, Carried}
use Rattle.datagram.specs.Write.{extra_octets}
use Rattle.line.specs.Promise.{Appends}
use Rattle.trace_compare.specs.Entries.{same, same_each, spares_apart, parity_apart, differences, given, entries_of, numbers_of}
use Rattle.trace_compare.specs.Entries.{packet_differs, spares_differ, parity_differs}
use Rattle.trace_compare.specs.Traces.{datagram_of}
use Rattle.trace_compare.proofs.Laws.{same_refl, same_true, each-refl, each-true, rows_of, extras-same}
use Rattle.trace_compare_code.specs.Rows.{has_spares, ShapeOf, row_numbers, rows_told, difference_numbers}
use Rattle.trace_compare_code.specs.declared.differing.Shape.{Shape}
use Rattle.trace_compare_code.proofs.Alike.{and-true}

-- a call that was done has a value
pub done-of : {A : Type 0} (a : Answer A) → is_done a ≡ true → (x : A) × (a ≡ done x)
done-of (done x) is = (x, refl)
done-of (refused why) is = absurd (false≢true is)

-- ---- what stands behind the packet, as one test
same_extra : Extra → Extra → Bool
same_extra (spares s) (spares t) = same_each s t
same_extra (spares s) (parity m t) = false
same_extra (parity n s) (spares t) = false
same_extra (parity n s) (parity m t) = eqb n m && same_each s t

extra-refl : (a : Extra) → same_extra a a ≡ true
unfolding same_extra
extra-refl (spares s) = each-refl s
extra-refl (parity n s) = and_both (eq-eqb n n refl) (each-refl s)

extra-true : (a b : Extra) → same_extra a b ≡ true → a ≡ b
unfolding same_extra
extra-true (spares s) (spares t) e = ap spares (each-true s t e)
extra-true (spares s) (parity m t) e = absurd (false≢true e)
extra-true (parity n s) (spares t) e = absurd (false≢true e)
extra-true (parity n s) (parity m t) e =
    ap₂ parity (eqb-true n m (and_left (eqb n m) (same_each s t) e)) (each-true s t (and_right (eqb n m) (same_each s t) e))

-- a test that passes exactly if they are equal is this one
extra-told : (a b : Extra) (test : Bool) → (test ≡ true → a ≡ b) → (a ≡ b → test ≡ true) → test ≡ same_extra a b
extra-told a b true so back = sym (ap (same_extra a) (sym (so refl)) ∙ extra-refl a)
extra-told a b false so back =
    ⊎_elim (λ is. back (extra-true a b is) ∙ sym is) (λ not. sym not) (true-or-false (same_extra a b))

and-false : (a : Bool) → false ≡ (a && false)
and-false true = refl
and-false false = refl

four-told : (a b : Extra) → spares_apart a b ≡ (not (same_extra a b) && (has_spares a || has_spares b))
unfolding same_extra
four-told (spares s) (spares t) = sym (and-true (not (same_each s t)))
four-told (spares s) (parity m t) = refl
four-told (parity n s) (spares t) = refl
four-told (parity n s) (parity m t) = and-false (not (eqb n m && same_each s t))

five-told : (a b : Extra) → parity_apart a b ≡ (not (same_extra a b) && not (has_spares a && has_spares b))
unfolding same_extra
five-told (spares s) (spares t) = and-false (not (same_each s t))
five-told (spares s) (parity m t) = refl
five-told (parity n s) (spares t) = refl
five-told (parity n s) (parity m t) = sym (and-true (not (eqb n m && same_each s t)))

-- ---- the rows as numbers
rows-numbers : (number : ℕ) (p q r : Bool)
    → (row_numbers p number packet_differs ++ row_numbers q number spares_differ) ++ row_numbers r number parity_differs
    ≡ numbers_of (entries_of number (given (rows_of p q r)))
unfolding row_numbers numbers_of given
rows-numbers number true true true = refl
rows-numbers number true true false = refl
rows-numbers number true false true = refl
rows-numbers number true false false = refl
rows-numbers number false true true = refl
rows-numbers number false true false = refl
rows-numbers number false false true = refl
rows-numbers number false false false = refl

rows_told_lem : (number : ℕ) (a b : Carried) (extras : Bool) → extras ≡ same_extra a.extra b.extra
    → rows_told number (same a.packet b.packet) extras (has_spares a.extra) (has_spares b.extra)
    ≡ numbers_of (entries_of number (given (differences a b)))
unfolding rows_told
rows_told_lem number a b extras is =
    ap (λ (e : Bool). rows_told number (same a.packet b.packet) e (has_spares a.extra) (has_spares b.extra)) is
    ∙ ap₂ (λ (q r : Bool).
    (row_numbers (not (same a.packet b.packet)) number packet_differs ++ row_numbers q number spares_differ)
    ++ row_numbers r number parity_differs)
    (sym (four-told a.extra b.extra)) (sym (five-told a.extra b.extra))
    ∙ rows-numbers number (not (same a.packet b.packet)) (spares_apart a.extra b.extra) (parity_apart a.extra b.extra)

-- ---- two datagrams by their octets
module _ {s t : List ℕ} {left right : Shape} (small : Octets s) (few : Octets t) (x : ShapeOf s left) (y : ShapeOf t right) where
  rows_are : (number : ℕ) (a b : Carried) (packets extras : Bool) → datagram_of s ≡ done a → datagram_of t ≡ done b
      → packets ≡ same (take (left.end - left.start) (drop left.start s)) (take (right.end - right.start) (drop right.start t))
      → extras ≡ same (drop left.end s) (drop right.end t)
      → rows_told number packets extras left.spares right.spares ≡ numbers_of (entries_of number (given (differences a b)))
  rows_are number a b packets extras first second newest behind =
      let l = x.shaped a first in
      let r = y.shaped b second in
      let p : packets ≡ same a.packet b.packet = newest ∙ ap₂ same l.packet r.packet in
      let e : extras ≡ same (extra_octets a.extra) (extra_octets b.extra) = behind ∙ ap₂ same l.behind r.behind in
      let told : extras ≡ same_extra a.extra b.extra =
      extra-told a.extra b.extra extras
      (λ is. extras-same s t a b small few first second
      (same_true (extra_octets a.extra) (extra_octets b.extra) (sym e ∙ is)))
      (λ is. e ∙ ap (λ (z : Extra). same (extra_octets a.extra) (extra_octets z)) (sym is) ∙ same_refl (extra_octets a.extra)) in
      ap (λ (z : Bool). rows_told number z extras left.spares right.spares) p
      ∙ ap₂ (rows_told number (same a.packet b.packet) extras) l.spares r.spares
      ∙ rows_told_lem number a b extras told

  pub differences-put : (number : ℕ) {packets extras : Bool} {old : List ℕ} {at : ℕ} {new : List ℕ} {end : ℕ}
      → is_done (datagram_of s) ≡ true → is_done (datagram_of t) ≡ true
      → packets ≡ same (take (left.end - left.start) (drop left.start s)) (take (right.end - right.start) (drop right.start t))
      → extras ≡ same (take (length s - left.end) (drop left.end s)) (take (length t - right.end) (drop right.end t))
      → Appends (rows_told number packets extras left.spares right.spares) old at new end
      → Appends (difference_numbers number (datagram_of s) (datagram_of t)) old at new end
  unfolding difference_numbers
  differences-put number {packets} {extras} {old} {at} {new} {end} first second newest behind puts =
      let a = done-of (datagram_of s) first in
      let b = done-of (datagram_of t) second in
      let rest : extras ≡ same (drop left.end s) (drop right.end t) =
      behind ∙ ap₂ same (rest_of s left.end) (rest_of t right.end) in
      let are = rows_are number a.0 b.0 packets extras a.1 b.1 newest rest in
      rw (a.1, b.1) (rw are at puts)

-- two of the same octets differ in nothing
rows-nothing : (number : ℕ) (first second : Bool) → rows_told number true true first second ≡ []
unfolding rows_told row_numbers
rows-nothing number first second = refl

pub differences-none : (number : ℕ) (held : Answer Carried) → difference_numbers number held held ≡ []
unfolding difference_numbers
differences-none number (done a) =
    sym (rows_told_lem number a a true (sym (extra-refl a.extra)))
    ∙ ap (λ (p : Bool). rows_told number p true (has_spares a.extra) (has_spares a.extra)) (same_refl a.packet)
    ∙ rows-nothing number (has_spares a.extra) (has_spares a.extra)
differences-none number (refused why) = refl
