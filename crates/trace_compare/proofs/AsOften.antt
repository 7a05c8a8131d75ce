-- How often an entry is listed: two lists in which each is listed as often are of one length. Assumes nothing.
use Prim.Native.Nat.{ℕ, suc, ◌+◌}
use mathlib.Core.Path.{◌≡◌, refl, sym, ap, ap₂, ◌∙◌}
use mathlib.Core.Bool.{Bool, true, false, cond, ◌&&◌}
use mathlib.Core.List.{List, [], ◌∷◌, map}
use mathlib.Core.Logic.{◌⊎◌, inl, inr, ⊎_elim}
use lib.ListN.{length}
use lib.Dec.{eqb}
use native.Mathlib.Omega.{arith}
use borrow.Author.Tests.{eq-eqb, ne_eqb, eqb-true}
use Rattle.octets.proofs.Laws.{and_left, and_right, and_both, same_or_not, true-or-false}
use Rattle.trace_compare.specs.Entries.{Entry, only_first, only_second}
use Rattle.trace_compare.specs.Claims.{about, times, other_code, exchanged}
use Rattle.trace_compare.proofs.SideBySide.{about-hit, about-miss, about-none}

-- whether two entries are one
abbrev alike : Entry → Entry → Bool
alike x e = eqb x.number e.number && eqb x.code e.code

alike_is : (x e : Entry) → alike x e ≡ true → x ≡ e
alike_is x e so =
    let number : x.number ≡ e.number =
    eqb-true x.number e.number (and_left (eqb x.number e.number) (eqb x.code e.code) so) in
    let code : x.code ≡ e.code =
    eqb-true x.code e.code (and_right (eqb x.number e.number) (eqb x.code e.code) so) in
    λ i. record { number = number i; code = code i }

alike-itself : (e : Entry) → alike e e ≡ true
alike-itself e = and_both (eq-eqb e.number e.number refl) (eq-eqb e.code e.code refl)

-- ---- an entry is listed among those of its number
times-miss : (e x : Entry) (es : List Entry) → (x.number ≡ e.number → ⊥) → times e (x ∷ es) ≡ times e es
unfolding times
times-miss e x es not =
    ap (λ (b : Bool). cond (b && eqb x.code e.code) 1 0 + times e es) (ne_eqb x.number e.number not) ∙ omega arith

pub times-about : (e : Entry) (es : List Entry) → times e es ≡ times e (about e.number es)
unfolding times about
times-about e [] = refl
times-about e (x ∷ es) =
    ⊎_elim
    (λ is. ap (λ (n : ℕ). cond (alike x e) 1 0 + n) (times-about e es) ∙ ap (times e) (sym (about-hit e.number x es is)))
    (λ not. times-miss e x es not ∙ times-about e es ∙ ap (times e) (sym (about-miss e.number x es not)))
    (same_or_not x.number e.number)

-- ---- exchanged twice is as before
other-first : (code : ℕ) → code ≡ only_first → other_code code ≡ only_second
other-first code is = ap (λ (b : Bool). cond b only_second (cond (eqb code only_second) only_first code)) (eq-eqb code only_first is)

other-second : (code : ℕ) → code ≡ only_second → other_code code ≡ only_first
other-second code is = ap other_code is

other-rest : (code : ℕ) → (code ≡ only_first → ⊥) → (code ≡ only_second → ⊥) → other_code code ≡ code
other-rest code not nor =
    ap (λ (b : Bool). cond b only_second (cond (eqb code only_second) only_first code)) (ne_eqb code only_first not)
    ∙ ap (λ (b : Bool). cond b only_first code) (ne_eqb code only_second nor)

other-other : (code : ℕ) → other_code (other_code code) ≡ code
other-other code =
    ⊎_elim
    (λ is. other-second (other_code code) (other-first code is) ∙ sym is)
    (λ not.
    ⊎_elim
    (λ is. other-first (other_code code) (other-second code is) ∙ sym is)
    (λ nor. ap other_code (other-rest code not nor) ∙ other-rest code not nor)
    (same_or_not code only_second))
    (same_or_not code only_first)

eqb-other : (a b : ℕ) → eqb (other_code a) (other_code b) ≡ eqb a b
eqb-other a b =
    ⊎_elim
    (λ is. eq-eqb (other_code a) (other_code b) (ap other_code is) ∙ sym (eq-eqb a b is))
    (λ not.
    ne_eqb (other_code a) (other_code b) (λ e. not (sym (other-other a) ∙ ap other_code e ∙ other-other b)) ∙ sym (ne_eqb a b not))
    (same_or_not a b)

pub times-exchanged : (e : Entry) (es : List Entry) → times (exchanged e) (map exchanged es) ≡ times e es
unfolding times
times-exchanged e [] = refl
times-exchanged e (x ∷ es) =
    ap₂ (λ (b : Bool) (n : ℕ). cond (eqb x.number e.number && b) 1 0 + n) (eqb-other x.code e.code) (times-exchanged e es)

pub exchanged-back : (e : Entry) → exchanged (exchanged e) ≡ e
exchanged-back e = ap (λ (c : ℕ). record { number = e.number; code = c }) (other-other e.code)

pub length_exchanged : (es : List Entry) → length (map exchanged es) ≡ length es
length_exchanged [] = refl
length_exchanged (e ∷ es) = ap suc (length_exchanged es)

-- ---- as often, so as many
-- a list without one entry that it holds
record Without (x : Entry) (es : List Entry) : Type 0 where
  rest : List Entry
  shorter : length es ≡ suc (length rest)
  often : (e : Entry) → times e es ≡ cond (alike x e) 1 0 + times e rest

without-first : (x y : Entry) (es : List Entry) → alike y x ≡ true → Without x (y ∷ es)
unfolding times
without-first x y es is =
    record {
      rest = es;
      shorter = refl;
      often = λ e. ap (λ (z : Entry). cond (alike z e) 1 0 + times e es) (alike_is y x is);
    }

without-later : (x y : Entry) (es : List Entry) → Without x es → Without x (y ∷ es)
unfolding times
without-later x y es w =
    record {
      rest = y ∷ w.rest;
      shorter = ap suc w.shorter;
      often = λ e.
          let more = w.often e in
          omega arith;
    }

times-other : (x y : Entry) (es : List Entry) → alike y x ≡ false → times x (y ∷ es) ≡ times x es
unfolding times
times-other x y es not = ap (λ (b : Bool). cond b 1 0 + times x es) not ∙ omega arith

without : (x : Entry) (es : List Entry) (n : ℕ) → times x es ≡ suc n → Without x es
unfolding times
without x [] n e = absurd (omega arith)
without x (y ∷ es) n e =
    ⊎_elim
    (λ is. without-first x y es is)
    (λ not. without-later x y es (without x es n (sym (times-other x y es not) ∙ e)))
    (true-or-false (alike y x))

-- a list in which nothing is listed is empty
none-listed : (es : List Entry) → ((e : Entry) → times e es ≡ 0) → length es ≡ 0
unfolding times
none-listed [] none = refl
none-listed (x ∷ es) none =
    let one : times x (x ∷ es) ≡ 1 + times x es = ap (λ (b : Bool). cond b 1 0 + times x es) (alike-itself x) in
    let zero = none x in
    absurd (omega arith)

pub as_many : (es others : List Entry) → ((e : Entry) → times e es ≡ times e others) → length es ≡ length others
unfolding times
as_many [] others often = sym (none-listed others (λ e. sym (often e)))
as_many (x ∷ es) others often =
    let one : times x (x ∷ es) ≡ suc (times x es) = ap (λ (b : Bool). cond b 1 0 + times x es) (alike-itself x) ∙ omega arith in
    let w = without x others (times x es) (sym (often x) ∙ one) in
    ap suc (as_many es w.rest (λ e. let here = often e in let there = w.often e in omega arith)) ∙ sym w.shorter
