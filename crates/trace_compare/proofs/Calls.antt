-- What the promise of the call says: one outcome, when nothing is listed, a trace with itself, two traces exchanged, and the last refusal.
-- Assumes nothing.
use Prim.Native.Nat.{ℕ, suc, ◌+◌, ◌*◌, ◌≤◌, ◌<◌}
use Rattle.std.proofs.Common.{Result, Ok, Err}
use mathlib.Core.Path.{◌≡◌, refl, sym, ap, ap₂, ◌∙◌}
use mathlib.Core.Bool.{Bool, true, false, cond}
use mathlib.Core.List.{List, [], ◌∷◌, ◌++◌}
use mathlib.Core.Logic.{◌↔◌, ⊎_elim}
use lib.ListN.{length, drop}
use lib.Dec.{leb}
use native.Mathlib.Omega.{arith}
use borrow.Author.Tests.{le-leb, lt-leb}
use Rattle.octets.proofs.Laws.{below_or_not, true-or-false}
use Rattle.length.specs.Refusals.{refusal, no_room}
use Rattle.length.specs.Answers.{done, refuse}
use Rattle.length.specs.declared.Refusal.{Refusal}
use Rattle.trace_compare.specs.Pairing.{TraceLine}
use Rattle.trace_compare.specs.Entries.{Entry, numbers_of, entries}
use Rattle.trace_compare.specs.Told.{PlacedAnswer, told, stopped, Where, at, no_place, mapped_placed}
use Rattle.trace_compare.specs.Traces.{first_trace, second_trace, lines_read, trace_read, comparison}
use Rattle.trace_compare.specs.Promise.{refused_at, compared_outcome, fitted_entries, list_after, Compares}
use Rattle.trace_compare.specs.Claims.{TracesAlike, ListedIn, Mirrored, OneOutcome}
use Rattle.trace_compare.specs.declared.TraceRefusal.{TraceRefusal}
use Rattle.trace_compare.proofs.Listing.{empty-exactly, itself-none, mirrored}
use Rattle.trace_compare.proofs.Reading.{either-trace}
use Rattle.trace_compare.proofs.Refusing.{compared as both, few-compared, Listed, listed-traces}

-- ---- an answer, by its outcome
answer_of : PlacedAnswer ℕ → Result ℕ TraceRefusal
answer_of (told count) = Ok count
answer_of (stopped why place) = refused_at why place.trace place.line

answer_back : (r : Result ℕ TraceRefusal) → answer_of (compared_outcome r) ≡ r
unfolding answer_of
answer_back (Ok count) = refl
answer_back (Err why) = refl

pub one-outcome : OneOutcome
one-outcome =
    record {
      compare = λ {first} {second} {old} {new} {other} {r} {q} a b.
          (sym (answer_back r) ∙ ap answer_of (a.answer ∙ sym b.answer) ∙ answer_back q, a.lent ∙ sym b.lent);
    }

-- ---- entries, and the room for them
pub numbers-twice : (es : List Entry) → length (numbers_of es) ≡ 2 * length es
unfolding numbers_of
numbers-twice [] = refl
numbers-twice (e ∷ es) = let more = numbers-twice es in omega arith

-- the entries by the test of the room
abbrev by_room : Bool → List Entry → PlacedAnswer (List Entry)
by_room fits es = at no_place (cond fits (done es) (refuse no_room))

room-told : (fits : Bool) (es : List Entry) (count : ℕ) → told count ≡ mapped_placed length (by_room fits es) → (fits ≡ true) × (count ≡ length es)
room-told true es count e = let same : count ≡ length es = cc in (refl, same)
room-told false es count e = let z : ◌≡◌ {A = ℕ} 0 1 = cc in absurd (omega arith)

-- what an answered count says
record Answered (first second old new : List ℕ) (count : ℕ) : Type 0 where
  listed : List Entry
  are : comparison first second ≡ told listed
  within : ListedIn old new count listed

answered : {first second old new : List ℕ} {count : ℕ} → Compares first second old new (Ok count)
    → Answered first second old new count
answered {first} {second} {old} {new} {count} c = by (comparison first second) refl where
  by : (t : PlacedAnswer (List Entry)) → comparison first second ≡ t → Answered first second old new count
  by (stopped why place) e =
      let bad : told count ≡ stopped why place = c.answer ∙ ap (λ (t : PlacedAnswer (List Entry)). mapped_placed length (fitted_entries t old)) e in
      let z : ◌≡◌ {A = ℕ} 0 1 = cc in
      absurd (omega arith)
  by (told es) e =
      let fits = leb (length (numbers_of es)) (length old) in
      let so = room-told fits es count (c.answer ∙ ap (λ (t : PlacedAnswer (List Entry)). mapped_placed length (fitted_entries t old)) e) in
      record {
        listed = es;
        are = e;
        within =
            record {
              lent =
                  c.lent
                  ∙ ap (λ (t : PlacedAnswer (List Entry)). list_after (fitted_entries t old) old) e
                  ∙ ap (λ (b : Bool). list_after (by_room b es) old) so.0;
              counted = so.1;
            };
      }

-- nothing listed always has room
none-fits : (t : PlacedAnswer (List Entry)) (old : List ℕ) → t ≡ told [] → fitted_entries t old ≡ told []
unfolding numbers_of
none-fits t old e =
    ap (λ (u : PlacedAnswer (List Entry)). fitted_entries u old) e ∙ ap (λ (b : Bool). by_room b []) (le-leb 0 (length old) (omega arith))

length_none : (es : List Entry) → 0 ≡ length es → es ≡ []
length_none [] e = refl
length_none (e ∷ es) z = absurd (omega arith)

-- ---- the list is empty exactly if the traces are alike
alike-of-answer : {first second old new : List ℕ} {r : Result ℕ TraceRefusal} → Compares first second old new r → r ≡ Ok 0
    → TracesAlike first second
alike-of-answer {first} {second} {old} {new} c is =
    let a = answered (rw is at c) in
    let nothing : a.listed ≡ [] = length_none a.listed a.within.counted in
    let t = listed-traces first second a.listed a.are in
    record {
      few = t.few;
      left = t.left;
      right = t.right;
      read_first = t.read_first;
      read-second = t.read-second;
      alike = (empty-exactly t.left t.right).0 (sym t.are ∙ nothing);
    }

answer-of-alike : {first second old new : List ℕ} {r : Result ℕ TraceRefusal} → Compares first second old new r → TracesAlike first second
    → r ≡ Ok 0
unfolding answer_of
answer-of-alike {first} {second} {old} {r = r} c t =
    let nothing : comparison first second ≡ told [] =
    few-compared first second t.few
    ∙ ap₂ both t.read_first t.read-second
    ∙ ap (λ (es : List Entry). told es) ((empty-exactly t.left t.right).1 t.alike) in
    sym (answer_back r)
    ∙ ap answer_of (c.answer ∙ ap (mapped_placed length) (none-fits (comparison first second) old nothing))

pub empty-call : {first second old new : List ℕ} {r : Result ℕ TraceRefusal} → Compares first second old new r
    → (r ≡ Ok 0) ↔ TracesAlike first second
empty-call c = (alike-of-answer c, answer-of-alike c)

-- ---- a trace with itself
one_list : {a b : List TraceLine} → ◌≡◌ {A = PlacedAnswer (List TraceLine)} (told a) (told b) → a ≡ b
one_list e = cc

pub itself-call : {trace old new : List ℕ} {count : ℕ} → Compares trace trace old new (Ok count) → (count ≡ 0) × (new ≡ old)
unfolding numbers_of trace_read
itself-call {trace} {old} {new} c =
    let a = answered c in
    let t = listed-traces trace trace a.listed a.are in
    let again = either-trace first_trace second_trace 1 _ t.left t.read_first in
    let same : t.right ≡ t.left = one_list (sym t.read-second ∙ again) in
    let nothing : a.listed ≡ [] = t.are ∙ ap (entries t.left) same ∙ itself-none t.left in (
      a.within.counted ∙ ap (λ (es : List Entry). length es) nothing,
      a.within.lent ∙ ap (λ (es : List Entry). numbers_of es ++ drop (length (numbers_of es)) old) nothing,
    )

-- ---- exchanged
pub exchange-call : {first second old new other-old other-new : List ℕ} {count other : ℕ}
    → Compares first second old new (Ok count)
    → Compares second first other-old other-new (Ok other)
    → (listed : List Entry) × (back : List Entry) × ListedIn old new count listed × ListedIn other-old other-new other back
    × Mirrored listed back
unfolding trace_read
exchange-call {first} {second} c d =
    let a = answered c in
    let b = answered d in
    let t = listed-traces first second a.listed a.are in
    let u = listed-traces second first b.listed b.are in
    let left : t.left ≡ u.right =
    one_list (sym (either-trace first_trace second_trace 1 _ t.left t.read_first) ∙ u.read-second) in
    let right : t.right ≡ u.left =
    one_list (sym (either-trace second_trace first_trace 1 _ t.right t.read-second) ∙ u.read_first) in
    let back : b.listed ≡ entries t.right t.left = u.are ∙ ap₂ entries (sym right) (sym left) in (
      a.listed,
      b.listed,
      a.within,
      b.within,
      rw (t.are, back) (mirrored t.left t.right),
    )

-- ---- 13 comes last
pub room : {first second old new : List ℕ} {r : Result ℕ TraceRefusal} (listed : List Entry) → Compares first second old new r
    → comparison first second ≡ told listed
    → (r ≡ refused_at (refusal no_room) 0 0) ↔ (length old < 2 * length listed)
unfolding answer_of
room {first} {second} {old} {r = r} listed c e = (forth, back) where
  outcome : (b : Bool) → leb (length (numbers_of listed)) (length old) ≡ b → compared_outcome r ≡ mapped_placed length (by_room b listed)
  outcome b is =
      c.answer
      ∙ ap (λ (t : PlacedAnswer (List Entry)). mapped_placed length (fitted_entries t old)) e
      ∙ ap (λ (x : Bool). mapped_placed length (by_room x listed)) is

  forth : r ≡ refused_at (refusal no_room) 0 0 → length old < 2 * length listed
  forth is =
      ⊎_elim (λ full. omega (arith, numbers-twice listed))
      (λ enough.
      let there = outcome true (le-leb (length (numbers_of listed)) (length old) enough) in
      let bad : stopped (refusal no_room) no_place ≡ told (length listed) = sym (ap compared_outcome is) ∙ there in
      let z : ◌≡◌ {A = ℕ} 0 1 = cc in
      absurd (omega arith))
      (below_or_not (length old) (length (numbers_of listed)))

  back : length old < 2 * length listed → r ≡ refused_at (refusal no_room) 0 0
  back full =
      sym (answer_back r)
      ∙ ap answer_of (outcome false (lt-leb (length (numbers_of listed)) (length old) (omega (arith, numbers-twice listed))))

-- ---- after a refusal the caller's list is unchanged
stays : (t : PlacedAnswer (List Entry)) (old : List ℕ) (why : Refusal) (place : Where) → stopped why place ≡ mapped_placed length t
    → list_after t old ≡ old
stays (told es) old why place e = let z : ◌≡◌ {A = ℕ} 0 1 = cc in absurd (omega arith)
stays (stopped r p) old why place e = refl

pub unchanged : {first second old new : List ℕ} {why : Refusal} {trace line : ℕ}
    → Compares first second old new (refused_at why trace line) → new ≡ old
unchanged {first} {second} {old} {why = why} {trace} {line} c =
    c.lent ∙ stays (fitted_entries (comparison first second) old) old why (record { trace = trace; line = line }) c.answer
