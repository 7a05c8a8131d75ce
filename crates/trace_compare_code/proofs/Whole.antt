-- The whole call: the entries of both traces laid into the lent list, or why they are refused. Assumes nothing.
use Rattle.std.proofs.Common.{Result, Ok, Err}
use Prim.Native.Nat.{ℕ, ◌+◌, ◌*◌, ◌/◌, ◌≤◌, ◌<◌}
use mathlib.Core.Path.{◌≡◌, refl, sym, ap, ap₂, ◌∙◌}
use mathlib.Core.Bool.{Bool, true, false, cond, ◌||◌, false≢true}
use mathlib.Core.List.{List, [], ◌++◌}
use mathlib.Core.Logic.{◌⊎◌, inl, inr, ⊎_elim}
use lib.ListN.{length, take, drop}
use lib.Seq.{length-take-le}
use lib.Dec.{leb, ltb}
use native.Mathlib.Omega.{arith}
use borrow.Author.Tests.{le-leb, lt-leb, ltb-true, ltb-false}
use Rattle.length.specs.Refusals.{refusal, too_many_lines, no_room}
use Rattle.length.specs.Answers.{done, refuse}
use Rattle.line.specs.Lines.{lines_from}
use Rattle.line.specs.Promise.{Appends}
use Rattle.line.proofs.Laws.{appends-then, appends-front, appends-long}
use Rattle.trace_compare.specs.Pairing.{TraceLine}
use Rattle.trace_compare.specs.Entries.{Entry, numbers_of, at_first, at_second, line_by_line, entries}
use Rattle.trace_compare.specs.Told.{PlacedAnswer, told, stopped, no_place, at, mapped_placed}
use Rattle.trace_compare.specs.Traces.{lines_limit, first_trace, second_trace, trace_read, comparison}
use Rattle.trace_compare.specs.Promise.{compared_outcome, fitted_entries, list_after, Compares}
use Rattle.trace_compare.specs.Claims.{Few}
use Rattle.trace_compare.specs.declared.TraceRefusal.{TraceRefusal}
use Rattle.trace_compare.proofs.Laws.{compared as both, too-many-first, too-many-second, few-compared, numbers-twice}
use Rattle.trace_compare_code.specs.Rows.{entry_room}
use Rattle.trace_compare_code.specs.Lines.{KeptTrace, datagram_lines, TraceKept, TraceRefused, RoomForLines}
use Rattle.trace_compare_code.specs.Inner.{RefusedNowhere, too_many, ListsAll, second_rows}
use Rattle.trace_compare_code.proofs.FirstLines.{numbers-append, first-most, kept-long}
use Rattle.trace_compare_code.proofs.SecondLines.{rows_same}

-- the first trace was read, and neither trace has too many lines
pub record FirstRead (first second a from : List ℕ) : Type 0 where
  pub few : Few first second
  pub read : trace_read first_trace first ≡ told (datagram_lines first_trace first)
  pub kept : KeptTrace first (datagram_lines first_trace first) a from
  pub short : length a ≤ lines_limit

-- a refusal, as the outcome of the call
abbrev refusal_outcome : TraceRefusal → PlacedAnswer ℕ
refusal_outcome r = compared_outcome (Err r)

-- ---- the entries of both
module _ {first second : List ℕ} {lines others : List TraceLine} {a from b to : List ℕ} (x : KeptTrace first lines a from)
    (y : KeptTrace second others b to) where
  pub room-second : {old mid : List ℕ} {end : ℕ} → Appends (numbers_of (line_by_line at_first [] lines others)) old 0 mid end
      → length a ≤ lines_limit → length b ≤ lines_limit → 8 * lines_limit ≤ length old
      → end + entry_room * length b ≤ length mid
  room-second p few fewer room =
      omega (arith, p.after, appends-long p, first-most lines others [], kept-long x)

  pub both-listed : {old mid new : List ℕ} {end size : ℕ} → Appends (numbers_of (line_by_line at_first [] lines others)) old 0 mid end
      → Appends (second_rows a [] b) mid end new size
      → Appends (numbers_of (entries lines others)) old 0 new size
  unfolding entries
  both-listed p q =
      let rows : second_rows a [] b ≡ numbers_of (line_by_line at_second [] others lines) =
      ap₂ (λ (s t : List ℕ). second_rows s [] t) x.each y.each ∙ rows_same lines [] others in
      let all = numbers-append (line_by_line at_first [] lines others) (line_by_line at_second [] others lines) in
      rw all (appends-then p (rw rows at q))

-- ---- into the lent list
module _ (lines others : List TraceLine) {work found : List ℕ} {size : ℕ} (p : Appends (numbers_of (entries lines others)) work 0 found size)
  where
    size_is : size ≡ length (numbers_of (entries lines others))
    size_is = omega (arith, p.after)

    pub size-inside : size ≤ length found
    size-inside = omega (arith, p.after, p.fits, appends-long p)

    pub size-long : size ≡ length (take size found)
    size-long = sym (length-take-le size found size-inside)

    pub list_full : {old : List ℕ} {r : TraceRefusal} → length old < size → RefusedNowhere no_room r → ListsAll lines others old old (Err r)
    list_full {old} {r} short is =
        let full : leb (length (numbers_of (entries lines others))) (length old) ≡ false =
        lt-leb (length (numbers_of (entries lines others))) (length old) (omega (arith, size_is)) in
        let told-so : fitted_entries (told (entries lines others)) old ≡ stopped (refusal no_room) no_place =
        ap (λ (t : Bool). at no_place (cond t (done (entries lines others)) (refuse no_room))) full in
        record {
          answer = ap refusal_outcome is.answer ∙ sym (ap (mapped_placed length) told-so);
          lent = sym (ap (λ (t : PlacedAnswer (List Entry)). list_after t old) told-so);
        }

    pub list_put : {old copied : List ℕ} → size ≤ length old → copied ≡ take size found
        → ListsAll lines others old (copied ++ drop size old) (Ok (size / 2))
    list_put {old} {copied} room same =
        let es = entries lines others in
        let fits : leb (length (numbers_of es)) (length old) ≡ true =
        le-leb (length (numbers_of es)) (length old) (omega (arith, size_is)) in
        let told-so : fitted_entries (told es) old ≡ told es =
        ap (λ (t : Bool). at no_place (cond t (done es) (refuse no_room))) fits in
        let front : take size found ≡ numbers_of es = appends-front p in
        let half : size / 2 ≡ length es = omega (arith, size_is, numbers-twice es) in
        record {
          answer = ap (λ (n : ℕ). told n) half ∙ sym (ap (mapped_placed length) told-so);
          lent =
              ap₂ (λ (l : List ℕ) (n : ℕ). l ++ drop n old) (same ∙ front) size_is
              ∙ sym (ap (λ (t : PlacedAnswer (List Entry)). list_after t old) told-so);
        }

-- ---- too many lines
or_cases : (a b : Bool) → (a || b) ≡ true → (a ≡ true) ⊎ (b ≡ true)
or_cases true b e = inl refl
or_cases false b e = inr e

or-none : (a b : Bool) → (a || b) ≡ false → (a ≡ false) × (b ≡ false)
or-none true b e = absurd (false≢true (sym e))
or-none false b e = (refl, e)

module _ (first second : List ℕ) {told-so : Bool} (is : told-so ≡ too_many first second) where
  pub compares-too-many : {old : List ℕ} {r : TraceRefusal} → told-so ≡ true → RefusedNowhere too_many_lines r → Compares first second old old (Err r)
  unfolding too_many
  compares-too-many {old} {r} so made =
      let over : comparison first second ≡ stopped (refusal too_many_lines) no_place =
      ⊎_elim (λ e. too-many-first first second (ltb-true lines_limit (length (lines_from [] first)) e))
      (λ e. too-many-second first second (ltb-true lines_limit (length (lines_from [] second)) e))
      (or_cases (ltb lines_limit (length (lines_from [] first))) (ltb lines_limit (length (lines_from [] second))) (sym is ∙ so)) in
      record {
        answer = ap refusal_outcome made.answer ∙ sym (ap (λ (t : PlacedAnswer (List Entry)). mapped_placed length (fitted_entries t old)) over);
        lent = sym (ap (λ (t : PlacedAnswer (List Entry)). list_after (fitted_entries t old) old) over);
      }

  pub few-lines : told-so ≡ false → Few first second
  unfolding too_many
  few-lines not =
      let none = or-none (ltb lines_limit (length (lines_from [] first))) (ltb lines_limit (length (lines_from [] second))) (sym is ∙ not) in
      record {
        left = ltb-false lines_limit (length (lines_from [] first)) none.0;
        right = ltb-false lines_limit (length (lines_from [] second)) none.1;
      }

-- one trace's answer first, then the other's
pub too-many-one : (first second : List ℕ) {n : ℕ} → n ≡ length (lines_from [] first) → lines_limit < n → true ≡ too_many first second
unfolding too_many
too-many-one first second is over =
    sym (ap (λ (t : Bool). t || ltb lines_limit (length (lines_from [] second)))
    (borrow.Author.Tests.lt-ltb lines_limit (length (lines_from [] first)) (omega (arith, is))))

pub too-many-two : (first second : List ℕ) {n m : ℕ} → n ≡ length (lines_from [] first) → n ≤ lines_limit
    → m ≡ length (lines_from [] second) → ltb lines_limit m ≡ too_many first second
unfolding too_many
too-many-two first second is few other =
    sym (ap₂ (λ (t : Bool) (k : ℕ). t || ltb lines_limit k)
    (borrow.Author.Tests.le-ltb lines_limit (length (lines_from [] first)) (omega (arith, is))) (sym other))

-- ---- both traces read
module _ (first second old : List ℕ) where
  by_read : (x y : PlacedAnswer (List TraceLine)) → Few first second → trace_read first_trace first ≡ x → trace_read second_trace second ≡ y
      → comparison first second ≡ both x y
  by_read x y few left right = few-compared first second few ∙ ap₂ both left right

  pub compares-first : {r : TraceRefusal} → Few first second → TraceRefused first_trace first r → Compares first second old old (Err r)
  compares-first {r} few t =
      let is = by_read (stopped t.why t.place) (trace_read second_trace second) few t.read refl in
      record {
        answer = t.told ∙ sym (ap (λ (z : PlacedAnswer (List Entry)). mapped_placed length (fitted_entries z old)) is);
        lent = sym (ap (λ (z : PlacedAnswer (List Entry)). list_after (fitted_entries z old) old) is);
      }

  module _ {a from : List ℕ} (f : FirstRead first second a from) where
    pub compares-second : {r : TraceRefusal} → TraceRefused second_trace second r → Compares first second old old (Err r)
    compares-second {r} t =
        let is = by_read (told (datagram_lines first_trace first)) (stopped t.why t.place) f.few f.read t.read in
        record {
          answer = t.told ∙ sym (ap (λ (z : PlacedAnswer (List Entry)). mapped_placed length (fitted_entries z old)) is);
          lent = sym (ap (λ (z : PlacedAnswer (List Entry)). list_after (fitted_entries z old) old) is);
        }

    pub compares-all : {new b to : List ℕ} {n : ℕ} {r : Result ℕ TraceRefusal} → TraceKept second_trace second b to n
        → ListsAll (datagram_lines first_trace first) (datagram_lines second_trace second) old new r
        → Compares first second old new r
    compares-all t all =
        let is = by_read (told (datagram_lines first_trace first)) (told (datagram_lines second_trace second)) f.few f.read t.read in
        record {
          answer = all.answer ∙ sym (ap (λ (z : PlacedAnswer (List Entry)). mapped_placed length (fitted_entries z old)) is);
          lent = all.lent ∙ sym (ap (λ (z : PlacedAnswer (List Entry)). list_after (fitted_entries z old) old) is);
        }

-- what was kept of a trace, in the words of the next call
module _ {which : ℕ} {trace numbers starts : List ℕ} {count : ℕ} (t : TraceKept which trace numbers starts count) where
  pub taken-long : count ≡ length (take count numbers)
  taken-long = sym (length-take-le count numbers t.inside)

  pub taken-short : length (lines_from [] trace) ≤ lines_limit → length (take count numbers) ≤ lines_limit
  taken-short few = omega (arith, taken-long, t.few)

pub first_read : (first second : List ℕ) {a from : List ℕ} {m : ℕ} → Few first second → TraceKept first_trace first a from m
    → FirstRead first second (take m a) from
first_read first second few t = record { few = few; read = t.read; kept = t.kept; short = taken-short t few.left }

pub room-lines : (trace numbers starts : List ℕ) → length (lines_from [] trace) ≤ lines_limit → lines_limit ≤ length numbers
    → lines_limit ≤ length starts
    → RoomForLines trace numbers starts
room-lines trace numbers starts few number place = record { number = omega arith; place = omega arith }
