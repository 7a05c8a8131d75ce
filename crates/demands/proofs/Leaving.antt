-- Numbers leave in order, and the counts are the history's: call by call. What left by the calls so far takes the session from
-- one base and counts to others (Went), and one number more takes it one further. Assumes nothing.
use Prim.Native.Nat.{ℕ, ◌+◌, ◌%◌, ◌<◌}
use mathlib.Core.Path.{◌≡◌, refl, sym, ap, ap₂, ◌∙◌}
use mathlib.Core.Logic.{⊎_elim}
use mathlib.Core.Bool.{Bool, false≢true}
use mathlib.Core.List.{List, [], ◌∷◌, ◌++◌, map, append-nil, map-append}
use mathlib.Core.List.Memᴰ
use mathlib.Core.List.{Memᴰ as Among}
use lib.ListN.{length, length-append}
use native.Mathlib.Omega.{arith}
use Rattle.octets.specs.Place.{tab}
use Rattle.octets.proofs.Laws.{tab-more}
use Rattle.session.specs.View.{View, Counts, sum, numbers, following, fresh_view}
use Rattle.session.specs.Cells.{State, unknown, received, spare, repaired, blank}
use Rattle.demands.specs.Common.History.{Left, left_as, is_received, is_spare, is_repaired, is_lost, after_move, how_many}
use Rattle.demands.specs.Common.History.{history_counts}
use Rattle.demands.specs.Common.Calls.{Calls, left_in, left_by}
use Rattle.demands.specs.Demand2.GoesOn.{move_of, GoesOn, from, by}
use Rattle.demands.specs.Demand2.Demand2.{OneKind, grown, FreshLeaves, SavedLeaves}
use Rattle.demands.proofs.Ranges.{ViewInRanges}
use Rattle.demands.proofs.InRanges.{fresh-in-ranges}
use Rattle.demands.proofs.Steps.{Step, stays, leaves, leaving, step, after-in-ranges, counts-path}
use Rattle.demands.proofs.Calling.{left_is}

-- the ranges are kept
pub on-ranges : {view held : View} {calls : Calls} → ViewInRanges view → GoesOn view calls held → ViewInRanges held
on-ranges r from = r
on-ranges r (by {call = call} {held = held} on says) = after-in-ranges (move_of call) held (on-ranges r on)

-- ---- the counts
many-append : (test : State → Bool) (some more : List Left) → how_many test (some ++ more) ≡ how_many test some + how_many test more
unfolding how_many
many-append test [] more = omega arith
many-append test (x ∷ some) more = let rest = many-append test some more in omega arith

grown-append : (c : Counts) (some more : List Left)
    → grown (grown c (history_counts some)) (history_counts more) ≡ grown c (history_counts (some ++ more))
grown-append c some more =
    counts-path (omega (arith, many-append is_received some more))
    (omega (arith, many-append is_spare some more))
    (omega (arith, many-append is_repaired some more))
    (omega (arith, many-append is_lost some more))

grown-none : (c : Counts) → c ≡ grown c (history_counts [])
unfolding how_many
grown-none c = counts-path (omega arith) (omega arith) (omega arith) (omega arith)

kind-sum : (st : State) (number note : ℕ) (octets : List ℕ) → OneKind (left_as st number note octets)
    → sum (history_counts (left_as st number note octets ∷ [])) ≡ 1
unfolding how_many
kind-sum unknown number note octets one = refl
kind-sum received number note octets one = refl
kind-sum spare number note octets one = refl
kind-sum repaired number note octets one = refl
kind-sum blank number note octets one = absurd (false≢true one)

one-sum : (x : Left) → OneKind x → sum (history_counts (x ∷ [])) ≡ 1
one-sum x one = kind-sum x.kind x.number x.note x.octets one

-- ---- what left, on plain values: from a base and counts to others
pub record Went (base : ℕ) (counts : Counts) (left : List Left) (on : ℕ) (more : Counts) : Type 0 where
  pub in_order : map (λ (y : Left). y.number) left ≡ tab (length left) (λ j. (base + j) % numbers)
  pub kinds : (x : Left) → Among x left → OneKind x
  pub counted : more ≡ grown counts (history_counts left)
  pub advance : sum more ≡ sum counts + length left
  pub reached : on ≡ (base + length left) % numbers

went-none : {base : ℕ} (counts : Counts) → base < numbers → Went base counts [] base counts
unfolding tab
went-none {base} counts small =
    record {
      in_order = refl;
      kinds = λ x among. absurd (Memᴰ.not-nil among);
      counted = grown-none counts;
      advance = omega arith;
      reached = omega arith;
    }

module _ {base : ℕ} {counts : Counts} {left : List Left} {on : ℕ} {more : Counts} (w : Went base counts left on more) (x : Left)
    (at : x.number ≡ on) (one : OneKind x) where
  in_order : map (λ (y : Left). y.number) (left ++ (x ∷ [])) ≡ tab (length (left ++ (x ∷ []))) (λ j. (base + j) % numbers)
  in_order =
      let last : x.number ≡ (base + length left) % numbers = at ∙ w.reached in
      let long : length left + 1 ≡ length (left ++ (x ∷ [])) = omega (arith, length-append left (x ∷ [])) in
      map-append (λ (y : Left). y.number) left (x ∷ [])
      ∙ ap₂ (λ (l : List ℕ) (n : ℕ). l ++ (n ∷ [])) w.in_order last
      ∙ sym (tab-more (length left) (λ j. (base + j) % numbers))
      ∙ ap (λ (n : ℕ). tab n (λ j. (base + j) % numbers)) long

  pub went-more : Went base counts (left ++ (x ∷ [])) (following on) (grown more (history_counts (x ∷ [])))
  went-more =
      let long = length-append left (x ∷ []) in
      record {
        in_order = in_order;
        kinds = λ y among.
            ⊎_elim (w.kinds y)
            (λ last. ⊎_elim (λ same. rw same one) (λ none. absurd (Memᴰ.not-nil none)) (Memᴰ.cases_cons last))
            (Memᴰ.append_cases left among);
        counted = ap (λ (c : Counts). grown c (history_counts (x ∷ []))) w.counted ∙ grown-append counts left (x ∷ []);
        advance = let total = w.advance in let single = one-sum x one in omega arith;
        reached = let total = w.reached in omega arith;
      }

went_to : {base on b : ℕ} {counts more c : Counts} {left : List Left} → b ≡ on → c ≡ more → Went base counts left on more
    → Went base counts left b c
went_to base counts w = rw (base, counts) w

pub went : {view held : View} {calls : Calls} → ViewInRanges view → GoesOn view calls held
    → Went view.base view.counts (left_by calls) held.base held.counts
unfolding left_by
went {view = view} r from = went-none view.counts (let b = r.base in omega arith)
went {view = view} r (by {calls = calls} {call = call} {held = held} on says) =
    pick (step (move_of call) held (on-ranges r on)) (went r on)
  where
    pick : Step held (after_move (move_of call) held) (leaving (move_of call) held)
        → Went view.base view.counts (left_by calls) held.base held.counts
        → Went view.base view.counts (left_by calls ++ left_in call) (after_move (move_of call) held).base
        (after_move (move_of call) held).counts
    pick (stays counts base left) w = rw (left_is held call says, left, append-nil (left_by calls)) (went_to base counts w)
    pick (leaves x left at one counts base) w = rw (left_is held call says, left) (went_to base counts (went-more w x at one))

-- ---- of a saved session, and of a fresh one
pub saved-leaves : {view held : View} {calls : Calls} → ViewInRanges view → GoesOn view calls held → SavedLeaves view (left_by calls) held
saved-leaves r on =
    let w = went r on in
    record { in_order = w.in_order; kinds = w.kinds; counts = w.counted; advance = w.advance; base = w.reached }

pub fresh-leaves : {held : View} {calls : Calls} → GoesOn fresh_view calls held → FreshLeaves (left_by calls) held
fresh-leaves on = saved-leaves fresh-in-ranges on
