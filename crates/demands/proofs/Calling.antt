-- The public calls follow the history: a session within its ranges that is seen as a view answers, and hands back, what the
-- definitions make of that view. Assumes nothing.
use Rattle.std.proofs.Common.{Result, Ok, Err}
use Rattle.length.specs.declared.Refusal.{Refusal}
use Prim.Native.Nat.{ℕ, ◌%◌, ◌≤◌, ◌<◌}
use mathlib.Core.Path.{◌≡◌, refl, sym, ap, subst, ◌∙◌}
use mathlib.Core.Bool.{Bool, true, false, cond, false≢true}
use mathlib.Core.List.{List}
use lib.ListN.{length, drop}
use lib.Seq.{take-append_seam}
use lib.Dec.{leb, eqb}
use native.Mathlib.Omega.{arith}
use borrow.Author.Tests.{eqb-true, le-ltb}
use Rattle.octets.proofs.Laws.{and_left, and_right}
use Rattle.length.specs.Refusals.{outside_ranges}
use Rattle.length.specs.Answers.{Answer, done, refused, refuse, over, afterwards}
use Rattle.datagram.specs.Sizes.{covered_limit, messages_limit}
use Rattle.session.specs.Cells as cells
use Rattle.session.specs.Cells.{cell_at, kept_before, kept_ahead, kept_numbers}
use Rattle.session.specs.Held.{held_at}
use Rattle.session.specs.View.{View, sum, numbers, session_limit, fresh_view}
use Rattle.session.specs.Offer as offers
use Rattle.session.specs.Release as releases
use Rattle.session.specs.Release.{Release, view_after_release}
use Rattle.session.specs.Ranges.{sum_right, size_right, Sound}
use Rattle.session.proofs.Laws.{held-sizes}
use Rattle.session_held.specs.Table.{state_of, view_of}
use Rattle.session_held.specs.Laid.{session_in_ranges}
use Rattle.session_held.specs.Promise.{Fresh}
use Rattle.session_held.specs.declared.Session.{Session}
use Rattle.session_held.proofs.Laws.{session-in-ranges, in-ranges-true}
use Rattle.session_release.specs.Outcome.{Handed, released_outcome, handed_of, octets_handed}
use Rattle.session_release.specs.declared.Released.{Released}
use Rattle.session_offer.specs.Outcome.{accepted_of}
use Rattle.solve.specs.Solve as solutions
use Rattle.solve.proofs.SolutionsLaws.{means-it}
use Rattle.solve.specs.Solved.{Solves}
use Rattle.solve_code.specs.Outcome.{filled_of}
use Rattle.session_calls.specs.Receiver.{SeenAs, After, in_ranges_then, offer_of, OfferOwes, release_of, ReleaseOwes}
use Rattle.session_calls.specs.Solver.{SolvesAs, SolveOwes}
use Rattle.session_calls.specs.declared.Returned.{Returned}
use Rattle.session_calls.proofs.Laws.{solves-as, one_answer_lem}
use Rattle.demands.specs.Common.History as moves
use Rattle.demands.specs.Common.History.{after_move}
use Rattle.demands.specs.Common.Calls.{Call, offer, release, solve, Calls, handed_out, left_in}
use Rattle.demands.specs.Common.Calls.{Called, at_start, offered, released, solved}
use Rattle.demands.specs.Demand2.GoesOn.{move_of, Says, GoesOn, from, by}
use Rattle.demands.specs.Demand2.Demand2.{Saved, Begins, fresh, saved}
use Rattle.demands.proofs.Ranges.{ViewInRanges}
use Rattle.demands.proofs.Steps.{leaving, released_by}

-- ---- a session within its ranges
pub fresh-seen : (s : Session) → Fresh s → SeenAs fresh_view s
fresh-seen s f = record { within = session-in-ranges s f.ranges f.sized; view = f.view }

pub saved_seen : (s : Session) → Saved s → SeenAs (view_of s) s
saved_seen s v = record { within = session-in-ranges s v.in_ranges v.sized; view = refl }

pub begins-seen : (s : Session) → Begins s → SeenAs (view_of s) s
begins-seen s (fresh f) = record { within = session-in-ranges s f.ranges f.sized; view = refl }
begins-seen s (saved v) = saved_seen s v

pub seen-in-ranges : (view : View) (s : Session) → SeenAs view s → session_in_ranges s ≡ true
seen-in-ranges view s seen = in-ranges-true seen.within

-- ---- and its view is within them
-- no number from the base on is blank
not-blank : (st : cells.State) (size : ℕ) → size_right st size false ≡ true → st ≡ cells.blank → ⊥
unfolding size_right
not-blank cells.unknown size e is = let z : ◌≡◌ {A = ℕ} 0 1 = cc in omega arith
not-blank cells.received size e is = let z : ◌≡◌ {A = ℕ} 0 1 = cc in omega arith
not-blank cells.spare size e is = let z : ◌≡◌ {A = ℕ} 0 1 = cc in omega arith
not-blank cells.repaired size e is = let z : ◌≡◌ {A = ℕ} 0 1 = cc in omega arith
not-blank cells.blank size e is = false≢true (and_right (eqb size 0) false e)

module _ {view : View} (w : Sound view) where
  base-is : view.base ≡ sum view.counts % numbers
  unfolding sum_right
  base-is =
      eqb-true view.base (sum view.counts % numbers)
      (and_left (eqb view.base (sum view.counts % numbers)) (leb (sum view.counts) session_limit) w.total)

  no-blank : (p : ℕ) → kept_before ≤ p → p < kept_numbers → (cell_at view.cells p).state ≡ cells.blank → ⊥
  no-blank p past small e =
      not-blank (cell_at view.cells p).state (length (cell_at view.cells p).octets)
      (rw (le-ltb p kept_before past) at (w.cell p small))
      e

  settings : (d : ℕ) → d < kept_ahead
      → ((held_at view.held d).n ≤ covered_limit) × (length (held_at view.held d).messages ≤ messages_limit)
  settings d small = held-sizes (held_at view.held d) _ (w.held d small)

  pub sound-ranges : ViewInRanges view
  sound-ranges =
      record {
        kept = w.kept;
        heard = w.ahead;
        base = base-is;
        no_blank = no-blank;
        covered = λ d small. (settings d small).0;
        messages = λ d small. (settings d small).1;
      }

pub seen-ranges : (view : View) (s : Session) → SeenAs view s → ViewInRanges view
seen-ranges view s seen = subst ViewInRanges seen.view (sound-ranges seen.within.sound)

-- ---- what a call comes to
in-ranges-then : {A : Type 0} (call : View → Answer A) {view : View} {s : Session} → SeenAs view s → in_ranges_then call s ≡ call view
in-ranges-then call {view} {s} seen =
    ap (λ (b : Bool). cond b (call (view_of s)) (refuse outside_ranges)) (seen-in-ranges view s seen) ∙ ap call seen.view

module _ {view : View} {s : Session} (seen : SeenAs view s) where
  pub offer-is : (octets : List ℕ) → offer_of octets s ≡ offers.offer octets view
  unfolding offer_of
  offer-is octets = in-ranges-then (offers.offer octets) seen

  pub release-is : (leave : Bool) (room : ℕ) → release_of leave room s ≡ releases.release leave room view
  unfolding release_of
  release-is leave room = in-ranges-then (releases.release leave room) seen

  -- what the equations mean, the function computes
  pub solve-is : (a : Answer View) → SolvesAs s a → a ≡ solutions.solve view
  solve-is a means =
      one_answer_lem s a (in_ranges_then solutions.solve s) means (solves-as s) ∙ in-ranges-then solutions.solve seen

  -- the session after it
  after-offer : (a : Answer View) (t : Session) → After a s t → SeenAs (afterwards a view) t
  after-offer (done v) t state = state
  after-offer (refused why) t state = subst (SeenAs view) (sym state) seen

  after-release : (a : Answer Release) (t : Session) → After (view_after_release a) s t → SeenAs (afterwards (view_after_release a) view) t
  after-release (done v) t state = state
  after-release (refused why) t state = subst (SeenAs view) (sym state) seen

  pub offered-seen : {octets : List ℕ} {r : Returned (Unit {0})} → OfferOwes s octets r
      → SeenAs (after_move (moves.offer octets) view) r.session
  unfolding after_move
  offered-seen {octets} {r} owes =
      after-offer (offers.offer octets view) r.session
      (subst (λ (a : Answer View). After a s r.session) (offer-is octets) owes.state)

  pub released-seen : {leave : Bool} {old new : List ℕ} {r : Returned Released} → ReleaseOwes s leave old new r
      → SeenAs (after_move (moves.release leave (length old)) view) r.session
  unfolding after_move
  released-seen {leave} {old} {new} {r} owes =
      after-release (releases.release leave (length old) view) r.session
      (subst (λ (a : Answer Release). After (view_after_release a) s r.session) (release-is leave (length old)) owes.state)

  pub solved-seen : {r : Returned (Unit {0})} → SolveOwes s r → SeenAs (after_move moves.solve view) r.session
  unfolding after_move
  solved-seen {r} owes =
      after-offer (solutions.solve view) r.session
      (subst (λ (a : Answer View). After a s r.session) (solve-is owes.wanted owes.means) owes.state)

-- ---- what the answers hand out
handed_out_lem : (a : Answer Release) (r : Result Released Refusal) (old : List ℕ) → released_outcome r ≡ handed_of a
    → handed_out r (over (octets_handed a) old) ≡ released_by a
handed_out_lem (done a) (Ok left) old e =
    let same : ◌≡◌ {A = Handed} (record { kind = state_of left.kind; number = left.number; note = left.note; size = left.size })
    (record { kind = a.kind; number = a.number; note = a.note; size = length a.octets }) = cc in
    let word = ap (λ (x : Handed). x.kind) same in
    let place = ap (λ (x : Handed). x.number) same in
    let filler = ap (λ (x : Handed). x.note) same in
    let long = ap (λ (x : Handed). x.size) same in
    rw (word, place, filler, long, take-append_seam a.octets (drop (length a.octets) old))
handed_out_lem (done a) (Err why) old e = let z : ◌≡◌ {A = ℕ} 0 1 = cc in absurd (omega arith)
handed_out_lem (refused x) (Ok left) old e = let z : ◌≡◌ {A = ℕ} 0 1 = cc in absurd (omega arith)
handed_out_lem (refused x) (Err why) old e = refl

-- what left is what the rules make leave
pub left_is : (view : View) (call : Call) → Says view call → left_in call ≡ leaving (move_of call) view
unfolding leaving
left_is view (offer octets r) says = refl
left_is view (release leave old new r) says =
    ap (handed_out r) says.1 ∙ handed_out_lem (releases.release leave (length old) view) r old says.0
left_is view (solve r) says = refl

-- ---- chains
module _ {view : View} {s : Session} (seen : SeenAs view s) where
  offered-says : {octets : List ℕ} {r : Returned (Unit {0})} → OfferOwes s octets r → Says view (offer octets r.answer)
  offered-says {octets} owes = owes.answer ∙ ap accepted_of (offer-is seen octets)

  released-says : {leave : Bool} {old new : List ℕ} {r : Returned Released} → ReleaseOwes s leave old new r
      → Says view (release leave old new r.answer)
  released-says {leave} {old} owes = (
    owes.answer ∙ ap handed_of (release-is seen leave (length old)),
    owes.lent ∙ ap (λ (a : Answer Release). over (octets_handed a) old) (release-is seen leave (length old)),
  )

  -- what the equations mean
  pub seen-solves : Solves view (solutions.solve view)
  seen-solves = subst (λ (v : View). Solves v (solutions.solve v)) seen.view (means-it (view_of s) seen.within.sound)

  solved-says : {r : Returned (Unit {0})} → SolveOwes s r → Says view (solve r.answer)
  solved-says owes = (
    owes.answer ∙ ap filled_of (solve-is seen owes.wanted owes.means),
    seen-solves,
  )

-- a chain of calls goes on from what the first session holds
pub record Went (view : View) (calls : Calls) (t : Session) : Type 0 where
  pub held : View
  pub seen : SeenAs held t
  pub on : GoesOn view calls held

pub called-went : {s t : Session} {calls : Calls} {view : View} → SeenAs view s → Called s calls t → Went view calls t
called-went {view = view} seen at_start = record { held = view; seen = seen; on = from }
called-went seen (offered {octets = octets} rest owes) =
    let w = called-went seen rest in
    record {
      held = after_move (moves.offer octets) w.held;
      seen = offered-seen w.seen owes;
      on = by w.on (offered-says w.seen owes);
    }
called-went seen (released {leave = leave} {old = old} rest owes) =
    let w = called-went seen rest in
    record {
      held = after_move (moves.release leave (length old)) w.held;
      seen = released-seen w.seen owes;
      on = by w.on (released-says w.seen owes);
    }
called-went seen (solved rest owes) =
    let w = called-went seen rest in
    record {
      held = after_move moves.solve w.held;
      seen = solved-seen w.seen owes;
      on = by w.on (solved-says w.seen owes);
    }

-- so the last session holds what the rules say
pub called_on : {s t : Session} {calls : Calls} {view : View} → SeenAs view s → Called s calls t → GoesOn view calls (view_of t)
called_on {calls = calls} {view = view} seen called =
    let w = called-went seen called in
    subst (GoesOn view calls) (sym w.seen.view) w.on
