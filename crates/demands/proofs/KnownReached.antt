-- In a session fresh at its start the known numbers are exactly those that the calls reached: call by call, each of which did
-- nothing, took a datagram, made a number leave, or solved the held messages together. Assumes nothing.
use Rattle.std.proofs.Common.{Result, Ok, Err}
use Rattle.length.specs.declared.Refusal.{Refusal}
use Prim.Native.Nat.{ℕ, suc, ◌+◌, ◌<◌}
use mathlib.Core.Path.{◌≡◌, refl, sym, ap, subst, ◌∙◌}
use mathlib.Core.Logic.{◌↔◌}
use mathlib.Core.Bool.{true, false≢true}
use mathlib.Core.List.{List, [], ◌∷◌}
use mathlib.Core.Option.{none, some, none-ne-some}
use lib.ListN.{length, take}
use native.Mathlib.Omega.{arith}
use Rattle.length.specs.Answers.{Answer, done, refused, afterwards}
use Rattle.session.specs.Cells.{kept_numbers}
use Rattle.session.specs.Reached.{Known}
use Rattle.session.specs.View.{View, Counts, sum, fresh_view, gone_on}
use Rattle.session.specs.Offer as offers
use Rattle.session.specs.Release as releases
use Rattle.session.specs.Release.{Release, at_base, view_after_release}
use Rattle.session.proofs.Laws.{release-leaves}
use Rattle.session_held.specs.Table.{state_of}
use Rattle.session_release.specs.Outcome.{Handed, released_outcome, handed_of}
use Rattle.session_release.specs.declared.Released.{Released}
use Rattle.session_offer.specs.Outcome.{offered_outcome, accepted_of}
use Rattle.solve.specs.Solved.{SolvedTo, Solves}
use Rattle.solve.specs.Solve as solutions
use Rattle.solve_code.specs.Outcome.{solved_outcome, filled_of}
use Rattle.demands.specs.Common.History.{Left, left_as, after_move}
use Rattle.demands.specs.Common.Calls.{Call, offer, release, solve, Calls, ◌then◌, accepted_in, fills_in, left_in}
use Rattle.demands.specs.Demand2.GoesOn.{move_of, Says, GoesOn, from, by}
use Rattle.demands.specs.Demand2.ReachedBy.{gone, ReachedBy}
use Rattle.demands.proofs.Ranges.{ViewInRanges}
use Rattle.demands.proofs.Taken.{OfferDone, offer-done}
use Rattle.demands.proofs.Steps.{moved_sum}
use Rattle.demands.proofs.Reaching.{Knows, knows_start, knows-stays, knows-left}
use Rattle.demands.proofs.Arriving.{took_of}
use Rattle.demands.proofs.Repairing.{knows-mid}
use Rattle.demands.proofs.SolveDone.{SolveDone, solve-done}
use Rattle.demands.proofs.Solving.{knows-solved}

-- ---- what a call did
pub data Did (view : View) (call : Call) : View → Type 0 where
  nothing : left_in call ≡ [] → accepted_in call ≡ none → (fills_in call ≡ true → ⊥) → Did view call view
  took : {last : View} (octets : List ℕ) → left_in call ≡ [] → accepted_in call ≡ some octets → OfferDone octets view last
      → Did view call last
  leaves : (x : Left) (counts : Counts) → left_in call ≡ x ∷ [] → x.kind ≡ (at_base view).state → x.note ≡ (at_base view).note
      → accepted_in call ≡ none → sum counts ≡ sum view.counts + 1
      → Did view call (gone_on counts view)
  solves : {last : View} → left_in call ≡ [] → accepted_in call ≡ none → fills_in call ≡ true → SolveDone view last → SolvedTo view last
      → Did view call last

pub did : (view : View) (call : Call) → ViewInRanges view → Says view call → Did view call (after_move (move_of call) view)
unfolding after_move
did view (offer octets r) ranges says = pick (offers.offer octets view) refl r says where
  pick : (a : Answer View) → offers.offer octets view ≡ a → (r : Result (Unit {0}) Refusal) → offered_outcome r ≡ accepted_of a
      → Did view (offer octets r) (afterwards a view)
  pick (done v) e (Ok x) s = took octets refl refl (offer-done octets view v e)
  pick (done v) e (Err why) s = let z : ◌≡◌ {A = ℕ} 0 1 = cc in absurd (omega arith)
  pick (refused x) e (Ok y) s = let z : ◌≡◌ {A = ℕ} 0 1 = cc in absurd (omega arith)
  pick (refused x) e (Err why) s = nothing refl refl false≢true
did view (release leave old new r) ranges says = pick (releases.release leave (length old) view) refl r says.0 where
  pick : (a : Answer Release) → releases.release leave (length old) view ≡ a → (r : Result Released Refusal)
      → released_outcome r ≡ handed_of a
      → Did view (release leave old new r) (afterwards (view_after_release a) view)
  pick (done a) e (Ok left) s =
      let o = release-leaves leave (length old) view a e in
      let same : ◌≡◌ {A = Handed} (record { kind = state_of left.kind; number = left.number; note = left.note; size = left.size })
      (record { kind = a.kind; number = a.number; note = a.note; size = length a.octets }) = cc in
      let word = ap (λ (x : Handed). x.kind) same ∙ o.kind in
      let filler = ap (λ (x : Handed). x.note) same ∙ o.note in
      subst (Did view (release leave old new (Ok left))) (sym o.after)
      (leaves (left_as (state_of left.kind) left.number left.note (take left.size new)) _ refl word filler refl (moved_sum view ranges))
  pick (done a) e (Err why) s = let z : ◌≡◌ {A = ℕ} 0 1 = cc in absurd (omega arith)
  pick (refused x) e (Ok left) s = let z : ◌≡◌ {A = ℕ} 0 1 = cc in absurd (omega arith)
  pick (refused x) e (Err why) s = nothing refl refl false≢true
did view (solve r) ranges says = pick (solutions.solve view) refl r says.0 says.1 where
  pick : (a : Answer View) → solutions.solve view ≡ a → (r : Result (Unit {0}) Refusal) → solved_outcome r ≡ filled_of a → Solves view a
      → Did view (solve r) (afterwards a view)
  pick (done v) e (Ok x) s means = solves refl refl refl (solve-done view v e) means
  pick (done v) e (Err why) s means = let z : ◌≡◌ {A = ℕ} 0 1 = cc in absurd (omega arith)
  pick (refused x) e (Ok y) s means = let z : ◌≡◌ {A = ℕ} 0 1 = cc in absurd (omega arith)
  pick (refused x) e (Err why) s means = nothing refl refl false≢true

-- an accepted offer solves nothing, nor does a call by which a number leaves
pub took-unfilled : (call : Call) {octets : List ℕ} → accepted_in call ≡ some octets → fills_in call ≡ true → ⊥
took-unfilled (offer o r) taken = false≢true
took-unfilled (release leave old new r) taken = false≢true
took-unfilled (solve r) {octets} taken = absurd (none-ne-some octets taken)

pub left-unfilled : (call : Call) {x : Left} → left_in call ≡ x ∷ [] → fills_in call ≡ true → ⊥
left-unfilled (offer o r) left = false≢true
left-unfilled (release leave old new r) left = false≢true
left-unfilled (solve r) left = absurd (let long = ap length left in omega arith)

-- ---- chains
knows : {calls : Calls} {held : View} → GoesOn fresh_view calls held → (g : ℕ) × Knows calls g held
knows from = (0, knows_start)
knows (by {calls = calls} {call = call} {held = held} on says) = step (knows on) where
  step : (g : ℕ) × Knows calls g held → (g : ℕ) × Knows (calls then call) g (after_move (move_of call) held)
  step t = pick (did held call t.1.ranges says) where
    pick : {last : View} → Did held call last → (g : ℕ) × Knows (calls then call) g last
    pick (nothing stays none-taken unfilled) = (t.0, knows-stays t.1 call none-taken unfilled stays)
    pick (took octets stays taken o) =
        let now = knows-mid (took_of t.1 o call taken (took-unfilled call taken) stays) in
        (t.0, subst (Knows (calls then call) t.0) o.is now)
    pick (leaves x counts left kind note none-taken more) =
        (suc t.0, knows-left t.1 call none-taken (left-unfilled call left) counts more x left)
    pick (solves stays none-taken fills o s) = (t.0, knows-solved t.1 call none-taken stays fills o s)

pub known-reached-by : {calls : Calls} {held : View} → GoesOn fresh_view calls held → (p : ℕ) → p < kept_numbers
    → Known held.cells p ↔ ReachedBy calls (gone calls + p)
known-reached-by {calls} on p small =
    let t = knows on in
    let same : t.0 + p ≡ gone calls + p = let left = t.1.left in omega arith in
    (λ known. subst (ReachedBy calls) same (t.1.reached p small known), λ r. (t.1.seen (gone calls + p) r).1 p (sym same))
