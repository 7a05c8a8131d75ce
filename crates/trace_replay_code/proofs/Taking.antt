-- One line of the trace, on plain values: dropped or stepped, and what is left of the trace after it. Assumes nothing.
use Prim.Native.Nat.{ℕ, ◌+◌, ◌-◌, ◌≤◌, ◌<◌}
use mathlib.Core.Path.{◌≡◌, refl, sym, ap, ◌∙◌}
use mathlib.Core.Bool.{Bool, true, false}
use mathlib.Core.List.{List, [], ◌∷◌}
use lib.ListN.{length, take, drop, length-drop, drop_of_length-le}
use lib.Seq.{drop-drop}
use native.Mathlib.Omega.{arith}
use Rattle.length.proofs.Laws.{rest_of}
use Rattle.session.specs.View.{View}
use Rattle.session_held.specs.Table.{Lent, view_in}
use Rattle.line.specs.Lines.{step, ◌then◌, lines_from}
use Rattle.line.specs.Promise.{Does, Able, step_limit}
use Rattle.line.specs.FeedPromise.{Found}
use Rattle.line.proofs.Laws.{appends-none}
use Rattle.trace_replay.specs.Replay.{dropped, replay_step, replay_steps}
use Rattle.trace_replay.proofs.Laws.{lines_none, lines-first, lines-last, step-dropped, step_left}
use Rattle.trace_replay_code.specs.Inner.{TakesTraceLine}

-- ---- a line
module _ (numbers line : List ℕ) {told : Bool} (is : told ≡ dropped numbers line) where
  pub line-dropped : {session : Lent} {out : List ℕ} {at : ℕ} → told ≡ true → Able step_limit session out at
      → Does (replay_step numbers line (view_in session)) out at session at out
  line-dropped {session} {out} {at} so able =
      rw (step-dropped numbers line (view_in session) (sym is ∙ so))
      (record { lent = appends-none (omega (arith, able.room)); state = refl; within = able.within })

  pub line-left : (view : View) {session : Lent} {out : List ℕ} {at end : ℕ} {new : List ℕ} → told ≡ false
      → Does (step line view) out at session end new
      → Does (replay_step numbers line view) out at session end new
  line-left view not does = rw (step_left numbers line view (sym is ∙ not)) does

-- ---- the trace
-- what is made of lines, if the first is taken off
played-on : (numbers line : List ℕ) {lines more : List (List ℕ)} (view : View) → lines ≡ line ∷ more
    → replay_steps numbers lines view ≡ replay_step numbers line view then replay_steps numbers more
unfolding replay_steps
played-on numbers line view e = ap (λ (l : List (List ℕ)). replay_steps numbers l view) e

-- the end of the line is within the trace
pub end-inside : (trace : List ℕ) {at stop : ℕ} → at < length trace → Found (take (length trace - at) (drop at trace)) stop
    → at + stop ≤ length trace
end-inside trace {at} inside f = omega (arith, f.begun.inside, ap length (rest_of trace at), length-drop at trace)

module _ (numbers trace : List ℕ) {at stop : ℕ} (before : Lent) {after : Lent} {old new : List ℕ} {size : ℕ}
    (inside : at < length trace) (f : Found (take (length trace - at) (drop at trace)) stop)
    (does : Does (replay_step numbers (take stop (take (length trace - at) (drop at trace))) (view_in before)) old 0 after size new) where
  found : Found (drop at trace) stop
  found = rw (rest_of trace at) at f

  line_made : Does (replay_step numbers (take stop (drop at trace)) (view_in before)) old 0 after size new
  line_made = rw (rest_of trace at) at does

  left-long : length (drop at trace) ≡ length trace - at
  left-long = length-drop at trace

  -- a line feed was found
  pub takes-line : {next : ℕ} → stop < length (take (length trace - at) (drop at trace)) → next ≡ at + stop + 1
      → TakesTraceLine numbers trace at before after old new size next
  takes-line {next} there is =
      let ends : stop < length (drop at trace) = rw (rest_of trace at) at there in
      let place : at + (stop + 1) ≡ next = omega arith in
      record {
        made = replay_step numbers (take stop (drop at trace)) (view_in before);
        does = line_made;
        on =
            played-on numbers (take stop (drop at trace)) (view_in before)
            (lines-first found ends ∙ ap (λ (l : List ℕ). take stop (drop at trace) ∷ lines_from [] l)
            (drop-drop (stop + 1) at trace ∙ ap (λ (n : ℕ). drop n trace) place));
        some = omega arith;
        inside = omega (arith, left-long);
      }

  -- the last line
  pub takes-last : {next : ℕ} → length (take (length trace - at) (drop at trace)) ≤ stop → next ≡ at + stop
      → TakesTraceLine numbers trace at before after old new size next
  takes-last {next} past is =
      let ends : length (drop at trace) ≤ stop = rw (rest_of trace at) at past in
      let end : length trace ≤ next = omega (arith, left-long) in
      let all : drop next trace ≡ [] = drop_of_length-le trace end in
      record {
        made = replay_step numbers (take stop (drop at trace)) (view_in before);
        does = line_made;
        on =
            played-on numbers (take stop (drop at trace)) (view_in before)
            (lines-last found ends (omega (arith, left-long))
            ∙ ap (λ (l : List (List ℕ)). take stop (drop at trace) ∷ l) (sym (ap (lines_from []) all ∙ lines_none)));
        some = omega (arith, left-long);
        inside = omega (arith, left-long, found.begun.inside);
      }
