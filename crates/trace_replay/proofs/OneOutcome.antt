-- Two outcomes of a replay are one, and what it refuses. Assumes nothing.
use Prim.Native.Nat.{ℕ}
use Rattle.std.proofs.Common.{Result, Ok, Err}
use mathlib.Core.Path.{◌≡◌, refl, sym, ap, ◌∙◌}
use mathlib.Core.List.{List, []}
use mathlib.Core.Option.{some}
use native.Mathlib.Omega.{arith}
use Rattle.length.specs.Answers.{Answer, done, refused, fitted, over}
use Rattle.length.specs.declared.Refusal.{Refusal}
use Rattle.length.specs.Tables.{unless, first, refusal_in, room_row}
use Rattle.length.proofs.Laws.{fitted-first, refused-some}
use Rattle.length.specs.declared.Reason.{Reason}
use Rattle.line.specs.Lines.{Made}
use Rattle.session.specs.View as views
use Rattle.session_held.specs.Table.{counts_of}
use Rattle.session_held.specs.declared.Counts.{Counts}
use Rattle.trace_replay.specs.Replay.{replay}
use Rattle.trace_replay.specs.Promise.{ReplayAnswer, replayed_outcome, fitted_text, replay_answer, Replays}
use Rattle.trace_replay.specs.Claims.{ReplayRefuses, OneOutcome}
use Rattle.trace_replay.specs.declared.Replayed.{Replayed}

-- ---- an answer, by its outcome
counts_in : views.Counts → Counts
counts_in c = record { received = c.received; spare = c.spare; repaired = c.repaired; lost = c.lost }

answer_of : Answer ReplayAnswer → Result Replayed Refusal
answer_of (done told) = Ok (record { counts = counts_in told.counts; size = told.size })
answer_of (refused why) = Err why

answer_back : (r : Result Replayed Refusal) → answer_of (replayed_outcome r) ≡ r
unfolding answer_of counts_in
answer_back (Ok r) = refl
answer_back (Err why) = refl

pub one-outcome : OneOutcome
one-outcome =
    record {
      replay = λ {trace} {numbers} {old} {new} {other} {r} {q} a b.
          (sym (answer_back r) ∙ ap answer_of (a.answer ∙ sym b.answer) ∙ answer_back q, a.lent ∙ sym b.lent);
    }

-- ---- its refusals
told-refusal : (made : Made) (text : Answer (List ℕ)) → refusal_in (replay_answer made text) ≡ refusal_in text
told-refusal made (done t) = refl
told-refusal made (refused why) = refl

room : {trace numbers old new : List ℕ} {r : Result Replayed Refusal} → Replays trace numbers old new r
    → refusal_in (replayed_outcome r) ≡ first (room_row (replay numbers trace).text old)
unfolding unless
room {trace} {numbers} {old} a =
    let made = replay numbers trace in
    ap refusal_in a.answer ∙ told-refusal made (fitted_text made old) ∙ fitted-first [] made.text old

over-refused : (text : Answer (List ℕ)) (old : List ℕ) {n : Reason} → refusal_in text ≡ some n → over text old ≡ old
over-refused (done t) old e = let z : ◌≡◌ {A = ℕ} 0 1 = cc in absurd (omega arith)
over-refused (refused why) old e = refl

unchanged : {trace numbers old new : List ℕ} {r : Result Replayed Refusal} {n : Reason} → Replays trace numbers old new r
    → refusal_in (replayed_outcome r) ≡ some n → new ≡ old
unchanged {trace} {numbers} {old} a e =
    let made = replay numbers trace in
    a.lent ∙ over-refused (fitted_text made old) old (sym (ap refusal_in a.answer ∙ told-refusal made (fitted_text made old)) ∙ e)

pub refuses : ReplayRefuses
refuses = record { room = room; unchanged = unchanged }
