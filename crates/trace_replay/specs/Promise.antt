-- The promise of the replay (rules 21.2 and 21.6), as a record that its contract cites. Definitions only.
use Rattle.std.specs.Prelude.{ℕ, ◌≡◌, List, length, Result, Ok, Err}
use Rattle.length.specs.Answers.{Answer, done, refused, mapped, fitted, over}
use Rattle.length.specs.declared.Refusal.{Refusal}
use Rattle.session.specs.View.{Counts}
use Rattle.session_held.specs.Table.{counts_of}
use Rattle.line.specs.Lines.{Made}
use Rattle.trace_replay.specs.Replay.{replay}
use Rattle.trace_replay.specs.declared.Replayed.{Replayed}

-- the four counts (rule 21.2), and how many characters are written
pub record ReplayAnswer : Type 0 where
  pub counts : Counts
  pub size : ℕ

-- each case of the answer, with the rules' number and values (rule 30.10)
abbrev pub replayed_outcome : Result Replayed Refusal → Answer ReplayAnswer
replayed_outcome (Ok r) = done (record { counts = counts_of r.counts; size = r.size })
replayed_outcome (Err why) = refused why

-- the text, or 13 if it does not fit (rule 21.6)
abbrev pub fitted_text : Made → List ℕ → Answer (List ℕ)
fitted_text made old = fitted (done made.text) old

-- what the call returns: counts and size, or 13
abbrev pub replay_answer : Made → Answer (List ℕ) → Answer ReplayAnswer
replay_answer made text = mapped (λ (t : List ℕ). record { counts = made.after.counts; size = length t }) text

-- the answer, and the whole of the caller's buffer: a refusal writes nothing (rule 21.6)
pub record Replays (trace numbers old new : List ℕ) (r : Result Replayed Refusal) : Type 0 where
  pub answer : replayed_outcome r ≡ replay_answer (replay numbers trace) (fitted_text (replay numbers trace) old)
  pub lent : new ≡ over (fitted_text (replay numbers trace) old) old
