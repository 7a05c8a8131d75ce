-- The contracts of this crate's inner functions (rules 21.1 to 21.6). Definitions only.
use Rattle.std.specs.Prelude.{ℕ, ◌+◌, ◌≤◌, ◌<◌, ◌≡◌, Bool, true, false, List, [], ◌++◌, length, drop, Option, Some, Result}
use Rattle.length.specs.Answers.{done}
use Rattle.length.specs.declared.Refusal.{Refusal}
use Rattle.session.specs.View.{View}
use Rattle.session_held.specs.Table.{Lent, view_in}
use Rattle.line.specs.Lines.{Made, ◌then◌, lines_from}
use Rattle.line.specs.Promise.{Appends, Does}
use Rattle.trace_replay.specs.Replay.{number_in, replay_steps, replay}
use Rattle.trace_replay.specs.Promise.{replayed_outcome, fitted_text, replay_answer}
use Rattle.trace_replay.specs.declared.Replayed.{Replayed}

-- what the front of a line gives: if the line holds a datagram, the datagram's number (rule 4.1)
pub record FrontTold (line : List ℕ) (r : Option ℕ) : Type 0 where
  pub told : (number : ℕ) → number_in line ≡ done number → r ≡ Some number

-- the replay of a trace from a place on
abbrev pub played_from : List ℕ → List ℕ → ℕ → View → Made
played_from numbers trace at view = replay_steps numbers (lines_from [] (drop at trace)) view

-- one line is taken: its text, the session after it, and where the rest of the trace begins
pub record TakesTraceLine (numbers trace : List ℕ) (at : ℕ) (before after : Lent) (old new : List ℕ) (size next : ℕ) : Type 0 where
  pub made : Made
  pub does : Does made old 0 after size new
  pub on : played_from numbers trace at (view_in before) ≡ made then played_from numbers trace next
  pub some : at < next
  pub inside : next ≤ length trace

-- text is written behind what is there if `writes` is true
pub record Lays (writes : Bool) (text old : List ℕ) (at : ℕ) (new : List ℕ) (end : ℕ) : Type 0 where
  pub written : writes ≡ true → Appends text old at new end
  pub unwritten : writes ≡ false → new ≡ old
  pub after : end ≡ at + length text

-- how many characters of the caller's buffer can be saved
abbrev pub kept_aside : ℕ
kept_aside = 131072

-- all lines are played, and written to the caller's buffer if `writes` is true. The answer is the replay's; after a refusal the buffer may
-- be overwritten, and `play_aside` restores it
pub record Plays (trace numbers : List ℕ) (writes : Bool) (old new : List ℕ) (r : Result Replayed Refusal) : Type 0 where
  pub answer : replayed_outcome r ≡ replay_answer (replay numbers trace) (fitted_text (replay numbers trace) old)
  pub written : writes ≡ true → length (replay numbers trace).text ≤ length old
      → new ≡ (replay numbers trace).text ++ drop (length (replay numbers trace).text) old
  pub unwritten : writes ≡ false → new ≡ old
  pub long : length new ≡ length old
