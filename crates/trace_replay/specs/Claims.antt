-- The claims of this crate about the replay (rules 21.1 to 21.7), a field for each. Statements alone.
use Rattle.std.specs.Prelude.{ℕ, ◌≡◌, ◌↔◌, true, false, cond, Result}
use mathlib.Core.List.{List, [], ◌∷◌, ◌++◌, Memᴰ as Among}
use Rattle.std.proofs.Math.Option.{some}
use Rattle.length.specs.Answers.{done, refused}
use Rattle.length.specs.Tables.{first, refusal_in, room_row}
use Rattle.length.specs.declared.Refusal.{Refusal}
use Rattle.length.specs.declared.Reason.{Reason}
use Rattle.session.specs.View.{View, fresh_view}
use Rattle.line.specs.Lines.{Made, line_feed, refusal_line, answer_line, step, lines_from, steps, program}
use Rattle.trace_replay.specs.Replay.{number_in, listed, dropped, replay_step, replay_steps, replay}
use Rattle.trace_replay.specs.Promise.{replayed_outcome, Replays}
use Rattle.trace_replay.specs.Cases.{Cases}
use Rattle.trace_replay.specs.declared.Replayed.{Replayed}

-- the lines that are not dropped, in order (rule 21.1)
unfoldable pub not_dropped : List ℕ → List (List ℕ) → List (List ℕ)
not_dropped numbers [] = []
not_dropped numbers (line ∷ lines) = cond (dropped numbers line) (not_dropped numbers lines) (line ∷ not_dropped numbers lines)

-- lines as a text, each ended by a line feed
unfoldable pub lines_text : List (List ℕ) → List ℕ
lines_text [] = []
lines_text (line ∷ lines) = line ++ line_feed ∷ lines_text lines

-- the number of a line's datagram is listed
pub record Listed (numbers line : List ℕ) : Type 0 where
  pub number : ℕ
  pub read : number_in line ≡ done number
  pub among : listed numbers number ≡ true

-- ---- a replay has the lines and counts that the program would have (rule 21.2)
pub record AsProgram : Type 0 where
  -- the text and the session after it are the program's for the lines that are left
  pub rest : (numbers : List ℕ) (lines : List (List ℕ)) (view : View) → replay_steps numbers lines view ≡ steps (not_dropped numbers lines) view
  -- so the text is what the program writes for the trace without the dropped lines (rules 21.1 and 21.2)
  pub text : (numbers trace : List ℕ) → (replay numbers trace).text ≡ program (lines_text (not_dropped numbers (lines_from [] trace)))
  -- with an empty list the replay is the program
  pub whole : (trace : List ℕ) → replay [] trace ≡ steps (lines_from [] trace) fresh_view
  pub program : (trace : List ℕ) → (replay [] trace).text ≡ program trace

-- ---- what is dropped
pub record Dropping : Type 0 where
  -- a line is dropped exactly if it reads and its number is listed (rules 21.1 and 21.5)
  pub exactly : (numbers line : List ℕ) → (dropped numbers line ≡ true) ↔ Listed numbers line
  -- a dropped line, wherever it is, changes nothing: the rest is played as if it were not there (rule 21.4)
  pub nothing : (numbers line : List ℕ) (before after : List (List ℕ)) (view : View) → dropped numbers line ≡ true
      → replay_steps numbers (before ++ line ∷ after) view ≡ replay_steps numbers (before ++ after) view
  -- a line that does not read is refused as the program refuses it, and never dropped (rule 21.5)
  pub unreadable : (numbers : List ℕ) (c : ℕ) (line : List ℕ) (view : View) (why : Refusal) → number_in (c ∷ line) ≡ refused why
      → (replay_step numbers (c ∷ line) view ≡ step (c ∷ line) view)
      × (answer_line (c ∷ line) view ≡ record { text = refusal_line why; after = view })
  -- an empty line is a give-up (rule 21.1)
  pub give_up : (numbers : List ℕ) (view : View) → replay_step numbers [] view ≡ step [] view

-- ---- the list
pub record Lists : Type 0 where
  -- a number listed twice counts once (rule 21.3)
  pub twice : (numbers trace : List ℕ) (number : ℕ) → listed numbers number ≡ true → replay (number ∷ numbers) trace ≡ replay numbers trace
  -- the order of the list does not matter: lists of the same numbers give the same replay
  pub alike : (numbers others trace : List ℕ) → ((number : ℕ) → listed numbers number ≡ listed others number)
      → replay numbers trace ≡ replay others trace
  -- a listed number that never occurs does nothing (rule 21.3)
  pub never_occurs : (numbers trace : List ℕ) (number : ℕ)
      → ((line : List ℕ) → Among line (lines_from [] trace) → dropped (number ∷ []) line ≡ false)
      → replay (number ∷ numbers) trace ≡ replay numbers trace
  -- a longer list drops further lines out of those that are left, and every line that is left is in the trace. No more is
  -- claimed: nothing like demand 3 is claimed of what the lines release (rule 21.7; `in-time` in `Cases`)
  pub more : (numbers others : List ℕ) (lines : List (List ℕ)) → not_dropped (numbers ++ others) lines ≡ not_dropped numbers (not_dropped others lines)
  pub from_trace : (numbers line : List ℕ) (lines : List (List ℕ)) → Among line (not_dropped numbers lines)
      → Among line lines × (dropped numbers line ≡ false)

-- ---- 13 is given if the lines do not fit, and then nothing is written (rule 21.6)
pub record ReplayRefuses : Type 0 where
  pub room : {trace numbers old new : List ℕ} {r : Result Replayed Refusal} → Replays trace numbers old new r
      → refusal_in (replayed_outcome r) ≡ first (room_row (replay numbers trace).text old)
  pub unchanged : {trace numbers old new : List ℕ} {r : Result Replayed Refusal} {n : Reason} → Replays trace numbers old new r
      → refusal_in (replayed_outcome r) ≡ some n → new ≡ old

-- two outcomes that the promise allows are equal (rule 28.14)
pub record OneOutcome : Type 0 where
  pub replay : {trace numbers old new other : List ℕ} {r q : Result Replayed Refusal} → Replays trace numbers old new r
      → Replays trace numbers old other q
      → (r ≡ q) × (new ≡ other)

pub record Claims : Type 0 where
  pub as_program : AsProgram
  pub dropping : Dropping
  pub lists : Lists
  pub refuses : ReplayRefuses
  pub one_outcome : OneOutcome
  pub cases : Cases
