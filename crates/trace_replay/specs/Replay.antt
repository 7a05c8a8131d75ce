-- The replay of a trace without the datagrams of listed numbers (rules 21.1 to 21.5 and 21.9). A line is read, and its result is written,
-- by the program's own definitions (`line`). Definitions only.
use Rattle.std.specs.Prelude.{ℕ, Bool, false, cond, ◌||◌, List, [], ◌∷◌, eqb}
use Rattle.length.specs.Answers.{Answer, done, refused, ◌>>=◌}
use Rattle.datagram.specs.Read.{read_datagram}
use Rattle.session.specs.View.{View, fresh_view}
use Rattle.line.specs.Hex.{line_octets}
use Rattle.line.specs.Lines.{Made, silent, ◌then◌, step, lines_from}

-- ---- which lines are dropped (rules 21.1, 21.3 and 21.5)

-- the number of the datagram that a line holds
unfoldable pub number_in : List ℕ → Answer ℕ
number_in line = do
  octets ← line_octets line
  datagram ← read_datagram octets
  done datagram.number

-- whether a number is in the list (rule 21.1)
unfoldable pub listed : List ℕ → ℕ → Bool
listed [] number = false
listed (n ∷ numbers) number = eqb n number || listed numbers number

-- a datagram's number is looked up in the list; a line that does not read is never dropped, and an empty line does not read (rule 21.5)
abbrev pub listed_as : List ℕ → Answer ℕ → Bool
listed_as numbers (done number) = listed numbers number
listed_as numbers (refused why) = false

unfoldable pub dropped : List ℕ → List ℕ → Bool
dropped numbers line = listed_as numbers (number_in line)

-- ---- what the rest gives

-- one line of the trace: a dropped one writes no line and triggers no release (rule 21.4); any other is the program's step
unfoldable pub replay_step : List ℕ → List ℕ → View → Made
replay_step numbers line view = cond (dropped numbers line) (silent view) (step line view)

-- line after line
unfoldable pub replay_steps : List ℕ → List (List ℕ) → View → Made
replay_steps numbers [] view = silent view
replay_steps numbers (line ∷ lines) view = replay_step numbers line view then replay_steps numbers lines

-- the whole replay, from a fresh session: what is written, and the session after it (rules 21.1, 21.2 and 21.9)
unfoldable pub replay : List ℕ → List ℕ → Made
replay numbers trace = replay_steps numbers (lines_from [] trace) fresh_view
