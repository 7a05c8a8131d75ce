-- The comparison of two traces, up to the room in the caller's list (rules 1.15, 22.1, 22.13 to 22.15, 22.21 and 22.22). A trace is a text;
-- it is cut into lines, and a line is read, by the program's own definitions (`line`). Definitions only.
use Rattle.std.specs.Prelude.{ℕ, suc, List, [], ◌∷◌, length, ltb}
use Rattle.std.proofs.Math.Option.{Option}
use Rattle.length.specs.Refusals.{too_many_lines}
use Rattle.length.specs.Answers as answers
use Rattle.length.specs.Answers.{Answer}
use Rattle.length.specs.Tables.{when, unless}
use Rattle.length.specs.declared.Reason.{Reason}
use Rattle.datagram.specs.Carried.{Carried}
use Rattle.datagram.specs.Read.{DatagramParts, read_datagram, carried_by}
use Rattle.line.specs.Hex.{line_octets}
use Rattle.line.specs.Lines.{lines_from}
use Rattle.trace_compare.specs.Pairing.{TraceLine}
use Rattle.trace_compare.specs.Entries.{Entry, entries}
use Rattle.trace_compare.specs.Told.{PlacedAnswer, told, stopped, at, no_place, ◌>>=◌}

-- a trace has at most 512 lines (rule 1.15)
abbrev pub lines_limit : ℕ
lines_limit = 512

abbrev pub first_trace : ℕ
first_trace = 1

abbrev pub second_trace : ℕ
second_trace = 2

-- ---- reading

-- the datagram that some octets hold
unfoldable pub datagram_of : List ℕ → Answer Carried
datagram_of octets = answers.mapped (carried_by octets) (read_datagram octets)

-- the datagram that a line holds, or why the line is refused (rule 22.22)
unfoldable pub datagram_in : List ℕ → Answer Carried
datagram_in line = answers.◌>>=◌ (line_octets line) datagram_of

-- the lines that hold datagrams, where the next line has number n: empty lines are skipped but counted (rule 22.13)
unfoldable pub lines_read : ℕ → ℕ → List (List ℕ) → PlacedAnswer (List TraceLine)
lines_read trace n [] = told []
lines_read trace n ([] ∷ lines) = lines_read trace (suc n) lines
lines_read trace n ((c ∷ line) ∷ lines) = do
  datagram ← at (record { trace = trace; line = n }) (datagram_in (c ∷ line))
  more ← lines_read trace (suc n) lines
  told (record { line = n; datagram = datagram } ∷ more)

-- a refusal names trace and line, both from 1 (rule 22.15)
unfoldable pub trace_read : ℕ → List ℕ → PlacedAnswer (List TraceLine)
trace_read trace text = lines_read trace 1 (lines_from [] text)

-- ---- the comparison

-- 22 if either trace has too many lines, before any reading refusal (rule 22.14)
abbrev pub too_many_rows : List ℕ → List ℕ → List (Option Reason)
too_many_rows first second =
    when (ltb lines_limit (length (lines_from [] first))) too_many_lines
    ∷ when (ltb lines_limit (length (lines_from [] second))) too_many_lines
    ∷ []

unfoldable pub comparison : List ℕ → List ℕ → PlacedAnswer (List Entry)
comparison first second = do
  few ← at no_place (unless (too_many_rows first second) (tt {0}))
  a ← trace_read first_trace first
  b ← trace_read second_trace second
  told (entries a b)
