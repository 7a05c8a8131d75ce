-- The contracts of this crate's functions that read a trace line by line (rules 22.13, 22.15 and 22.21). Definitions only.
use Rattle.std.specs.Prelude.{ℕ, ◌+◌, ◌-◌, ◌≤◌, ◌<◌, ◌≡◌, List, [], ◌∷◌, map, length, get_or, take, drop, set, Result, Ok, Err}
use Rattle.std.proofs.Math.Option.{some}
use Rattle.std.proofs.Math.ListN.{get_elem?}
use Rattle.length.specs.Answers.{Answer, done, refused, mapped}
use Rattle.length.specs.declared.Refusal.{Refusal}
use Rattle.datagram.specs.Carried.{Carried}
use Rattle.line.specs.Lines.{lines_from}
use Rattle.trace_compare.specs.Pairing.{TraceLine, number_of_line}
use Rattle.trace_compare.specs.Told.{PlacedAnswer, told, stopped, Where}
use Rattle.trace_compare.specs.Traces.{datagram_in, trace_read}
use Rattle.trace_compare.specs.Promise.{compared_outcome}
use Rattle.trace_compare.specs.declared.TraceRefusal.{TraceRefusal}

-- ---- one line

-- the first of some lines
abbrev pub first_line : List (List ℕ) → List ℕ
first_line [] = []
first_line (line ∷ lines) = line

-- the line that begins at a place of a trace
unfoldable pub line_from : List ℕ → ℕ → List ℕ
line_from trace at = first_line (lines_from [] (drop at trace))

-- the line that begins at `at` ends at `end`, and the next one begins at `next`
pub record LineCut (trace : List ℕ) (at end next : ℕ) : Type 0 where
  pub line : lines_from [] (drop at trace) ≡ take (end - at) (drop at trace) ∷ lines_from [] (drop next trace)
  pub low : at ≤ end
  pub high : end ≤ length trace
  pub on : at < next
  pub inside : next ≤ length trace
  pub feed : end < length trace → next ≡ end + 1
  pub last : length trace ≤ end → next ≡ end

-- what a line holds: the number of its datagram, or why it is refused
abbrev pub held_outcome : Result ℕ Refusal → Answer ℕ
held_outcome (Ok number) = done number
held_outcome (Err why) = refused why

abbrev pub number_told : Answer Carried → Answer ℕ
number_told answer = mapped (λ (c : Carried). c.number) answer

-- ---- what is kept of a line

-- room for one more line
pub record RoomFor (count : ℕ) (numbers starts : List ℕ) : Type 0 where
  pub number : count < length numbers
  pub place : count < length starts

-- what is done with a line: an empty one is skipped; number and place are kept of one that holds a datagram (rule 22.13)
pub record KeepsLine (line : List ℕ) (at : ℕ) (numbers new_numbers starts new_starts : List ℕ) (count : ℕ) (r : Result ℕ Refusal) : Type 0 where
  pub empty : length line ≡ 0 → (r ≡ Ok count) × (new_numbers ≡ numbers) × (new_starts ≡ starts)
  pub holds : (datagram : Carried) → 1 ≤ length line → datagram_in line ≡ done datagram
      → (r ≡ Ok (count + 1)) × (new_numbers ≡ set numbers count datagram.number) × (new_starts ≡ set starts count at)
  pub refuses : (why : Refusal) → 1 ≤ length line → datagram_in line ≡ refused why → r ≡ Err why

-- ---- what is kept of a trace

-- a line begins at a place of a trace
pub record Stands (trace : List ℕ) (at : ℕ) (l : TraceLine) : Type 0 where
  pub inside : at < length trace
  pub read : datagram_in (line_from trace at) ≡ done l.datagram

-- the numbers of some lines, and the places where they begin
pub record KeptTrace (trace : List ℕ) (lines : List TraceLine) (numbers starts : List ℕ) : Type 0 where
  pub each : numbers ≡ map number_of_line lines
  pub places : (k : ℕ) (l : TraceLine) → get_elem? lines k ≡ some l → Stands trace (get_or starts k 0) l
  pub room : length lines ≤ length starts

-- room for every line
pub record RoomForLines (trace numbers starts : List ℕ) : Type 0 where
  pub number : length (lines_from [] trace) ≤ length numbers
  pub place : length (lines_from [] trace) ≤ length starts

-- the lines of a trace that hold datagrams
abbrev pub told_lines : PlacedAnswer (List TraceLine) → List TraceLine
told_lines (told lines) = lines
told_lines (stopped why place) = []

unfoldable pub datagram_lines : ℕ → List ℕ → List TraceLine
datagram_lines which trace = told_lines (trace_read which trace)

-- all lines that hold datagrams are kept
pub record TraceKept (which : ℕ) (trace numbers starts : List ℕ) (count : ℕ) : Type 0 where
  pub read : trace_read which trace ≡ told (datagram_lines which trace)
  pub few : count ≤ length (lines_from [] trace)
  pub inside : count ≤ length numbers
  pub kept : KeptTrace trace (datagram_lines which trace) (take count numbers) starts

-- a line is refused, and the answer names it (rule 22.15)
pub record TraceRefused (which : ℕ) (trace : List ℕ) (answer : TraceRefusal) : Type 0 where
  pub why : Refusal
  pub place : Where
  pub read : trace_read which trace ≡ stopped why place
  pub told : compared_outcome (Err answer) ≡ stopped why place

pub record ReadsTrace (which : ℕ) (trace numbers starts : List ℕ) (r : Result ℕ TraceRefusal) : Type 0 where
  pub kept : (count : ℕ) → r ≡ Ok count → TraceKept which trace numbers starts count
  pub refused : (answer : TraceRefusal) → r ≡ Err answer → TraceRefused which trace answer
