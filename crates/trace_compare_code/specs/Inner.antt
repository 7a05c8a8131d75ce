-- The contracts of this crate's inner functions that list the entries (rules 22.10, 22.12 and 22.14 to 22.16). Definitions only.
use Rattle.std.specs.Prelude.{ℕ, ◌≤◌, ◌<◌, ◌≡◌, Bool, true, cond, ◌||◌, List, [], ◌∷◌, ◌++◌, length, take, ltb, Result}
use Rattle.std.proofs.Math.Option.{some}
use Rattle.std.proofs.Math.ListN.{get_elem?}
use Rattle.length.specs.Refusals.{refusal}
use Rattle.line.specs.Lines.{lines_from}
use Rattle.line.specs.Promise.{Appends}
use Rattle.trace_compare.specs.Pairing.{TraceLine, mate}
use Rattle.trace_compare.specs.Entries.{numbers_of, only_second, at_first, entries}
use Rattle.trace_compare.specs.Told.{told, mapped_placed}
use Rattle.trace_compare.specs.Traces.{lines_limit, datagram_of, datagram_in}
use Rattle.trace_compare.specs.Promise.{compared_outcome, fitted_entries, list_after}
use Rattle.trace_compare.specs.declared.TraceRefusal.{TraceRefusal}
use Rattle.trace_compare_code.specs.Numbers.{often}
use Rattle.length.specs.Answers.{is_done}
use Rattle.length.specs.declared.Reason.{Reason}
use Rattle.trace_compare_code.specs.Lines.{line_from}

-- ---- lines

-- the octets of a line that holds a datagram, at the front of a buffer
pub record OctetsRead (line new : List ℕ) (size : ℕ) : Type 0 where
  pub inside : size ≤ length new
  pub carries : datagram_of (take size new) ≡ datagram_in line

-- the line that begins at a place of a trace holds a datagram
pub record HoldsDatagram (trace : List ℕ) (at : ℕ) : Type 0 where
  pub inside : at < length trace
  pub reads : is_done (datagram_in (line_from trace at)) ≡ true

-- what is listed for line i of the first trace
pub record PutsFirst (first second : List TraceLine) (i : ℕ) (old : List ℕ) (at : ℕ) (new : List ℕ) (r : ℕ) : Type 0 where
  pub puts : (l : TraceLine) → get_elem? first i ≡ some l → Appends (numbers_of (at_first l (mate (take i first) l second))) old at new r

-- what is listed for a line of the second trace, from the first trace's numbers, the numbers before the line, and its own (rule 22.4)
abbrev pub second_row : List ℕ → List ℕ → ℕ → List ℕ
second_row first before number = cond (ltb (often number before) (often number first)) [] (number ∷ only_second ∷ [])

unfoldable pub second_rows : List ℕ → List ℕ → List ℕ → List ℕ
second_rows first before [] = []
second_rows first before (number ∷ numbers) = second_row first before number ++ second_rows first (before ++ (number ∷ [])) numbers

-- ---- the whole

-- a refusal that belongs to no line (rule 22.15)
pub record RefusedNowhere (why : Reason) (r : TraceRefusal) : Type 0 where
  pub answer : r ≡ record { why = refusal why; trace = 0; line = 0 }

-- one of the traces has too many lines (rule 22.14)
unfoldable pub too_many : List ℕ → List ℕ → Bool
too_many first second = ltb lines_limit (length (lines_from [] first)) || ltb lines_limit (length (lines_from [] second))

-- the entries of two traces that were read
pub record ListsAll (first second : List TraceLine) (old new : List ℕ) (r : Result ℕ TraceRefusal) : Type 0 where
  pub answer : compared_outcome r ≡ mapped_placed length (fitted_entries (told (entries first second)) old)
  pub lent : new ≡ list_after (fitted_entries (told (entries first second)) old) old
