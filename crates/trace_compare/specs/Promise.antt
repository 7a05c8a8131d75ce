-- The promise of comparing two traces (rules 22.15 and 22.16), as a record that its contract cites. Definitions only.
use Rattle.std.specs.Prelude.{ℕ, ◌≡◌, cond, List, ◌++◌, length, drop, leb, Result, Ok, Err}
use Rattle.length.specs.Refusals.{no_room}
use Rattle.length.specs.Answers.{done, refuse}
use Rattle.length.specs.declared.Refusal.{Refusal}
use Rattle.trace_compare.specs.Entries.{Entry, numbers_of}
use Rattle.trace_compare.specs.Told.{PlacedAnswer, told, stopped, at, no_place, mapped_placed}
use Rattle.trace_compare.specs.Traces.{comparison}
use Rattle.trace_compare.specs.declared.TraceRefusal.{TraceRefusal}

-- a refusal of the call, at a line of a trace
abbrev pub refused_at : Refusal → ℕ → ℕ → Result ℕ TraceRefusal
refused_at why trace line = Err (record { why = why; trace = trace; line = line })

-- each case of the answer, with the rules' numbers and values (rule 30.10)
abbrev pub compared_outcome : Result ℕ TraceRefusal → PlacedAnswer ℕ
compared_outcome (Ok count) = told count
compared_outcome (Err r) = stopped r.why (record { trace = r.trace; line = r.line })

-- 13 if the entries are longer than the caller's list, after all other refusals (rule 22.16)
abbrev pub fitted_entries : PlacedAnswer (List Entry) → List ℕ → PlacedAnswer (List Entry)
fitted_entries (told entries) old = at no_place (cond (leb (length (numbers_of entries)) (length old)) (done entries) (refuse no_room))
fitted_entries (stopped why place) old = stopped why place

-- the caller's list afterwards: the entries at its front and the rest unchanged, or all unchanged after a refusal (rules 2.26 and 22.16)
abbrev pub list_after : PlacedAnswer (List Entry) → List ℕ → List ℕ
list_after (told entries) old = numbers_of entries ++ drop (length (numbers_of entries)) old
list_after (stopped why place) old = old

-- the answer, which has the count of entries, and the whole of the caller's list
pub record Compares (first second old new : List ℕ) (r : Result ℕ TraceRefusal) : Type 0 where
  pub answer : compared_outcome r ≡ mapped_placed length (fitted_entries (comparison first second) old)
  pub lent : new ≡ list_after (fitted_entries (comparison first second) old) old
