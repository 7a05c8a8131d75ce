-- What each case of a release's answer is, in the rules' number and values (rule 30.10). Definitions only.
use Rattle.std.specs.Prelude.{ℕ, List, length, Result, Ok, Err}
use Rattle.length.specs.declared.Refusal.{Refusal}
use Rattle.length.specs.Answers.{Answer, done, refused, mapped}
use Rattle.session.specs.Cells as cells
use Rattle.session.specs.Release.{Release}
use Rattle.session_held.specs.Table.{state_of}
use Rattle.session_release.specs.declared.Released.{Released}

-- what a release returns of the number that leaves (rule 12.2)
pub record Handed : Type 0 where
  pub kind : cells.State
  pub number : ℕ
  pub note : ℕ
  pub size : ℕ

abbrev pub released_outcome : Result Released Refusal → Answer Handed
released_outcome (Ok r) = done (record { kind = state_of r.kind; number = r.number; note = r.note; size = r.size })
released_outcome (Err why) = refused why

abbrev pub handed_of : Answer Release → Answer Handed
handed_of answer =
    mapped (λ (r : Release). record { kind = r.kind; number = r.number; note = r.note; size = length r.octets }) answer

-- the octets that a release writes to the caller's buffer
abbrev pub octets_handed : Answer Release → Answer (List ℕ)
octets_handed answer = mapped (λ (r : Release). r.octets) answer
