-- An answer as C gets it: 0 if the call is done, or the refusal's number and place (rules 24.1, 24.2, 24.8 and 24.10). Definitions only.
use Rattle.std.specs.Prelude.{ℕ, ◌≡◌, Result}
use Rattle.length.specs.declared.Refusal.{Refusal}
use Rattle.length.specs.Answers.{Answer, done, refused, written_outcome}
use Rattle.length.specs.Refusals.{number_of}
use Rattle.line.specs.Lines.{kind_octet}
use Rattle.session_release.specs.Outcome.{Handed, released_outcome}
use Rattle.session_release.specs.declared.Released.{Released}
use Rattle.session_offer.specs.Outcome.{offered_outcome}
use Rattle.host_answers.specs.declared.answers.Answered.{Answered}
use Rattle.host_answers.specs.declared.answers.Number.{Number}
use Rattle.host_answers.specs.declared.answers.Wrote.{Wrote}

abbrev pub told : {A : Type 0} → Answer A → Answered
told (done a) = record { refusal = 0; place = 0 }
told (refused why) = record { refusal = number_of why.reason; place = why.place }

-- a release: the kind as in the program's lines, the number, its note, the size of its packet; with a refusal all else is 0 (rules 24.8
-- and 24.17)
abbrev pub release_number : Answer Handed → Number
release_number (done a) = record { refusal = 0; kind = kind_octet a.kind; number = a.number; note = a.note; place = 0; size = a.size }
release_number (refused why) = record { refusal = number_of why.reason; kind = 0; number = 0; note = 0; place = why.place; size = 0 }

-- a call that writes: how many octets it wrote, 0 with a refusal (rule 24.10)
abbrev pub wrote_told : Answer ℕ → Wrote
wrote_told (done n) = record { refusal = 0; place = 0; size = n }
wrote_told (refused why) = record { refusal = number_of why.reason; place = why.place; size = 0 }

-- each case of the library's answer encoded as numbers
pub record OfferedTold (from : Result (Unit {0}) Refusal) (r : Answered) : Type 0 where
  pub is : r ≡ told (offered_outcome from)

pub record ReleasedTold (from : Result Released Refusal) (r : Number) : Type 0 where
  pub is : r ≡ release_number (released_outcome from)

pub record WrittenTold (from : Result ℕ Refusal) (r : Wrote) : Type 0 where
  pub is : r ≡ wrote_told (written_outcome from)
