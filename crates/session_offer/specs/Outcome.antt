-- What each case of offer's answer is, in the rules' number (rule 30.10). Definitions only.
use Rattle.length.specs.Refusals.{refusal}
use Rattle.length.specs.declared.Refusal.{Refusal}
use Rattle.length.specs.Answers.{Answer, done, refused, mapped}
use Rattle.length.specs.declared.Reason.{Reason}
use Rattle.std.specs.Prelude.{ℕ, Result, Ok, Err}
use Rattle.session.specs.View.{View}

-- an accepted offer has no value
abbrev pub offered_outcome : Result (Unit {0}) Refusal → Answer (Unit {0})
offered_outcome (Ok x) = done x
offered_outcome (Err r) = refused r

abbrev pub accepted_of : Answer View → Answer (Unit {0})
accepted_of answer = mapped (λ (view : View). tt) answer

-- a refused offer
abbrev pub refused_as : Reason → (Result (Unit {0}) Refusal)
refused_as why = Err (refusal why)
