-- What each case of the answer means, with the rules' number (rule 30.10). Definitions only.
use Rattle.std.specs.Prelude.{Result, Ok, Err}
use Rattle.length.specs.declared.Refusal.{Refusal}
use Rattle.length.specs.Answers.{Answer, done, refused, mapped}
use Rattle.session.specs.View.{View}

-- a done call has no value of its own
abbrev pub solved_outcome : Result (Unit {0}) Refusal → Answer (Unit {0})
solved_outcome (Ok x) = done x
solved_outcome (Err r) = refused r

abbrev pub filled_of : Answer View → Answer (Unit {0})
filled_of answer = mapped (λ (view : View). tt) answer
