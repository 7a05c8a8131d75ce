-- The claims of this crate: two values that a promise allows are equal (rule 28.14), and the cases. Statements only.
use Rattle.std.specs.Prelude.{ℕ, ◌≡◌, Bool, Result}
use Rattle.length.specs.declared.Refusal.{Refusal}
use Rattle.session_release.specs.declared.Released.{Released}
use Rattle.frame.specs.declared.Handed.{Handed}
use Rattle.sender.specs.declared.Settings.{Settings}
use Rattle.host_answers.specs.Answers.{OfferedTold, ReleasedTold, WrittenTold}
use Rattle.host_answers.specs.Joiner.{FrameTold}
use Rattle.host_answers.specs.Settings.{SettingsTold}
use Rattle.host_answers.specs.Cases.{Cases}
use Rattle.host_answers.specs.declared.answers.Answered.{Answered}
use Rattle.host_answers.specs.declared.answers.Number.{Number}
use Rattle.host_answers.specs.declared.answers.Wrote.{Wrote}
use Rattle.host_answers.specs.declared.joiner.HandedFrame.{HandedFrame}

-- the contracts of the other functions name the value itself
pub record OneOutcome : Type 0 where
  pub offered : {from : Result (Unit {0}) Refusal} {r q : Answered} → OfferedTold from r → OfferedTold from q → r ≡ q
  pub released : {from : Result Released Refusal} {r q : Number} → ReleasedTold from r → ReleasedTold from q → r ≡ q
  pub written : {from : Result ℕ Refusal} {r q : Wrote} → WrittenTold from r → WrittenTold from q → r ≡ q
  pub frame : {from : Result Handed Refusal} {r q : HandedFrame} → FrameTold from r → FrameTold from q → r ≡ q
  pub settings : {parity : Bool} {count n : ℕ} {r q : Settings} → SettingsTold parity count n r → SettingsTold parity count n q → r ≡ q

pub record Claims : Type 0 where
  pub one_outcome : OneOutcome
  pub cases : Cases
