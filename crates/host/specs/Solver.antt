-- What the call from C that solves promises: what the library's own call promises, for the session in the caller's memory (rules 14.2, 14.7
-- and 24.11). The call that takes any memory and its form that requires the ranges promise the same (rules 24.3 and 24.4). Definitions
-- only.
use Rattle.std.specs.Prelude.{ℕ, ◌≡◌, List, Result}
use Rattle.length.specs.declared.Refusal.{Refusal}
use Rattle.length.specs.Answers.{Answer}
use Rattle.session.specs.View.{View}
use Rattle.solve_code.specs.Outcome.{solved_outcome}
use Rattle.session_calls.specs.Receiver.{After}
use Rattle.session_calls.specs.Solver.{SolvesAs}
use Rattle.host_answers.specs.Answers.{told}
use Rattle.host.specs.Receiver.{session_in}
use Rattle.host_answers.specs.declared.answers.Answered.{Answered}
use Rattle.host.specs.declared.receiver.Head.{Head}

pub record SolvedTold (from : Result (Unit {0}) Refusal) (r : Answered) : Type 0 where
  pub is : r ≡ told (solved_outcome from)

-- table and octets are the table and the packets before it, table₂ and octets₂ after it
pub record SolveHosted (h : Head) (table octets messages table₂ octets₂ : List ℕ) (r : Answered) : Type 0 where
  pub wanted : Answer View
  pub means : SolvesAs (session_in h table octets messages) wanted
  pub answer : r ≡ told wanted
  pub state : After wanted (session_in h table octets messages) (session_in h table₂ octets₂ messages)

-- ---- two outcomes that the promise allows are equal (rule 28.14)
pub record OneSolved : Type 0 where
  pub solve : {h : Head} {table octets messages table₂ octets₂ table₃ octets₃ : List ℕ} {r q : Answered}
      → SolveHosted h table octets messages table₂ octets₂ r → SolveHosted h table octets messages table₃ octets₃ q
      → (r ≡ q) × (table₂ ≡ table₃) × (octets₂ ≡ octets₃)
