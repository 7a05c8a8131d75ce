-- The claims of solve (rules 14.2, 14.6, 14.7 and 14.10). Statements only.
use Rattle.std.specs.Prelude.{ℕ, ◌≡◌, ◌↔◌, true, false, Ok, Err}
use Rattle.length.specs.Refusals.{refusal, outside_ranges, no_solution}
use Rattle.length.specs.Answers.{Answer}
use Rattle.length.specs.Claims.{Octets}
use Rattle.length.specs.declared.Refusal.{Refusal}
use Rattle.session.specs.Held.{held_messages}
use Rattle.session.specs.Reached.{Known}
use Rattle.session.specs.View.{View}
use Rattle.session_held.specs.Table.{view_of}
use Rattle.session_held.specs.Laid.{session_in_ranges}
use Rattle.session_held.specs.declared.Session.{Session}
use Rattle.solve.specs.Equations.{Solvable, Unsolvable, NoOctets, OneOctets}
use Rattle.solve.specs.Solved.{SolvedTo}
use Rattle.session_calls.specs.Solver.{SolvesAs, SolveOwes}
use Rattle.session_calls.specs.declared.Returned.{Returned}

-- some values satisfy all equations of this session; or none do
abbrev pub HasSolution : Session → Type 0
HasSolution s = Solvable (view_of s).cells (held_messages (view_of s).held)

abbrev pub HasNone : Session → Type 0
HasNone s = Unsolvable (view_of s).cells (held_messages (view_of s).held)

-- every octet of the session's memory is below 256, as in every session of the struct's type
pub record OctetSession (s : Session) : Type 0 where
  pub packets : Octets s.octets
  pub messages : Octets s.messages

-- what the call answers, of any session
pub record SolveAnswers : Type 0 where
  -- 17 exactly outside the ranges (rule 14.7)
  pub refused17 : (s : Session) (r : Returned (Unit {0})) → SolveOwes s r
      → (r.answer ≡ Err (refusal outside_ranges)) ↔ (session_in_ranges s ≡ false)
  -- 23 exactly within them and if nothing satisfies the equations (rule 14.6)
  pub refused23 : (s : Session) (r : Returned (Unit {0})) → SolveOwes s r
      → (r.answer ≡ Err (refusal no_solution)) ↔ ((session_in_ranges s ≡ true) × HasNone s)
  -- done exactly within them and if something does; then the session is what the equations mean (rules 14.2 to 14.4 and 14.8)
  pub filled : (s : Session) (r : Returned (Unit {0})) → SolveOwes s r
      → (r.answer ≡ Ok tt) ↔ ((session_in_ranges s ≡ true) × HasSolution s)
  pub solved_to : (s : Session) (r : Returned (Unit {0})) → SolveOwes s r → r.answer ≡ Ok tt → SolvedTo (view_of s) (view_of r.session)
  -- a refusal changes nothing (rule 14.7)
  pub refused_stays : (s : Session) (r : Returned (Unit {0})) (x : Refusal) → SolveOwes s r → r.answer ≡ Err x → r.session ≡ s

-- over octets: 23 exactly if no octets satisfy the equations (rule 14.6), and after a call that is done a number is known exactly if the
-- octets that satisfy them allow only one value for it (rule 14.2)
pub record SolveOctets : Type 0 where
  pub refused23 : (s : Session) (r : Returned (Unit {0})) → OctetSession s → SolveOwes s r → session_in_ranges s ≡ true
      → (r.answer ≡ Err (refusal no_solution)) ↔ NoOctets (view_of s).cells (held_messages (view_of s).held)
  pub known : (s : Session) (r : Returned (Unit {0})) → OctetSession s → SolveOwes s r → r.answer ≡ Ok tt → (p : ℕ)
      → Known (view_of r.session).cells p ↔ OneOctets (view_of s).cells (held_messages (view_of s).held) p

pub record SolverClaims : Type 0 where
  pub answers : SolveAnswers
  pub over_octets : SolveOctets
  -- each session has one answer, so two outcomes that the promise allows are equal (rule 28.14)
  pub one_answer : (s : Session) (a b : Answer View) → SolvesAs s a → SolvesAs s b → a ≡ b
  pub one_outcome : (s : Session) (r q : Returned (Unit {0})) → SolveOwes s r → SolveOwes s q → r ≡ q
  -- the session after is within its ranges (rule 13.13)
  pub after_solve : (s : Session) (r : Returned (Unit {0})) → SolveOwes s r → session_in_ranges s ≡ true → session_in_ranges r.session ≡ true
  -- a second call directly after the first fills nothing more (rule 14.10)
  pub nothing_more : (s : Session) (r q : Returned (Unit {0})) → SolveOwes s r → r.answer ≡ Ok tt → SolveOwes r.session q → q ≡ r
