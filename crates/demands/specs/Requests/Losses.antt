-- Solving with an honest sender: it is never refused, and a fill is the sender's packet with zeros at its end (rule 14.9); demand 3
-- covers solving too, if it comes after the offers and ends both lists (rule 28.11). All this is stated of sessions and the public calls.
-- That demand 2's known set includes these fills (rule 28.5) is part of demand 2, whose chains include solving (Calls, ReachedBy).
-- Statements only.
use Rattle.std.specs.Prelude.{ℕ, ◌<◌, ◌≡◌, Ok}
use mathlib.Core.List.{List, Memᴰ as Among}
use Rattle.session.specs.Cells.{cell_at, filled_cell, repaired, kept_numbers}
use Rattle.session.specs.Held.{held_messages}
use Rattle.session.specs.Reached.{Known, Unknown}
use Rattle.session.specs.View.{View}
use Rattle.session_held.specs.Table.{view_of}
use Rattle.session_held.specs.declared.Session.{Session}
use Rattle.solve.specs.Equations.{padded}
use Rattle.solve.specs.Claims.{Together}
use Rattle.sender.specs.Honest.{HonestSender}
use Rattle.session_calls.specs.Solver.{SolveOwes}
use Rattle.session_calls.specs.SolverClaims.{SolverClaims}
use Rattle.session_calls.specs.declared.Returned.{Returned}
use Rattle.demands.specs.Demand3.Feeding.{sent_at, Fed, Takes}
use Rattle.demands.specs.Demand3.Demand3.{TwoLists}

-- in the exclusive or of some held messages, of all unknown numbers only the one at place p remains
abbrev pub TogetherIn : View → ℕ → Type 0
TogetherIn view p = Together view.cells (held_messages view.held) p

pub record Losses : Type 0 where
  -- solving does what the equations mean, has one outcome, and fills nothing more if called again (rules 14.2, 14.6 and 28.14)
  pub call : SolverClaims
  -- with an honest sender neither 17 nor 23 comes (rules 9.12 and 14.9)
  pub never_refused : (row datagrams : List (List ℕ)) → HonestSender row datagrams → (s : Session) → Fed row datagrams s
      → (r : Returned (Unit {0})) → SolveOwes s r → r.answer ≡ Ok tt
  -- a fill is the sender's packet with zeros at its end (rule 14.9)
  pub fills : (row datagrams : List (List ℕ)) → HonestSender row datagrams → (s : Session) → Fed row datagrams s
      → (r : Returned (Unit {0})) → SolveOwes s r → (p : ℕ) → Unknown (view_of s).cells p → Known (view_of r.session).cells p
      → cell_at (view_of r.session).cells p ≡ filled_cell 0 repaired (padded (sent_at row (view_of s) p))
  -- demand 3 with solving at the end of both lists (rule 28.11)
  pub no_less_known : (row datagrams : List (List ℕ)) → HonestSender row datagrams → (s : Session) → Fed row datagrams s
      → (first second : List ℕ) (one two : Session) → Takes row datagrams first s one → Takes row datagrams second s two
      → ((S : ℕ) → Among S first → Among S second)
      → (r q : Returned (Unit {0})) → SolveOwes one r → SolveOwes two q
      → TwoLists row (view_of r.session) (view_of q.session)
  -- the rest of a burst's reach need not be known: a number comes back if, in the exclusive or of some held messages, it is the only
  -- unknown one that remains (rule 14.2)
  pub brought_back : (row datagrams : List (List ℕ)) → HonestSender row datagrams → (s : Session) → Fed row datagrams s
      → (r : Returned (Unit {0})) → SolveOwes s r → (p : ℕ) → p < kept_numbers → TogetherIn (view_of s) p
      → Known (view_of r.session).cells p
