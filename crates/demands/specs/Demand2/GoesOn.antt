-- A session goes on from what it holds, each call as the rules say (rule 28.7). Definitions only.
use Rattle.std.specs.Prelude.{◌≡◌, length}
use Rattle.length.specs.Answers.{over}
use Rattle.session.specs.View.{View}
use Rattle.session.specs.Offer as offers
use Rattle.session.specs.Release as releases
use Rattle.session_release.specs.Outcome.{released_outcome, handed_of, octets_handed}
use Rattle.session_offer.specs.Outcome.{offered_outcome, accepted_of}
use Rattle.solve.specs.Solved.{Solves}
use Rattle.solve.specs.Solve as solutions
use Rattle.solve_code.specs.Outcome.{solved_outcome, filled_of}
use Rattle.demands.specs.Common.History as moves
use Rattle.demands.specs.Common.History.{Move, after_move}
use Rattle.demands.specs.Common.Calls.{Call, offer, release, solve, Calls, start, ◌then◌}

-- the call without its answer
abbrev pub move_of : Call → Move
move_of (offer octets r) = moves.offer octets
move_of (release leave old new r) = moves.release leave (length old)
move_of (solve r) = moves.solve

-- for a session that holds this, the call's answer and the caller's buffer after it are as the rules say; and what solving does is what
-- the equations mean (rules 14.2 and 14.6)
abbrev pub Says : View → Call → Type 0
Says view (offer octets r) = offered_outcome r ≡ accepted_of (offers.offer octets view)
Says view (release leave old new r) =
    (released_outcome r ≡ handed_of (releases.release leave (length old) view))
    × (new ≡ over (octets_handed (releases.release leave (length old) view)) old)
Says view (solve r) = (solved_outcome r ≡ filled_of (solutions.solve view)) × Solves view (solutions.solve view)

-- each of the calls as the rules say, from a session that holds the one to a session that holds the other
pub data GoesOn (view : View) : Calls → View → Type 0 where
  from : GoesOn view start view
  by : {calls : Calls} {call : Call} {held : View} → GoesOn view calls held → Says held call
      → GoesOn view (calls then call) (after_move (move_of call) held)
