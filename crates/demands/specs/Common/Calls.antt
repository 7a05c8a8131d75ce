-- A chain of public calls on a receiving session: each call is made on the session that the call before returned, and may return anything
-- that its promise allows. What the calls brought and what left by them follows from the calls and their answers alone. Definitions only.
use Rattle.std.specs.Prelude.{ℕ, Bool, true, false, List, [], ◌∷◌, ◌++◌, take, Result, Ok, Err}
use Rattle.length.specs.declared.Refusal.{Refusal}
use Rattle.std.proofs.Math.Option.{Option, none, some}
use Rattle.session_held.specs.Table.{state_of}
use Rattle.session_held.specs.declared.Session.{Session}
use Rattle.session_release.specs.Outcome.{released_outcome}
use Rattle.session_release.specs.declared.Released.{Released}
use Rattle.session_offer.specs.Outcome.{offered_outcome}
use Rattle.solve_code.specs.Outcome.{solved_outcome}
use Rattle.session_calls.specs.Receiver.{OfferOwes, ReleaseOwes}
use Rattle.session_calls.specs.Solver.{SolveOwes}
use Rattle.session_calls.specs.declared.Returned.{Returned}
use Rattle.demands.specs.Common.History.{Left, left_as}
use Rattle.length.specs.Tables.{refusal_in}
use Rattle.length.specs.declared.Reason.{Reason}

-- a call and its answer, as the caller sees them
pub data Call : Type 0 where
  -- an offer of these octets (rule 10.13)
  offer : List ℕ → Result (Unit {0}) Refusal → Call
  -- a release, with leave to skip or without, and the caller's buffer before the call and after it (rule 12.1)
  release : Bool → List ℕ → List ℕ → Result Released Refusal → Call
  -- solving: all held messages treated together (rule 14.1)
  solve : Result (Unit {0}) Refusal → Call

-- calls one after the other, the latest last
infixl 10 ◌then◌
pub data Calls : Type 0 where
  start : Calls
  ◌then◌ : Calls → Call → Calls

-- these calls lead from session s to session t
pub data Called (s : Session) : Calls → Session → Type 0 where
  at_start : Called s start s
  offered : {t : Session} {calls : Calls} {octets : List ℕ} {r : Returned (Unit {0})} → Called s calls t → OfferOwes t octets r
      → Called s (calls then offer octets r.answer) r.session
  released : {t : Session} {calls : Calls} {leave : Bool} {old new : List ℕ} {r : Returned Released} → Called s calls t
      → ReleaseOwes t leave old new r
      → Called s (calls then release leave old new r.answer) r.session
  solved : {t : Session} {calls : Calls} {r : Returned (Unit {0})} → Called s calls t → SolveOwes t r
      → Called s (calls then solve r.answer) r.session

-- ---- what a call brought
-- the octets of an offer that was accepted; a refused offer brings nothing
abbrev pub accepted_in : Call → Option (List ℕ)
accepted_in (offer octets (Ok x)) = some octets
accepted_in (offer octets (Err why)) = none
accepted_in (release leave old new r) = none
accepted_in (solve r) = none

-- the call is a solve that was not refused
abbrev pub fills_in : Call → Bool
fills_in (offer octets r) = false
fills_in (release leave old new r) = false
fills_in (solve (Ok x)) = true
fills_in (solve (Err why)) = false

-- the number of the refusal that the call returned, or none
abbrev pub call_refusal : Call → Option Reason
call_refusal (offer octets r) = refusal_in (offered_outcome r)
call_refusal (release leave old new r) = refusal_in (released_outcome r)
call_refusal (solve r) = refusal_in (solved_outcome r)

-- ---- what left by a call
-- the number that a release returned, with its octets from the front of the buffer (rules 12.2 and 12.4)
abbrev pub handed_out : Result Released Refusal → List ℕ → List Left
handed_out (Ok left) buffer = left_as (state_of left.kind) left.number left.note (take left.size buffer) ∷ []
handed_out (Err why) buffer = []

abbrev pub left_in : Call → List Left
left_in (offer octets r) = []
left_in (release leave old new r) = handed_out r new
left_in (solve r) = []

-- what left by these calls, in order
unfoldable pub left_by : Calls → List Left
left_by start = []
left_by (calls then call) = left_by calls ++ left_in call
