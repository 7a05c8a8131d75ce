-- A session that an honest sender alone feeds, by the public calls: fresh at its start, and nothing ever offered over 32,000 places from
-- the base (rule 28.8). Each call is made on the session that the call before returned, and may return anything that its promise allows.
-- Datagrams are named by their places in the sender's row, from 0, and not by their numbers, which repeat. Definitions only.
use Rattle.std.specs.Prelude.{ℕ, ◌+◌, ◌≤◌, ◌<◌, ◌≡◌, Bool, List, [], ◌∷◌, length, get_or, Ok, Err}
use Rattle.session_release.specs.declared.Released.{Released}
use Rattle.length.specs.Refusals as refusals
use Rattle.length.specs.Refusals.{refusal}
use Rattle.session.specs.Cells.{kept_before}
use Rattle.session.specs.View.{View, sum}
use Rattle.session_held.specs.Table.{view_of}
use Rattle.session_held.specs.Promise.{Fresh}
use Rattle.session_held.specs.declared.Session.{Session}
use Rattle.session_calls.specs.Receiver.{OfferOwes, ReleaseOwes}
use Rattle.session_calls.specs.Solver.{SolveOwes}
use Rattle.session_calls.specs.declared.Returned.{Returned}
use Rattle.sender.specs.Sending.{history_kept}
use Rattle.sender.specs.Honest as sending

-- 32,000 places from the base (rule 28.8)
abbrev pub near_limit : ℕ
near_limit = 32000

-- the place of the base in the sender's row: its whole advance (rule 9.11)
abbrev pub place_of : View → ℕ
place_of view = sum view.counts

-- the place S is at most that far from the base, before it or after it
pub record Near (S : ℕ) (view : View) : Type 0 where
  pub ahead : S ≤ place_of view + near_limit
  pub behind : place_of view ≤ S + near_limit

-- Places are counted from one origin: a view begins kept_before numbers before its base, a sender's row history_kept numbers before number
-- 0, and both are 32. So place p of the view is place `place_of view + p` of the row. `sent_at` depends on this, and demand 3 states it.
abbrev pub OneOrigin : Type 0
OneOrigin = history_kept ≡ kept_before

-- the sender's packet for each place of the view; empty before the first
abbrev pub sent_at : List (List ℕ) → View → ℕ → List ℕ
sent_at row view p = sending.packet_at row (place_of view + p)

-- the datagram of place S
abbrev pub datagram_at : List (List ℕ) → ℕ → List ℕ
datagram_at datagrams S = get_or datagrams S []

module _ (row datagrams : List (List ℕ)) where
  -- the sender's datagram of place S is offered to the session s, and the call returns r
  pub record Offers (S : ℕ) (s : Session) (r : Returned (Unit {0})) : Type 0 where
    pub sent : S < length row
    pub near : Near S (view_of s)
    pub octets : List ℕ
    -- one datagram for each packet of the row (rule 15.14)
    pub one : octets ≡ datagram_at datagrams S
    pub call : OfferOwes s octets r

  -- the sessions that this sender alone feeds, from a fresh one on: its datagrams are offered in any order and any number of times,
  -- accepted or refused, with releases, with leave to skip or without, and solves among them
  pub data Fed : Session → Type 0 where
    fresh : {s : Session} → Fresh s → Fed s
    offered : {s : Session} {S : ℕ} {r : Returned (Unit {0})} → Fed s → Offers S s r → Fed r.session
    released : {s : Session} {leave : Bool} {old new : List ℕ} {r : Returned Released} → Fed s → ReleaseOwes s leave old new r
        → Fed r.session
    solved : {s : Session} {r : Returned (Unit {0})} → Fed s → SolveOwes s r → Fed r.session

  -- a list of accepted or repeated datagrams, with no release meanwhile (rule 28.8): from one session to another
  pub data Takes : List ℕ → Session → Session → Type 0 where
    none : {s : Session} → Takes [] s s
    accepted : {S : ℕ} {places : List ℕ} {s t : Session} {r : Returned (Unit {0})} → Offers S s r → r.answer ≡ Ok tt
        → Takes places r.session t → Takes (S ∷ places) s t
    repeated : {S : ℕ} {places : List ℕ} {s t : Session} {r : Returned (Unit {0})} → Offers S s r
        → r.answer ≡ Err (refusal refusals.repeated)
        → Takes places r.session t → Takes (S ∷ places) s t
