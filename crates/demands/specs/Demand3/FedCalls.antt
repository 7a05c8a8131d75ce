-- The calls on a session that an honest sender feeds are one of demand 2's chains of calls, so demand 3 is stated over demand 2's known
-- set (rule 28.13). Definitions only.
use Rattle.std.specs.Prelude.{ℕ, ◌+◌, ◌<◌, ◌≡◌, ◌↔◌, List, [], ◌∷◌, Result}
use Rattle.length.specs.declared.Refusal.{Refusal}
use Rattle.session.specs.Cells.{kept_numbers}
use Rattle.session.specs.Reached.{Known}
use Rattle.session_held.specs.Table.{view_of}
use Rattle.session_held.specs.Promise.{Fresh}
use Rattle.session_held.specs.declared.Session.{Session}
use Rattle.demands.specs.Common.Calls.{Calls, offer, ◌then◌, Called, left_by}
use Rattle.demands.specs.Demand2.ReachedBy.{gone, ReachedBy}
use Rattle.demands.specs.Demand3.Feeding.{datagram_at}

-- these calls lead from a session fresh at its start to this one, and what it knows is what they reached
pub record CameBy (calls : Calls) (s : Session) : Type 0 where
  pub first : Session
  pub fresh : Fresh first
  pub called : Called first calls s
  pub known : (p : ℕ) → p < kept_numbers → Known (view_of s).cells p ↔ ReachedBy calls (gone calls + p)

-- some calls, then an offer of the sender's datagram of each of these places
pub data Offering (datagrams : List (List ℕ)) : Calls → List ℕ → Calls → Type 0 where
  none : {calls : Calls} → Offering datagrams calls [] calls
  next : {calls last : Calls} {S : ℕ} {places : List ℕ} (answer : Result (Unit {0}) Refusal)
      → Offering datagrams (calls then offer (datagram_at datagrams S) answer) places last
      → Offering datagrams calls (S ∷ places) last

-- with such offers the calls lead to session t, and nothing left meanwhile
pub record CameOn (datagrams : List (List ℕ)) (calls : Calls) (places : List ℕ) (t : Session) : Type 0 where
  pub last : Calls
  pub offers : Offering datagrams calls places last
  pub came_by : CameBy last t
  pub none_left : left_by last ≡ left_by calls
