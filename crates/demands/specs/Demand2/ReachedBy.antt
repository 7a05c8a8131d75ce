-- Which numbers some calls reach in a session fresh at its start: those of arrived packets and spares, those that repair brings back, and
-- those that solving fixed (rule 28.5). This follows from the calls, their answers and what the offered octets read as; it does not
-- mention what the session holds. Numbers repeat after 65,536, so a number is named here by its place: the session's first number has the
-- place kept_before, each later one the next, and lower places are numbers before the first. Definitions only.
use Rattle.std.specs.Prelude.{ℕ, ◌+◌, ◌-◌, ◌%◌, ◌≤◌, ◌<◌, ◌≡◌, Bool, true, length}
use mathlib.Core.List.{List, map, Memᴰ as Among}
use Rattle.std.proofs.Math.Option.{some}
use Rattle.octets.specs.ExclusiveOr.{exclusive_or}
use Rattle.datagram.specs.Sizes.{packet_limit}
use Rattle.datagram.specs.Carried.{Carried, Extra, spares, parity}
use Rattle.datagram.specs.Claims.{ReadsAs}
use Rattle.session.specs.Cells.{kept_before, kept_ahead, kept_numbers}
use Rattle.session.specs.Held.{message_at}
use Rattle.session.specs.Repair.{Message}
use Rattle.session.specs.View.{numbers}
use Rattle.session.specs.Offer.{held_by}
use Rattle.demands.specs.Common.Calls.{Call, Calls, ◌then◌, accepted_in, fills_in, left_by}

-- how many numbers have left by these calls: the base's whole advance (rule 9.11)
abbrev pub gone : Calls → ℕ
gone calls = length (left_by calls)

-- the place of the base after these calls
abbrev pub base_by : Calls → ℕ
base_by calls = kept_before + gone calls

-- the number of a place: the first is number 0
abbrev pub place_number : ℕ → ℕ
place_number S = (S - kept_before) % numbers

-- the place of the j-th spare of the datagram at place S (rule 4.5)
abbrev pub spare_at : ℕ → ℕ → ℕ
spare_at S j = S - j

-- how many spares a datagram carries
abbrev pub spares_in : Extra → ℕ
spares_in (spares copies) = length copies
spares_in (parity n messages) = 0

-- it carries a j-th spare, j from 1
abbrev pub HasSpare : Carried → ℕ → Type 0
HasSpare datagram j = (1 ≤ j) × (j ≤ spares_in datagram.extra)

-- the call that comes after these is an offer of this datagram, and was accepted. S is the place of its number: of the kept_ahead places
-- from the base on, the one with that number (rule 10.1)
pub record Accepts (calls : Calls) (call : Call) (S : ℕ) (datagram : Carried) : Type 0 where
  pub octets : List ℕ
  pub accepted : accepted_in call ≡ some octets
  pub reads : ReadsAs octets datagram
  pub from : base_by calls ≤ S
  pub near : S < base_by calls + kept_ahead
  pub number : datagram.number % numbers ≡ place_number S

-- one of these calls is such an offer: the datagram arrived at place S
pub data Arrived : Calls → ℕ → Carried → Type 0 where
  now : {calls : Calls} {call : Call} {S : ℕ} {datagram : Carried} → Accepts calls call S datagram
      → Arrived (calls then call) S datagram
  before : {calls : Calls} {call : Call} {S : ℕ} {datagram : Carried} → Arrived calls S datagram
      → Arrived (calls then call) S datagram

-- a message held after these calls: message i of a datagram that arrived at place S, where S has not left, since a number that leaves
-- drops its messages (rule 12.7)
pub record HeldBy (calls : Calls) (message : Message) : Type 0 where
  pub S : ℕ
  pub datagram : Carried
  pub arrived : Arrived calls S datagram
  pub stays : base_by calls ≤ S
  pub i : ℕ
  pub low : i < length (held_by datagram.extra).messages
  pub is : message ≡ message_at S (held_by datagram.extra) i

-- two choices of octets for every place q, x q and y q, all of the limit's length: they agree at the marked places, and over the members
-- of each held message their exclusive or is the same (rule 14.1)
pub record AgreeAtMarked (calls : Calls) (marked : ℕ → Bool) (x y : ℕ → List ℕ) : Type 0 where
  pub first_long : (q : ℕ) → length (x q) ≡ packet_limit
  pub second_long : (q : ℕ) → length (y q) ≡ packet_limit
  pub agree : (q : ℕ) → marked q ≡ true → x q ≡ y q
  pub messages : (message : Message) → HeldBy calls message
      → exclusive_or packet_limit (map x message.members) ≡ exclusive_or packet_limit (map y message.members)

-- the held messages and the octets at the marked places allow only one value for the place p (rule 14.2)
abbrev pub OneValueBy : Calls → (ℕ → Bool) → ℕ → Type 0
OneValueBy calls marked p = (x y : ℕ → List ℕ) → AgreeAtMarked calls marked x y → x p ≡ y p

-- the place p is among the 64 in view after these calls (rules 1.13 and 14.4)
abbrev pub InView : Calls → ℕ → Type 0
InView calls p = (gone calls ≤ p) × (p < gone calls + kept_numbers)

-- the number at a place is reached by these calls
pub data ReachedBy : Calls → ℕ → Type 0 where
  -- numbers before the first are blank, which is known (rule 9.3)
  before_first : {calls : Calls} {p : ℕ} → p < kept_before → ReachedBy calls p
  -- the packet of a datagram that arrived (rule 10.6)
  packet : {calls : Calls} {S : ℕ} {datagram : Carried} → Arrived calls S datagram → ReachedBy calls S
  -- each of its spares (rules 4.5 and 10.7)
  spare : {calls : Calls} {S : ℕ} {datagram : Carried} → Arrived calls S datagram → (j : ℕ) → HasSpare datagram j
      → ReachedBy calls (spare_at S j)
  -- repair: the call is an accepted offer, and the place is the one missing member of a held message of length 1 or more; all other
  -- members are reached by then (rules 11.1 and 11.4)
  repaired : {calls : Calls} {call : Call} {S p : ℕ} {datagram : Carried} → Accepts calls call S datagram
      → (message : Message) → HeldBy (calls then call) message → 1 ≤ length message.octets → Among p message.members
      → ((q : ℕ) → Among q message.members → (q ≡ p → ⊥) → ReachedBy (calls then call) q)
      → ReachedBy (calls then call) p
  -- solving: the place is in view, and the held messages with some of the places reached by then allow only one value for it (rule 14.2)
  together : {calls : Calls} {call : Call} {p : ℕ} → fills_in call ≡ true → InView calls p → (marked : ℕ → Bool)
      → ((q : ℕ) → marked q ≡ true → ReachedBy calls q) → OneValueBy calls marked p
      → ReachedBy (calls then call) p
  -- what was reached stays reached
  earlier : {calls : Calls} {call : Call} {p : ℕ} → ReachedBy calls p → ReachedBy (calls then call) p
