-- Demand 3. Take an honest sender and a session fresh at its start that it alone feeds, nothing ever offered over 32,000 places from the
-- base. From one state take two lists of accepted or repeated datagrams, with no release meanwhile, the second list holding all of the
-- first in any order. Then every number known after the first list is known after the second (rule 28.8), and what is known equals the
-- sender's packet, except for zeros at the end (rule 28.9). And one accepted datagram, still held, with m messages brings back any m or
-- fewer numbers in a row within its reach, if the rest of its reach is known (rule 28.10). All this is stated of sessions and the public
-- calls, of packets and not of notes (rule 28.12). Statements only.
use Rattle.std.specs.Prelude.{ℕ, ◌+◌, ◌≤◌, ◌<◌, ◌≡◌, ◌⊎◌, true, length}
use mathlib.Core.List.{List, Memᴰ as Among}
use Rattle.session.specs.Members.{InReach}
use Rattle.session.specs.Cells.{kept_before, kept_ahead, kept_numbers}
use Rattle.session.specs.Held.{held_at}
use Rattle.session.specs.Reached.{Known}
use Rattle.session.specs.Honest.{TrueCells}
use Rattle.session.specs.View.{View}
use Rattle.session_held.specs.Table.{view_of}
use Rattle.session_held.specs.declared.Session.{Session}
use Rattle.sender.specs.Honest.{HonestSender}
use Rattle.demands.specs.Common.Calls.{Calls}
use Rattle.demands.specs.Demand3.Feeding.{OneOrigin, sent_at, Fed, Takes}
use Rattle.demands.specs.Demand3.FedCalls.{CameBy, CameOn}

-- ---- two lists from one state
-- what is known after the one and after the other
pub record TwoLists (row : List (List ℕ)) (one two : View) : Type 0 where
  -- every number known after the first list is known after the second (rule 28.8)
  pub known : (p : ℕ) → p < kept_numbers → Known one.cells p → Known two.cells p
  -- what is known after each equals the sender's packet, except for zeros at the end (rule 28.9)
  pub first_right : TrueCells (sent_at row one) one.cells
  pub second_right : TrueCells (sent_at row two) two.cells
  -- both count from the same base
  pub same_base : one.base ≡ two.base
  pub same_counts : one.counts ≡ two.counts

-- ---- a burst
-- the place p is in the reach of the datagram that is held at distance d (rule 1.6)
abbrev pub InReachOf : View → ℕ → ℕ → Type 0
InReachOf view d p = InReach (kept_before + d) (held_at view.held d).n (length (held_at view.held d).messages) p

-- in that reach everything is known, except perhaps k numbers in a row from place a on
abbrev pub RestKnown : View → ℕ → ℕ → ℕ → Type 0
RestKnown view d a k = (p : ℕ) → InReachOf view d p → ((p < a) ⊎ (a + k ≤ p)) → Known view.cells p

-- if k is at most m, the whole reach is known (rule 28.10): in whatever order the datagram and the rest of its reach came, and with
-- releases among them
abbrev pub BurstBack : View → Type 0
BurstBack view = (d : ℕ) → d < kept_ahead → (held_at view.held d).accepted ≡ true
    → (a k : ℕ) → k ≤ length (held_at view.held d).messages → RestKnown view d a k
    → (p : ℕ) → InReachOf view d p → Known view.cells p

-- ---- of an honest sender
pub record Demand3 : Type 0 where
  -- places of a view and places of the sender's row are counted from one origin
  pub one_origin : OneOrigin
  -- every number known after the first list is known after the second, which holds all of the first in any order (rule 28.8)
  pub no_less_known : (row datagrams : List (List ℕ)) → HonestSender row datagrams
      → (s : Session) → Fed row datagrams s
      → (first second : List ℕ) (one two : Session) → Takes row datagrams first s one → Takes row datagrams second s two
      → ((S : ℕ) → Among S first → Among S second)
      → TwoLists row (view_of one) (view_of two)
  -- in every session that the sender alone feeds, what is known is what the sender sent (rule 28.9)
  pub known_right : (row datagrams : List (List ℕ)) → HonestSender row datagrams → (s : Session) → Fed row datagrams s
      → TrueCells (sent_at row (view_of s)) (view_of s).cells
  -- and m messages bring back any m or fewer numbers in a row (rule 28.10)
  pub burst_back : (row datagrams : List (List ℕ)) → HonestSender row datagrams → (s : Session) → Fed row datagrams s
      → BurstBack (view_of s)
  -- a session after a list of accepted or repeated datagrams is again one that the sender alone feeds
  pub takes_fed : (row datagrams : List (List ℕ)) (places : List ℕ) (s t : Session) → Fed row datagrams s
      → Takes row datagrams places s t
      → Fed row datagrams t
  -- demand 3 is stated over demand 2's known set (rule 28.13): a chain of calls led to each session that the sender feeds, each of the
  -- two lists makes that chain longer, and what is known is what such calls reached
  pub fed_calls : (row datagrams : List (List ℕ)) (s : Session) → Fed row datagrams s → (calls : Calls) × CameBy calls s
  pub takes_calls : (row datagrams : List (List ℕ)) (places : List ℕ) (s t : Session) → Takes row datagrams places s t
      → (calls : Calls) → CameBy calls s
      → CameOn datagrams calls places t
