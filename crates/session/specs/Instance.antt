-- The claims of repair and of bursts are not empty: an honest sender's packets `06`, `C0 01` and `06`, of which the first is lost, and the
-- message `C6 01` over the first two, which brings it back as `06 00` (rules 28.5, 28.9 and 28.10). Statements only.
use Rattle.std.specs.Prelude.{ℕ, ◌≡◌, List, [], ◌∷◌, ◌++◌, get_or, replicate}
use Rattle.session.specs.Cells.{Cell, Makes}
use Rattle.session.specs.Members.{InReach}
use Rattle.session.specs.Repair.{Message, repair}
use Rattle.session.specs.Held.{Held, held_messages}
use Rattle.session.specs.Reached.{Known, Unknown, Closed, Reached, DistinctMembers}
use Rattle.session.specs.Honest.{HonestMessages, HonestHeld, TrueCells}
use Rattle.session.specs.Claims.{BurstAt, SentBefore}
use Rattle.session.specs.RepairCases.{came, filled, gap, early, holding, bare}

-- ---- three places and one message
abbrev pub three_packets : List (List ℕ)
three_packets = (0x06 ∷ []) ∷ (0xC0 ∷ 0x01 ∷ []) ∷ (0x06 ∷ []) ∷ []

abbrev pub sent_row : ℕ → List ℕ
sent_row p = get_or three_packets p []

abbrev pub first_lost : List Cell
first_lost = gap ∷ came 1 (0xC0 ∷ 0x01 ∷ []) ∷ came 2 (0x06 ∷ []) ∷ []

abbrev pub first_back : List Cell
first_back = filled 2 (0x06 ∷ 0x00 ∷ []) ∷ came 1 (0xC0 ∷ 0x01 ∷ []) ∷ came 2 (0x06 ∷ []) ∷ []

abbrev pub over_first_two : List Message
over_first_two = record { members = 1 ∷ 0 ∷ []; octets = 0xC6 ∷ 0x01 ∷ [] } ∷ []

abbrev pub empty_message : List Message
empty_message = record { members = 1 ∷ 0 ∷ []; octets = [] } ∷ []

pub record RepairInstance : Type 0 where
  -- what the claims assume
  pub makes : Makes (filled 2)
  pub honest : HonestMessages sent_row 3 over_first_two
  pub distinct : DistinctMembers over_first_two
  pub before : TrueCells sent_row first_lost
  -- what they then say: the packet is reached and known, and equals the sender's except for the zero at its end
  pub reached : Reached first_lost over_first_two 0
  -- and a message of length 0 adds nothing to the known places (rule 11.7)
  pub empty_adds : Closed empty_message (λ p. p ≡ 1)
  pub mended : repair (filled 2) first_lost over_first_two ≡ first_back
  pub known : Known first_back 0
  pub after : TrueCells sent_row first_back

-- ---- the same at the start of a session, with datagram 2 held
abbrev pub start_row : ℕ → List ℕ
start_row p = get_or (replicate 32 [] ++ three_packets) p []

abbrev pub start_cells : List Cell
start_cells = replicate 32 early ++ first_lost

abbrev pub start_held : List Held
start_held = bare ∷ bare ∷ holding 2 ((0xC6 ∷ 0x01 ∷ []) ∷ []) ∷ []

pub record BurstInstance : Type 0 where
  -- number 0, at place 32, is the only one of the reach of datagram 2 that is unknown, and its packet is not empty
  pub lost : Unknown start_cells 32
  pub honest : HonestHeld start_row 34 (holding 2 ((0xC6 ∷ 0x01 ∷ []) ∷ []))
  pub sent : SentBefore start_row start_cells 34
  pub burst : BurstAt start_cells 34 2 1 32
  -- so it is known after repair
  pub inside : InReach 34 2 1 32
  pub known : Known (repair (filled 2) start_cells (held_messages start_held)) 32
