-- The layout of an image (rules 20.2 to 20.9): a first line with version octet, base and counts, then a line for each of the 64 kept
-- numbers. One description, which depends on the packet limit, defines both what is written and what is read (rule 30.11). Definitions
-- only.
use Rattle.std.specs.Prelude.{ℕ, ◌+◌, Bool, true, false, cond, List, ◌++◌, map, length, ltb}
use Rattle.octets.specs.Place.{tab}
use Rattle.format.specs.Format.{Format, flag_bit, made, ◌⊳◌, sequence_of}
use Rattle.datagram.specs.Sizes.{packet_limit, covered_limit, messages_limit}
use Rattle.session.specs.Cells.{State, unknown, received, spare, repaired, blank, Cell, cell_at, kept_before, kept_ahead}
use Rattle.session.specs.Held.{Held, nothing_held, held_at}
use Rattle.session.specs.View.{View, Counts}
use Rattle.session_held.specs.Table.{last_state, state_numbered}
use Rattle.image.specs.Parts.{number, octet_to, octet_is, item_to, line}

-- an image version: its octet, and how many octets a packet or message may have
pub record ImageVersion : Type 0 where
  pub octet : ℕ
  pub limit : ℕ

-- rules 20.8 and 20.9: version 02 is written; version 01, with its smaller limit, is read too
abbrev pub old_limit : ℕ
old_limit = 160

abbrev pub image_version01 : ImageVersion
image_version01 = record { octet = 0x01; limit = old_limit }

abbrev pub image_version02 : ImageVersion
image_version02 = record { octet = 0x02; limit = packet_limit }

-- the version that is written
abbrev pub version_written : ImageVersion
version_written = image_version02

-- ---- the first line (rule 20.2)
pub record FirstImageLine : Type 0 where
  pub base : ℕ
  pub counts : Counts

-- the line from its items, and its items: the version octet, the base, the counts received, spare, repaired and lost
abbrev pub first_from : ℕ × (ℕ × (ℕ × (ℕ × (ℕ × ℕ)))) → FirstImageLine
first_from x =
    record {
      base = x.1.0;
      counts = record { received = x.1.1.0; spare = x.1.1.1.0; repaired = x.1.1.1.1.0; lost = x.1.1.1.1.1 };
    }

abbrev pub first_items : ℕ → FirstImageLine → ℕ × (ℕ × (ℕ × (ℕ × (ℕ × ℕ))))
first_items octet f = (octet, (f.base, (f.counts.received, (f.counts.spare, (f.counts.repaired, f.counts.lost)))))

unfoldable pub first_image_line : ImageVersion → Format FirstImageLine
first_image_line version =
    made first_from (first_items version.octet)
    (octet_is version.octet
    ⊳ λ _. number 2
    ⊳ λ _. number 4
    ⊳ λ _. number 4
    ⊳ λ _. number 4
    ⊳ λ _. number 4)

-- ---- the line of a number (rule 20.4): what the session keeps of it, and from the base on what it holds at it
pub record Number : Type 0 where
  pub cell : Cell
  pub held : Held

-- the line from its items, and its items: state, accepted, note, packet, n, messages
abbrev pub number_from : State × (Bool × (ℕ × (List ℕ × (ℕ × List (List ℕ))))) → Number
number_from x =
    record {
      cell = record { state = x.0; octets = x.1.1.1.0; note = x.1.1.0 };
      held = record { accepted = x.1.0; n = x.1.1.1.1.0; messages = x.1.1.1.1.1 };
    }

abbrev pub number_items : Number → State × (Bool × (ℕ × (List ℕ × (ℕ × List (List ℕ)))))
number_items k = (k.cell.state, (k.held.accepted, (k.cell.note, (k.cell.octets, (k.held.n, k.held.messages)))))

-- the greatest value that may be at a number: before the base accepted, n and m are 00 (rule 20.7)
abbrev pub from_base : Bool → ℕ → ℕ
from_base ahead most = cond ahead most 0

-- rule 20.5: the state octet
abbrev pub state_number : State → ℕ
state_number unknown = 0
state_number received = 1
state_number spare = 2
state_number repaired = 3
state_number blank = 4

unfoldable pub state : Format State
state = made state_numbered state_number (octet_to last_state)

-- rules 20.5 and 20.7: the accepted octet, 00 or 01
unfoldable pub accepted : Bool → Format Bool
accepted ahead = made (λ n. ltb 0 n) flag_bit (octet_to (from_base ahead 1))

-- m, and then m messages
unfoldable pub messages : ℕ → Bool → Format (List (List ℕ))
messages limit ahead =
    made (λ x. x.1) (λ items. (length items, items))
    (octet_to (from_base ahead messages_limit)
    ⊳ λ m. sequence_of m (item_to limit))

-- the line of a number, before the base or from the base on
unfoldable pub number_line : ℕ → Bool → Format Number
number_line limit ahead =
    made number_from number_items
    (state
    ⊳ λ _. accepted ahead
    ⊳ λ _. number 2
    ⊳ λ _. item_to limit
    ⊳ λ _. octet_to (from_base ahead covered_limit)
    ⊳ λ _. messages limit ahead)

-- ---- the image
-- a session from the lines of its image: the first, those before the base, those from the base on
abbrev pub view_from : FirstImageLine × (List Number × List Number) → View
view_from x =
    record {
      base = x.0.base;
      counts = x.0.counts;
      cells = map (λ k. k.cell) (x.1.0 ++ x.1.1);
      held = map (λ k. k.held) x.1.1;
    }

-- and its lines: the first, that of place p of the view before the base, that at distance d from the base
abbrev pub first_of : View → FirstImageLine
first_of view = record { base = view.base; counts = view.counts }

abbrev pub before : View → ℕ → Number
before view p = record { cell = cell_at view.cells p; held = nothing_held }

abbrev pub ahead : View → ℕ → Number
ahead view d = record { cell = cell_at view.cells (kept_before + d); held = held_at view.held d }

abbrev pub lines_of : View → FirstImageLine × (List Number × List Number)
lines_of view = (first_of view, (tab kept_before (before view), tab kept_ahead (ahead view)))

-- rule 20.3: 64 lines, from 32 before the base upward
unfoldable pub image : ImageVersion → Format View
image version =
    made view_from lines_of
    (line (first_image_line version)
    ⊳ λ _. sequence_of kept_before (line (number_line version.limit false))
    ⊳ λ _. sequence_of kept_ahead (line (number_line version.limit true)))
