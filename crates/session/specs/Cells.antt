-- The 64 numbers that a session keeps: each is unknown, received, spare, repaired or blank, with its octets (rule 9.2) and its note (rules
-- 9.5 to 9.7). Definitions only.
use Rattle.std.specs.Prelude.{ℕ, ◌+◌, ◌≡◌, Bool, true, false, List, [], get_or}

-- a session keeps 32 numbers before the base and 32 from the base on (rule 1.13); in the view the base is at place kept_before
abbrev pub kept_before : ℕ
kept_before = 32

abbrev pub kept_ahead : ℕ
kept_ahead = 32

abbrev pub kept_numbers : ℕ
kept_numbers = kept_before + kept_ahead

pub data State : Type 0 where
  unknown : State
  received : State
  spare : State
  repaired : State
  blank : State

-- a kept number: its state, its octets, and its note, the number of the datagram whose offer filled it (rule 9.5)
pub record Cell : Type 0 where
  pub state : State
  pub octets : List ℕ
  pub note : ℕ

-- ---- how a number is made: blank, unknown or filled
-- numbers before the first are blank: known, empty, never released (rule 9.3); the note of a blank or unknown number is 0 (rule 9.7)
abbrev pub blank_cell : Cell
blank_cell = record { state = blank; octets = []; note = 0 }

abbrev pub unknown_cell : Cell
unknown_cell = record { state = unknown; octets = []; note = 0 }

-- filled with a packet, as received, spare or repaired, while datagram S is offered (rules 9.5, 9.6 and 9.8)
abbrev pub filled_cell : ℕ → State → List ℕ → Cell
filled_cell S state octets = record { state = state; octets = octets; note = S }

abbrev pub is_unknown : State → Bool
is_unknown unknown = true
is_unknown received = false
is_unknown spare = false
is_unknown repaired = false
is_unknown blank = false

-- a way to make filled numbers: each is known, and has the octets that it was made of
pub record Makes (made : List ℕ → Cell) : Type 0 where
  pub known : (octets : List ℕ) → is_unknown (made octets).state ≡ false
  pub same : (octets : List ℕ) → (made octets).octets ≡ octets

-- the number at a place of the view; no call asks for a place outside the view, which counts as known
abbrev pub cell_at : List Cell → ℕ → Cell
cell_at cells p = get_or cells p blank_cell

abbrev pub unknown_at : List Cell → ℕ → Bool
unknown_at cells p = is_unknown (cell_at cells p).state
