-- The held messages as a table of 128 rows (rules 1.16 and 14.1). Row e has the unknown members of equation e. What the equation asks for,
-- the exclusive or of the message and its known members, is outside the table. Definitions only.
use Rattle.std.specs.Prelude.{ℕ, ◌+◌, ◌/◌, ◌%◌, ◌^◌, cond, List, [], ◌∷◌, map, length, ltb}
use Rattle.std.specs.Int.Bits.{bit_and}
use Rattle.octets.specs.Place.{tab}
use Rattle.octets.specs.ExclusiveOr.{xor_at}
use Rattle.datagram.specs.Sizes.{packet_limit, messages_limit}
use Rattle.solve_algebra.specs.Sums.{sum_over}
use Rattle.solve_algebra.specs.Masks.{mask_places, mask_of}
use Rattle.solve_algebra.specs.Rows.{table_rows, start_row, asked_by}
use Rattle.solve_algebra.specs.declared.Row.{Row}
use Rattle.session.specs.Cells.{Cell, cell_at, unknown_at, kept_before}
use Rattle.session.specs.Repair.{Message, other_members}
use Rattle.session.specs.Held.{Held, held_at, message_at}

-- an equation that asks for nothing
abbrev pub no_message : Message
no_message = record { members = []; octets = [] }

-- message i of the number at distance d from the base, or the empty equation if there is none
unfoldable pub message_or : List Held → ℕ → ℕ → Message
message_or held d i =
    cond (ltb i (length (held_at held d).messages)) (message_at (kept_before + d) (held_at held d) i) no_message

-- equation e: four for each number, counted from the base on (rule 1.16)
abbrev pub equation_at : List Held → ℕ → Message
equation_at held e = message_or held (e / messages_limit) (e % messages_limit)

-- the mask of the unknown numbers, and of the unknown members of a message
unfoldable pub unknown_mask : List Cell → ℕ
unknown_mask cells = sum_over mask_places (unknown_at cells) (λ p. 2 ^ p)

unfoldable pub equation_mask : List Cell → Message → ℕ
equation_mask cells message = bit_and (mask_of message.members) (unknown_mask cells)

unfoldable pub start_rows : List Cell → List Held → List Row
start_rows cells held = tab table_rows (λ e. start_row (equation_mask cells (equation_at held e)) e)

-- what a message asks of its unknown members, at octet k: the exclusive or of the message and its known members (rule 14.1)
unfoldable pub side_at : List Cell → Message → ℕ → ℕ
side_at cells message k = xor_at (message.octets ∷ map (λ p. (cell_at cells p).octets) (other_members cells message)) k

-- what a row asks for at octet k, and over the limit's length
unfoldable pub row_asks : List Cell → List Held → Row → ℕ → ℕ
row_asks cells held row k = asked_by (λ e. side_at cells (equation_at held e) k) row

unfoldable pub row_octets : List Cell → List Held → Row → List ℕ
row_octets cells held row = tab packet_limit (row_asks cells held row)
