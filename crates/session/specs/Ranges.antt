-- The ranges of a session, as far as its view shows them (rules 13.1 to 13.4, 13.6 to 13.8 and 13.10). The ranges of octets past a length,
-- of message places past m, and of the numbers for states and marks depend on the layout in slots and are defined in `session_held` (rules
-- 13.5, 13.9 and 13.11). Definitions only.
use Rattle.std.specs.Prelude.{ℕ, ◌+◌, ◌-◌, ◌%◌, ◌<◌, ◌≡◌, Bool, true, false, not, cond, ◌&&◌, List, [], length, get_or, leb, ltb, eqb}
use Rattle.octets.specs.Place.{all_below}
use Rattle.datagram.specs.Sizes.{packet_least, packet_limit, message_limit, covered_least, covered_limit, messages_limit}
use Rattle.session.specs.Cells.{State, unknown, received, spare, repaired, blank, Cell, cell_at, unknown_at, kept_before, kept_ahead}
use Rattle.session.specs.Cells.{kept_numbers}
use Rattle.session.specs.Held.{Held, held_at}
use Rattle.session.specs.View.{View, sum, numbers, number_at, session_limit}

-- the base equals the sum of the counts modulo 65,536, and the sum is at most 1,000,000 (rules 13.1 and 13.2)
unfoldable pub sum_right : View → Bool
sum_right v = eqb v.base (sum v.counts % numbers) && leb (sum v.counts) session_limit

-- whether place p must be blank (rule 13.3): it is before the base, and j = kept_before − p, its distance to the base, exceeds the sum of
-- the counts
abbrev pub blank_at : ℕ → ℕ → Bool
blank_at total p = ltb p kept_before && ltb total (kept_before - p)

-- an unknown or blank number has length 0, any other 1 to 256 (rule 13.4), and a number is blank exactly where it must be (rule 13.3)
unfoldable pub size_right : State → ℕ → Bool → Bool
size_right unknown size must_be_blank = eqb size 0 && not must_be_blank
size_right received size must_be_blank = (leb packet_least size && leb size packet_limit) && not must_be_blank
size_right spare size must_be_blank = (leb packet_least size && leb size packet_limit) && not must_be_blank
size_right repaired size must_be_blank = (leb packet_least size && leb size packet_limit) && not must_be_blank
size_right blank size must_be_blank = eqb size 0 && must_be_blank

-- the states of a number that has a packet
abbrev pub is_fill : State → Bool
is_fill unknown = false
is_fill received = true
is_fill spare = true
is_fill repaired = true
is_fill blank = false

abbrev pub cell_right : Cell → Bool → Bool
cell_right c must_be_blank = size_right c.state (length c.octets) must_be_blank

-- the note of a received number is its own number, that of a blank or unknown number is 0, and a spare or repaired number may have any
-- (rule 13.10)
unfoldable pub note_right : State → ℕ → ℕ → Bool
note_right unknown note number = eqb note 0
note_right received note number = eqb note number
note_right spare note number = true
note_right repaired note number = true
note_right blank note number = eqb note 0

abbrev pub cell_noted : Cell → ℕ → Bool
cell_noted c number = note_right c.state c.note number

-- an accepted number is known, only accepted numbers have messages, with m = 0 also n = 0, and otherwise n and m are within the sizes
-- (rules 13.6 to 13.8)
unfoldable pub mark_right : Bool → Bool → ℕ → ℕ → Bool
mark_right accepted known n m =
    cond accepted known (eqb m 0)
    && cond (eqb m 0) (eqb n 0) ((leb covered_least n && leb n covered_limit) && leb m messages_limit)

-- its message lengths are within the sizes too (rule 13.8)
unfoldable pub held_right : Held → Bool → Bool
held_right h known =
    mark_right h.accepted known h.n (length h.messages)
    && all_below (length h.messages) (λ i. leb (length (get_or h.messages i [])) message_limit)

abbrev pub known_at : View → ℕ → Bool
known_at v p = not (unknown_at v.cells p)

-- the ranges, place by place
unfoldable pub cells_right : View → Bool
cells_right v = all_below kept_numbers (λ p. cell_right (cell_at v.cells p) (blank_at (sum v.counts) p))

unfoldable pub notes_right : View → Bool
notes_right v = all_below kept_numbers (λ p. cell_noted (cell_at v.cells p) (number_at v.base p))

unfoldable pub all_held_right : View → Bool
all_held_right v = all_below kept_ahead (λ d. held_right (held_at v.held d) (known_at v (kept_before + d)))

unfoldable pub in_ranges : View → Bool
in_ranges v = ((sum_right v && cells_right v) && notes_right v) && all_held_right v

-- a view within its ranges, as the calls inside the session require and keep it: the ranges at each place, and the lengths of the lists
pub record Sound (v : View) : Type 0 where
  pub small : v.base < numbers
  pub total : sum_right v ≡ true
  pub kept : length v.cells ≡ kept_numbers
  pub ahead : length v.held ≡ kept_ahead
  pub cell : (p : ℕ) → p < kept_numbers → cell_right (cell_at v.cells p) (blank_at (sum v.counts) p) ≡ true
  pub note : (p : ℕ) → p < kept_numbers → cell_noted (cell_at v.cells p) (number_at v.base p) ≡ true
  pub held : (d : ℕ) → d < kept_ahead → held_right (held_at v.held d) (known_at v (kept_before + d)) ≡ true
