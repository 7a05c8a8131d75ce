-- The refusals of a call as a table: in the call's order, each with its reason and the condition under which it applies (`length`,
-- Tables). The call is refused with the first that applies, and done if none applies (rule 2.24). The writers' tables are beside their
-- definitions: `length_writer_rows`, `datagram_writer_rows`, `packet_writer_rows`, `sender_rows`, `line_rows`. Here are the tables of the
-- length readers and of offer and release; those of the packet reader and the datagram reader are in PacketItems and DatagramRefusals, 15
-- for an octet that names no edition is in NamedEdition, and the refusals of solve are in Demand1 (`SolvingCalls`). Definitions only.
use Rattle.std.specs.Prelude.{ℕ, ◌+◌, ◌*◌, Bool, cond, not, ◌&&◌, List, [], ◌∷◌, ◌++◌, length, get_or, leb, ltb}
use Rattle.std.proofs.Math.Option.{Option}
use Rattle.length.specs.Refusals.{ends_early, bad_form, repeated, too_far, late, base_unknown, no_room}
use Rattle.length.specs.Refusals.{all_passed, outside_ranges, outside_sizes}
use Rattle.length.specs.Tables.{when, refusal_in}
use Rattle.length.specs.Length.{of_two, within}
use Rattle.length.specs.declared.Reason.{Reason}
use Rattle.datagram.specs.Read.{read_datagram}
use Rattle.session.specs.Cells.{unknown_at, kept_before, kept_ahead}
use Rattle.session.specs.View.{sum, distance, session_limit}
use Rattle.session.specs.Offer.{late_from, accepted_at}
use Rattle.session.specs.Release.{at_base}
use Rattle.session_held.specs.Table.{view_of}
use Rattle.session_held.specs.Laid.{session_in_ranges}
use Rattle.session_held.specs.declared.Session.{Session}

-- ---- lengths: 3 or 1 for the form (rules 3.3 to 3.6)
unfoldable pub length_rows : List ℕ → List (Option Reason)
length_rows octets =
    when (ltb (length octets) 1) ends_early
    ∷ when (leb 0xC0 (get_or octets 0 0)) bad_form
    ∷ when (leb 0x80 (get_or octets 0 0) && ltb (length octets) 2) ends_early
    ∷ when (leb 0x80 (get_or octets 0 0) && ltb (of_two (get_or octets 0 0) (get_or octets 1 0)) 0x80) bad_form
    ∷ []

-- the length that octets of a right form begin with, of one octet or of two (rules 3.1 and 3.2)
abbrev pub length_here : List ℕ → ℕ
length_here octets = cond (ltb (get_or octets 0 0) 0x80) (get_or octets 0 0) (of_two (get_or octets 0 0) (get_or octets 1 0))

-- ---- a length from least to most: 3 or 1 for the form, then 4 (rule 3.6)
unfoldable pub within_rows : ℕ → ℕ → List ℕ → List (Option Reason)
within_rows least most octets = length_rows octets ++ (when (not (within least most (length_here octets))) outside_sizes ∷ [])

-- ---- offer: 17, 2, then reading order, then 8 or 9, then 7 (rule 10.5)
-- the distance from the base to the number in the first two octets (rule 10.1)
abbrev pub distance_to : List ℕ → Session → ℕ
distance_to octets s = distance (view_of s).base (get_or octets 0 0 * 256 + get_or octets 1 0)

unfoldable pub offer_rows : List ℕ → Session → List (Option Reason)
offer_rows octets s =
    when (not (session_in_ranges s)) outside_ranges
    ∷ refusal_in (read_datagram octets)
    ∷ when (leb kept_ahead (distance_to octets s) && ltb (distance_to octets s) late_from) too_far
    ∷ when (leb late_from (distance_to octets s)) late
    ∷ when (accepted_at (view_of s) (distance_to octets s)) repeated
    ∷ []

-- ---- release: 17, 16, 10, 13 (rule 12.9)
unfoldable pub release_rows : Bool → List ℕ → Session → List (Option Reason)
release_rows leave lent s =
    when (not (session_in_ranges s)) outside_ranges
    ∷ when (leb session_limit (sum (view_of s).counts)) all_passed
    ∷ when (unknown_at (view_of s).cells kept_before && not leave) base_unknown
    ∷ when (ltb (length lent) (length (at_base (view_of s)).octets)) no_room
    ∷ []
