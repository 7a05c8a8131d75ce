-- The cases of lines and of the program, each computed. Assumes nothing.
use mathlib.Core.Path.{refl}
use Rattle.length.specs.Tables.{unless}
use Rattle.octets.specs.Place.{tab, all_below}
use Rattle.octets.specs.ExclusiveOr.{xor_at, exclusive_or}
use Rattle.length.specs.Length.{length_at, allowed, length_within}
use Rattle.datagram.specs.Read.{octet_at, item_at, items_at, end_of, spares_at, parity_at, extra_at, number_of, whole_of, read_datagram, carried_by}
use Rattle.session.specs.Repair.{passing, usable, first_usable, mended, fill, repair_f, repair}
use Rattle.session.specs.Held.{messages_of, messages_in_row, held_messages}
use Rattle.session.specs.Members.{members_of}
use Rattle.session.specs.View.{fresh_view, gone_on}
use Rattle.session.specs.Offer.{keep, keep_spares, accept, offered, offer}
use Rattle.session.specs.Release.{release}
use Rattle.line.specs.Hex.{digit_of, digit_for, all_digits, octets_in, line_octets, hex_of}
use Rattle.line.specs.Lines.{result_line, refusal_line, releases_f, line_offered, offer_line, answer_line, step, lines_from, steps, program}
use Rattle.line.specs.Feed.{line_done, longer, taken_in}
use Rattle.line.specs.FeedPromise.{line_end, taken_of}
use Rattle.line.specs.Text.{characters}
use Rattle.line.specs.Cases.{HexCases, ResultCases, WholeCase, ProgramCases, LimitCases, Cases}

hex-cases : HexCases
unfolding characters line_octets unless octets_in all_digits digit_of digit_for hex_of tab all_below
hex-cases =
    record {
      upper = refl;
      lower = refl;
      written = refl;
      no-digits = refl;
      return = refl;
      blanks = refl;
      one-digit = refl;
      odd = refl;
      too-long-first = refl;
      longest = refl;
    }

result-cases : ResultCases
unfolding characters result_line refusal_line digit_for hex_of
result-cases = record { kinds = refl; numbers = refl; lost = refl; refusals = refl; places = refl; last-place = refl }

pub whole-case : WholeCase
unfolding characters program steps lines_from step answer_line offer_line line_offered releases_f result_line refusal_line line_octets unless
    octets_in all_digits digit_of hex_of digit_for release offer offered accept keep keep_spares fresh_view gone_on messages_of messages_in_row
    held_messages members_of repair repair_f first_usable usable passing mended fill read_datagram whole_of number_of extra_at parity_at spares_at
    end_of items_at item_at length_within octet_at allowed carried_by length_at tab all_below exclusive_or xor_at
whole-case = refl

program-cases : ProgramCases
unfolding characters program steps lines_from step answer_line offer_line line_offered releases_f result_line refusal_line line_octets unless
    octets_in all_digits digit_of hex_of digit_for release offer offered accept keep keep_spares fresh_view gone_on messages_of messages_in_row
    held_messages members_of repair repair_f first_usable usable passing mended fill read_datagram whole_of number_of extra_at parity_at spares_at
    end_of items_at item_at length_within octet_at allowed carried_by length_at tab all_below exclusive_or xor_at
program-cases =
    record {
      repaired = refl;
      give-up = refl;
      far = refl;
      again = refl;
      carriage-return = refl;
      placed = refl;
      last_line = refl;
      no_line = refl;
      at-limit = refl;
    }

limit-cases : LimitCases
unfolding characters result_line hex_of line_end taken_of taken_in longer line_done step answer_line offer_line line_offered releases_f refusal_line
    line_octets unless octets_in all_digits digit_of digit_for release offer fresh_view read_datagram whole_of number_of item_at length_within allowed
    carried_by length_at tab all_below gone_on
limit-cases =
    record {
      line = refl;
      kept = refl;
      result = refl;
      results = refl;
      releases = refl;
      step = refl;
      first-end = refl;
      no_end = refl;
      plain = refl;
      none-taken = refl;
      one-taken = refl;
      both-taken = refl;
      goes_on_case = refl;
      stops = refl;
    }

pub cases : Cases
cases = record { hex = hex-cases; results = result-cases; program = program-cases; limits = limit-cases }
