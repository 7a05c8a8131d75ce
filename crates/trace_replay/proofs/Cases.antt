-- The cases of a replay, each computed. Assumes nothing.
use mathlib.Core.Path.{refl}
use Rattle.length.specs.Tables.{unless}
use Rattle.octets.specs.Place.{tab, all_below}
use Rattle.length.specs.Length.{length_at, allowed, length_within}
use Rattle.octets.specs.ExclusiveOr.{xor_at, exclusive_or}
use Rattle.datagram.specs.Read.{octet_at, item_at, items_at, end_of, spares_at, parity_at, extra_at, number_of, whole_of, read_datagram, carried_by}
use Rattle.session.specs.Repair.{passing, usable, first_usable, mended, fill, repair_f, repair}
use Rattle.session.specs.Held.{messages_of, messages_in_row, held_messages}
use Rattle.session.specs.Members.{members_of}
use Rattle.session.specs.View.{fresh_view, gone_on}
use Rattle.session.specs.Offer.{keep, keep_spares, accept, offered, offer}
use Rattle.session.specs.Release.{release}
use Rattle.line.specs.Hex.{digit_of, digit_for, all_digits, octets_in, line_octets, hex_of}
use Rattle.line.specs.Lines.{result_line, refusal_line, releases_f, line_offered, offer_line, answer_line, step, lines_from, steps, program}
use Rattle.line.specs.Text.{characters}
use Rattle.trace_replay.specs.Replay.{number_in, listed, dropped, replay_step, replay_steps, replay}
use Rattle.trace_replay.specs.Cases.{AnswerCases, Cases}

answer-cases : AnswerCases
unfolding unless characters program steps lines_from step answer_line offer_line line_offered releases_f result_line refusal_line
    line_octets octets_in all_digits digit_of hex_of digit_for release offer offered accept keep keep_spares fresh_view gone_on
    messages_of messages_in_row held_messages members_of repair repair_f first_usable usable passing mended fill read_datagram whole_of number_of
    extra_at spares_at parity_at octet_at end_of items_at item_at length_within allowed carried_by length_at tab all_below exclusive_or xor_at number_in
    listed dropped replay_step replay_steps replay
answer-cases =
    record {
      counts = record { answer = refl; lent = refl };
      fits = record { answer = refl; lent = refl };
      no_room = record { answer = refl; lent = refl };
    }

pub cases : Cases
unfolding unless characters program steps lines_from step answer_line offer_line line_offered releases_f result_line refusal_line
    line_octets octets_in all_digits digit_of hex_of digit_for release offer offered accept keep keep_spares fresh_view gone_on
    messages_of messages_in_row held_messages repair repair_f first_usable read_datagram whole_of number_of extra_at spares_at end_of
    items_at item_at length_within allowed carried_by length_at tab all_below number_in listed dropped replay_step replay_steps replay
cases =
    record {
      answers = answer-cases;
      give-up = refl;
      two-dropped = refl;
      two-counted = refl;
      twice-listed = refl;
      none-listed = refl;
      second-listed = refl;
      cut_short = refl;
      not-paired = refl;
      no-release = refl;
      last_line = refl;
      in-time = refl;
    }
