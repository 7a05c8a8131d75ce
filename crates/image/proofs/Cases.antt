-- The cases of an image, each computed. Assumes nothing.
use mathlib.Core.Path.{◌≡◌, refl}
use mathlib.Core.List.{flatten}
use Rattle.octets.specs.Place.{tab, all_below}
use Rattle.length.specs.Answers.{refuse}
use Rattle.length.specs.Tables.{unless}
use Rattle.length.specs.Length.{length_at, allowed, length_within, length_octets}
use Rattle.length.specs.Refusals.{outside_ranges}
use Rattle.datagram.specs.Read.{item_at}
use Rattle.datagram.specs.Write.{item_octets, sum_of}
use Rattle.datagram.specs.Inner.Heads.{items_size}
use Rattle.format.specs.Spelling.{spelt, whole, wide, packed}
use Rattle.format.specs.Reading as reading
use Rattle.format.specs.Format.{sequence_spelt}
use Rattle.session.specs.View.{fresh_view}
use Rattle.session.specs.Ranges.{sum_right, in_ranges}
use Rattle.session_slots.specs.Store.{zeros_past}
use Rattle.session_held.specs.Table.{state_numbered, view_in}
use Rattle.session_held.specs.Laid.{laid, kept_laid, heard_laid, message_laid, lent_in_ranges}
use Rattle.line.specs.Hex.{digit_of, digit_for, octets_in, hex_of}
use Rattle.line.specs.Text.{characters}
use Rattle.image.specs.Parts.{read_whole, high_first, high_first_octets, number_front, item_front, line_at, upper_pairs, read_line, line_front}
use Rattle.image.specs.Layout.{image_version02, first_image_line, state, accepted, messages, number_line, image}
use Rattle.image.specs.Image.{image_text, read_image, names_edition, edition_named, read_text, image_to_write, image_size}
use Rattle.image.specs.Cases.{Limits, Written, Lines, Texts, broken, Cases}

limits : Limits
unfolding fresh_view image_size tab sum_of length_octets items_size
limits = record { version-01 = refl; version-02 = refl; written = refl; line = refl; number = refl; fresh = refl; longest = refl }

written : Written
unfolding tab length_octets item_octets spelt whole wide packed sequence_spelt fresh_view digit_for hex_of characters
    high_first_octets first_image_line state accepted messages number_line image image_text flatten
written =
    record {
      fresh-first = refl;
      fresh-blank = refl;
      fresh-unknown = refl;
      counts = refl;
      number = refl;
      states = refl;
      fresh = refl;
      fresh-01 = refl;
    }

lines : Lines
unfolding tab all_below length_at allowed length_within item_at reading.octetwise reading.align reading.bits reading.sequence_of
    state_numbered digit_of octets_in characters read_whole high_first number_front item_front upper_pairs read_line
    first_image_line state accepted messages number_line hex_of digit_for
lines =
    record {
      counts = refl;
      number = refl;
      states = refl;
      digits = refl;
      no-digits = refl;
      lower-case = refl;
      carriage-return = refl;
      odd = refl;
      empty = refl;
      unknown = refl;
      missing = refl;
      left_over = refl;
      state-over = refl;
      accepted-over = refl;
      n-last = refl;
      n-over = refl;
      m-last = refl;
      m-over = refl;
      at-limit = refl;
      packet-over = refl;
      message-over = refl;
      old-over = refl;
      new-reads = refl;
      length-c0 = refl;
      length_two = refl;
      n-alone = refl;
      m-alone = refl;
      accepted-before = refl;
      n-before = refl;
      m-before = refl;
      edition-02 = refl;
      edition-01 = refl;
    }

texts : Texts
unfolding fresh_view sum_right in_ranges flatten tab all_below length_at allowed length_within item_at reading.octetwise reading.align reading.bits reading.sequence_of
    state_numbered digit_of octets_in characters read_whole high_first number_front item_front line_at upper_pairs read_line line_front
    first_image_line state accepted messages number_line image read_image read_text names_edition edition_named
texts =
    record {
      no-feed = refl;
      two = refl;
      missing = refl;
      extra = refl;
      empty-line = refl;
      nothing = refl;
      accepted-before = refl;
      base-1 = refl;
      first_alone = refl;
      named = refl;
      named-octets = refl;
      edition-03 = refl;
      edition-00 = refl;
      edition-ff = refl;
      edition-12 = refl;
      edition-0a = refl;
      one-digit = refl;
      edition-02-alone = refl;
    }

writer-17 : image_to_write image_version02 broken ≡ refuse outside_ranges
unfolding sum_right in_ranges image_to_write unless lent_in_ranges laid all_below kept_laid zeros_past heard_laid message_laid view_in
writer-17 = refl

pub cases : Cases
unfolding fresh_view sum_right in_ranges
cases = record { limits = limits; written = written; lines = lines; texts = texts; past-32-bits = refl; writer-17 = writer-17 }
