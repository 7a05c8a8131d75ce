-- The cases of a sending session, each computed. They come before the laws, so that a wrong definition is refused here first. Assumes
-- nothing.
use mathlib.Core.Path.{refl}
use Rattle.octets.specs.Place.{tab, all_below}
use Rattle.octets.specs.ExclusiveOr.{xor_at, exclusive_or, longest}
use Rattle.length.specs.Tables.{unless}
use Rattle.length.specs.Length.{length_octets}
use Rattle.datagram.specs.Write.{number_octets, item_octets, items_octets, counted_octets, datagram_octets}
use Rattle.session.specs.Members.{members_of}
use Rattle.session_slots.specs.Store.{part, zeros_past}
use Rattle.sender.specs.Sending.{fresh_sending, sent_on}
use Rattle.sender.specs.Carries.{spares_from, messages_from}
use Rattle.sender.specs.Send.{datagram_to_send}
use Rattle.sender.specs.Ranges.{size_in_range, place_in_range, history_in_ranges}
use Rattle.sender.specs.Promise.{to_send}
use Rattle.sender.specs.Honest.{packet_at}
use Rattle.sender.specs.Cases.{DatagramCases, RefusalCases, HistoryCases, RangesCases}

pub datagram-cases : DatagramCases
unfolding datagram_to_send unless fresh_sending spares_from messages_from members_of tab xor_at exclusive_or longest length_octets
    number_octets item_octets items_octets counted_octets datagram_octets
datagram-cases =
    record {
      first-parity = refl;
      first-spares = refl;
      two-spares = refl;
      no-spares = refl;
      three-of-eight = refl;
      one-message = refl;
      two-messages = refl;
      reach-again = refl;
      last-number = refl;
      number-0-again = refl;
      last-packet = refl;
    }

pub refusal-cases : RefusalCases
unfolding to_send history_in_ranges datagram_to_send unless fresh_sending spares_from messages_from members_of tab xor_at exclusive_or longest
    length_octets number_octets item_octets items_octets counted_octets datagram_octets
refusal-cases =
    record {
      ranges-first = refl;
      passed = refl;
      passed-then-settings = refl;
      passed-then-size = refl;
      settings-then-size = refl;
      k-8 = refl;
      k-9 = refl;
      n-0 = refl;
      n-1 = refl;
      n-8 = refl;
      n-9 = refl;
      m-0 = refl;
      m-4 = refl;
      m-5 = refl;
      packet-0 = refl;
      packet-256 = refl;
      packet-257 = refl;
      size-then-room = refl;
      room-5 = refl;
      room-6 = refl;
    }

pub history-cases : HistoryCases
unfolding fresh_sending sent_on part packet_at
history-cases =
    record {
      fresh = refl;
      newest-place = refl;
      newest = refl;
      octets = refl;
      slot-of-32 = refl;
      slot-of-31 = refl;
      slot-of-oldest = refl;
      in-slot-1 = refl;
      row-of-0 = refl;
      row-before-0 = refl;
      row-of-1 = refl;
    }

pub ranges-cases : RangesCases
unfolding size_in_range place_in_range history_in_ranges zeros_past all_below
ranges-cases =
    record {
      before-first = refl;
      octets-before-first = refl;
      first-empty = refl;
      first-least = refl;
      at-limit = refl;
      over = refl;
      no_more = refl;
      one_more = refl;
      at-the-end = refl;
      none-sent = refl;
      one-sent = refl;
      one-missing = refl;
      sum-at-limit = refl;
      sum-past-limit = refl;
    }
