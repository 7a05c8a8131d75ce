-- The twelve ★ cases, computed, and the mended example. Assumes nothing.
use mathlib.Core.Path.{refl}
use Rattle.length.specs.Tables.{unless}
use Rattle.octets.specs.Place.{tab}
use Rattle.octets.specs.ExclusiveOr.{xor_at, exclusive_or, longest}
use Rattle.length.specs.Length.{length_at, length_octets, length_to_write, allowed, length_within}
use Rattle.format.specs.Reading as reading
use Rattle.format.specs.Format.{octets_front, two_front}
use Rattle.packet.specs.Packet as packets
use Rattle.packet.specs.Packet.{every, read_packet}
use Rattle.packet.proofs.Claims as packet-claims
use Rattle.datagram.specs.Read.{octet_at, item_at, items_at, end_of, spares_at, parity_at, extra_at, number_of, whole_of, read_datagram}
use Rattle.datagram.specs.Read.{carried_by}
use Rattle.datagram.specs.Write.{number_octets, item_octets, items_octets, counted_octets, datagram_octets}
use Rattle.session.specs.Members.{members_of}
use Rattle.session.specs.Repair.{passing, usable, first_usable, mended, fill, repair_f, repair}
use Rattle.session.specs.Held.{messages_of, messages_in_row, held_messages}
use Rattle.session.specs.View.{fresh_view}
use Rattle.session.specs.Offer.{keep, keep_spares, accept, offered, offer}
use Rattle.sender.specs.Sending.{fresh_sending, sent_on}
use Rattle.sender.specs.Carries as carries
use Rattle.sender.specs.Send.{datagram_to_send}
use Rattle.demands.specs.Sheet.{Losing0, TwelveCases, MendedExample}

losing-0 : Losing0
unfolding read_packet packets.whole_packet packets.packet packets.start packets.type_of_msg packets.enumerated packets.root packets.addition
    packets.data_field packets.count packets.field packets.header packets.field_data packets.size
    reading.bit reading.bits reading.flag reading.align reading.octetwise reading.sequence_of octets_front two_front every length_at
    tab xor_at exclusive_or longest members_of passing usable first_usable mended fill repair_f repair messages_of messages_in_row held_messages
    read_datagram carried_by number_of whole_of extra_at spares_at parity_at items_at item_at length_within octet_at allowed end_of
    fresh_view keep keep_spares accept offered offer
losing-0 = record { with1 = _; after = _; first = refl; second = refl; cell = refl; reads = refl }

pub twelve-cases : TwelveCases
unfolding read_packet packets.whole_packet packets.packet packets.start packets.type_of_msg packets.enumerated packets.root packets.addition
    packets.data_field packets.count packets.field packets.header packets.field_data packets.size
    reading.bit reading.bits reading.flag reading.align reading.octetwise reading.sequence_of octets_front two_front every length_at
    allowed length_within length_to_write length_octets unless
    tab xor_at exclusive_or longest members_of fresh_sending sent_on carries.spares_from carries.messages_from datagram_to_send
    number_octets item_octets items_octets counted_octets datagram_octets
twelve-cases =
    record {
      case-1 = refl;
      case-2 = refl;
      case-3 = refl;
      case-4 = refl;
      case-5 = refl;
      case-6 = (refl, refl);
      case-7 = (refl, refl);
      case-8 = (refl, refl);
      case-9 = refl;
      case-10 = refl;
      case-11 = losing-0;
      case-12 = (refl, refl);
    }

pub mended-example : MendedExample
mended-example =
    let read = (packet-claims.claims).read_cases in
    record { reads = read.mended; writes = (packet-claims.claims).write_cases.mended; other = read.on-its-own }
