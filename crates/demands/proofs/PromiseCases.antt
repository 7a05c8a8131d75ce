-- The instances, computed. Assumes nothing.
use Rattle.std.proofs.Common.{Ok}
use Prim.Native.Nat.{ℕ, zero, suc, ◌<◌}
use mathlib.Core.Path.{refl}
use mathlib.Core.List.{[], ◌∷◌}
use lib.ListN.{get_or}
use native.Mathlib.Omega.{arith}
use Rattle.length.specs.Tables.{unless}
use Rattle.length.specs.Length.{length_at, length_octets, length_to_write, allowed, length_within}
use Rattle.format.specs.Reading as reading
use Rattle.format.specs.Format.{octets_front, two_front, sequence_spelt}
use Rattle.format.specs.Spelling.{spelt, whole, wide, packed}
use Rattle.datagram.specs.Read.{octet_at, item_at, items_at, end_of, spares_at, parity_at, extra_at, number_of, whole_of, read_datagram}
use Rattle.datagram.specs.Write.{number_octets, item_octets, items_octets, counted_octets, datagram_octets, cut, sum_of, items_inside}
use Rattle.datagram.specs.Write.{datagram_to_write}
use Rattle.datagram.specs.Promise.{padded_parts, datagram_read}
use Rattle.datagram.specs.declared.kind.Kind.TheVariants as kind
use Rattle.packet.specs.Packet as packets
use Rattle.packet.specs.Packet.{every, read_packet}
use Rattle.packet.specs.Write.{contents_of, packet_octets, total, one_each, all_assigned, right_types, all_right, in_sizes, packet_to_write}
use Rattle.packet.specs.Promise.{padded_fields, PacketWritten}
use Rattle.packet.specs.declared.types.PacketKind.TheVariants.{Indicator}
use Rattle.image.specs.Layout.{image_version01, image_version02}
use Rattle.demands.specs.NotInside.{in_packet, in_items}
use Rattle.demands.specs.PromiseCases.{PromiseCases, one_spare}
use Rattle.demands.proofs.KnownLeaves.{known-leaves}
use Rattle.demands.proofs.FreshHeld.{fresh-held}

octets-spare : (i : ℕ) → get_or one_spare i 0 < 256
octets-spare zero = omega arith
octets-spare (suc zero) = omega arith
octets-spare (suc (suc zero)) = omega arith
octets-spare (suc (suc (suc zero))) = omega arith
octets-spare (suc (suc (suc (suc zero)))) = omega arith
octets-spare (suc (suc (suc (suc (suc zero))))) = omega arith
octets-spare (suc (suc (suc (suc (suc (suc zero)))))) = omega arith
octets-spare (suc (suc (suc (suc (suc (suc (suc zero))))))) = omega arith
octets-spare (suc (suc (suc (suc (suc (suc (suc (suc i)))))))) = omega arith

packet-written : PacketWritten 0 Indicator 3 [] [] [] (0xFF ∷ 0xFF ∷ []) (0x06 ∷ 0xFF ∷ []) (Ok 1)
unfolding packet_to_write packet_octets contents_of packets.packet packets.start packets.type_of_msg packets.enumerated packets.root
    packets.addition packets.data_field packets.count packets.field packets.header packets.field_data packets.size
    spelt whole wide packed sequence_spelt total one_each all_assigned right_types all_right in_sizes every unless length_octets
packet-written = record { answer = refl; lent = refl }

pub promise-cases : PromiseCases
unfolding read_packet packets.whole_packet packets.packet packets.start packets.type_of_msg packets.enumerated packets.root packets.addition
    packets.data_field packets.count packets.field packets.header packets.field_data packets.size
    reading.bit reading.bits reading.flag reading.align reading.octetwise reading.sequence_of octets_front two_front every length_at
    allowed length_within length_to_write length_octets unless padded_fields padded_parts datagram_read
    read_datagram number_of whole_of extra_at spares_at parity_at items_at item_at octet_at end_of
    number_octets item_octets items_octets counted_octets datagram_octets cut sum_of items_inside datagram_to_write
promise-cases =
    record {
      old = refl;
      new = refl;
      received_old = record { answer = refl; whole = refl };
      received_new = record { answer = refl; whole = refl };
      repaired = record { answer = refl; whole = refl };
      left_over = record { answer = refl; whole = refl };
      another = record { answer = refl; whole = refl };
      packet_written = packet-written;
      length_written = record { answer = refl; lent = refl };
      length_read = record { answer = refl };
      within_read = record { answer = refl };
      datagram_written = record { answer = refl; lent = refl };
      datagram_read = record { answer = refl; whole = refl };
      octets = octets-spare;
      alike =
          in_items 1 (0x06 ∷ []) (0xAA ∷ []) kind.Spares 1 ((0x05 ∷ []) ∷ []) ((0xBB ∷ []) ∷ []) []
          (record { one_length = refl; sized = refl }) refl refl refl refl refl;
      alike_refused = in_packet 0 (0x06 ∷ []) (0xAA ∷ []) (0x02 ∷ []) (record { one_length = refl; sized = refl }) refl refl;
      refused = record { answer = refl; whole = refl };
      one_call = known-leaves;
      held_old = fresh-held image_version01;
      held_new = fresh-held image_version02;
      full = refl;
    }
