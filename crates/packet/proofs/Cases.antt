-- The cases of packets in the old edition and in the new, each computed. Assumes nothing.
use mathlib.Core.Path.{refl}
use Rattle.length.specs.Tables.{unless}
use Rattle.length.specs.Length.{length_at, allowed, length_within, length_octets}
use Rattle.format.specs.Spelling.{spelt, whole, wide, packed}
use Rattle.format.specs.Reading as reading
use Rattle.format.specs.Format.{octets_front, two_front, sequence_spelt}
use Rattle.packet.specs.Packet.{every, root, addition, enumerated, type_of_msg, start, count, header, size, field_data, field}
use Rattle.packet.specs.Packet.{data_field, packet, read_packet}
use Rattle.packet.specs.Packet as description
use Rattle.packet.specs.Write.{contents_of, packet_octets, total, one_each, all_assigned, right_types, all_right, in_sizes, packet_to_write}
use Rattle.packet.specs.Promise.{padded_fields}
use Rattle.packet.specs.Cases.{ReadCases, WriteCases}
use Rattle.packet.specs.NewCases.{NewReadCases, NewWriteCases}
use Rattle.packet.specs.TableCases.{EditionCases, ValueCases, TypeCases, AnswerCases, TableCases}

pub read-cases : ReadCases
unfolding read_packet description.whole_packet packet start type_of_msg enumerated root addition data_field count field header field_data size
    reading.bit reading.bits reading.flag reading.align reading.octetwise reading.sequence_of octets_front two_front every length_at
    allowed length_within
read-cases =
    record {
      over-limit = refl;
      at-limit = refl;
      extended = refl;
      value-first = refl;
      bit-first = refl;
      count-0 = refl;
      count-over = refl;
      count-form = refl;
      data-first = refl;
      header-bit = refl;
      bit-repaired = refl;
      bit-before-length = refl;
      mended = refl;
      on-its-own = refl;
      one-too-many = refl;
      bare-0 = refl;
      data-1 = refl;
      data-256 = refl;
      length_cut = refl;
      data-over = refl;
      zero-after = refl;
      eighth-octet = refl;
      one-after-zero = refl;
      true-zero = refl;
      empty = refl;
      data-of-indicator = refl;
      no-count = refl;
      no_header = refl;
      no_length = refl;
      data-cut = refl;
      second-padding = refl;
      second-length = refl;
      left-after-zero = refl;
    }

pub write-cases : WriteCases
unfolding packet_to_write packet_octets contents_of packet start type_of_msg enumerated root addition data_field count field header field_data size
    spelt whole wide packed sequence_spelt total one_each all_assigned right_types all_right in_sizes every unless length_octets
write-cases =
    record {
      types-over = refl;
      lengths-over = refl;
      types-first = refl;
      settings-before-12 = refl;
      value-before-14 = refl;
      data-before-4 = refl;
      true-sum = refl;
      type-over = refl;
      indicator-field = refl;
      whole-over = refl;
      whole-at = refl;
      mended = refl;
    }

pub new-read-cases : NewReadCases
unfolding read_packet description.whole_packet packet start type_of_msg enumerated root addition data_field count field header field_data size
    reading.bit reading.bits reading.flag reading.align reading.octetwise reading.sequence_of octets_front two_front every length_at
    allowed length_within
new-read-cases =
    record {
      first-indicator = refl;
      last-indicator = refl;
      past-indicators = refl;
      first_kind = refl;
      last-kind = refl;
      past-kinds = refl;
      not-0 = refl;
      cut = refl;
      missing-first = refl;
      not-0-before-14 = refl;
      spare-bit = refl;
      spare-before-14 = refl;
      indicator-with-data = refl;
      mended = refl;
      header-cut = refl;
      header-bit = refl;
      cm = refl;
      cm-bare = refl;
      v34rate = refl;
      v34rate-bare = refl;
      past-types = refl;
      type-not-0 = refl;
      type-cut = refl;
      old-type = refl;
      new-type = refl;
    }

pub new-write-cases : NewWriteCases
unfolding packet_to_write packet_octets contents_of packet start type_of_msg enumerated root addition data_field count field header field_data size
    spelt whole wide packed sequence_spelt total one_each all_assigned right_types all_right in_sizes every unless length_octets
new-write-cases =
    record {
      first-indicator = refl;
      last-indicator = refl;
      past-indicators = refl;
      last-kind = refl;
      past-kinds = refl;
      added-old = refl;
      mended = refl;
      cm = refl;
      cm-bare = refl;
      v34rate-bare = refl;
      past-types = refl;
    }

edition-cases : EditionCases
unfolding read_packet description.whole_packet packet start type_of_msg enumerated root addition data_field count field header field_data size
    reading.bit reading.bits reading.flag reading.align reading.octetwise reading.sequence_of octets_front two_front every length_at
    allowed length_within packet_to_write packet_octets contents_of spelt whole wide packed sequence_spelt total one_each all_assigned right_types all_right in_sizes unless
    length_octets
edition-cases =
    record {
      octet-0 = refl;
      octet-1 = refl;
      written-0 = refl;
      written-1 = refl;
      octet-2 = refl;
      octet-255 = refl;
      written_2 = refl;
    }

value-cases : ValueCases
unfolding read_packet description.whole_packet packet start type_of_msg enumerated root addition data_field count field header field_data size
    reading.bit reading.bits reading.flag reading.align reading.octetwise reading.sequence_of octets_front two_front every length_at
    allowed length_within packet_to_write packet_octets contents_of spelt whole wide packed sequence_spelt total one_each all_assigned right_types all_right in_sizes unless
    length_octets
value-cases =
    record {
      old-indicators = refl;
      old-kinds = refl;
      past-old-kinds = refl;
      new-indicators = refl;
      new-kinds = refl;
      past-new-kinds = refl;
      added-indicators = refl;
      added-kinds = refl;
      past-added = refl;
      added-old = refl;
      sheet-new = refl;
      old-indicators-written = refl;
      old-kinds-written = refl;
      past-old = refl;
      new-indicators-written = refl;
      new-kinds-written = refl;
      past-new = refl;
    }

type-cases : TypeCases
unfolding read_packet description.whole_packet packet start type_of_msg enumerated root addition data_field count field header field_data size
    reading.bit reading.bits reading.flag reading.align reading.octetwise reading.sequence_of octets_front two_front every length_at
    allowed length_within packet_to_write packet_octets contents_of spelt whole wide packed sequence_spelt total one_each all_assigned right_types all_right in_sizes unless
    length_octets
type-cases =
    record {
      rows = refl;
      without-data = refl;
      with-data = refl;
      old-bare = refl;
      new-bare = refl;
      added-bare = refl;
      old-data = refl;
      new-data = refl;
      added-data = refl;
      old-bare-written = refl;
      old-data-written = refl;
      new-bare-written = refl;
      new-data-written = refl;
      cm-padding = refl;
      v34rate-padding = refl;
      cm-bare-first = refl;
    }

answer-cases : AnswerCases
unfolding padded_fields addition reading.bit reading.bits reading.flag
answer-cases = record { refused = refl; one_field = refl; told_back = refl; one-added = refl; past-one-added = refl }

pub table-cases : TableCases
table-cases = record { edition_cases = edition-cases; value_cases = value-cases; type_cases = type-cases; answer_cases = answer-cases }
