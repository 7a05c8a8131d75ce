-- The cases of a datagram, each computed. Assumes nothing.
use mathlib.Core.Path.{refl}
use Rattle.length.specs.Tables.{unless}
use Rattle.length.specs.Length.{length_at, length_octets, allowed, length_within}
use Rattle.datagram.specs.Read.{octet_at, item_at, items_at, end_of, spares_at, parity_at, extra_at}
use Rattle.datagram.specs.Read.{number_of, whole_of, read_datagram, carried_by}
use Rattle.datagram.specs.Promise.{padded_parts, datagram_read}
use Rattle.datagram.specs.Write.{number_octets, item_octets, items_octets, counted_octets, datagram_octets, cut}
use Rattle.datagram.specs.Write.{sum_of, items_inside, datagram_to_write}
use Rattle.datagram.specs.Inner.Heads.{items_size}
use Rattle.datagram.specs.Cases.{ReadCases, PlaceCases, WriteCases, HeadCases}

pub read-cases : ReadCases
unfolding read_datagram number_of whole_of extra_at spares_at parity_at items_at item_at length_within octet_at allowed end_of length_at carried_by padded_parts datagram_read
read-cases =
    record {
      octets-2401 = refl;
      octets-2400 = refl;
      number-256 = refl;
      number-258 = refl;
      packet-0 = refl;
      packet-256 = refl;
      packet-257 = refl;
      packet-form = refl;
      low-bits = refl;
      spares-2 = refl;
      spares-8 = refl;
      spares-9 = refl;
      count-form = refl;
      spare-0 = refl;
      spare-256 = refl;
      spare-257 = refl;
      spare-form = refl;
      octet-00 = refl;
      octet-02 = refl;
      octet-c0 = refl;
      octet-n-c0 = refl;
      n-0 = refl;
      n-1 = refl;
      n-8-m-4 = refl;
      n-9 = refl;
      m-0 = refl;
      m-5 = refl;
      m-form = refl;
      message-0 = refl;
      message-256 = refl;
      message-257 = refl;
      carried-spares = refl;
      carried-parity = refl;
      unused = refl;
      all-unused = refl;
    }

pub place-cases : PlaceCases
unfolding read_datagram number_of whole_of extra_at spares_at parity_at items_at item_at length_within octet_at allowed end_of length_at
place-cases =
    record {
      nothing = refl;
      half-number = refl;
      no_length = refl;
      half_length = refl;
      half-packet = refl;
      packet-128 = refl;
      no_kind = refl;
      no-count = refl;
      no-octet-01 = refl;
      no-n = refl;
      no-m = refl;
      second-spare = refl;
      half-message = refl;
      left_over = refl;
      left-over-parity = refl;
    }

pub write-cases : WriteCases
unfolding datagram_to_write datagram_octets number_octets item_octets items_octets counted_octets cut sum_of items_inside length_octets unless
write-cases =
    record {
      two-spares = refl;
      two-messages = refl;
      number-256 = refl;
      last-number = refl;
      spares-8 = refl;
      spares-9 = refl;
      n-0 = refl;
      n-1 = refl;
      n-8 = refl;
      n-9 = refl;
      m-0 = refl;
      m-4 = refl;
      m-5 = refl;
      count-first = refl;
      sum_over = refl;
      sum-before-size = refl;
      true-sum = refl;
      packet-0 = refl;
      packet-256 = refl;
      packet-257 = refl;
      spare-0 = refl;
      spare-256 = refl;
      spare-257 = refl;
      message-256 = refl;
      message-257 = refl;
    }

pub head-cases : HeadCases
unfolding number_octets length_octets items_size
head-cases =
    record {
      before-spares = refl;
      before-messages = refl;
      items = refl;
      largest = refl;
      no-n = refl;
      last-n = refl;
      over-n = refl;
    }
