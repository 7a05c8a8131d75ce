-- The cases of a length, each computed. Assumes nothing.
use mathlib.Core.Path.{refl}
use Rattle.length.specs.Tables.{first, unless}
use Rattle.length.specs.Length.{length_at, allowed, length_within, length_octets, length_to_write}
use Rattle.length.specs.Cases.{NumberCases, ReadCases, WriteCases, TableCases, Cases}

number-cases : NumberCases
number-cases =
    record {
      to-6 = refl;
      to-10 = refl;
      to-15 = refl;
      to-18 = refl;
      to-23 = refl;
      names = refl;
      others = refl;
    }

read-cases : ReadCases
unfolding length_at length_within allowed
read-cases =
    record {
      zero = refl;
      one-octet = refl;
      least-two = refl;
      high-first = refl;
      most-two = refl;
      over-limit = refl;
      last-c0 = refl;
      last-ff = refl;
      last-80 = refl;
      last-bf = refl;
      nothing = refl;
      two-for-0 = refl;
      two-for-127 = refl;
      from-octet-2 = refl;
      further-on = refl;
      below-sizes = refl;
      least_size = refl;
      most-size = refl;
      above-sizes = refl;
      form-first = refl;
      end-first = refl;
      value-told = refl;
      refusal-told = refl;
      why = refl;
      why-value = refl;
    }

write-cases : WriteCases
unfolding length_octets length_to_write unless
write-cases =
    record {
      zero = refl;
      one-octet = refl;
      least-two = refl;
      high_part = refl;
      high-first = refl;
      most-two = refl;
      over-limit = refl;
      limit = refl;
      two-into-one = refl;
      one-into-none = refl;
      one-into-one = refl;
      size-first = refl;
      refused-stays = refl;
      rest-stays = refl;
      size-told = refl;
      two-told = refl;
      refusal-told = refl;
    }

table-cases : TableCases
unfolding unless first
table-cases =
    record {
      none-applies = refl;
      first-applies = refl;
      second-applies = refl;
      first-row = refl;
      no_row = refl;
      done-row = refl;
      refused-row = refl;
      done-place = refl;
      refused-place = refl;
      room = refl;
      no_room_case = refl;
      is-done = refl;
      is-refused = refl;
      new-state = refl;
      old-state = refl;
    }

pub cases : Cases
cases = record { numbers = number-cases; reads = read-cases; writes = write-cases; tables = table-cases }
