-- The cases of bits, each computed. Assumes nothing.
use mathlib.Core.Path.{refl}
use native.Mathlib.Omega.{arith}
use Rattle.length.specs.Length.{length_at, allowed, length_within, length_octets}
use Rattle.format.specs.Spelling.{spelt, whole, wide, packed}
use Rattle.format.specs.Reading as reading
use Rattle.format.specs.Format.{octets_front, two_front, sequence_spelt, sequence_fits}
use Rattle.format.specs.Places.{edge_at}
use Rattle.format.specs.Waiting.{full_octets, left, closed}
use Rattle.format.specs.Cases.{ReadingCases, SpellingCases, FormatCases, FitsCases, PlacesCases, WaitingCases, Cases}

reading-cases : ReadingCases
unfolding reading.bit reading.bits reading.flag reading.align reading.octetwise reading.sequence_of octets_front
reading-cases =
    record {
      octet-a5 = refl;
      none-there = refl;
      next-octet = refl;
      one = refl;
      one_last = refl;
      one-missing = refl;
      one-missing-later = refl;
      none = refl;
      three = refl;
      across = refl;
      across-cut = refl;
      set = refl;
      clear = refl;
      at_edge = refl;
      at-end = refl;
      padded = refl;
      last_bit = refl;
      first-set = refl;
      last_set = refl;
      set-later = refl;
      passes = refl;
      fails = refl;
      fails-at-1 = refl;
      fails-at-2 = refl;
      two = refl;
      two-missing = refl;
      one_later = refl;
      missing-later = refl;
      pairs = refl;
      no_pairs = refl;
      pairs-cut = refl;
    }

spelling-cases : SpellingCases
unfolding spelt whole wide packed
spelling-cases =
    record {
      ten = refl;
      low-bits = refl;
      no_bits = refl;
      unchanged = refl;
      none-wide = refl;
      both-wide = refl;
      gaps = refl;
      eight = refl;
      octet-first = refl;
      sixteen = refl;
      more = refl;
      nothing = refl;
    }

format-cases : FormatCases
unfolding reading.bit reading.bits reading.flag reading.align reading.octetwise reading.sequence_of octets_front two_front sequence_spelt
    spelt whole wide length_at allowed length_within length_octets
format-cases =
    record {
      flag-set = refl;
      flag-clear = refl;
      nine = refl;
      padding = refl;
      no-padding = refl;
      octet-2 = refl;
      octet-2-last = refl;
      octet-unspelt = refl;
      two-octets = refl;
      two-padding = refl;
      two-missing = refl;
      two-spelt = refl;
      number-258 = refl;
      number-over = refl;
      number_cut = refl;
      number-512 = refl;
      number-510 = refl;
      count-16 = refl;
      count-200 = refl;
      count-17 = refl;
      count-0 = refl;
      count-form = refl;
      count-spelt = refl;
      known-7 = refl;
      known-unspelt = refl;
      three = refl;
      seven = refl;
      demanded = refl;
      not-demanded = refl;
      demand-unspelt = refl;
      then = refl;
      then-spelt = refl;
      then-padded = refl;
      read_as = refl;
      spelt-as = refl;
      pairs = refl;
      pairs-spelt = refl;
      each-padded = refl;
    }

fits-cases : FitsCases
unfolding sequence_fits
fits-cases =
    record {
      bits-15 = omega arith;
      bits-16 = λ few. omega (arith, few);
      octet-2 = refl;
      octet-2-last = refl;
      two-octets = refl;
      three-octets = λ two. omega (arith, two);
      number-258 = omega arith;
      number-259 = λ few. omega (arith, few);
      count-16 = (omega arith, refl);
      tested = (omega arith, refl);
      pairs = ((omega arith, (omega arith, tt)), refl);
    }

places-cases : PlacesCases
unfolding edge_at
places-cases =
    record {
      four-bits = refl;
      nine-bits = refl;
      later = refl;
      nine-later = refl;
      past-last = refl;
      none-there = refl;
      no_bits = refl;
      edges = refl;
      padded = refl;
      at_edge = refl;
      first-set = refl;
      last_set = refl;
      set-at-1 = refl;
      set-at-2 = refl;
      nothing = refl;
    }

waiting-cases : WaitingCases
unfolding full_octets left closed
waiting-cases =
    record {
      none = refl;
      seven = refl;
      seven-wait = refl;
      seven-left = refl;
      eight = refl;
      eight-left = refl;
      ten = refl;
      ten-left = refl;
      closed_none = refl;
      closed-one = refl;
      closed-three = refl;
      most = record { few = omega arith; small = omega arith };
      eight-wait = λ w. omega (arith, w.few);
      over = λ w. omega (arith, w.small);
    }

pub cases : Cases
cases =
    record {
      reading_cases = reading-cases;
      spelling_cases = spelling-cases;
      format_cases = format-cases;
      fits_cases = fits-cases;
      places_cases = places-cases;
      waiting_cases = waiting-cases;
    }
