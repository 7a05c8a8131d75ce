-- The cases of lists and octets, each computed. Assumes nothing.
use mathlib.Core.Path.{refl}
use Rattle.octets.specs.Place.{tab, all_below}
use Rattle.octets.specs.ExclusiveOr.{xor_at, exclusive_or, longest}
use Rattle.octets.specs.Words.{word_of, both}
use Rattle.octets.specs.Cases.{Cases}

pub cases : Cases
unfolding tab all_below xor_at exclusive_or longest word_of both
cases =
    record {
      tab-0 = refl;
      tab-3 = refl;
      none_below = refl;
      below-3 = refl;
      below-4 = refl;
      not_first = refl;
      at-0 = refl;
      at_1 = refl;
      of_three = refl;
      of_none = refl;
      longest-none = refl;
      longest-second = refl;
      longest-first = refl;
      word-0 = refl;
      word-past = refl;
      word-2 = refl;
      word-4 = refl;
      added = refl;
    }
