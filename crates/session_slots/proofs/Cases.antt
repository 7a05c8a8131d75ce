-- The cases of a store, each computed. Assumes nothing.
use mathlib.Core.Path.{refl}
use Rattle.octets.specs.Place.{tab, all_below}
use Rattle.session_slots.specs.Store.{part, pasted, zeros, zeros_from, zeros_past, mask_over, added}
use Rattle.session_slots.specs.Cases.{StoreCases}

pub store-cases : StoreCases
unfolding part pasted zeros zeros_from zeros_past mask_over added tab all_below
store-cases =
    record {
      slot-1 = refl;
      in-front = refl;
      put-into-1 = refl;
      none-past = refl;
      one-past = refl;
      last-past = refl;
      next-slot = refl;
      that-slot = refl;
      run_none = refl;
      run-one = refl;
      mask-2 = refl;
      added-1 = refl;
    }
