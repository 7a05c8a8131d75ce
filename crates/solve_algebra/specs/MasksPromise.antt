-- The promises of the functions on masks, a record for each. Definitions only.
use Rattle.std.specs.Prelude.{ℕ, ◌^◌, ◌≡◌, Bool}
use Rattle.solve_algebra.specs.Masks.{has_place, mask_of, first_place, lone_place, places_back}

-- whether a mask has a place
pub record HasTold (mask place : ℕ) (r : Bool) : Type 0 where
  pub answer : r ≡ has_place mask place

-- the mask of one place
pub record OneMade (place r : ℕ) : Type 0 where
  pub answer : r ≡ 2 ^ place

-- the first place that a mask has
pub record FirstFound (mask r : ℕ) : Type 0 where
  pub answer : r ≡ first_place mask

-- the only place that a mask has
pub record LoneFound (mask r : ℕ) : Type 0 where
  pub answer : r ≡ lone_place mask

-- the mask of n places that go back by m (rule 4.12)
pub record BackMade (at n m r : ℕ) : Type 0 where
  pub answer : r ≡ mask_of (places_back at n m)
