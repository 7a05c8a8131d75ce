-- Masks: sets of places below 64, one bit for each place in a number of 64 bits. The rows of the table use them (rule 1.16).
-- Definitions only.
use Rattle.std.specs.Prelude.{ℕ, suc, ◌-◌, ◌*◌, ◌/◌, ◌%◌, ◌^◌, Bool, List, [], ◌∷◌, eqb}
use Rattle.std.specs.Int.Bits.{bit_xor}
use Rattle.octets.specs.Place.{tab}
use Rattle.solve_algebra.specs.First.{first_passing}
use Rattle.solve_algebra.specs.Systems.{alone_test}

-- as many places as a number of 64 bits has
abbrev pub mask_places : ℕ
mask_places = 64

-- the mask has place p
unfoldable pub has_place : ℕ → ℕ → Bool
has_place mask p = eqb (mask / 2 ^ p % 2) 1

-- the mask of some places; a place that occurs twice cancels, as in an exclusive or
unfoldable pub mask_of : List ℕ → ℕ
mask_of [] = 0
mask_of (p ∷ ps) = bit_xor (2 ^ p) (mask_of ps)

-- the first place that the mask has; `mask_places` if it has none
unfoldable pub first_place : ℕ → ℕ
first_place mask = first_passing mask_places (has_place mask)

-- the only place that the mask has; `mask_places` if it has none or several
unfoldable pub lone_place : ℕ → ℕ
lone_place mask = first_passing mask_places (alone_test mask_places (has_place mask))

-- the n places at − m, at − 2m, and so on: the members of a message (rule 4.12)
unfoldable pub places_back : ℕ → ℕ → ℕ → List ℕ
places_back at n m = tab n (λ t. at - suc t * m)
