-- How a joiner is stored, and its ranges (rule 16.16). Definitions only.
use Rattle.std.specs.Prelude.{ℕ, ◌-◌, Bool, true, false, not, cond, ◌&&◌, ◌||◌, List, [], ◌++◌, length, get_or, take, replicate, leb, ltb, eqb}
use Rattle.octets.specs.Place.{all_below}
use Rattle.frame.specs.Frame.{frame_limit, Joining, tainted, opened}
use Rattle.frame.specs.declared.Joiner.{Joiner}

-- a frame in the storage: its octets, then zeros
unfoldable pub in_storage : List ℕ → List ℕ
in_storage frame = frame ++ replicate (frame_limit - length frame) 0

-- the joiner that stores what is kept; while tainted it has no octets
abbrev pub held_as : Joining → Joiner
held_as tainted = record { tainted = true; size = 0; frame = in_storage [] }
held_as (opened frame) = record { tainted = false; size = length frame; frame = in_storage frame }

-- what a stored joiner keeps
abbrev pub joining_in : Bool → ℕ → List ℕ → Joining
joining_in taint size storage = cond taint tainted (opened (take size storage))

unfoldable pub joining_of : Joiner → Joining
joining_of j = joining_in j.tainted j.size j.frame

-- ---- the ranges (rule 16.16): at most 300 octets, none while tainted, and zeros past the length
unfoldable pub zeros_after : List ℕ → ℕ → Bool
zeros_after storage size = all_below frame_limit (λ k. ltb k size || eqb (get_or storage k 0) 0)

unfoldable pub ranges_of : Bool → ℕ → List ℕ → Bool
ranges_of taint size storage = (leb size frame_limit && (not taint || eqb size 0)) && zeros_after storage size

abbrev pub joiner_in_ranges : Joiner → Bool
joiner_in_ranges j = ranges_of j.tainted j.size j.frame
