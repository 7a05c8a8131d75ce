-- The exclusive or of lists of octets, shorter ones padded with zeros. One definition serves the sender's messages (rule 4.13) and the
-- receiver's repairs (rule 11.3). Definitions only.
use Rattle.std.specs.Prelude.{ℕ, max, List, [], ◌∷◌, length, get_or}
use Rattle.std.specs.Int.Bits.{bit_xor}
use Rattle.octets.specs.Place.{tab}

-- the exclusive or of the octets at place k of each list; past its end a list has zeros
unfoldable pub xor_at : List (List ℕ) → ℕ → ℕ
xor_at [] k = 0
xor_at (l ∷ ls) k = bit_xor (get_or l k 0) (xor_at ls k)

-- the exclusive or of some lists, over n octets
unfoldable pub exclusive_or : ℕ → List (List ℕ) → List ℕ
exclusive_or n ls = tab n (xor_at ls)

-- the length of the longest list
unfoldable pub longest : List (List ℕ) → ℕ
longest [] = 0
longest (l ∷ ls) = max (length l) (longest ls)
