-- A store: a run of octets cut into slots of packet_limit octets each. Definitions only.
use Rattle.std.specs.Prelude.{ℕ, ◌+◌, ◌*◌, ◌≤◌, Bool, ◌||◌, List, ◌++◌, length, get_or, take, drop, replicate, ltb, eqb}
use Rattle.std.proofs.Math.Seq.{paste}
use Rattle.std.specs.Int.Bits.{bit_xor}
use Rattle.octets.specs.Place.{all_below, tab}
use Rattle.datagram.specs.Sizes.{packet_limit}

-- the store has a slot i
abbrev pub HasSlot : ℕ → List ℕ → Type 0
HasSlot i octets = i * packet_limit + packet_limit ≤ length octets

-- the first n octets of slot i
unfoldable pub part : List ℕ → ℕ → ℕ → List ℕ
part octets i n = take n (drop (i * packet_limit) octets)

-- the store with the octets b at the front of slot i
unfoldable pub pasted : List ℕ → ℕ → List ℕ → List ℕ
pasted octets i b = paste octets (i * packet_limit) b (length b)

-- n zeros
unfoldable pub zeros : ℕ → List ℕ
zeros n = replicate n 0

-- the octets of a run past the first n are zero
unfoldable pub zeros_from : List ℕ → ℕ → Bool
zeros_from run n = all_below (length run) (λ j. ltb j n || eqb (get_or run j 0) 0)

-- the octets of slot i past the first n are zero (rule 13.5)
unfoldable pub zeros_past : List ℕ → ℕ → ℕ → Bool
zeros_past octets i n = all_below packet_limit (λ j. ltb j n || eqb (get_or octets (i * packet_limit + j) 0) 0)

-- an octet with every bit set
abbrev pub all_bits : ℕ
all_bits = 255

-- the mask over a run of n octets: its first half lets every octet pass, its second half only zero. An octet passes if it has no bit in
-- common with the mask
unfoldable pub mask_over : ℕ → List ℕ
mask_over n = zeros n ++ replicate n all_bits

-- the mask of a slot
unfoldable pub mask : List ℕ
mask = mask_over packet_limit

-- sum, with the octets of slot i added by exclusive or
unfoldable pub added : List ℕ → List ℕ → ℕ → List ℕ
added sum octets i = tab (length sum) (λ j. bit_xor (get_or sum j 0) (get_or octets (i * packet_limit + j) 0))
