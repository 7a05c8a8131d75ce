-- What is written, as bits and whole octets one after the other, and the octets that they make (rules 5.1 and 5.3). Definitions only.
use Rattle.std.specs.Prelude.{ℕ, zero, suc, ◌+◌, ◌-◌, ◌*◌, ◌/◌, ◌%◌, ◌^◌, cond, List, [], ◌∷◌, eqb}

-- a bit, or at an octet edge a whole octet
pub data Letter : Type 0 where
  bit : ℕ → Letter
  octet : ℕ → Letter

-- the lowest n bits of a number, the highest first (rule 5.1)
unfoldable pub spelt : ℕ → ℕ → List Letter
spelt zero v = []
spelt (suc n) v = bit (v / 2 ^ n % 2) ∷ spelt n v

-- octets, unchanged
unfoldable pub whole : List ℕ → List Letter
whole [] = []
whole (x ∷ s) = octet x ∷ whole s

-- how many bits it takes
unfoldable pub wide : List Letter → ℕ
wide [] = 0
wide (bit b ∷ letters) = 1 + wide letters
wide (octet x ∷ letters) = 8 + wide letters

-- how many bits there are from a place to the octet edge at it or after it (rule 5.3)
abbrev pub gap : ℕ → ℕ
gap p = (8 - p % 8) % 8

-- the octets of what is spelt, if k bits of the first octet are there already and make the number v
unfoldable pub packed : ℕ → ℕ → List Letter → List ℕ
packed v k [] = []
packed v k (bit b ∷ letters) = cond (eqb k 7) ((v * 2 + b) ∷ packed 0 0 letters) (packed (v * 2 + b) (1 + k) letters)
packed v k (octet x ∷ letters) = x ∷ packed 0 0 letters

abbrev pub in_octets : List Letter → List ℕ
in_octets letters = packed 0 0 letters
