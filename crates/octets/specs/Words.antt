-- Words: some octets as one number, the first octet lowest; and the exclusive or of two runs of octets (rule 30.9). Definitions only.
use Rattle.std.specs.Prelude.{ℕ, zero, suc, ◌+◌, ◌*◌, ◌^◌, ◌≤◌, ◌<◌, ◌≡◌, List, length, get_or}
use Rattle.std.specs.Int.Bits.{bit_xor}
use Rattle.octets.specs.Place.{tab}

-- the n octets from a place on, as a number
unfoldable pub word_of : ℕ → List ℕ → ℕ → ℕ
word_of zero octets at = 0
word_of (suc n) octets at = get_or octets at 0 + 256 * word_of n octets (suc at)

-- the n octets from a place on are octets
abbrev pub OctetsAt : ℕ → List ℕ → ℕ → Type 0
OctetsAt n octets at = (j : ℕ) → at ≤ j → j < at + n → get_or octets j 0 < 256

-- r is the number that the n octets from a place on make
pub record Reads (n : ℕ) (input : List ℕ) (at r : ℕ) : Type 0 where
  pub number : r ≡ word_of n input at
  pub below : r < 256 ^ n
  pub octets : OctetsAt n input at

-- the number w is written as n octets from a place on, and all other octets are unchanged
pub record Spells (n w : ℕ) (old : List ℕ) (at : ℕ) (new : List ℕ) : Type 0 where
  pub number : word_of n new at ≡ w
  pub octets : OctetsAt n new at
  pub before : (j : ℕ) → j < at → get_or new j 0 ≡ get_or old j 0
  pub past : (j : ℕ) → at + n ≤ j → get_or new j 0 ≡ get_or old j 0
  pub long : length new ≡ length old

-- the exclusive or of two runs, octet by octet
unfoldable pub both : List ℕ → List ℕ → List ℕ
both src sum = tab (length sum) (λ j. bit_xor (get_or sum j 0) (get_or src j 0))

-- the first k octets are added, and the others are unchanged
pub record AddsTo (src start sum : List ℕ) (k : ℕ) : Type 0 where
  pub added : (j : ℕ) → j < k → get_or sum j 0 ≡ bit_xor (get_or start j 0) (get_or src j 0)
  pub rest : (j : ℕ) → k ≤ j → get_or sum j 0 ≡ get_or start j 0
  pub long : length sum ≡ length start
