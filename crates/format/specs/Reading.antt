-- Reading bits: a reader is at a place in bits, in an item that began at an octet (rules 2.27, 2.28, 5.1, 5.3 to 5.5 and 5.7). Definitions
-- only.
use Rattle.std.specs.Prelude.{ℕ, zero, suc, ◌+◌, ◌-◌, ◌*◌, ◌/◌, ◌%◌, ◌^◌, Bool, cond, List, [], ◌∷◌, length, get_or, drop, ltb, eqb}
use Rattle.length.specs.Refusals.{refusal_at, further, ends_early, spare_bit}
use Rattle.length.specs.declared.Refusal.{Refusal}
use Rattle.length.specs.declared.Reason.{Reason}
use Rattle.format.specs.Spelling.{gap}

-- what was found, and the place after it; or why it is refused
pub data Finding (A : Type 0) : Type 0 where
  found : A → ℕ → Finding A
  stopped : Refusal → Finding A

abbrev pub and_then : {A B : Type 0} → Finding A → (A → ℕ → Finding B) → Finding B
and_then (found a p) next = next a p
and_then (stopped r) next = stopped r

-- from some octets, the octet at which the present item begins, and a place in bits
abbrev pub Reader : Type 0 → Type 0
Reader A = List ℕ → ℕ → ℕ → Finding A

abbrev pub give : {A : Type 0} → A → Reader A
give a s i p = found a p

abbrev pub ◌>>=◌ : {A B : Type 0} → Reader A → (A → Reader B) → Reader B
◌>>=◌ r next s i p = and_then (r s i p) (λ a q. next a s i q)

-- refused for this reason, at the octet at which the present item begins (rules 2.27 and 5.7)
abbrev pub stop : {A : Type 0} → Reason → Reader A
stop why s i p = stopped (refusal_at i why)

-- goes on if a test holds; otherwise it is refused for this reason
abbrev pub check : Reason → Bool → Reader (Unit {0})
check why test = cond test (give tt) (stop why)

-- an item begins here, in the octet of its first bit (rule 5.7)
abbrev pub item : {A : Type 0} → Reader A → Reader A
item r s i p = r s (p / 8) p

-- the bit at a place, the highest of an octet first (rule 5.1)
abbrev pub bit_at : List ℕ → ℕ → ℕ
bit_at s p = get_or s (p / 8) 0 / 2 ^ (7 - p % 8) % 2

unfoldable pub bit : Reader ℕ
bit s i p = cond (ltb p (8 * length s)) (found (bit_at s p) (1 + p)) (stop ends_early s i p)

-- n bits as a number, the highest first
unfoldable pub bits : ℕ → Reader ℕ
bits zero = give 0
bits (suc n) = do
  b ← bit
  v ← bits n
  give (b * 2 ^ n + v)

-- one bit as a flag
unfoldable pub flag : Reader Bool
flag = do
  b ← bit
  give (ltb 0 b)

-- to an octet edge, by zero bits, which are one item; a bit set there is 5 (rules 5.3 to 5.5)
unfoldable pub align : Reader (Unit {0})
align s i p = item (do v ← bits (gap p); check spare_bit (eqb v 0)) s i p

-- what is found in the octets from `start` on: a refusal counts its place from the first octet (rule 2.31)
abbrev pub found_from : {A : Type 0} → ℕ → Finding A → Finding A
found_from start (found a n) = found a n
found_from start (stopped why) = stopped (further start why)

-- an item of whole octets, from an octet edge on; `front` says what they are and how many it takes
unfoldable pub octetwise : {A : Type 0} → (List ℕ → Finding A) → Reader A
octetwise front s i p = and_then (found_from (p / 8) (front (drop (p / 8) s))) (λ a n. found a (8 * n + p))

-- n of the same, one after the other
unfoldable pub sequence_of : {A : Type 0} → ℕ → Reader A → Reader (List A)
sequence_of zero r = give []
sequence_of (suc n) r = do
  a ← r
  rest ← sequence_of n r
  give (a ∷ rest)
