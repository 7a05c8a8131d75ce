-- The members of a message as numbers that go back by m (rule 4.12), and what is counted, found and summed over them. Numbers are modulo
-- 65,536 (rule 2.35), and a number's slot is the number modulo 64 (rule 9.13). Definitions only.
use Rattle.std.specs.Prelude.{◌≡◌, ℕ, zero, suc, ◌+◌, ◌*◌, ◌%◌, ◌<◌, ◌≤◌, cond, List, length, ◌==◌, bit_xor, slice_index}
use Rattle.datagram.specs.Sizes.{packet_limit, messages_limit}
use Rattle.session.specs.Cells.{is_unknown}
use Rattle.session.specs.View.{distance}
use Rattle.session_held.specs.Slots.{slots_kept, slots_heard}
use Rattle.session_held.specs.Table.{state_in, m_in, state_numbered}

-- one for an unknown number in a slot, zero for any other
abbrev pub unknown_one : List ℕ → ℕ → ℕ
unknown_one table slot = cond (is_unknown (state_numbered (state_in table slot))) 1 0

pub record OneUnknown (table : List ℕ) (slot r : ℕ) : Type 0 where
  pub same : r ≡ unknown_one table slot
  pub small : r ≤ 1

-- the slot of a number
abbrev pub slot_of : ℕ → ℕ
slot_of number = number % slots_kept

-- how many of the n numbers x − m, x − 2m, .. are unknown
unfoldable pub count_back : List ℕ → ℕ → ℕ → ℕ → ℕ
count_back table x zero m = 0
count_back table x (suc n) m = unknown_one table (slot_of (distance m x)) + count_back table (distance m x) n m

-- the slot of the first unknown one of them, or slots_kept if there is none
unfoldable pub find_back : List ℕ → ℕ → ℕ → ℕ → ℕ
find_back table x zero m = slots_kept
find_back table x (suc n) m =
    cond (unknown_one table (slot_of (distance m x)) == 1) (slot_of (distance m x)) (find_back table (distance m x) n m)

-- the exclusive or of octet j of the n numbers' slots
unfoldable pub xor_back : List ℕ → ℕ → ℕ → ℕ → ℕ → ℕ
xor_back octets x zero m j = 0
xor_back octets x (suc n) m j =
    bit_xor (slice_index octets (slot_of (distance m x) * packet_limit + j)) (xor_back octets (distance m x) n m j)

-- octets, to which the n numbers' slots were added by exclusive or
pub record Summed (octets : List ℕ) (x n m : ℕ) (before after : List ℕ) : Type 0 where
  pub long : length after ≡ length before
  pub each : (j : ℕ) → j < length before → slice_index after j ≡ bit_xor (slice_index before j) (xor_back octets x n m j)

-- the sum of f 0 to f (n − 1)
unfoldable pub sum_to : ℕ → (ℕ → ℕ) → ℕ
sum_to zero f = 0
sum_to (suc n) f = sum_to n f + f n

-- how many messages all numbers have
abbrev pub count_all : List ℕ → ℕ
count_all table = sum_to slots_heard (m_in table)

-- how many messages one number has
pub record MessageCount (table : List ℕ) (slot r : ℕ) : Type 0 where
  pub same : r ≡ m_in table slot
  pub small : r ≤ messages_limit
