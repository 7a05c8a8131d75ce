-- What the calls inside the session require and promise of the history, slot by slot. Definitions only.
use Rattle.std.specs.Prelude.{ℕ, ◌%◌, ◌≤◌, ◌<◌, ◌≡◌, true, List, length, set}
use Rattle.datagram.specs.Sizes.{packet_limit}
use Rattle.session_slots.specs.Store.{pasted, zeros, zeros_past}
use Rattle.sender.specs.Sending.{history_kept}
use Rattle.sender.specs.Sender.{history_octets, length_in}
use Rattle.sender.specs.Ranges.{history_in_ranges}

-- the lengths of the arrays
pub record Arrays (sizes o : List ℕ) : Type 0 where
  pub slots : length sizes ≡ history_kept
  pub octets : length o ≡ history_octets

-- a session within its ranges (rule 15.13), which the calls inside require and preserve
pub record Within (sent : ℕ) (sizes o : List ℕ) : Type 0 where
  pub arrays : Arrays sizes o
  pub ranges : history_in_ranges sent sizes o ≡ true

-- the sizes within the ranges: each is at most a packet's
pub record Sizes (sizes : List ℕ) : Type 0 where
  pub slots : length sizes ≡ history_kept
  pub small : (i : ℕ) → i < history_kept → length_in sizes i ≤ packet_limit

-- and the store: past its length each slot is zero
pub record Stored (sizes o : List ℕ) : Type 0 where
  pub lengths : Sizes sizes
  pub octets : length o ≡ history_octets
  pub clean : (i : ℕ) → i < history_kept → zeros_past o i (length_in sizes i) ≡ true

-- the sizes and the store once a packet has joined the history: its slot is that of its number, and is cleared first
abbrev pub sizes_kept : ℕ → List ℕ → List ℕ → List ℕ
sizes_kept number packet sizes = set sizes (number % history_kept) (length packet)

abbrev pub octets_kept : ℕ → List ℕ → List ℕ → List ℕ
octets_kept number packet o = pasted (pasted o (number % history_kept) (zeros packet_limit)) (number % history_kept) packet

pub record Joins (number : ℕ) (packet sizes o sizes' o' : List ℕ) : Type 0 where
  pub size : sizes' ≡ sizes_kept number packet sizes
  pub octets : o' ≡ octets_kept number packet o
