-- A packet that joins the history, in the words of the code. Assumes nothing.
use Rattle.std.proofs.Common.{◌≡◌, ℕ, ◌%◌, List, length, set, refl}
use Rattle.datagram.specs.Sizes.{packet_limit}
use Rattle.session_slots.specs.Store.{pasted, zeros}
use Rattle.sender.specs.Sending.{history_kept}
use Rattle.sender.specs.Inner.Held.{Joins}

pub keeping : (number slot : ℕ) (packet sizes o cleared o' : List ℕ) → slot ≡ number % history_kept
    → cleared ≡ pasted o slot (zeros packet_limit) → o' ≡ pasted cleared slot packet
    → Joins number packet sizes o (set sizes slot (length packet)) o'
keeping number slot packet sizes o cleared o' found clear put = rw (put, clear, found) (record { size = refl; octets = refl })
