-- Laws of the stored history: what is at a place, and that a packet's octets are those of its slot.
-- Assumes nothing.
use Prim.Native.Nat.{ℕ, zero, suc, ◌+◌, ◌-◌, ◌*◌, ◌%◌, ◌≤◌, ◌<◌}
use mathlib.Core.Path.{◌≡◌, refl, sym, ap, ◌∙◌}
use mathlib.Core.Logic.{⊎_elim}
use mathlib.Core.List.{List, [], ◌∷◌, ◌++◌, map}
use lib.ListN.{length, get_or, get_or-eq_default}
use native.Mathlib.Omega.{arith}
use Rattle.octets.specs.Place.{tab}
use Rattle.octets.proofs.Laws.{length-tab, tab-at, tab-ext, below_or_not}
use Rattle.datagram.specs.Sizes.{packet_limit}
use Rattle.session_slots.specs.Store.{part}
use Rattle.session_slots.proofs.Laws.{length_part, part-octet}
use Rattle.session.specs.View.{numbers}
use Rattle.sender.specs.Sending.{history_kept}
use Rattle.sender.specs.Send.{packet_of}
use Rattle.sender.specs.Sender.{history_slot, length_in, packet_in, history_in}
use Rattle.sender.specs.Inner.Held.{Stored}
use Rattle.sender.proofs.Slots.{has-slot, slot_small, slot-number}

pub length-history : (sent : ℕ) (sizes o : List ℕ) → length (history_in sent sizes o) ≡ history_kept
unfolding history_in
length-history sent sizes o = length-tab history_kept (λ p. packet_in sizes o (history_slot sent p))

-- what is at a place
pub history-at : (sent : ℕ) (sizes o : List ℕ) (p : ℕ) → p < history_kept
    → packet_of (history_in sent sizes o) p ≡ packet_in sizes o (history_slot sent p)
unfolding history_in
history-at sent sizes o p small = tab-at history_kept (λ q. packet_in sizes o (history_slot sent q)) p [] small

-- numbers are modulo 65,536, slots modulo 32
pub history-number : (sent : ℕ) (sizes o : List ℕ) → history_in (sent % numbers) sizes o ≡ history_in sent sizes o
unfolding history_in
history-number sent sizes o =
    tab-ext history_kept (λ p. packet_in sizes o (history_slot (sent % numbers) p)) (λ p. packet_in sizes o (history_slot sent p))
    (λ p small. ap (packet_in sizes o) (slot-number sent p))

module _ {sizes o : List ℕ} (stored : Stored sizes o) (i : ℕ) (small : i < history_kept) where
  pub length-packet : length (packet_in sizes o i) ≡ length_in sizes i
  length-packet = length_part o i (length_in sizes i) (has-slot o i stored.octets small) (stored.lengths.small i small)

  -- past its length a slot has zeros, as a packet is read past its end
  pub packet-octet : (k : ℕ) → k < packet_limit → get_or (packet_in sizes o i) k 0 ≡ get_or o (i * packet_limit + k) 0
  packet-octet k low =
      part-octet o i (length_in sizes i) k (has-slot o i stored.octets small) (stored.lengths.small i small) (stored.clean i small) low

-- no packet is over the limit; outside the history there is none
pub packet-short : {sizes o : List ℕ} → Stored sizes o → (sent p : ℕ) → length (packet_of (history_in sent sizes o) p) ≤ packet_limit
packet-short {sizes} {o} stored sent p =
    ⊎_elim (λ inside.
    rw (history-at sent sizes o p inside, length-packet stored (history_slot sent p) (slot_small sent p))
    (stored.lengths.small (history_slot sent p) (slot_small sent p)))
    (λ past.
    rw (get_or-eq_default (history_in sent sizes o) [] {n = p} (rw (length-history sent sizes o) past)) (omega arith))
    (below_or_not p history_kept)
