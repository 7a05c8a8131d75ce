-- Within the ranges the abstraction loses nothing: equal histories have equal sizes slot by slot, and past a size both stores
-- have zeros. Assumes nothing.
use Prim.Native.Nat.{ℕ, ◌+◌, ◌*◌, ◌/◌, ◌%◌, ◌≤◌, ◌<◌}
use mathlib.Core.Path.{◌≡◌, refl, sym, ap, ap₂, ◌∙◌}
use mathlib.Core.List.{List, []}
use lib.ListN.{length, get_or}
use lib.Seq.{ext_get_or}
use native.Mathlib.Nat.{div-add-mod'}
use native.Mathlib.Omega.{arith}
use Rattle.datagram.specs.Sizes.{packet_limit}
use Rattle.sender.specs.Sending.{Sending, history_kept}
use Rattle.sender.specs.Send.{packet_of}
use Rattle.sender.specs.Sender.{history_slot, length_in, packet_in, history_in, history_octets, sending_of}
use Rattle.sender.specs.Inner.Held.{Arrays, Within, Stored}
use Rattle.sender.specs.Promise.{Proper}
use Rattle.sender.specs.declared.Sender.{Sender}
use Rattle.sender.proofs.Slots.{place_of, place-slot, place-small}
use Rattle.sender.proofs.History.{history-at, length-packet, packet-octet}
use Rattle.sender.proofs.Kept.{stored_of}

module _ (sent : ℕ) {sizes o sizes' o' : List ℕ} (a : Stored sizes o) (b : Stored sizes' o')
    (same : history_in sent sizes o ≡ history_in sent sizes' o') where
  -- every slot holds the same packet
  slot_same : (i : ℕ) → i < history_kept → packet_in sizes o i ≡ packet_in sizes' o' i
  slot_same i small =
      let p = place_of sent i in
      rw (place-slot sent i small) at
      (sym (history-at sent sizes o p (place-small sent i))
      ∙ ap (λ (h : List (List ℕ)). packet_of h p) same
      ∙ history-at sent sizes' o' p (place-small sent i))

  size_same : (i : ℕ) → i < history_kept → length_in sizes i ≡ length_in sizes' i
  size_same i small = sym (length-packet a i small) ∙ ap length (slot_same i small) ∙ length-packet b i small

  octet-same : (i k : ℕ) → i < history_kept → k < packet_limit → get_or o (i * packet_limit + k) 0 ≡ get_or o' (i * packet_limit + k) 0
  octet-same i k small low =
      sym (packet-octet a i small k low) ∙ ap (λ (l : List ℕ). get_or l k 0) (slot_same i small) ∙ packet-octet b i small k low

  pub sizes-same : sizes ≡ sizes'
  sizes-same =
      ext_get_or 0 sizes sizes' (a.lengths.slots ∙ sym b.lengths.slots)
      (λ i below. size_same i (let long = a.lengths.slots in omega arith))

  pub octets-same : o ≡ o'
  octets-same =
      ext_get_or 0 o o' (a.octets ∙ sym b.octets)
      (λ k below.
      let long = a.octets in
      let whole = div-add-mod' k packet_limit in
      let i : k / packet_limit < history_kept = omega arith in
      let j : k % packet_limit < packet_limit = omega arith in
      rw whole at (octet-same (k / packet_limit) (k % packet_limit) i j))

stored : (s : Sender) → Proper s → Stored s.sizes s.octets
stored s proper = stored_of {sent = s.sent} (record { arrays = proper.arrays; ranges = proper.ranges })

pub faithful : {s t : Sender} → Proper s → Proper t → sending_of s ≡ sending_of t → s ≡ t
faithful {s} {t} p q same =
    let count : s.sent ≡ t.sent = ap (λ (x : Sending). x.sent) same in
    let history : history_in s.sent s.sizes s.octets ≡ history_in s.sent t.sizes t.octets =
    ap (λ (x : Sending). x.history) same ∙ ap (λ (n : ℕ). history_in n t.sizes t.octets) (sym count) in
    let sizes = sizes-same s.sent (stored s p) (stored t q) history in
    let octets = octets-same s.sent (stored s p) (stored t q) history in
    ap (λ (n : ℕ). record { sent = n; sizes = s.sizes; octets = s.octets }) count
    ∙ ap₂ (λ (l o : List ℕ). record { sent = t.sent; sizes = l; octets = o }) sizes octets
