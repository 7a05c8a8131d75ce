-- The messages that the view shows are those in their slots: at each message place as many octets as its size, and past it zeros.
-- A place past m has size 0, so it is shown empty. Assumes nothing.
use Prim.Native.Nat.{ℕ, ◌+◌, ◌*◌, ◌<◌}
use mathlib.Core.Path.{◌≡◌, sym, ap, ◌∙◌}
use mathlib.Core.List.{List, []}
use mathlib.Core.Logic.{⊎_elim}
use lib.ListN.{length, get_or, take, drop, get_or-eq_default}
use Rattle.octets.specs.Place.{tab}
use Rattle.octets.proofs.Laws.{tab-at, length-tab, below_or_not}
use Rattle.datagram.specs.Sizes.{packet_limit, messages_limit}
use Rattle.session_slots.specs.Store.{part, HasSlot}
use Rattle.session_slots.proofs.Laws.{length_part, part-octet}
use Rattle.session_held.specs.Slots.{slots_heard, message_slot}
use Rattle.session_held.specs.Table.{m_in, message_size_in, message_in, held_in}
use Rattle.session_held.specs.Laid.{Laid}
use Rattle.session_held.proofs.Slots.{message-small, has-message-slot}

module _ {t o g : List ℕ} (w : Laid t o g) where
  message-has : (j i : ℕ) → j < slots_heard → i < messages_limit → HasSlot (message_slot j i) g
  message-has j i small low = has-message-slot g (message_slot j i) w.messages (message-small j i small low)

  -- a message place of the view, past m too
  pub message-part : (j i : ℕ) → j < slots_heard → i < messages_limit → get_or (held_in t g j).messages i [] ≡ message_in t g j i
  unfolding held_in message_in part
  message-part j i small low =
      ⊎_elim (λ inside. tab-at (m_in t j) _ i [] inside)
      (λ past.
      get_or-eq_default (tab (m_in t j) _) [] (rw (length-tab (m_in t j) (message_in t g j)) past)
      ∙ ap (λ (n : ℕ). take n (drop (message_slot j i * packet_limit) g)) (sym (w.past j i small low past)))
      (below_or_not i (m_in t j))

  pub message-length : (j i : ℕ) → j < slots_heard → i < messages_limit
      → length (get_or (held_in t g j).messages i []) ≡ message_size_in t (message_slot j i)
  unfolding message_in
  message-length j i small low =
      ap length (message-part j i small low)
      ∙ length_part g (message_slot j i) _ (message-has j i small low) (w.part j i small low)

  pub message-octet : (j i k : ℕ) → j < slots_heard → i < messages_limit → k < packet_limit
      → get_or (get_or (held_in t g j).messages i []) k 0 ≡ get_or g (message_slot j i * packet_limit + k) 0
  unfolding message_in
  message-octet j i k small low few =
      ap (λ (l : List ℕ). get_or l k 0) (message-part j i small low)
      ∙ part-octet g (message_slot j i) _ k (message-has j i small low) (w.part j i small low) (w.message j i small low) few
