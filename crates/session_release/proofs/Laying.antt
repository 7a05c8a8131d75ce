-- The base goes on by one: the layout stays, slot by slot. Assumes nothing.
use Rattle.std.proofs.Common.{◌≡◌, ℕ, ◌<◌, true, List, length, sym, ap, ◌∙◌, ⊎_elim, arith}
use Rattle.octets.proofs.Laws.{same_or_not, below_or_not}
use Rattle.datagram.specs.Sizes.{packet_limit, messages_limit}
use Rattle.session_slots.specs.Store.{HasSlot, zeros_past, pasted, zeros}
use Rattle.session_slots.proofs.Laws.{zeros-fit, length-cleared, zeros_past-other, zeros_past-cleared}
use Rattle.session_held.specs.Slots.{slot_at, heard_slot_at, message_slot, Apart}
use Rattle.session_held.specs.Table.{size_in, m_in, message_size_in}
use Rattle.session_held.specs.Laid.{Laid}
use Rattle.session_held.proofs.Laws.{slot_small, heard-small, message-apart, has-packet-slot}
use Rattle.session_release.specs.Steps.{Freed}
use Rattle.session_release.proofs.Advanced.{advanced, state-other, size-other, state-comes, size-comes, mark-other, m-other}
use Rattle.session_release.proofs.Advanced.{mark-gone}
use Rattle.session_release.proofs.Advanced.{m-gone}
use Rattle.session_release.proofs.Advanced.{sizes-freed, sizes-other, long_after}

module _ (b : ℕ) {t o g new_o new_g : List ℕ} (l : Laid t o g) (cleared : new_o ≡ pasted o (slot_at b 0) (zeros packet_limit))
    (freed : Freed (heard_slot_at b 0) (m_in t (heard_slot_at b 0)) g new_g) where
  there : HasSlot (slot_at b 0) o
  there = has-packet-slot o (slot_at b 0) l.octets (slot_small b 0)

  apart : (j i : ℕ) → i < messages_limit → (j ≡ heard_slot_at b 0 → ⊥)
      → Apart (heard_slot_at b 0) (m_in t (heard_slot_at b 0)) (message_slot j i)
  apart j i below other e low same =
      other
      (message-apart j i (heard_slot_at b 0) e below (omega (arith, l.few (heard_slot_at b 0) (heard-small b 0))) same).0

  -- the slots of the messages that were dropped hold zeros: those past m did so before
  gone-zeros : (i : ℕ) → i < messages_limit → zeros_past new_g (message_slot (heard_slot_at b 0) i) 0 ≡ true
  gone-zeros i below =
      let j = heard_slot_at b 0 in
      let small = heard-small b 0 in
      ⊎_elim (λ low. freed.cleared i 0 low)
      (λ past.
      freed.zeros (message_slot j i) 0 (λ e few same. omega (arith, (message-apart j i j e below (omega (arith, l.few j small)) same).1))
      ∙ ap (λ (n : ℕ). zeros_past g (message_slot j i) n) (sym (l.past j i small below past))
      ∙ l.message j i small below)
      (below_or_not i (m_in t j))

  pub laid-goes-on : Laid (advanced b t) new_o new_g
  laid-goes-on =
      let comes = slot_at b 0 in
      let leaves = heard_slot_at b 0 in
      record {
        long = long_after b t l.long;
        octets = ap length cleared ∙ length-cleared o comes there ∙ l.octets;
        messages = freed.long ∙ l.messages;
        state = λ i low.
            ⊎_elim (λ (e : i ≡ slot_at b 0). rw (e, state-comes b t) (omega arith))
            (λ other. rw (state-other b t i low other) (l.state i low))
            (same_or_not i (slot_at b 0));
        size = λ i low.
            ⊎_elim (λ (e : i ≡ slot_at b 0). rw (e, size-comes b t) (omega arith))
            (λ other. rw (size-other b t i low other) (l.size i low))
            (same_or_not i (slot_at b 0));
        packet = λ i low.
            ⊎_elim (λ (e : i ≡ slot_at b 0). rw (e, size-comes b t, cleared) (zeros_past-cleared o comes there 0))
            (λ other.
            rw (
              size-other b t i low other,
              cleared,
              zeros_past-other o (slot_at b 0) (zeros packet_limit) there zeros-fit i (size_in t i) other,
            )
            (l.packet i low))
            (same_or_not i (slot_at b 0));
        mark = λ j low.
            ⊎_elim (λ (e : j ≡ heard_slot_at b 0). rw (e, mark-gone b t) (omega arith))
            (λ other. rw (mark-other b t j low other) (l.mark j low))
            (same_or_not j (heard_slot_at b 0));
        few = λ j low.
            ⊎_elim (λ (e : j ≡ heard_slot_at b 0). rw (e, m-gone b t) (omega arith))
            (λ other. rw (m-other b t j low other) (l.few j low))
            (same_or_not j (heard_slot_at b 0));
        part = λ j i low below.
            ⊎_elim (λ (e : j ≡ heard_slot_at b 0). rw (e, sizes-freed b t i below) (omega arith))
            (λ other. rw (sizes-other b t j low other i below) (l.part j i low below))
            (same_or_not j (heard_slot_at b 0));
        past = λ j i low below past.
            ⊎_elim (λ (e : j ≡ heard_slot_at b 0). rw e (sizes-freed b t i below))
            (λ other.
            sizes-other b t j low other i below
            ∙ l.past j i low below (rw (m-other b t j low other) at past))
            (same_or_not j (heard_slot_at b 0));
        message = λ j i low below.
            ⊎_elim (λ (e : j ≡ heard_slot_at b 0). rw (e, sizes-freed b t i below) (gone-zeros i below))
            (λ other.
            rw (
              sizes-other b t j low other i below,
              freed.zeros (message_slot j i) (message_size_in t (message_slot j i)) (apart j i below other),
            )
            (l.message j i low below))
            (same_or_not j (heard_slot_at b 0));
      }
