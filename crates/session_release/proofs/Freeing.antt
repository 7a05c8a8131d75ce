-- What the loop that clears messages keeps true: where it starts, what a turn does. Assumes nothing.
use Rattle.std.proofs.Common.{◌≡◌, ℕ, ◌+◌, ◌<◌, ◌≤◌, List, length, refl, ◌∙◌, ⊎_elim, not-suc-le-zero, arith}
use Rattle.octets.proofs.Laws.{same_or_not}
use Rattle.datagram.specs.Sizes.{packet_limit, messages_limit}
use Rattle.session_slots.specs.Store.{HasSlot, pasted, zeros}
use Rattle.session_slots.proofs.Laws.{zeros-fit, length-cleared, part-pasted-other, zeros_past-other, zeros_past-cleared}
use Rattle.session_held.specs.Slots.{message_slot, slots_heard, message_octets}
use Rattle.session_held.proofs.Laws.{message-small, has-message-slot, apart-before, apart-here}
use Rattle.session_release.specs.Steps.{Freed}

pub freed-none : (j : ℕ) (g : List ℕ) → Freed j 0 g g
freed-none j g =
    record {
      long = refl;
      cleared = λ i n below. absurd (not-suc-le-zero below);
      parts = λ k n has fits apart. refl;
      zeros = λ k n apart. refl;
    }

module _ {j i m : ℕ} {old g : List ℕ} (f : Freed j i old g) (small : j < slots_heard) (octets : length old ≡ message_octets)
    (fits : m ≤ messages_limit) (more : i < m) where
  -- the slot that a turn clears is there
  pub slot-there : HasSlot (message_slot j i) g
  slot-there = has-message-slot g (message_slot j i) (f.long ∙ octets) (message-small j i small (omega arith))

  pub freed-more : Freed j (i + 1) old (pasted g (message_slot j i) (zeros packet_limit))
  freed-more =
      let has = slot-there in
      record {
        long = length-cleared g (message_slot j i) has ∙ f.long;
        cleared = λ e n below.
            ⊎_elim (λ (here : e ≡ i). rw here (zeros_past-cleared g (message_slot j i) has n))
            (λ other.
            zeros_past-other g (message_slot j i) (zeros packet_limit) has zeros-fit (message_slot j e) n (λ same. other (omega arith))
            ∙ f.cleared e n (omega arith))
            (same_or_not e i);
        parts = λ k n there low apart.
            part-pasted-other g (message_slot j i) (zeros packet_limit) has zeros-fit k n (omega (arith, f.long)) low
            (apart-here j i k apart)
            ∙ f.parts k n there low (apart-before j i k apart);
        zeros = λ k n apart.
            zeros_past-other g (message_slot j i) (zeros packet_limit) has zeros-fit k n (apart-here j i k apart)
            ∙ f.zeros k n (apart-before j i k apart);
      }

-- ---- the loop: i of m messages are cleared
pub record Freeing (j m : ℕ) (old new : List ℕ) (i : ℕ) : Type 0 where
  pub freed : Freed j i old new
  pub few : i ≤ m

pub freeing-start : (j m : ℕ) (g : List ℕ) → Freeing j m g g 0
freeing-start j m g = record { freed = freed-none j g; few = omega arith }

module _ {j i m : ℕ} {old g : List ℕ} (l : Freeing j m old g i) (small : j < slots_heard) (octets : length old ≡ message_octets)
    (fits : m ≤ messages_limit) (more : i < m) where
  pub freeing-slot : HasSlot (message_slot j i) g
  freeing-slot = slot-there l.freed small octets fits more

  pub freeing-turn : {new : List ℕ} → new ≡ pasted g (message_slot j i) (zeros packet_limit) → Freeing j m old new (i + 1)
  freeing-turn e = rw e (record { freed = freed-more l.freed small octets fits more; few = omega arith })

pub freeing-done : {j m i : ℕ} {old new : List ℕ} → Freeing j m old new i → m ≤ i → Freed j m old new
freeing-done {j} {m} {i} {old} {new} l done =
    let all : i ≡ m = omega (arith, l.few) in
    rw all at l.freed

pub ruleset freeings = (freeing-start, freeing-slot, freeing-turn, freeing-done)
