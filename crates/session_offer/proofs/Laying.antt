-- A part of a datagram laid in a slot, and what the loop that lays messages keeps true: after i turns the first i messages are laid
-- and every other slot is as it was. Assumes nothing.
use Rattle.std.proofs.Common.{◌≡◌, ℕ, ◌+◌, ◌-◌, ◌<◌, ◌≤◌, true, List, length, take, drop, set, sym, refl, ◌∙◌, ⊎_elim, not-suc-le-zero, arith, length-drop, length-set, length-take-le, get_or-set_other, get_or-set_same}
use Rattle.octets.proofs.Laws.{same_or_not}
use Rattle.datagram.specs.Sizes.{packet_limit, message_least, message_limit}
use Rattle.datagram.specs.Read.{octets_of}
use Rattle.datagram.specs.Claims.{PartInside}
use Rattle.datagram.specs.declared.reader.Part.{Part}
use Rattle.session_slots.specs.Store.{HasSlot, part, zeros_past, pasted}
use Rattle.session_slots.proofs.Laws.{length-pasted, part-pasted, part-pasted-other, zeros_past-pasted, zeros_past-other}
use Rattle.session_held.specs.Slots.{message_slot, Apart, slots_heard, slots_messages, message_octets}
use Rattle.session_held.specs.Table.{places, message_place}
use Rattle.session_held.specs.Heard.{SizesLaid, OctetsLaid}
use Rattle.session_held.proofs.Laws.{message-small, has-message-slot, apart-before, apart-here}
use Rattle.session_offer.specs.KeepSteps.{part_at, part_octets, PartPut, Fit, ItemsLaid}

-- ---- a part of the datagram has as many octets as it says
pub length-octets : {least most : ℕ} {s : List ℕ} {p : Part} → PartInside least most s p → length (octets_of s p) ≡ p.size
length-octets {least} {most} {s} {p} inside =
    length-take-le p.size (drop p.start s) (omega (arith, length-drop p.start s, inside.inside))

-- the part that the code cuts out ends its size past its start
pub part-put : {slot : ℕ} {s : List ℕ} {p : Part} {old new : List ℕ} → PartInside message_least message_limit s p
    → new ≡ pasted old slot (take (p.start + p.size - p.start) (drop p.start s)) → PartPut slot s p old new p.size
part-put {slot} {s} {p} {old} {new} inside e =
    let all : p.start + p.size - p.start ≡ p.size = omega arith in
    record { size = sym (length-octets inside); octets = rw all at e }

-- ---- the sizes
sizes-none : (j : ℕ) (messages : ℕ → List ℕ) (t : List ℕ) → SizesLaid j 0 messages t t
sizes-none j messages t =
    record { long = refl; here = λ i below. absurd (not-suc-le-zero below); other = λ k apart. refl }

sizes-more : {j i : ℕ} {messages : ℕ → List ℕ} {old new : List ℕ} → SizesLaid j i messages old new
    → SizesLaid j (i + 1) messages old (set new (message_place (message_slot j i)) (length (messages i)))
sizes-more {j} {i} {messages} {old} {new} l =
    let at = message_place (message_slot j i) in
    record {
      long = length-set new at (length (messages i)) ∙ l.long;
      here = λ e below there.
          ⊎_elim (λ (now : e ≡ i). rw now (get_or-set_same new at (length (messages i)) 0 (rw l.long (rw now at there))))
          (λ other.
          get_or-set_other new at (message_place (message_slot j e)) (length (messages i)) 0 (λ same. other (omega arith))
          ∙ l.here e (omega arith) there)
          (same_or_not e i);
      other = λ k apart.
          get_or-set_other new at k (length (messages i)) 0 (apart i (omega arith)) ∙ l.other k (λ e below. apart e (omega arith));
    }

-- ---- the octets
octets-none : (j : ℕ) (messages : ℕ → List ℕ) (g : List ℕ) → OctetsLaid j 0 messages g g
octets-none j messages g =
    record {
      long = refl;
      here = λ i below. absurd (not-suc-le-zero below);
      past = λ i below clean. absurd (not-suc-le-zero below);
      parts = λ k n has fits apart. refl;
      zeros = λ k n apart. refl;
    }

-- slot i is apart from those before it
apart_next : (j i : ℕ) → Apart j i (message_slot j i)
apart_next j i e below same = omega arith

module _ {j i : ℕ} {messages : ℕ → List ℕ} {old g : List ℕ} (l : OctetsLaid j i messages old g)
    (there : (e : ℕ) → e < i + 1 → HasSlot (message_slot j e) g) (fits : (e : ℕ) → e < i + 1 → length (messages e) ≤ packet_limit) where
  here-there : HasSlot (message_slot j i) g
  here-there = there i (omega arith)

  room : length (messages i) ≤ packet_limit
  room = fits i (omega arith)

  here-more : (e : ℕ) → e < i + 1
      → part (pasted g (message_slot j i) (messages i)) (message_slot j e) (length (messages e)) ≡ messages e
  here-more e below =
      ⊎_elim (λ (now : e ≡ i). rw now (part-pasted g (message_slot j i) (messages i) here-there room))
      (λ other.
      part-pasted-other g (message_slot j i) (messages i) here-there room (message_slot j e) (length (messages e)) (there e below)
      (fits e below) (λ same. other (omega arith))
      ∙ l.here e (omega arith))
      (same_or_not e i)

  past_more : (e : ℕ) → e < i + 1 → zeros_past old (message_slot j e) 0 ≡ true
      → zeros_past (pasted g (message_slot j i) (messages i)) (message_slot j e) (length (messages e)) ≡ true
  past_more e below clean =
      ⊎_elim
      (λ (now : e ≡ i).
      rw now
      (zeros_past-pasted g (message_slot j i) (messages i) here-there room
      (l.zeros (message_slot j i) 0 (apart_next j i) ∙ (rw now at clean))))
      (λ other.
      zeros_past-other g (message_slot j i) (messages i) here-there room (message_slot j e) (length (messages e)) (λ same. other (omega arith))
      ∙ l.past e (omega arith) clean)
      (same_or_not e i)

  octets-more : OctetsLaid j (i + 1) messages old (pasted g (message_slot j i) (messages i))
  octets-more =
      record {
        long = length-pasted g (message_slot j i) (messages i) here-there room ∙ l.long;
        here = here-more;
        past = past_more;
        parts = λ k n has low apart.
            part-pasted-other g (message_slot j i) (messages i) here-there room k n (omega (arith, l.long)) low (apart-here j i k apart)
            ∙ l.parts k n has low (apart-before j i k apart);
        zeros = λ k n apart.
            zeros_past-other g (message_slot j i) (messages i) here-there room k n (apart-here j i k apart)
            ∙ l.zeros k n (apart-before j i k apart);
      }

-- ---- the loop: i of the messages are laid
pub record Laying (s : List ℕ) (j : ℕ) (items : List Part) (count : ℕ) (t g now store : List ℕ) (i : ℕ) : Type 0 where
  pub laid : ItemsLaid s j items i t g now store
  pub few : i ≤ count

pub laying-start : (s : List ℕ) (j : ℕ) (items : List Part) (count : ℕ) (t g : List ℕ) → Laying s j items count t g t g 0
laying-start s j items count t g =
    record {
      laid = record { sizes = sizes-none j (part_octets s items) t; octets = octets-none j (part_octets s items) g };
      few = omega arith;
    }

module _ {s : List ℕ} {j : ℕ} {items : List Part} {count : ℕ} {t g now store : List ℕ} {i : ℕ}
    (l : Laying s j items count t g now store i) where
  pub laying-done : count ≤ i → ItemsLaid s j items count t g now store
  laying-done done =
      let all : i ≡ count = omega (arith, l.few) in
      rw all at l.laid

  -- the table and the store keep their lengths
  pub laying-long : length t ≡ places → length now ≡ places
  laying-long long = l.laid.sizes.long ∙ long

  module _ (small : j < slots_heard) (octets : length g ≡ message_octets) (fit : Fit s items count) (more : i < count) where
    slot-there : (e : ℕ) → e < i + 1 → HasSlot (message_slot j e) store
    slot-there e below =
        has-message-slot store (message_slot j e) (l.laid.octets.long ∙ octets) (message-small j e small (omega (arith, fit.few)))

    item-fits : (e : ℕ) → e < i + 1 → length (part_octets s items e) ≤ packet_limit
    item-fits e below =
        let item = fit.each e (omega arith) in
        omega (arith, length-octets item, item.high)

    pub laying-slot : HasSlot (message_slot j i) store
    laying-slot = slot-there i (omega arith)

    pub laying-item : PartInside message_least message_limit s (part_at items i)
    laying-item = fit.each i more

    pub laying-place : message_slot j i < slots_messages
    laying-place = message-small j i small (omega (arith, fit.few))

    pub laying-turn : {new : List ℕ} {size : ℕ} {after : List ℕ} → PartPut (message_slot j i) s (part_at items i) store new size
        → after ≡ set now (message_place (message_slot j i)) size → Laying s j items count t g after new (i + 1)
    laying-turn {new} {size} {after} put set_is =
        record {
          laid =
              record {
                sizes = rw (set_is, put.size) (sizes-more l.laid.sizes);
                octets = rw put.octets (octets-more l.laid.octets slot-there item-fits);
              };
          few = omega arith;
        }

pub ruleset layings = (laying-start, laying-long, laying-slot, laying-item, laying-place, laying-turn, laying-done)
