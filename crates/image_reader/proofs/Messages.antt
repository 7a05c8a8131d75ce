-- A part of a line laid in a slot, and what the loop that lays messages keeps true: after i turns the first i messages are laid, those
-- past them are empty, and every other number's are as they were. Assumes nothing.
use Rattle.std.proofs.Common.{◌≡◌, ℕ, ◌+◌, ◌<◌, ◌≤◌, List, [], map, length, get_or, take, drop, set, sym, ap, ◌∙◌, ⊎_elim, arith, length-drop, length-set, length-take, length-take-le, get_or-set_other, get_or-take, get_or-set_same}
use lib.ListN.{length-map, get_or-map, get_or-eq_default}
use Rattle.octets.proofs.Laws.{same_or_not, below_or_not}
use Rattle.datagram.specs.Sizes.{packet_limit, message_least, message_limit, messages_limit}
use Rattle.datagram.specs.Read.{octets_of}
use Rattle.datagram.specs.Promise.{nowhere}
use Rattle.datagram.specs.Claims.{PartInside}
use Rattle.datagram.specs.declared.reader.Part.{Part}
use Rattle.session_slots.specs.Store.{HasSlot, pasted}
use Rattle.session_slots.proofs.Laws.{length-pasted, part-pasted, part-pasted-other, zeros_past-pasted, zeros_past-other}
use Rattle.session_held.specs.Slots.{slots_heard, slots_messages, message_octets, message_slot}
use Rattle.session_held.specs.Table.{places, message_place}
use Rattle.session_held.proofs.Laws.{message-small, message-apart, has-message-slot}
use Rattle.image_reader.specs.Laying.{MessageIs, MessagesAre, MessageLaid, MessagesFit, MessagesLaid}

-- ---- a part has as many octets as it says
pub length-octets : {s : List ℕ} {p : Part} → PartInside message_least message_limit s p → length (octets_of s p) ≡ p.size
length-octets {s} {p} inside =
    length-take-le p.size (drop p.start s) (omega (arith, length-drop p.start s, inside.inside))

-- ---- one message
module _ {t g : List ℕ} {k : ℕ} (b : List ℕ) (has : HasSlot k g) (fits : length b ≤ packet_limit) where
  -- in a slot that was empty
  message-here : message_place k < length t → MessageIs t g k [] → MessageIs (set t (message_place k) (length b)) (pasted g k b) k b
  message-here there empty =
      record {
        size = get_or-set_same t (message_place k) (length b) 0 there;
        fits = fits;
        octets = part-pasted g k b has fits;
        past = zeros_past-pasted g k b has fits empty.past;
      }

  -- and every other slot
  message-other : {e : ℕ} {x : List ℕ} → (e ≡ k → ⊥) → HasSlot e g → MessageIs t g e x
      → MessageIs (set t (message_place k) (length b)) (pasted g k b) e x
  message-other {e} {x} other there is =
      record {
        size = get_or-set_other t (message_place k) (message_place e) (length b) 0 (λ same. other (omega arith)) ∙ is.size;
        fits = is.fits;
        octets = part-pasted-other g k b has fits e (length x) there is.fits other ∙ is.octets;
        past = zeros_past-other g k b has fits e (length x) other ∙ is.past;
      }

-- ---- the messages by their parts
module _ (s : List ℕ) (parts : List Part) where
  abbrev messages : ℕ → List (List ℕ)
  messages n = map (octets_of s) (take n parts)

  message-at : (n e : ℕ) → e < n → get_or (messages n) e [] ≡ octets_of s (get_or parts e nowhere)
  message-at n e below = get_or-map (octets_of s) (take n parts) e nowhere ∙ ap (octets_of s) (get_or-take n parts e nowhere below)

  message-past : (n e : ℕ) → n ≤ e → get_or (messages n) e [] ≡ []
  message-past n e past =
      get_or-eq_default (messages n) [] (omega (arith, length-map (take n parts) (octets_of s), length-take n parts))

  -- one more changes one place
  message-more : (n e : ℕ) → (e ≡ n → ⊥) → get_or (messages n) e [] ≡ get_or (messages (n + 1)) e []
  message-more n e other =
      ⊎_elim (λ below. message-at n e below ∙ sym (message-at (n + 1) e (omega arith)))
      (λ past. message-past n e past ∙ sym (message-past (n + 1) e (omega arith)))
      (below_or_not e n)

-- ---- the loop
pub record Laying (j : ℕ) (s : List ℕ) (parts : List Part) (count : ℕ) (t g new_t new_g : List ℕ) (i : ℕ) : Type 0 where
  pub laid : MessagesLaid j s parts i t g new_t new_g
  pub few : i ≤ count

module _ {j : ℕ} {s : List ℕ} {parts : List Part} {count : ℕ} {t g new_t new_g : List ℕ} {i : ℕ}
    (l : Laying j s parts count t g new_t new_g i) where
  module _ (small : j < slots_heard) (long : length t ≡ places) (octets : length g ≡ message_octets) (fit : MessagesFit s parts count)
      (more : i < count) where
    low : i < messages_limit
    low = omega (arith, fit.few)

    slot-there : (e d : ℕ) → e < slots_heard → d < messages_limit → HasSlot (message_slot e d) new_g
    slot-there e d less few = has-message-slot new_g (message_slot e d) (l.laid.octets ∙ octets) (message-small e d less few)

    pub laying-slot : HasSlot (message_slot j i) new_g
    laying-slot = slot-there j i small low

    pub laying-place : message_slot j i < slots_messages
    laying-place = message-small j i small low

    pub laying-part : PartInside message_least message_limit s (get_or parts i nowhere)
    laying-part = fit.each i more

    b : List ℕ
    b = octets_of s (get_or parts i nowhere)

    fits : length b ≤ packet_limit
    unfolding b
    fits = omega (arith, length-octets laying-part, laying-part.high)

    place : message_place (message_slot j i) < length new_t
    place = omega (arith, l.laid.long, laying-place)

    -- the messages of this number
    here : MessagesAre t g j [] → MessagesAre (set new_t (message_place (message_slot j i)) (length b)) (pasted new_g (message_slot j i) b) j
        (messages s parts (i + 1))
    unfolding b
    here empty e less =
        ⊎_elim
        (λ (same : e ≡ i).
        rw (same, message-at s parts (i + 1) i (omega arith))
        (message-here (octets_of s (get_or parts i nowhere)) laying-slot fits place
        (rw (message-past s parts i i (omega arith)) at (l.laid.laid empty i low))))
        (λ other.
        rw (← message-more s parts i e other)
        (message-other (octets_of s (get_or parts i nowhere)) laying-slot fits
        (λ same. other (message-apart j e j i less low same).1)
        (slot-there j e small less) (l.laid.laid empty e less)))
        (same_or_not e i)

    pub laying-turn : {after_t after_g : List ℕ} → MessageLaid (message_slot j i) s (get_or parts i nowhere) new_t new_g after_t after_g
        → Laying j s parts count t g after_t after_g (i + 1)
    unfolding b
    laying-turn {after_t} {after_g} put =
        let at = message_place (message_slot j i) in
        rw (put.table, put.octets)
        (record {
          laid =
              record {
                long = length-set new_t at (length (octets_of s (get_or parts i nowhere))) ∙ l.laid.long;
                octets = length-pasted new_g (message_slot j i) (octets_of s (get_or parts i nowhere)) laying-slot fits ∙ l.laid.octets;
                laid = here;
                others = λ e less other x are d few.
                    message-other (octets_of s (get_or parts i nowhere)) laying-slot fits
                    (λ same. other (message-apart e d j i few low same).0)
                    (slot-there e d less few) (l.laid.others e less other x are d few);
                before = λ k under.
                    get_or-set_other new_t at k (length (octets_of s (get_or parts i nowhere))) 0 (λ same. omega arith)
                    ∙ l.laid.before k under;
              };
          few = omega arith;
        })
