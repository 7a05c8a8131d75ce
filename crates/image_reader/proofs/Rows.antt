-- One number more in a session whose numbers are read from 32 before the base upward: its slots were empty, and every other slot is as it
-- was. Assumes nothing.
use Rattle.std.proofs.Common.{◌≡◌, ℕ, ◌+◌, ◌%◌, ◌<◌, ◌≤◌, Bool, true, false, List, [], ◌∷◌, ◌++◌, map, length, get_or, take, sym, ap, ◌∙◌, ⊎_elim, arith, length-append, length-set, length-take, get_or-take}
use lib.ListN.{length-map, get_or-append, get_or-eq_default}
use lib.Seq.{get_or_at}
use Rattle.octets.proofs.Laws.{same_or_not, below_or_not}
use Rattle.datagram.specs.Sizes.{packet_limit, message_least, message_limit, messages_limit}
use Rattle.datagram.specs.Read.{after, octets_of}
use Rattle.datagram.specs.Promise.{nowhere}
use Rattle.datagram.specs.Claims.{PartInside}
use Rattle.datagram.proofs.Laws.{item-done, items-each}
use Rattle.session_slots.specs.Store.{HasSlot, pasted, zeros_past}
use Rattle.session_slots.proofs.Laws.{length-pasted}
use Rattle.session.specs.Cells.{kept_before, kept_ahead, kept_numbers}
use Rattle.session_held.specs.Slots.{slot_at, heard_slot_at, kept_octets}
use Rattle.session_held.specs.Table.{places, mark_place, kept_set, heard_set}
use Rattle.session_held.proofs.Laws.{slot_small, heard-small, slot_apart, heard-apart, has-packet-slot, long_kept, beyond}
use Rattle.image.specs.Layout as layout
use Rattle.image.specs.Layout.{from_base}
use Rattle.image_reader.specs.Number.{number_by, parts_of}
use Rattle.image_reader.specs.Laying.{KeptIs, MessagesAre, HeldIs, not_yet, Lengths, Filled, KeptLaid, MessagesFit, MessagesLaid}
use Rattle.image_reader.specs.Laying.{LineFits, LaysNumber}
use Rattle.image_reader.specs.declared.number.Number.{Number}
use Rattle.image_reader.proofs.NumberSteps.{base-most}
use Rattle.image_reader.proofs.Messages.{length-octets}
use Rattle.image_reader.proofs.Slots.{kept_here, kept-other, kept_same, held-here, held-other, held_same, marks-past}

-- ---- rows
module _ (rows : List layout.Number) (x : layout.Number) where
  row_here : (p : ℕ) → p ≡ length rows → get_or (rows ++ (x ∷ [])) p not_yet ≡ x
  row_here p e = get_or_at rows x [] not_yet p (sym e)

  row_other : (p : ℕ) → (p ≡ length rows → ⊥) → get_or (rows ++ (x ∷ [])) p not_yet ≡ get_or rows p not_yet
  row_other p other =
      ⊎_elim (λ below. get_or-append rows (x ∷ []) not_yet p below)
      (λ past.
      get_or-eq_default (rows ++ (x ∷ [])) not_yet (omega (arith, length-append rows (x ∷ [])))
      ∙ sym (get_or-eq_default rows not_yet past))
      (below_or_not p (length rows))

  row-none : (p : ℕ) → p ≡ length rows → get_or rows p not_yet ≡ not_yet
  row-none p e = get_or-eq_default rows not_yet (omega arith)

-- ---- the parts of a line fit
module _ {ahead : Bool} {s : List ℕ} {r : Number} (fit : LineFits ahead s r) where
  packet : PartInside message_least fit.limit s r.packet
  packet =
      let p = item-done message_least fit.limit s 4 r.packet fit.read.packet in
      record { low = p.low; high = p.high; inside = p.inside fit.read.long }

  pub packet-inside : PartInside message_least message_limit s r.packet
  packet-inside = record { low = packet.low; high = omega (arith, packet.high, fit.most); inside = packet.inside }

  few-messages : r.m ≤ messages_limit
  few-messages = omega (arith, fit.counted, fit.read.tail.few, base-most ahead messages_limit)

  pub messages-fit : {count : ℕ} → count ≡ r.m → MessagesFit s r.parts count
  messages-fit {count} wide =
      let cut = take r.m r.parts in
      let tail = fit.read.tail in
      record {
        few = omega (arith, few-messages);
        there = omega (arith, fit.counted, length-take r.m r.parts);
        each = λ i below.
            let low : i < r.m = omega arith in
            let e = items-each message_least fit.limit s (after r.packet + 2) (length cut) cut tail.room tail.read i
            (omega (arith, fit.counted)) in
            let there : get_or cut i nowhere ≡ get_or r.parts i nowhere = get_or-take r.m r.parts i nowhere low in
            let p = rw there at e in
            record { low = p.low; high = omega (arith, p.high, fit.most); inside = p.inside };
      }

-- ---- the kept number
module _ (base : ℕ) {ahead : Bool} {k : ℕ} {s : List ℕ} {r : Number} {t o g new_t new_o : List ℕ} {slot place : ℕ} (near : k < kept_ahead)
    (fit : LineFits ahead s r) (sized : Lengths t o g) (at : place ≡ from_base ahead kept_before + k)
    (is : slot ≡ (base + kept_before + place) % kept_numbers)
    (laid : KeptLaid slot r.state r.note s r.packet t o new_t new_o) where
  b : List ℕ
  b = octets_of s r.packet

  fits : length b ≤ packet_limit
  unfolding b
  fits = omega (arith, length-octets (packet-inside fit), (packet-inside fit).high)

  inside : place < kept_numbers
  inside = omega (arith, base-most ahead kept_before)

  has : (p : ℕ) → HasSlot (slot_at base p) o
  has p = has-packet-slot o (slot_at base p) sized.octets (slot_small base p)

  slot_is : new_t ≡ kept_set t (slot_at base place) r.state (length b) r.note
  unfolding b
  slot_is = laid.table ∙ ap (λ (i : ℕ). kept_set t i r.state (length (octets_of s r.packet)) r.note) is

  store_is : new_o ≡ pasted o (slot_at base place) b
  unfolding b
  store_is = laid.octets ∙ ap (λ (i : ℕ). pasted o i (octets_of s r.packet)) is

  pub table-long : length new_t ≡ places
  table-long =
      ap length slot_is ∙ long_kept t (slot_at base place) r.state (length b) r.note sized.table

  pub store_long : length new_o ≡ kept_octets
  store_long = ap length store_is ∙ length-pasted o (slot_at base place) b (has place) fits ∙ sized.octets

  -- from the marks on the table is as it was
  marks-same : (i : ℕ) → mark_place 0 ≤ i → get_or new_t i 0 ≡ get_or t i 0
  marks-same i past =
      ap (λ (l : List ℕ). get_or l i 0) slot_is
      ∙ beyond t (slot_at base place) r.state (length b) r.note (slot_small base place) i (omega arith)

  module _ (rows : List layout.Number) (many : length rows ≡ from_base ahead kept_before + k) (f : Filled base rows t o g) where
    here : place ≡ length rows
    here = at ∙ sym many

    clean : zeros_past o (slot_at base place) 0 ≡ true
    clean = let c = f.kept place inside in rw (row-none rows not_yet place here) at c.past

    pub kept-rows : (p : ℕ) → p < kept_numbers
        → KeptIs new_t new_o (slot_at base p) (get_or (rows ++ (number_by s (parts_of r) ∷ [])) p not_yet).cell
    unfolding b
    kept-rows p below =
        rw (slot_is, store_is)
        (⊎_elim
        (λ (same : p ≡ place).
        rw (same, row_here rows (number_by s (parts_of r)) place here)
        (kept_here t o (slot_at base place) r.state r.note (octets_of s r.packet) sized.table (slot_small base place) (has place)
        fits fit.read.last clean))
        (λ other.
        rw (row_other rows (number_by s (parts_of r)) p (λ e. other (e ∙ sym here)))
        (kept-other t o (slot_at base place) r.state r.note (octets_of s r.packet) sized.table (slot_small base place) (has place)
        fits (slot_small base p) (λ e. other (slot_apart base p place below inside e)) (has p) (f.kept p below)))
        (same_or_not p place))

    -- what is held at another place
    pub held_rows : (d : ℕ) → d < kept_ahead → (kept_before + d ≡ place → ⊥)
        → HeldIs new_t g (heard_slot_at base d) (get_or (rows ++ (number_by s (parts_of r) ∷ [])) (kept_before + d) not_yet).held
    held_rows d below other =
        rw (row_other rows (number_by s (parts_of r)) (kept_before + d) (λ e. other (e ∙ sym here)))
        (held_same marks-same (f.held d below))

  -- before the base nothing more is written
  pub lay-before : ahead ≡ false → LaysNumber base ahead k s r t o g new_t new_o g
  lay-before so =
      let low : from_base ahead kept_before ≡ 0 = ap (λ (x : Bool). from_base x kept_before) so in
      let size : Lengths new_t new_o g = record { table = table-long; octets = store_long; messages = sized.messages } in
      record {
        sized = size;
        lays = λ rows many f.
            record { sized = size; kept = kept-rows rows many f; held = λ d below. held_rows rows many f d below (λ e. omega arith) };
      }

  -- from it on what is held is
  module _ {j count : ℕ} {mid_t new_g last_t : List ℕ} (so : ahead ≡ true) (slot_of : j ≡ (base + k) % kept_ahead) (wide : count ≡ r.m)
      (laid-m : MessagesLaid j s r.parts count new_t g mid_t new_g) (marked : last_t ≡ heard_set mid_t j r.mark r.n r.m) where
    high : from_base ahead kept_before ≡ kept_before
    high = ap (λ (x : Bool). from_base x kept_before) so

    mid-long : length mid_t ≡ places
    mid-long = laid-m.long ∙ table-long

    one : r.mark ≤ 1
    one = omega (arith, fit.read.marked, base-most ahead 1)

    last-is : last_t ≡ heard_set mid_t (heard_slot_at base k) r.mark r.n r.m
    last-is = marked ∙ ap (λ (i : ℕ). heard_set mid_t i r.mark r.n r.m) slot_of

    last-long : length last_t ≡ places
    last-long = ap length marked ∙ simp length-set mid-long

    -- the messages were none
    laid-here : (rows : List layout.Number) → length rows ≡ from_base ahead kept_before + k → Filled base rows t o g
        → MessagesAre mid_t new_g (heard_slot_at base k) (map (octets_of s) (take r.m r.parts))
    laid-here rows many f =
        let empty = held_same marks-same (rw (row-none rows not_yet (kept_before + k) (omega (arith, high))) at (f.held k near)) in
        rw (← slot_of, ← wide) (laid-m.laid (rw slot_of empty.messages))

    before_same : (i : ℕ) → i < mark_place 0 → get_or last_t i 0 ≡ get_or new_t i 0
    before_same i low =
        ap (λ (l : List ℕ). get_or l i 0) marked
        ∙ marks-past mid_t j r.mark r.n r.m i low
        ∙ laid-m.before i (omega arith)

    pub lay-ahead : LaysNumber base ahead k s r t o g last_t new_o new_g
    lay-ahead =
        let size : Lengths last_t new_o new_g
        = record { table = last-long; octets = store_long; messages = laid-m.octets ∙ sized.messages } in
        record {
          sized = size;
          lays = λ rows many f.
              record {
                sized = size;
                kept = λ p below. kept_same (slot_small base p) before_same (kept-rows rows many f p below);
                held = λ d below.
                    ⊎_elim
                    (λ (same : d ≡ k).
                    rw (same, row_here rows (number_by s (parts_of r)) (kept_before + k) (omega (arith, high)), last-is)
                    (held-here mid_t new_g (heard_slot_at base k) r.mark r.n r.m (map (octets_of s) (take r.m r.parts)) mid-long
                    (heard-small base k) one
                    (omega (arith, fit.counted, length-map (take r.m r.parts) (octets_of s))) (few-messages fit)
                    (laid-here rows many f)))
                    (λ other.
                    let apart : heard_slot_at base d ≡ j → ⊥ = λ e. other (heard-apart base d k below near (e ∙ slot_of)) in
                    let row = (get_or (rows ++ (number_by s (parts_of r) ∷ [])) (kept_before + d) not_yet).held in
                    rw marked
                    (held-other new_t g mid_t new_g j r.mark r.n r.m (heard_slot_at base d) row (heard-small base d) apart
                    (rw slot_of (heard-small base k)) laid-m.before
                    (laid-m.others (heard_slot_at base d) (heard-small base d) apart row.messages)
                    (held_rows rows many f d below (λ e. other (omega (arith, high))))))
                    (same_or_not d k);
              };
        }

pub ruleset rowings = (lay-before, lay-ahead)
