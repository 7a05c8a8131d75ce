-- The tests that the code makes, number by number, pass together exactly if what is lent is within its ranges. Slot by slot they are
-- the view's tests. Assumes nothing.
use Rattle.std.proofs.Common.{◌≡◌, ℕ, ◌+◌, ◌%◌, ◌<◌, Bool, true, not, ◌&&◌, eqb, leb, List, length, sym, refl, ap, ◌∙◌, ap₂, le-leb, leb-true}
use Rattle.octets.specs.Place.{all_below}
use Rattle.octets.proofs.Laws.{and_left, and_right, and_both, all_below-at, all_below-of}
use Rattle.session.specs.Cells.{cell_at, is_unknown, kept_before, kept_ahead, kept_numbers}
use Rattle.session.specs.Held.{Held, held_at}
use Rattle.session.specs.View.{sum, numbers, number_at, session_limit}
use Rattle.session.specs.Ranges.{sum_right, blank_at, size_right, note_right, cell_noted, held_right, known_at, Sound}
use Rattle.session.proofs.Laws.{base-small, size_fits, mark-sizes}
use Rattle.session_held.specs.Slots.{slots_kept, slots_heard, slot_at, heard_slot_at, kept_octets, message_octets}
use Rattle.session_held.specs.Table.{Lent, lent, counts_of, places, last_state, state_in, size_in, note_in, mark_in, n_in, m_in, state_numbered}
use Rattle.session_held.specs.Table.{cell_in}
use Rattle.session_held.specs.Table.{held_in, cells_of, held_of, view_in}
use Rattle.session_held.specs.Laid.{lent_in_ranges, Laid, InRanges}
use Rattle.session_held.specs.declared.Counts.{Counts}
use Rattle.session_held.proofs.Laws.{slot_small, heard-small, heard-slot-of, length-cells, length-held, held-at, octets-long, cell-right}
use Rattle.session_held.proofs.Laws.{held-right, message-fits, message-none, message-zeros, laid-message, in-ranges-of, in-ranges-true}
use Rattle.session_check.specs.Pieces.{state_right, place_of_slot, state_test, note_test, packet_test, all_kept, heard_test}
use Rattle.session_check.proofs.Turns.{both_ways}
use Rattle.session_check.proofs.Places.{place-small, slot-place, place-slot}
use Rattle.session_check.proofs.SlotTests.{KeptSeen, kept_seen, HeardSeen, heard-seen, seen-heard, note-told, cell-told}
use Rattle.session_check.proofs.SlotTests.{held-of-mark}
use Rattle.session_check.proofs.SlotTests.{mark-of-held, known-told}

-- ---- the tests at all numbers
abbrev total : Lent → ℕ
total l = sum (counts_of l.counts)

abbrev kept_all : Lent → Bool
kept_all l = all_kept l.base (total l) l.table l.octets

abbrev noted_all : Lent → Bool
noted_all l = all_below slots_kept (note_test l.base l.table)

abbrev heard_all : Lent → Bool
heard_all l = all_below kept_ahead (heard_test l.base l.table l.messages)

-- from the tests to the ranges
module _ (l : Lent) (long : length l.table ≡ places) (octets : length l.octets ≡ kept_octets)
    (messages : length l.messages ≡ message_octets) (summed : sum_right (view_in l) ≡ true) (kept : kept_all l ≡ true)
    (noted : noted_all l ≡ true) (heard : heard_all l ≡ true) where
  kept_in : (i : ℕ) → i < slots_kept → KeptSeen l.table l.octets i (blank_at (total l) (place_of_slot l.base i))
  unfolding all_kept state_test packet_test
  kept_in i low =
      let states = all_below slots_kept (state_test l.base (total l) l.table) in
      let packets = all_below slots_kept (packet_test l.table l.octets) in
      kept_seen l.table l.octets i (blank_at (total l) (place_of_slot l.base i))
      (all_below-at slots_kept (state_test l.base (total l) l.table) (and_left states packets kept) i low)
      (all_below-at slots_kept (packet_test l.table l.octets) (and_right states packets kept) i low)

  kept_at : (p : ℕ) → p < kept_numbers → KeptSeen l.table l.octets (slot_at l.base p) (blank_at (total l) p)
  kept_at p below =
      rw (place-slot l.base p below) at (kept_in (slot_at l.base p) (slot_small l.base p))

  heard-at : (d : ℕ) → d < kept_ahead
      → HeardSeen l.table l.messages (heard_slot_at l.base d)
      (not (is_unknown (state_numbered (state_in l.table (slot_at l.base (kept_before + d))))))
  unfolding heard_test
  heard-at d below =
      heard-seen l.table l.messages (heard_slot_at l.base d)
      (not (is_unknown (state_numbered (state_in l.table (slot_at l.base (kept_before + d))))))
      (all_below-at kept_ahead _ heard d below)

  heard-in : (j : ℕ) → j < slots_heard → (known : Bool) × HeardSeen l.table l.messages j known
  heard-in j low =
      let at = heard-slot-of l.base j low in (
        not (is_unknown (state_numbered (state_in l.table (slot_at l.base (kept_before + at.0))))),
        rw at.2 at (heard-at at.0 at.1),
      )

  laid-there : Laid l.table l.octets l.messages
  laid-there =
      let t = l.table in
      let g = l.messages in
      record {
        long = long;
        octets = octets;
        messages = messages;
        state = λ i low. leb-true (state_in t i) last_state (kept_in i low).number;
        size =
            λ i low. size_fits (state_numbered (state_in t i)) (size_in t i) (blank_at (total l) (place_of_slot l.base i)) (kept_in i low).size;
        packet = λ i low. (kept_in i low).zeros;
        mark = λ j low. leb-true (mark_in t j) 1 (heard-in j low).1.number;
        few = λ j low. (mark-sizes (eqb (mark_in t j) 1) (heard-in j low).0 (n_in t j) (m_in t j) (heard-in j low).1.mark).1;
        part = λ j i low below. message-fits t g j (m_in t j) i ((heard-in j low).1.message i below);
        past = λ j i low below. message-none t g j (m_in t j) i ((heard-in j low).1.message i below);
        message = λ j i low below. message-zeros t g j (m_in t j) i ((heard-in j low).1.message i below);
      }

  note-there : (p : ℕ) → p < kept_numbers → cell_noted (cell_at (cells_of l.base l.table l.octets) p) (number_at l.base p) ≡ true
  unfolding note_test
  note-there p below =
      let i = slot_at l.base p in
      note-told l.base l.table l.octets p (number_at l.base p) below
      ∙ ap (λ (q : ℕ). note_right (state_numbered (state_in l.table i)) (note_in l.table i) (number_at l.base q))
      (sym (place-slot l.base p below))
      ∙ all_below-at slots_kept (note_test l.base l.table) noted i (slot_small l.base p)

  held-there : (d : ℕ) → d < kept_ahead
      → held_right (held_at (held_of l.base l.table l.messages) d) (known_at (view_in l) (kept_before + d)) ≡ true
  held-there d below =
      let j = heard_slot_at l.base d in
      ap₂ (λ (h : Held) (b : Bool). held_right h b) (held-at l.base l.table l.messages d below) (known-told l d below)
      ∙ held-of-mark laid-there j (heard-small l.base d) _ (heard-at d below).mark

  sound-there : Sound (view_in l)
  unfolding view_in
  sound-there =
      record {
        small = base-small (view_in l) summed;
        total = summed;
        kept = length-cells l.base l.table l.octets;
        ahead = length-held l.base l.table l.messages;
        cell = λ p below. cell-told laid-there l.base p below (blank_at (total l) p) ∙ (kept_at p below).size;
        note = note-there;
        held = held-there;
      }

  ranges-there : lent_in_ranges l ≡ true
  ranges-there = in-ranges-true (record { laid = laid-there; sound = sound-there })

-- and from the ranges to the tests
module _ {l : Lent} (w : InRanges l) where
  size-there : (i : ℕ) → i < slots_kept
      → size_right (state_numbered (state_in l.table i)) (size_in l.table i) (blank_at (total l) (place_of_slot l.base i)) ≡ true
  unfolding cell_in
  size-there i small =
      let p = place_of_slot l.base i in
      rw (slot-place l.base i small) at
      (ap (λ (n : ℕ). size_right (state_numbered (state_in l.table (slot_at l.base p))) n (blank_at (total l) p))
      (sym (octets-long w.laid (slot_at l.base p) (slot_small l.base p)))
      ∙ cell-right w p (place-small l.base i))

  tests-kept : kept_all l ≡ true
  unfolding all_kept state_test packet_test state_right
  tests-kept =
      and_both
      (all_below-of slots_kept _
      (λ i small. and_both (le-leb (state_in l.table i) last_state (w.laid.state i small)) (size-there i small)))
      (all_below-of slots_kept _ w.laid.packet)

  noted-view : (p : ℕ) → p < kept_numbers
      → cell_noted (cell_at (cells_of l.base l.table l.octets) p) (number_at l.base p) ≡ true
  unfolding view_in
  noted-view = w.sound.note

  tests-noted : noted_all l ≡ true
  unfolding note_test
  tests-noted =
      all_below-of slots_kept _
      (λ i small.
      let p = place_of_slot l.base i in
      let below = place-small l.base i in
      ap (λ (j : ℕ). note_right (state_numbered (state_in l.table j)) (note_in l.table j) (number_at l.base p))
      (sym (slot-place l.base i small))
      ∙ sym (note-told l.base l.table l.octets p (number_at l.base p) below)
      ∙ noted-view p below)

  tests-heard : heard_all l ≡ true
  unfolding heard_test
  tests-heard =
      all_below-of kept_ahead _
      (λ d below.
      let j = heard_slot_at l.base d in
      let small = heard-small l.base d in
      seen-heard
      (record {
        number = le-leb (mark_in l.table j) 1 (w.laid.mark j small);
        mark =
            mark-of-held w.laid j _
            (ap (λ (b : Bool). held_right (held_in l.table l.messages j) b) (sym (known-told l d below)) ∙ held-right w d below);
        message = λ i low. laid-message w.laid j i small low;
      }))

-- the whole
sum_told : (l : Lent) → sum_right (view_in l) ≡ (eqb l.base (total l % numbers) && leb (total l) session_limit)
unfolding view_in sum_right
sum_told l = refl

all_told : (l : Lent) → length l.table ≡ places → length l.octets ≡ kept_octets → length l.messages ≡ message_octets
    → (((sum_right (view_in l) && kept_all l) && noted_all l) && heard_all l) ≡ lent_in_ranges l
all_told l long octets messages =
    both_ways (((sum_right (view_in l) && kept_all l) && noted_all l) && heard_all l) (lent_in_ranges l)
    (λ e.
    let three = and_left ((sum_right (view_in l) && kept_all l) && noted_all l) (heard_all l) e in
    let first = and_left (sum_right (view_in l) && kept_all l) (noted_all l) three in
    ranges-there l long octets messages (and_left (sum_right (view_in l)) (kept_all l) first)
    (and_right (sum_right (view_in l)) (kept_all l) first)
    (and_right (sum_right (view_in l) && kept_all l) (noted_all l) three)
    (and_right ((sum_right (view_in l) && kept_all l) && noted_all l) (heard_all l) e))
    (λ e.
    let w = in-ranges-of l e long octets messages in
    and_both (and_both (and_both w.sound.total (tests-kept w)) (tests-noted w)) (tests-heard w))

pub whole-right : (base : ℕ) (counts : Counts) (t o g : List ℕ) {whole : ℕ} {summed kept noted heard : Bool} → length t ≡ places
    → length o ≡ kept_octets → length g ≡ message_octets → whole ≡ sum (counts_of counts)
    → summed ≡ (eqb base (whole % numbers) && leb whole session_limit) → kept ≡ all_kept base whole t o
    → noted ≡ all_below slots_kept (note_test base t) → heard ≡ all_below kept_ahead (heard_test base t g)
    → (((summed && kept) && noted) && heard) ≡ lent_in_ranges (lent base counts t o g)
whole-right base counts t o g long octets messages whole_is summed-is kept-is noted-is heard-is =
    rw (summed-is, kept-is, noted-is, heard-is, whole_is, ← sum_told (lent base counts t o g))
    (all_told (lent base counts t o g) long octets messages)
