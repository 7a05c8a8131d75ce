-- The base goes on by one: slot by slot, all but two slots of kept numbers and marks are as they were; then place by place, the
-- view is the one before, one place further, and its ranges are kept. Assumes nothing.
use Rattle.std.proofs.Common.{◌≡◌, ℕ, suc, ◌+◌, ◌%◌, ◌<◌, ◌≤◌, List, [], ◌∷◌, ◌++◌, drop, refl, ap, ◌∙◌, ap₂, arith}
use Rattle.octets.specs.Place.{tab}
use Rattle.octets.proofs.Laws.{tab-ext, tab-shift}
use Rattle.datagram.specs.Sizes.{packet_limit, messages_limit}
use Rattle.session.specs.Cells.{Cell, unknown_cell, kept_before, kept_ahead, kept_numbers}
use Rattle.session.specs.Held.{Held, nothing_held}
use Rattle.session_slots.specs.Store.{HasSlot, part, pasted, zeros}
use Rattle.session_slots.proofs.Laws.{zeros-fit, part-pasted-other}
use Rattle.session.specs.View as views
use Rattle.session.specs.View.{View, sum, following, numbers, gone_on}
use Rattle.session.specs.Release.{counted}
use Rattle.session.proofs.Laws.{last_place, last_ahead, sound-goes-on, sum-counted}
use Rattle.session_held.specs.Slots.{slot_at, heard_slot_at, message_slot, Apart, slots_kept, slots_heard}
use Rattle.session_held.specs.Table.{lent, counts_of, state_of, state_numbered, state_in, size_in, m_in, message_size_in, message_in, cell_in, held_in}
use Rattle.session_held.specs.Table.{cells_of, held_of, view_in, kept_set, heard_dropped}
use Rattle.session_held.specs.Laid.{InRanges}
use Rattle.session_held.specs.declared.Counts.{Counts}
use Rattle.session_held.specs.declared.ReleaseKind.{ReleaseKind}
use Rattle.session_held.proofs.Laws.{slot-after, slot-comes, heard-after, heard-leaves, slot_small, heard-small, message-small, slot_apart}
use Rattle.session_held.proofs.Laws.{heard-apart, message-apart, has-packet-slot, has-message-slot}
use Rattle.session_release.specs.Steps.{Freed}
use Rattle.session_release.specs.Promise.{MayMoveOn, MovesOn}
use Rattle.session_release.proofs.Advanced.{advanced, state-other, size-other, state-comes, size-comes, mark-other, n-other, m-other}
use Rattle.session_release.proofs.Advanced.{note-other, note-comes, mark-gone, n-gone, m-gone, sizes-other}
use Rattle.session_release.proofs.Laying.{laid-goes-on}
use Rattle.session_release.proofs.Base.{base-kind, base-state}

abbrev seen : ℕ → views.Counts → List Cell → List Held → View
seen base counts cells held = record { base = base; counts = counts; cells = cells; held = held }

-- ---- slot by slot
module _ {b : ℕ} {before : Counts} {t o g new_o new_g : List ℕ} (counts : Counts) (w : InRanges (lent b before t o g))
    (cleared : new_o ≡ pasted o (slot_at b 0) (zeros packet_limit)) (freed : Freed (heard_slot_at b 0) (m_in t (heard_slot_at b 0)) g new_g) where
  small : b < numbers
  unfolding view_in
  small = w.sound.small

  there : (i : ℕ) → i < slots_kept → HasSlot i o
  there i small = has-packet-slot o i w.laid.octets small

  comes-there : HasSlot (slot_at b 0) o
  comes-there = there (slot_at b 0) (slot_small b 0)

  -- kept numbers
  cell_other : (i : ℕ) → i < slots_kept → (i ≡ slot_at b 0 → ⊥) → cell_in (advanced b t) new_o i ≡ cell_in t o i
  unfolding cell_in
  cell_other i small other =
      rw (
        state-other b t i small other,
        size-other b t i small other,
        note-other b t i small other,
        cleared,
        part-pasted-other o (slot_at b 0) (zeros packet_limit) comes-there zeros-fit i (size_in t i) (there i small)
            (w.laid.size i small) other,
      )

  cell-comes : cell_in (advanced b t) new_o (slot_at b 0) ≡ unknown_cell
  unfolding cell_in part state_numbered
  cell-comes = rw (state-comes b t, size-comes b t, note-comes b t)

  -- marks and messages: a message of another slot is none of those that were cleared
  few : m_in t (heard_slot_at b 0) ≤ messages_limit
  few = w.laid.few (heard_slot_at b 0) (heard-small b 0)

  apart : (j i : ℕ) → i < messages_limit → (j ≡ heard_slot_at b 0 → ⊥) → Apart (heard_slot_at b 0) (m_in t (heard_slot_at b 0)) (message_slot j i)
  apart j i below other e low same = other (message-apart j i (heard_slot_at b 0) e below (omega (arith, few)) same).0

  message-other : (j i : ℕ) → j < slots_heard → i < messages_limit → (j ≡ heard_slot_at b 0 → ⊥)
      → message_in (advanced b t) new_g j i ≡ message_in t g j i
  unfolding message_in
  message-other j i small below other =
      ap (λ (n : ℕ). part new_g (message_slot j i) n) (sizes-other b t j small other i below)
      ∙ freed.parts (message_slot j i) (message_size_in t (message_slot j i))
      (has-message-slot g (message_slot j i) w.laid.messages (message-small j i small below)) (w.laid.part j i small below)
      (apart j i below other)

  held-other : (j : ℕ) → j < slots_heard → (j ≡ heard_slot_at b 0 → ⊥) → held_in (advanced b t) new_g j ≡ held_in t g j
  unfolding held_in
  held-other j small other =
      rw (
        mark-other b t j small other,
        n-other b t j small other,
        m-other b t j small other,
        tab-ext (m_in t j) (message_in (advanced b t) new_g j) (message_in t g j)
            (λ i below. message-other j i small (omega (arith, w.laid.few j small)) other),
      )

  held-gone : held_in (advanced b t) new_g (heard_slot_at b 0) ≡ nothing_held
  unfolding held_in tab
  held-gone = rw (mark-gone b t, n-gone b t, m-gone b t)

  -- ---- place by place
  slot-stays : (p : ℕ) → suc p < kept_numbers → slot_at b (suc p) ≡ slot_at b 0 → ⊥
  slot-stays p low same = let z = slot_apart b (suc p) 0 low (omega arith) same in omega arith

  heard-stays : (d : ℕ) → suc d < kept_ahead → heard_slot_at b (suc d) ≡ heard_slot_at b 0 → ⊥
  heard-stays d low same = let z = heard-apart b (suc d) 0 low (omega arith) same in omega arith

  cells-after : cells_of (following b) (advanced b t) new_o ≡ drop 1 (cells_of b t o) ++ (unknown_cell ∷ [])
  unfolding cells_of
  cells-after =
      tab-shift last_place _ (λ p. cell_in t o (slot_at b p)) unknown_cell
      (λ p low.
      let inside : suc p < kept_numbers = omega arith in
      ap (λ (i : ℕ). cell_in (advanced b t) new_o i) (slot-after b p small)
      ∙ cell_other (slot_at b (suc p)) (slot_small b (suc p)) (slot-stays p inside))
      (ap (λ (i : ℕ). cell_in (advanced b t) new_o i) (slot-comes b small) ∙ cell-comes)

  held_after : held_of (following b) (advanced b t) new_g ≡ drop 1 (held_of b t g) ++ (nothing_held ∷ [])
  unfolding held_of
  held_after =
      tab-shift last_ahead _ (λ d. held_in t g (heard_slot_at b d)) nothing_held
      (λ d low.
      let inside : suc d < kept_ahead = omega arith in
      ap (λ (j : ℕ). held_in (advanced b t) new_g j) (heard-after b d small)
      ∙ held-other (heard_slot_at b (suc d)) (heard-small b (suc d)) (heard-stays d inside))
      (ap (λ (j : ℕ). held_in (advanced b t) new_g j) (heard-leaves b small) ∙ held-gone)

  view-after : view_in (lent (following b) counts (advanced b t) new_o new_g) ≡ gone_on (counts_of counts) (view_in (lent b before t o g))
  unfolding view_in gone_on
  view-after = ap₂ (seen (following b) (counts_of counts)) cells-after held_after

  moved : {kind : ReleaseKind} → MayMoveOn kind (lent b before t o g) → counts_of counts ≡ counted (state_of kind) (counts_of before)
      → MovesOn (lent b before t o g) (lent (following b) counts (advanced b t) new_o new_g)
  unfolding view_in
  moved {kind} may e =
      let one : sum (counts_of counts) ≡ sum (counts_of before) + 1 =
      ap (λ (c : views.Counts). sum c) (rw (may.same ∙ base-kind w refl) at e)
      ∙ sum-counted (state_numbered (state_in t (b % slots_kept))) (size_in t (b % slots_kept)) (counts_of before) (base-state w refl)
      in
      record {
        state = view-after ∙ rw (e, may.same);
        within =
            record {
              laid = laid-goes-on b w.laid cleared freed;
              sound = rw view-after (sound-goes-on (counts_of counts) w.sound one (omega (arith, may.left)));
            };
        kept = λ n fits.
            rw cleared
            (part-pasted-other o (slot_at b 0) (zeros packet_limit) comes-there zeros-fit (b % slots_kept) n
            (there (b % slots_kept) (omega arith)) fits (λ same. omega arith));
      }

-- ---- in the words of the code
-- the messages of the number that leaves are few enough
pub few-leave : {base leaves m : ℕ} {before : Counts} {t o g : List ℕ} → InRanges (lent base before t o g) → leaves ≡ base % slots_heard
    → m ≡ m_in t leaves → m ≤ messages_limit
few-leave {base} {leaves} {m} {before} {t} {o} {g} w at_base read =
    let e : leaves ≡ heard_slot_at base 0 = omega arith in
    rw (read, e) (w.laid.few (heard_slot_at base 0) (heard-small base 0))

pub base-moved : {base b leaves m after : ℕ} {before counts : Counts} {kind : ReleaseKind} {t o g t1 t2 new_o new_g : List ℕ}
    → InRanges (lent base before t o g)
    → MayMoveOn kind (lent base before t o g) → counts_of counts ≡ counted (state_of kind) (counts_of before) → b ≡ base
    → leaves ≡ base % slots_heard → m ≡ m_in t leaves
    → new_o ≡ pasted o ((b + kept_before) % slots_kept) (zeros packet_limit) → Freed leaves m g new_g
    → t1 ≡ kept_set t ((b + kept_before) % slots_kept) 0 0 0 → t2 ≡ heard_dropped t1 leaves → after ≡ following base
    → MovesOn (lent base before t o g) (lent after counts t2 new_o new_g)
base-moved {base} {b} {leaves} {counts = counts} w may one wide at_base read cleared freed written gone next =
    let comes : (b + kept_before) % slots_kept ≡ slot_at base 0 = omega (arith, wide) in
    let place : leaves ≡ heard_slot_at base 0 = omega arith in
    rw (next, gone, written, comes, place) (moved counts w (rw comes at cleared) (rw (read, place) at freed) may one)
