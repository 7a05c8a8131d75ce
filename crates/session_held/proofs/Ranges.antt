-- The ranges of a session's memory as one test and as a record, each from the other: refusal 17's check decides the test, and the calls
-- inside the session require the record. The layout goes slot by slot, and the view's part is a law of `session`. Assumes nothing.
use Prim.Native.Nat.{ℕ, ◌≤◌, ◌<◌}
use mathlib.Core.Path.{◌≡◌}
use mathlib.Core.Bool.{Bool, true, false, cond, ◌&&◌}
use mathlib.Core.List.{List}
use mathlib.Core.Logic.{⊎_elim}
use lib.ListN.{length}
use lib.Dec.{leb, ltb}
use native.Mathlib.Omega.{arith}
use borrow.Author.Tests.{lt-ltb, le-ltb, le-leb, leb-true}
use Rattle.octets.specs.Place.{all_below}
use Rattle.octets.proofs.Laws.{below_or_not, and_left, and_right, and_both, all_below-at, all_below-of}
use Rattle.datagram.specs.Sizes.{packet_limit, message_limit, messages_limit}
use Rattle.session.specs.Cells.{kept_ahead, kept_numbers}
use Rattle.session_slots.specs.Store.{zeros_past}
use Rattle.session.specs.Ranges.{in_ranges}
use Rattle.session.proofs.Laws.{sound-of, in_ranges-of}
use Rattle.session_held.specs.Slots.{slots_kept, slots_heard, message_slot, kept_octets, message_octets}
use Rattle.session_held.specs.Table.{Lent, lent_by, view_in, places, last_state, state_in, size_in, mark_in, m_in, message_size_in}
use Rattle.session_held.specs.Laid.{kept_laid, message_laid, heard_laid, laid, lent_in_ranges, session_in_ranges, Laid, InRanges}
use Rattle.session_held.specs.Promise.{Sized}
use Rattle.session_held.specs.declared.Session.{Session}
use Rattle.session_held.proofs.Seen.{length-cells, length-held}

-- ---- a slot of kept numbers
module _ (t o : List ℕ) (i : ℕ) (e : kept_laid t o i ≡ true) where
  kept-tests : (leb (state_in t i) last_state && leb (size_in t i) packet_limit) ≡ true
  unfolding kept_laid
  kept-tests = and_left (leb (state_in t i) last_state && leb (size_in t i) packet_limit) (zeros_past o i (size_in t i)) e

  kept-zeros : zeros_past o i (size_in t i) ≡ true
  unfolding kept_laid
  kept-zeros = and_right (leb (state_in t i) last_state && leb (size_in t i) packet_limit) (zeros_past o i (size_in t i)) e

  kept-state : state_in t i ≤ last_state
  kept-state = leb-true (state_in t i) last_state (and_left (leb (state_in t i) last_state) (leb (size_in t i) packet_limit) kept-tests)

  kept-size : size_in t i ≤ packet_limit
  kept-size = leb-true (size_in t i) packet_limit (and_right (leb (state_in t i) last_state) (leb (size_in t i) packet_limit) kept-tests)

-- ---- a message in its slot
most-limit : (b : Bool) (size : ℕ) → leb size (cond b message_limit 0) ≡ true → size ≤ packet_limit
most-limit true size e = leb-true size message_limit e
most-limit false size e = omega (arith, leb-true size 0 e)

module _ (t g : List ℕ) (j m i : ℕ) (e : message_laid t g j m i ≡ true) where
  message-most : leb (message_size_in t (message_slot j i)) (cond (ltb i m) message_limit 0) ≡ true
  unfolding message_laid
  message-most = and_left (leb (message_size_in t (message_slot j i)) (cond (ltb i m) message_limit 0)) _ e

  pub message-fits : message_size_in t (message_slot j i) ≤ packet_limit
  message-fits = most-limit (ltb i m) (message_size_in t (message_slot j i)) message-most

  -- message places past m have length 0 (rule 13.9)
  pub message-none : m ≤ i → message_size_in t (message_slot j i) ≡ 0
  message-none past =
      let none = rw (le-ltb i m past) at (leb-true (message_size_in t (message_slot j i)) (cond (ltb i m) message_limit 0) message-most) in
      omega arith

  pub message-zeros : zeros_past g (message_slot j i) (message_size_in t (message_slot j i)) ≡ true
  unfolding message_laid
  message-zeros = and_right (leb (message_size_in t (message_slot j i)) (cond (ltb i m) message_limit 0)) _ e

-- ---- a slot of numbers from the base on
module _ (t g : List ℕ) (j : ℕ) (e : heard_laid t g j ≡ true) where
  heard-tests : (leb (mark_in t j) 1 && leb (m_in t j) messages_limit) ≡ true
  unfolding heard_laid
  heard-tests = and_left (leb (mark_in t j) 1 && leb (m_in t j) messages_limit) _ e

  heard-mark : mark_in t j ≤ 1
  heard-mark = leb-true (mark_in t j) 1 (and_left (leb (mark_in t j) 1) (leb (m_in t j) messages_limit) heard-tests)

  heard-few : m_in t j ≤ messages_limit
  heard-few = leb-true (m_in t j) messages_limit (and_right (leb (mark_in t j) 1) (leb (m_in t j) messages_limit) heard-tests)

  heard-message : (i : ℕ) → i < messages_limit → message_laid t g j (m_in t j) i ≡ true
  unfolding heard_laid
  heard-message =
      all_below-at messages_limit (message_laid t g j (m_in t j)) (and_right (leb (mark_in t j) 1 && leb (m_in t j) messages_limit) _ e)

-- ---- the layout: what passes the test, with the lengths that the arrays have, is laid so
pub laid_of : (l : Lent) → laid l ≡ true → length l.table ≡ places → length l.octets ≡ kept_octets
    → length l.messages ≡ message_octets → Laid l.table l.octets l.messages
unfolding laid
laid_of l e long octets messages =
    let t = l.table in
    let o = l.octets in
    let g = l.messages in
    let kept = all_below-at slots_kept (kept_laid t o)
    (and_left (all_below slots_kept (kept_laid t o)) (all_below slots_heard (heard_laid t g)) e) in
    let heard = all_below-at slots_heard (heard_laid t g)
    (and_right (all_below slots_kept (kept_laid t o)) (all_below slots_heard (heard_laid t g)) e) in
    record {
      long = long;
      octets = octets;
      messages = messages;
      state = λ i low. kept-state t o i (kept i low);
      size = λ i low. kept-size t o i (kept i low);
      packet = λ i low. kept-zeros t o i (kept i low);
      mark = λ j low. heard-mark t g j (heard j low);
      few = λ j low. heard-few t g j (heard j low);
      part = λ j i low below. message-fits t g j (m_in t j) i (heard-message t g j (heard j low) i below);
      past = λ j i low below. message-none t g j (m_in t j) i (heard-message t g j (heard j low) i below);
      message = λ j i low below. message-zeros t g j (m_in t j) i (heard-message t g j (heard j low) i below);
    }

-- ---- and what is laid so passes the test
module _ {t o g : List ℕ} (w : Laid t o g) where
  laid_kept : (i : ℕ) → i < slots_kept → kept_laid t o i ≡ true
  unfolding kept_laid
  laid_kept i low =
      and_both
      (and_both (le-leb (state_in t i) last_state (w.state i low)) (le-leb (size_in t i) packet_limit (w.size i low)))
      (w.packet i low)

  pub laid-message : (j i : ℕ) → j < slots_heard → i < messages_limit → message_laid t g j (m_in t j) i ≡ true
  unfolding message_laid
  laid-message j i low below =
      let size = message_size_in t (message_slot j i) in
      let m = m_in t j in
      let most : leb size (cond (ltb i m) message_limit 0) ≡ true =
      ⊎_elim (λ inside. rw (lt-ltb i m inside) (le-leb size message_limit (w.part j i low below)))
      (λ past. rw (le-ltb i m past) (le-leb size 0 (omega (arith, w.past j i low below past))))
      (below_or_not i m)
      in
      and_both most (w.message j i low below)

  laid-heard : (j : ℕ) → j < slots_heard → heard_laid t g j ≡ true
  unfolding heard_laid
  laid-heard j low =
      and_both
      (and_both (le-leb (mark_in t j) 1 (w.mark j low)) (le-leb (m_in t j) messages_limit (w.few j low)))
      (all_below-of messages_limit (message_laid t g j (m_in t j)) (λ i below. laid-message j i low below))

pub laid-true : (l : Lent) → Laid l.table l.octets l.messages → laid l ≡ true
unfolding laid
laid-true l w = and_both (all_below-of slots_kept _ (laid_kept w)) (all_below-of slots_heard _ (laid-heard w))

-- ---- both together
cells-long : (l : Lent) → length (view_in l).cells ≡ kept_numbers
unfolding view_in
cells-long l = length-cells l.base l.table l.octets

held-long : (l : Lent) → length (view_in l).held ≡ kept_ahead
unfolding view_in
held-long l = length-held l.base l.table l.messages

pub in-ranges-of : (l : Lent) → lent_in_ranges l ≡ true → length l.table ≡ places → length l.octets ≡ kept_octets
    → length l.messages ≡ message_octets → InRanges l
unfolding lent_in_ranges
in-ranges-of l e long octets messages =
    record {
      laid = laid_of l (and_left (laid l) (in_ranges (view_in l)) e) long octets messages;
      sound = sound-of (view_in l) (and_right (laid l) (in_ranges (view_in l)) e) (cells-long l) (held-long l);
    }

pub in-ranges-true : {l : Lent} → InRanges l → lent_in_ranges l ≡ true
unfolding lent_in_ranges
in-ranges-true {l} w = and_both (laid-true l w.laid) (in_ranges-of w.sound)

-- the same of a session: true from the check gives what the calls inside it require
pub session-in-ranges : (s : Session) → session_in_ranges s ≡ true → Sized s → InRanges (lent_by s)
session-in-ranges s e sized = in-ranges-of (lent_by s) e sized.table sized.octets sized.messages
