-- Within the ranges the view of a session loses nothing: two sessions that have the same view are the same, number by number and octet by
-- octet. A slot is the slot of some place; the length of what is there gives its size, and past it there are zeros. Assumes nothing.
use Prim.Native.Nat.{ℕ, ◌+◌, ◌-◌, ◌*◌, ◌/◌, ◌%◌, ◌≤◌, ◌<◌}
use mathlib.Core.Path.{◌≡◌, sym, ap, ap₂, ◌∙◌}
use mathlib.Core.List.{List, []}
use mathlib.Core.Logic.{⊎_elim}
use lib.ListN.{length, get_or}
use lib.Seq.{ext_get_or}
use native.Mathlib.Omega.{arith}
use Rattle.octets.proofs.Laws.{below_or_not}
use Rattle.datagram.specs.Sizes.{packet_limit, messages_limit}
use Rattle.session.specs.Cells.{Cell, cell_at, kept_ahead, kept_numbers}
use Rattle.session.specs.Held.{Held, held_at}
use Rattle.session.specs.View as views
use Rattle.session.specs.View.{View}
use Rattle.session_held.specs.Slots.{slots_kept, slots_heard, slots_messages, kept_octets, message_octets, slot_at, heard_slot_at}
use Rattle.session_held.specs.Slots.{message_slot}
use Rattle.session_held.specs.Table.{Lent, lent_by, counts_of, places, size_place, note_place, mark_place, n_place, m_place, message_place}
use Rattle.session_held.specs.Table.{state_in}
use Rattle.session_held.specs.Table.{size_in, note_in, mark_in, n_in, m_in, message_size_in, cell_in, held_in, cells_of, held_of, view_in, view_of}
use Rattle.session_held.specs.Laid.{InRanges}
use Rattle.session_held.specs.Promise.{Fresh}
use Rattle.session_held.specs.declared.Counts.{Counts}
use Rattle.session_held.specs.declared.Session.{Session}
use Rattle.session_held.proofs.Messages.{message-length, message-octet}
use Rattle.session_held.proofs.Ranges.{session-in-ranges}
use Rattle.session_held.proofs.Seen.{cell-at, held-at, octets-long, octet-at}
use Rattle.session_held.proofs.Slots.{slot_of, heard-slot-of}
use Rattle.session_held.proofs.SameSlot.{state-in-same, note-in-same, mark-in-same, n-in-same, m-in-same}

counts-of-same : (c d : Counts) → counts_of c ≡ counts_of d → c ≡ d
counts-of-same c d e =
    ap (λ (v : views.Counts). record { received = v.received; spare = v.spare; repaired = v.repaired; lost = v.lost }) e

-- ---- two sessions with one view
module _ {l k : Lent} (w : InRanges l) (v : InRanges k) (same : view_in l ≡ view_in k) where
  base_same : l.base ≡ k.base
  unfolding view_in
  base_same = ap (λ (x : View). x.base) same

  counts_same : l.counts ≡ k.counts
  unfolding view_in
  counts_same = counts-of-same l.counts k.counts (ap (λ (x : View). x.counts) same)

  cells_same : cells_of l.base l.table l.octets ≡ cells_of k.base k.table k.octets
  unfolding view_in
  cells_same = ap (λ (x : View). x.cells) same

  held_same : held_of l.base l.table l.messages ≡ held_of k.base k.table k.messages
  unfolding view_in
  held_same = ap (λ (x : View). x.held) same

  cell_same : (i : ℕ) → i < slots_kept → cell_in l.table l.octets i ≡ cell_in k.table k.octets i
  cell_same i small = at (slot_of l.base i small) where
    at : (p : ℕ) × (p < kept_numbers) × (slot_at l.base p ≡ i) → cell_in l.table l.octets i ≡ cell_in k.table k.octets i
    at x =
        rw (← x.2)
        (sym (cell-at l.base l.table l.octets x.0 x.1)
        ∙ ap (λ (c : List Cell). cell_at c x.0) cells_same
        ∙ cell-at k.base k.table k.octets x.0 x.1
        ∙ ap (λ (b : ℕ). cell_in k.table k.octets (slot_at b x.0)) (sym base_same))

  held-in-same : (j : ℕ) → j < slots_heard → held_in l.table l.messages j ≡ held_in k.table k.messages j
  held-in-same j small = at (heard-slot-of l.base j small) where
    at : (d : ℕ) × (d < kept_ahead) × (heard_slot_at l.base d ≡ j)
        → held_in l.table l.messages j ≡ held_in k.table k.messages j
    at x =
        rw (← x.2)
        (sym (held-at l.base l.table l.messages x.0 x.1)
        ∙ ap (λ (c : List Held). held_at c x.0) held_same
        ∙ held-at k.base k.table k.messages x.0 x.1
        ∙ ap (λ (b : ℕ). held_in k.table k.messages (heard_slot_at b x.0)) (sym base_same))

  -- ---- the table, run by run
  state-same : (i : ℕ) → i < slots_kept → state_in l.table i ≡ state_in k.table i
  state-same i small =
      state-in-same l.table k.table l.octets k.octets i (w.laid.state i small) (v.laid.state i small) (cell_same i small)

  size_same : (i : ℕ) → i < slots_kept → size_in l.table i ≡ size_in k.table i
  size_same i small =
      sym (octets-long w.laid i small)
      ∙ ap (λ (c : Cell). length c.octets) (cell_same i small)
      ∙ octets-long v.laid i small

  note-same : (i : ℕ) → i < slots_kept → note_in l.table i ≡ note_in k.table i
  note-same i small = note-in-same l.table k.table l.octets k.octets i (cell_same i small)

  message-size-same : (j i : ℕ) → j < slots_heard → i < messages_limit
      → message_size_in l.table (message_slot j i) ≡ message_size_in k.table (message_slot j i)
  message-size-same j i small low =
      sym (message-length w.laid j i small low)
      ∙ ap (λ (h : Held). length (get_or h.messages i [])) (held-in-same j small)
      ∙ message-length v.laid j i small low

  heard-place-same : (j : ℕ) → j < slots_heard → (mark_in l.table j ≡ mark_in k.table j) × (n_in l.table j ≡ n_in k.table j)
      × (m_in l.table j ≡ m_in k.table j)
  heard-place-same j small =
      let e = held-in-same j small in (
        mark-in-same l.table k.table l.messages k.messages j e (w.laid.mark j small) (v.laid.mark j small),
        n-in-same l.table k.table l.messages k.messages j e,
        m-in-same l.table k.table l.messages k.messages j e,
      )

  -- places from the marks on, then all
  heard-run-same : (x : ℕ) → mark_place 0 ≤ x → x < places → get_or l.table x 0 ≡ get_or k.table x 0
  heard-run-same x past small =
      ⊎_elim (λ (low : x < n_place 0).
      let e : mark_place (x - mark_place 0) ≡ x = omega arith in
      rw e at (heard-place-same (x - mark_place 0) (omega arith)).0)
      (λ more.
      ⊎_elim (λ (low : x < m_place 0).
      let e : n_place (x - n_place 0) ≡ x = omega arith in
      rw e at (heard-place-same (x - n_place 0) (omega arith)).1)
      (λ further.
      ⊎_elim (λ (low : x < message_place 0).
      let e : m_place (x - m_place 0) ≡ x = omega arith in
      rw e at (heard-place-same (x - m_place 0) (omega arith)).2)
      (λ last.
      let y = x - message_place 0 in
      let e : message_place (message_slot ((x - message_place 0) / messages_limit) ((x - message_place 0) % messages_limit)) ≡ x = omega arith in
      rw e at (message-size-same (y / messages_limit) (y % messages_limit) (omega arith) (omega arith)))
      (below_or_not x (message_place 0)))
      (below_or_not x (m_place 0)))
      (below_or_not x (n_place 0))

  table_same : l.table ≡ k.table
  table_same =
      ext_get_or 0 l.table k.table (w.laid.long ∙ sym v.laid.long)
      (λ x inside.
      let small : x < places = rw w.laid.long at inside in
      ⊎_elim (λ (low : x < size_place 0). state-same x (omega arith))
      (λ past.
      ⊎_elim (λ (low : x < note_place 0).
      let e : size_place (x - size_place 0) ≡ x = omega arith in
      rw e at (size_same (x - size_place 0) (omega arith)))
      (λ more.
      ⊎_elim (λ (low : x < mark_place 0).
      let e : note_place (x - note_place 0) ≡ x = omega arith in
      rw e at (note-same (x - note_place 0) (omega arith)))
      (λ far. heard-run-same x far small)
      (below_or_not x (mark_place 0)))
      (below_or_not x (note_place 0)))
      (below_or_not x (size_place 0)))

  -- ---- the stores
  octets-same : l.octets ≡ k.octets
  octets-same =
      ext_get_or 0 l.octets k.octets (w.laid.octets ∙ sym v.laid.octets)
      (λ x inside.
      let small : x < kept_octets = rw w.laid.octets at inside in
      let slot : x / packet_limit < slots_kept = omega arith in
      let few : x % packet_limit < packet_limit = omega arith in
      let place : x ≡ x / packet_limit * packet_limit + x % packet_limit = omega arith in
      ap (λ (y : ℕ). get_or l.octets y 0) place
      ∙ sym (octet-at w.laid (x / packet_limit) slot (x % packet_limit) few)
      ∙ ap (λ (c : Cell). get_or c.octets (x % packet_limit) 0) (cell_same (x / packet_limit) slot)
      ∙ octet-at v.laid (x / packet_limit) slot (x % packet_limit) few
      ∙ ap (λ (y : ℕ). get_or k.octets y 0) (sym place))

  message-octet-same : (j i x : ℕ) → j < slots_heard → i < messages_limit → x < packet_limit
      → get_or l.messages (message_slot j i * packet_limit + x) 0 ≡ get_or k.messages (message_slot j i * packet_limit + x) 0
  message-octet-same j i x small low few =
      sym (message-octet w.laid j i x small low few)
      ∙ ap (λ (h : Held). get_or (get_or h.messages i []) x 0) (held-in-same j small)
      ∙ message-octet v.laid j i x small low few

  messages-same : l.messages ≡ k.messages
  messages-same =
      ext_get_or 0 l.messages k.messages (w.laid.messages ∙ sym v.laid.messages)
      (λ x inside.
      let small : x < message_octets = rw w.laid.messages at inside in
      let j = x / packet_limit / messages_limit in
      let i = x / packet_limit % messages_limit in
      let low : x / packet_limit < slots_messages = omega arith in
      let few : x % packet_limit < packet_limit = omega arith in
      let place : x ≡ message_slot j i * packet_limit + x % packet_limit = omega arith in
      ap (λ (y : ℕ). get_or l.messages y 0) place
      ∙ message-octet-same j i (x % packet_limit) (omega arith) (omega arith) few
      ∙ ap (λ (y : ℕ). get_or k.messages y 0) (sym place))

  -- what is lent is the same
  pub lent_same : l ≡ k
  lent_same =
      ap₂ (λ (b : ℕ) (c : Counts). record { base = b; counts = c; table = l.table; octets = l.octets; messages = l.messages })
      base_same counts_same
      ∙ ap (λ (t : List ℕ). record { base = k.base; counts = k.counts; table = t; octets = l.octets; messages = l.messages }) table_same
      ∙ ap₂ (λ (o g : List ℕ). record { base = k.base; counts = k.counts; table = k.table; octets = o; messages = g })
      octets-same messages-same

-- two sessions within their ranges that have the same view are the same
pub session-same : (s r : Session) → InRanges (lent_by s) → InRanges (lent_by r) → view_of s ≡ view_of r → s ≡ r
session-same s r w v same =
    ap (λ (x : Lent).
    record { base = x.base; counts = x.counts; table = x.table; octets = x.octets; messages = x.messages })
    (lent_same w v same)

-- a fresh session is one session
pub fresh-same : (r q : Session) → Fresh r → Fresh q → r ≡ q
fresh-same r q f e =
    session-same r q (session-in-ranges r f.ranges f.sized) (session-in-ranges q e.ranges e.sized)
    (f.view ∙ sym e.view)
