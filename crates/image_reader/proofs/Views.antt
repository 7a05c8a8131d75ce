-- A session that is filled place by place: a cleared one is so with no numbers, and what a filled one shows is its numbers, stored
-- as `session_held` lays them out. Assumes nothing.
use Rattle.std.proofs.Common.{◌≡◌, ℕ, ◌+◌, ◌<◌, ◌≤◌, Bool, true, false, eqb, List, [], ◌++◌, map, length, get_or, sym, refl, ap, ◌∙◌, ap₂, arith, length-append, take_all, get_or-append-add}
use lib.ListN.{get_or-eq_default}
use Rattle.octets.specs.Place.{tab}
use Rattle.octets.proofs.Laws.{tab-ext, tab-get_d, tab-take}
use Rattle.datagram.specs.Sizes.{packet_limit, messages_limit}
use Rattle.format.specs.Format.{flag_bit}
use Rattle.session_slots.specs.Store.{part, zeros_past}
use Rattle.session_slots.proofs.Laws.{zeros_past-zeros}
use Rattle.session.specs.Cells.{Cell, unknown_cell, kept_before, kept_ahead, kept_numbers}
use Rattle.session.specs.Held.{Held, nothing_held}
use Rattle.session_held.specs.Slots.{slots_kept, slots_heard, slot_at, heard_slot_at, message_slot}
use Rattle.session_held.specs.Table.{lent, counts_of, mark_in, m_in, message_size_in, state_numbered, state_place, size_place}
use Rattle.session_held.specs.Table.{note_place, mark_place, n_place, m_place, message_place, cell_in, message_in, held_in, cells_of, held_of, view_in}
use Rattle.session_held.specs.Laid.{Laid}
use Rattle.session_held.specs.declared.Counts.{Counts}
use Rattle.session_held.proofs.Laws.{slot_of, heard-slot-of, cell_parts}
use Rattle.image.specs.Layout as layout
use Rattle.image.specs.Layout.{view_from}
use Rattle.image_reader.specs.Laying.{KeptIs, MessageIs, HeldIs, not_yet, Filled}
use Rattle.image_reader.specs.Whole.{Cleared}

-- ---- zeros alone
module _ {t o g : List ℕ} (c : Cleared t o g) where
  kept-none : (i : ℕ) → KeptIs t o i unknown_cell
  unfolding state_numbered part
  kept-none i =
      record {
        last = omega (arith, c.table (state_place i));
        state = ap state_numbered (c.table (state_place i));
        size = c.table (size_place i);
        note = c.table (note_place i);
        fits = omega arith;
        octets = refl;
        past = zeros_past-zeros o i 0 c.octets;
      }

  held_none : (j : ℕ) → HeldIs t g j nothing_held
  unfolding part
  held_none j =
      record {
        mark = c.table (mark_place j);
        n = c.table (n_place j);
        m = c.table (m_place j);
        few = omega arith;
        messages = λ i low.
            record {
              size = c.table (message_place (message_slot j i));
              fits = omega arith;
              octets = refl;
              past = zeros_past-zeros g (message_slot j i) 0 c.messages;
            };
      }

  pub cleared-filled : (base : ℕ) → Filled base [] t o g
  cleared-filled base =
      record {
        sized = c.sized;
        kept = λ p below. kept-none (slot_at base p);
        held = λ d below. held_none (heard_slot_at base d);
      }

-- ---- one slot
cell-is : {t o : List ℕ} {i : ℕ} {c : Cell} → KeptIs t o i c → cell_in t o i ≡ c
unfolding cell_in
cell-is {t} {o} {i} {c} is = cell_parts is.state (ap (part o i) is.size ∙ is.octets) is.note

flag_is : (b : Bool) → eqb (flag_bit b) 1 ≡ b
flag_is true = refl
flag_is false = refl

message-is : {t g : List ℕ} (j i : ℕ) {x : List ℕ} → MessageIs t g (message_slot j i) x → message_in t g j i ≡ x
unfolding message_in
message-is {t} {g} j i is = ap (part g (message_slot j i)) is.size ∙ is.octets

held-is : {t g : List ℕ} {j : ℕ} {h : Held} → HeldIs t g j h → held_in t g j ≡ h
unfolding held_in
held-is {t} {g} {j} {h} is =
    let all : tab (m_in t j) (message_in t g j) ≡ h.messages
    = ap (λ (m : ℕ). tab m (message_in t g j)) is.m
    ∙ tab-ext (length h.messages) (message_in t g j) (λ i. get_or h.messages i [])
    (λ i below. message-is j i (is.messages i (omega (arith, is.few))))
    ∙ tab-get_d h.messages [] in
    ap₂ (λ (b : Bool) (n : ℕ). record { accepted = b; n = n; messages = tab (m_in t j) (message_in t g j) })
    (ap (λ (m : ℕ). eqb m 1) is.mark ∙ flag_is h.accepted) is.n
    ∙ ap (λ (l : List (List ℕ)). record { accepted = h.accepted; n = h.n; messages = l }) all

-- ---- how it is laid
module _ {t g : List ℕ} {j : ℕ} {h : Held} (is : HeldIs t g j h) where
  one-mark : mark_in t j ≤ 1
  one-mark = rw is.mark (by h.accepted) where
    by : (b : Bool) → flag_bit b ≤ 1
    by true = omega arith
    by false = omega arith

  size-part : (i : ℕ) → i < messages_limit → message_size_in t (message_slot j i) ≤ packet_limit
  size-part i low = let x = is.messages i low in omega (arith, x.size, x.fits)

  size-past : (i : ℕ) → i < messages_limit → m_in t j ≤ i → message_size_in t (message_slot j i) ≡ 0
  size-past i low past = (is.messages i low).size ∙ ap length (get_or-eq_default h.messages [] (omega (arith, is.m)))

  zeros-past : (i : ℕ) → i < messages_limit → zeros_past g (message_slot j i) (message_size_in t (message_slot j i)) ≡ true
  zeros-past i low = let x = is.messages i low in ap (zeros_past g (message_slot j i)) x.size ∙ x.past

module _ {base : ℕ} {rows : List layout.Number} {t o g : List ℕ} (f : Filled base rows t o g) where
  -- every slot is the slot of some place
  kept_in : (i : ℕ) → i < slots_kept → (c : Cell) × KeptIs t o i c
  kept_in i small =
      let p = slot_of base i small in
      ((get_or rows p.0 not_yet).cell, rw p.2 at (f.kept p.0 p.1))

  held_in_lem : (j : ℕ) → j < slots_heard → (h : Held) × HeldIs t g j h
  held_in_lem j small =
      let d = heard-slot-of base j small in
      ((get_or rows (kept_before + d.0) not_yet).held, rw d.2 at (f.held d.0 d.1))

  pub filled-laid : Laid t o g
  filled-laid =
      record {
        long = f.sized.table;
        octets = f.sized.octets;
        messages = f.sized.messages;
        state = λ i small. (kept_in i small).1.last;
        size = λ i small. let c = (kept_in i small).1 in omega (arith, c.size, c.fits);
        packet = λ i small. let c = (kept_in i small).1 in ap (zeros_past o i) c.size ∙ c.past;
        mark = λ j small. one-mark (held_in_lem j small).1;
        few = λ j small. let h = (held_in_lem j small).1 in omega (arith, h.m, h.few);
        part = λ j i small low. size-part (held_in_lem j small).1 i low;
        past = λ j i small low past. size-past (held_in_lem j small).1 i low past;
        message = λ j i small low. zeros-past (held_in_lem j small).1 i low;
      }

-- ---- what it shows
module _ {base : ℕ} (counts : Counts) (b a : List layout.Number) {t o g : List ℕ} (f : Filled base (b ++ a) t o g)
    (long : length b ≡ kept_before) (far : length a ≡ kept_ahead) where
  cells_is : cells_of base t o ≡ map (λ k. k.cell) (b ++ a)
  unfolding cells_of
  cells_is =
      let all : length (b ++ a) ≡ kept_numbers = omega (arith, length-append b a) in
      tab-ext kept_numbers (λ p. cell_in t o (slot_at base p)) (λ p. (get_or (b ++ a) p not_yet).cell) (λ p below. cell-is (f.kept p below))
      ∙ tab-take (λ (k : layout.Number). k.cell) (b ++ a) not_yet kept_numbers (omega arith)
      ∙ ap (map (λ (k : layout.Number). k.cell)) (take_all kept_numbers (b ++ a) (omega arith))

  held-row : (d : ℕ) → d < kept_ahead → held_in t g (heard_slot_at base d) ≡ (get_or a d not_yet).held
  held-row d below =
      held-is (f.held d below)
      ∙ ap (λ (k : ℕ). (get_or (b ++ a) (k + d) not_yet).held) (sym long)
      ∙ ap (λ (x : layout.Number). x.held) (get_or-append-add b a d not_yet)

  helds-is : held_of base t g ≡ map (λ k. k.held) a
  unfolding held_of
  helds-is =
      tab-ext kept_ahead (λ d. held_in t g (heard_slot_at base d)) (λ d. (get_or a d not_yet).held) held-row
      ∙ tab-take (λ (k : layout.Number). k.held) a not_yet kept_ahead (omega arith)
      ∙ ap (map (λ (k : layout.Number). k.held)) (take_all kept_ahead a (omega arith))

  pub filled-view : view_from (record { base = base; counts = counts_of counts }, (b, a)) ≡ view_in (lent base counts t o g)
  unfolding view_in
  filled-view =
      ap₂ (λ (c : List Cell) (h : List Held). record { base = base; counts = counts_of counts; cells = c; held = h })
      (sym cells_is) (sym helds-is)
