-- One message used, and all that can be used: on plain values. The loop's invariant: what is left of the steps, done to what is
-- there now, gives the whole. Assumes nothing.
use Rattle.std.proofs.Common.{◌≡◌, ℕ, suc, ◌<◌, ◌≤◌, true, List, length, take, Option, Some, None, sym, refl, ap, ◌∙◌, subst, ap₂, arith}
use mathlib.Core.Option.{some}
use Rattle.datagram.specs.Sizes.{packet_least, packet_limit, messages_limit}
use Rattle.session.specs.Cells.{repaired, Cell, filled_cell, kept_numbers}
use Rattle.session.specs.Repair.{Message, usable, first_usable, mended, fill, repair_f, repair}
use Rattle.session.specs.Held.{Held, held_messages}
use Rattle.session.specs.Ranges.{note_right}
use Rattle.session.proofs.Laws.{missing, usable-says, length-mended, found-usable, repair_f-done, repair_f-fill}
use Rattle.session_slots.specs.Store.{pasted}
use Rattle.session_held.specs.Slots.{slot_at, slots_kept}
use Rattle.session_held.specs.Table.{Lent, lent, counts_of, state_numbered, cells_of, held_of, view_in, kept_set}
use Rattle.session_held.specs.Laid.{InRanges}
use Rattle.session_held.specs.declared.Counts.{Counts}
use Rattle.session_held.proofs.Laws.{beyond, placed-cells, placed-ranges, length-cells, slot_small}
use Rattle.session_repair.specs.Promise.{Searchable, message_size_at, message_held, Points, UsableFound, usable_answer, UsablePoints}
use Rattle.session_repair.specs.Promise.{AskedOctets, SameBeside, MayMend, FilledNow, Fills, MendedNow, Mends}
use Rattle.session_repair.specs.declared.searching.Usable.{Usable}
use Rattle.session_repair.proofs.Beside.{same_beside, beside-twice, held-beside}
use Rattle.session_repair.proofs.Search.{searchable, m-near, size-near, octets-long}
use Rattle.session_repair.proofs.Sums.{asked-front}

-- the number that stands for a repaired one
abbrev repaired_number : ℕ
repaired_number = 3

-- it may have any note
repaired-noted : (S number : ℕ) → note_right (state_numbered repaired_number) S number ≡ true
unfolding state_numbered note_right
repaired-noted S number = refl

module _ {l : Lent} (w : InRanges l) {d i slot : ℕ} (at : Points l.base l.table d i slot)
    (fits : usable (cells_of l.base l.table l.octets) (message_held l.base l.table l.messages d i) ≡ true) where
  cells : List Cell
  cells = cells_of l.base l.table l.octets

  message : Message
  message = message_held l.base l.table l.messages d i

  p : ℕ
  p = missing cells message

  inside : p < kept_numbers
  unfolding p cells message
  inside = rw (length-cells l.base l.table l.octets) at (usable-says cells message fits).inside

  slot_is : slot ≡ slot_at l.base p
  unfolding p cells message
  slot_is = at.target l.octets l.messages

  pub slot-fits : slot < slots_kept
  slot-fits = rw slot_is (slot_small l.base p)

  pub index-fits : i < messages_limit
  index-fits = omega (arith, at.low, m-near (searchable w) l.base d)

  pub size_fits : {size : ℕ} → size ≡ message_size_at l.base l.table d i → size ≤ packet_limit
  size_fits e = rw e (size-near (searchable w) l.base d i at.low)

  pub filled : {S : ℕ} {sum new_t new_o : List ℕ} {size octets : ℕ} → AskedOctets l.base l.table l.octets l.messages d i size sum
      → size ≡ message_size_at l.base l.table d i → new_o ≡ pasted l.octets slot (take size sum) → octets ≡ size
      → new_t ≡ kept_set l.table slot repaired_number octets S
      → FilledNow S l d i (lent l.base l.counts new_t new_o l.messages)
  unfolding p cells message fill state_numbered
  filled {S} {sum} {new_t} {new_o} {size} {octets} m e-size e-o e-octets e-t =
      let b = mended cells message in
      let long : size ≡ length message.octets =
      e-size ∙ sym (octets-long (searchable w) l.base d l.messages w.laid.messages i at.low) in
      let short : length message.octets ≤ packet_limit = rw (← long) (size_fits e-size) in
      let front : take size sum ≡ b = rw long (asked-front (rw long at m) short) in
      let size_is : size ≡ length b = long ∙ sym (length-mended cells message) in
      let least : packet_least ≤ length b = omega (arith, (usable-says cells message fits).length-one, length-mended cells message) in
      let most : length b ≤ packet_limit = omega (arith, size_fits e-size, size_is) in
      let free = (usable-says cells message fits).unknown in
      let o_is : new_o ≡ pasted l.octets slot b = e-o ∙ ap (pasted l.octets slot) front in
      let t-is : new_t ≡ kept_set l.table slot repaired_number (length b) S =
      e-t ∙ ap (λ (n : ℕ). kept_set l.table slot repaired_number n S) (e-octets ∙ size_is) in
      rw (o_is, t-is)
      (record {
        cells = placed-cells w.laid slot repaired_number S b slot-fits (omega arith) most l.base p inside slot_is;
        within = placed-ranges w p free S repaired_number (omega arith) refl (repaired-noted S _) b least most slot_is;
        beside = record { stays = beyond l.table slot repaired_number (length b) S slot-fits };
      })

-- ---- the loop, with some counts
pub record MendingWith (S base : ℕ) (counts : Counts) (g t₀ o₀ t o : List ℕ) (left : ℕ) : Type 0 where
  pub within : InRanges (lent base counts t o g)
  pub beside : SameBeside t₀ t
  pub steps : repair_f (filled_cell S repaired) left (cells_of base t o) (held_messages (held_of base t₀ g))
      ≡ repair (filled_cell S repaired) (cells_of base t₀ o₀) (held_messages (held_of base t₀ g))

start-with : {S base : ℕ} {counts : Counts} {t o g : List ℕ} → InRanges (lent base counts t o g)
    → MendingWith S base counts g t o t o kept_numbers
unfolding repair
start-with {S} {base} {counts} {t} {o} {g} w =
    record {
      within = w;
      beside = same_beside t;
      steps =
          ap (λ (n : ℕ). repair_f (filled_cell S repaired) n (cells_of base t o) (held_messages (held_of base t g)))
          (sym (length-cells base t o));
    }

-- nothing is left to mend
mended-now : {S base : ℕ} {counts : Counts} {g t₀ o₀ t o : List ℕ} {left : ℕ} → MendingWith S base counts g t₀ o₀ t o left
    → cells_of base t o ≡ repair (filled_cell S repaired) (cells_of base t₀ o₀) (held_messages (held_of base t₀ g))
    → MendedNow S (lent base counts t₀ o₀ g) (lent base counts t o g)
unfolding view_in
mended-now {S} {base} {counts} {g} m e =
    record {
      state =
          ap₂ (λ (c : List Cell) (h : List Held). record { base = base; counts = counts_of counts; cells = c; held = h }) e
          (held-beside m.beside g base);
      within = m.within;
      beside = m.beside;
    }

end_with : {S base : ℕ} {counts : Counts} {g t₀ o₀ t o : List ℕ} {left : ℕ} → MendingWith S base counts g t₀ o₀ t o left → left ≤ 0
    → MendedNow S (lent base counts t₀ o₀ g) (lent base counts t o g)
unfolding repair_f
end_with {left = left} m all =
    let none_left : left ≡ 0 = omega arith in
    mended-now m (rw none_left at m.steps)

module _ {S base : ℕ} {counts : Counts} {g t₀ o₀ t o : List ℕ} {left : ℕ} (m : MendingWith S base counts g t₀ o₀ t o left) {found : Option Usable}
    (f : UsableFound base t found) where
  -- the first usable message of what is there now, in the words of the whole
  found-now : first_usable (cells_of base t o) (held_messages (held_of base t₀ g)) ≡ usable_answer base t found g
  found-now =
      ap (λ (h : List Held). first_usable (cells_of base t o) (held_messages h)) (sym (held-beside m.beside g base))
      ∙ f.answer o g m.within.laid.messages

  stop-with : found ≡ None → MendedNow S (lent base counts t₀ o₀ g) (lent base counts t o g)
  stop-with e =
      mended-now m
      (sym (repair_f-done (filled_cell S repaired) left (cells_of base t o) (held_messages (held_of base t₀ g))
      (found-now ∙ ap (λ (x : Option Usable). usable_answer base t x g) e))
      ∙ m.steps)

  module _ {u : Usable} (e : found ≡ Some u) where
    some-now : first_usable (cells_of base t o) (held_messages (held_of base t₀ g)) ≡ some (message_held base t g u.distance u.index)
    some-now = found-now ∙ ap (λ (x : Option Usable). usable_answer base t x g) e

    usable-with : usable (cells_of base t o) (message_held base t g u.distance u.index) ≡ true
    usable-with = (found-usable (cells_of base t o) (held_messages (held_of base t₀ g)) (message_held base t g u.distance u.index) some-now).1

    turn-with : {new_t new_o : List ℕ} {rest : ℕ} → left ≡ suc rest
        → FilledNow S (lent base counts t o g) u.distance u.index (lent base counts new_t new_o g)
        → MendingWith S base counts g t₀ o₀ new_t new_o rest
    turn-with {new_t} {new_o} {rest} one x =
        let whole : repair_f (filled_cell S repaired) (suc rest) (cells_of base t o) (held_messages (held_of base t₀ g))
        ≡ repair (filled_cell S repaired) (cells_of base t₀ o₀) (held_messages (held_of base t₀ g)) = rw one at m.steps in
        record {
          within = x.within;
          beside = beside-twice m.beside x.beside;
          steps =
              ap (λ (c : List Cell). repair_f (filled_cell S repaired) rest c (held_messages (held_of base t₀ g))) x.cells
              ∙ sym
              (repair_f-fill (filled_cell S repaired) rest (cells_of base t o) (held_messages (held_of base t₀ g))
              (message_held base t g u.distance u.index)
              some-now)
              ∙ whole;
        }

-- ---- the loop: with every counts with which it began within the ranges, and there are some
pub record Mending (S base : ℕ) (g t₀ o₀ t o : List ℕ) (left : ℕ) : Type 0 where
  pub may : MayMend base t₀ o₀ g
  pub each : (c : Counts) → InRanges (lent base c t₀ o₀ g) → MendingWith S base c g t₀ o₀ t o left

pub mending-start : {S base : ℕ} {t o g : List ℕ} → MayMend base t o g → Mending S base g t o t o kept_numbers
mending-start m = record { may = m; each = λ c w. start-with w }

module _ {S base : ℕ} {g t₀ o₀ t o : List ℕ} {left : ℕ} (m : Mending S base g t₀ o₀ t o left) where
  some-counts : MendingWith S base m.may.counts g t₀ o₀ t o left
  some-counts = m.each m.may.counts m.may.within

  -- what the loop hands on
  pub searchable-now : Searchable t
  searchable-now = searchable some-counts.within

  pub mending-may : MayMend base t o g
  mending-may = record { counts = m.may.counts; within = some-counts.within }

  pub mending-end : left ≤ 0 → Mends S base t₀ o₀ g t o
  mending-end all = record { mends = λ c w. end_with (m.each c w) all }

  module _ {found : Option Usable} (f : UsableFound base t found) where
    pub mending-stop : found ≡ None → Mends S base t₀ o₀ g t o
    mending-stop e = record { mends = λ c w. stop-with (m.each c w) f e }

    module _ {u : Usable} (e : found ≡ Some u) where
      pub mending-usable : usable (cells_of base t o) (message_held base t g u.distance u.index) ≡ true
      mending-usable = usable-with some-counts f e

      pub mending-points : Points base t u.distance u.index u.slot
      mending-points = subst (λ (x : Option Usable). UsablePoints base t x) e f.points

      pub mending-turn : {new_t new_o : List ℕ} {rest : ℕ} → left ≡ suc rest → Fills S base t o g u.distance u.index new_t new_o
          → Mending S base g t₀ o₀ new_t new_o rest
      mending-turn more x =
          record {
            may = m.may;
            each = λ c w. let so = m.each c w in turn-with so f e more (x.fills c so.within);
          }
