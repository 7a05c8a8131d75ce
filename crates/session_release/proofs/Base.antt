-- The number at the base of a session within its ranges. Assumes nothing.
use Rattle.std.proofs.Common.{◌≡◌, ℕ, ◌%◌, ◌<◌, ◌≤◌, Bool, true, false, List, length, sym, ap, ◌∙◌, arith, leb-false}
use Rattle.octets.proofs.Laws.{tab-at}
use Rattle.datagram.specs.Sizes.{packet_limit}
use Rattle.session.specs.Cells.{Cell, blank_cell, is_unknown, cell_at, unknown_at, kept_before}
use Rattle.session.specs.Cells.{kept_numbers}
use Rattle.session_slots.specs.Store.{HasSlot}
use Rattle.session_slots.proofs.Laws.{length_part}
use Rattle.session.specs.View.{sum, session_limit}
use Rattle.session.specs.Release.{at_base}
use Rattle.session.specs.Ranges.{size_right}
use Rattle.session_held.specs.Slots.{slot_at, slots_kept}
use Rattle.session_held.specs.Table.{lent, counts_of, state_in, size_in, state_numbered, cell_in, cells_of, view_in}
use Rattle.session_held.specs.Laid.{InRanges}
use Rattle.session_held.specs.declared.Counts.{Counts}
use Rattle.session_held.proofs.Laws.{has-packet-slot}
use Rattle.session_release.specs.Steps.{Passed}

pub goes_on : {c : Counts} {p : Bool} → Passed c p → p ≡ false → sum (counts_of c) < session_limit
goes_on {c} limit more = leb-false session_limit (sum (counts_of c)) (sym limit.test ∙ more)

module _ {b : ℕ} {c : Counts} {t o g : List ℕ} (w : InRanges (lent b c t o g)) {slot : ℕ} (at_base_lem : slot ≡ b % slots_kept) where
  base-slot : slot_at b kept_before ≡ slot
  base-slot = omega arith

  pub base_there : HasSlot slot o
  base_there = has-packet-slot o slot w.laid.octets (omega arith)

  pub base-cell : cell_at (cells_of b t o) kept_before ≡ cell_in t o slot
  unfolding cells_of
  base-cell =
      tab-at kept_numbers (λ p. cell_in t o (slot_at b p)) kept_before blank_cell (omega arith)
      ∙ ap (λ (i : ℕ). cell_in t o i) base-slot

  pub base-kind : (at_base (view_in (lent b c t o g))).state ≡ state_numbered (state_in t slot)
  unfolding view_in cell_in
  base-kind = ap (λ (c : Cell). c.state) base-cell

  pub base-size : size_in t slot ≤ packet_limit
  base-size = w.laid.size slot (omega arith)

  pub base-unknown : unknown_at (cells_of b t o) kept_before ≡ is_unknown (state_numbered (state_in t slot))
  unfolding cell_in
  base-unknown = ap (λ (c : Cell). is_unknown c.state) base-cell

  pub base-octets : length (cell_at (cells_of b t o) kept_before).octets ≡ size_in t slot
  unfolding cell_in
  base-octets =
      ap (λ (c : Cell). length c.octets) base-cell
      ∙ length_part o slot (size_in t slot) base_there base-size

  pub base-state : size_right (state_numbered (state_in t slot)) (size_in t slot) false ≡ true
  unfolding view_in cell_in
  base-state =
      rw (sym base-octets) (ap (λ (c : Cell). size_right c.state (length (cell_at (cells_of b t o) kept_before).octets) false)
      (sym base-cell) ∙ w.sound.cell kept_before (omega arith))
