-- What a datagram of an honest sender brings is the sender's: its packet and its spares, kept where they are unknown, leave every
-- known number with the sender's packet, up to zeros at the end. Assumes nothing.
use Prim.Native.Nat.{ℕ, zero, suc, ◌+◌, ◌-◌, ◌<◌}
use mathlib.Core.Path.{◌≡◌, refl, sym, ap, subst, ◌∙◌}
use mathlib.Core.Logic.{⊎_elim}
use mathlib.Core.List.{List}
use lib.ListN.{length, set, length-set}
use lib.Seq.{get_or-set_same, get_or-set_other}
use native.Mathlib.Omega.{arith}
use Rattle.octets.specs.Place.{tab}
use Rattle.octets.proofs.Laws.{true-or-false, same_or_not}
use Rattle.datagram.specs.Carried.{Extra, Carried}
use Rattle.session.specs.Cells.{State, received, spare, Cell, filled_cell, cell_at, unknown_at, kept_before}
use Rattle.session.specs.Honest.{UpToZeros, TrueCells}
use Rattle.session.proofs.Laws.{unknown-inside, same-unknown, up-to-zeros-same}
use Rattle.session.specs.View.{View}
use Rattle.session.specs.Offer.{keep, keep_spares, keep_extra}
use Rattle.sender.specs.Carries.{spares_from, extra_from}
use Rattle.sender.specs.declared.Settings.{Settings}
use Rattle.sender.specs.declared.Settings.TheVariants as settings
use Rattle.demands.proofs.Growing.{keep_known, keep-unknown}
use Rattle.demands.proofs.InRanges.{filled}
use Rattle.demands.proofs.Sent.{InView}

-- ---- what is kept is the sender's
right-set : (sent : ℕ → List ℕ) (cells : List Cell) (p : ℕ) (cell : Cell) → p < length cells → cell.octets ≡ sent p
    → TrueCells sent cells → TrueCells sent (set cells p cell)
right-set sent cells p cell low is right q inside k =
    ⊎_elim
    (λ same.
    subst (λ (c : Cell). UpToZeros c.octets (sent q)) (sym (ap (cell_at (set cells p cell)) same ∙ get_or-set_same cells p cell _ low))
    (subst (UpToZeros cell.octets) (is ∙ sym (ap sent same)) (up-to-zeros-same cell.octets)))
    (λ other.
    let as-was = get_or-set_other cells p q cell _ other in
    subst (λ (c : Cell). UpToZeros c.octets (sent q)) (sym as-was)
    (right q (rw (length-set cells p cell) at inside) (sym (same-unknown cells (set cells p cell) q as-was) ∙ k)))
    (same_or_not q p)

right-keep : (sent : ℕ → List ℕ) (S : ℕ) (state : State) (p : ℕ) (octets : List ℕ) (cells : List Cell) → octets ≡ sent p
    → TrueCells sent cells
    → TrueCells sent (keep S state p octets cells)
right-keep sent S state p octets cells is right =
    ⊎_elim
    (λ u.
    rw (keep-unknown S state p octets cells u)
    (right-set sent cells p (filled_cell S state octets) (unknown-inside cells p u) is right))
    (λ k. rw (keep_known S state p octets cells k) right)
    (true-or-false (unknown_at cells p))

right-spares : (sent : ℕ → List ℕ) (S count : ℕ) (f : ℕ → List ℕ) (p : ℕ) (cells : List Cell)
    → ((j : ℕ) → j < count → f j ≡ sent (p - suc j)) → TrueCells sent cells → TrueCells sent (keep_spares S p (tab count f) cells)
unfolding keep_spares tab
right-spares sent S zero f p cells is right = right
right-spares sent S (suc count) f p cells is right =
    right-spares sent S count (λ j. f (suc j)) (p - 1) (keep S spare (p - 1) (f zero) cells)
    (λ j low. is (suc j) (omega arith) ∙ ap sent (let place : p - suc (suc j) ≡ (p - 1) - suc j = omega arith in place))
    (right-keep sent S spare (p - 1) (f zero) cells (is zero (omega arith)) right)

right-from : (S : ℕ) (st : Settings) (before : ℕ) (sent : ℕ → List ℕ) (p : ℕ) (cells : List Cell) → TrueCells sent cells
    → TrueCells sent (keep_extra S p (extra_from st before sent p) cells)
unfolding spares_from
right-from S (settings.Spares k) before sent p cells right =
    right-spares sent S _ (λ j. sent (p - suc j)) p cells (λ j low. refl) right
right-from S (settings.Parity n m) before sent p cells right = right

pub right-filled : (sent : ℕ → List ℕ) (d : ℕ) (c : Carried) (view : View) → InView sent d c → TrueCells sent view.cells
    → TrueCells sent (filled d c view)
right-filled sent d c view v right =
    let first = right-keep sent c.number received (kept_before + d) c.packet view.cells v.packet right in
    subst
    (λ (x : Extra).
    TrueCells sent (keep_extra c.number (kept_before + d) x (keep c.number received (kept_before + d) c.packet view.cells)))
    (sym v.extra)
    (right-from c.number v.settings v.before sent (kept_before + d) _ first)
