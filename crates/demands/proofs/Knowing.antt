-- The known numbers of a view: at the start, after an accepted datagram, and once a number left. Assumes nothing.
use Prim.Native.Nat.{ℕ, suc, ◌+◌, ◌-◌, ◌<◌}
use mathlib.Core.Path.{◌≡◌, refl, sym, ap, subst, ◌∙◌}
use mathlib.Core.Logic.{◌↔◌, ◌⊎◌, inl, inr, ⊎_elim}
use mathlib.Core.Bool.{true≢false}
use mathlib.Core.List.{List}
use lib.ListN.{length}
use native.Mathlib.Omega.{arith}
use Rattle.octets.proofs.Laws.{below_or_not}
use Rattle.datagram.specs.Carried.{Extra, spares, parity, Carried}
use Rattle.session.specs.Cells.{Cell, received, repaired, filled_cell, is_unknown, kept_before, kept_ahead, kept_numbers}
use Rattle.session.specs.Held.{held_messages}
use Rattle.session.specs.Repair.{repair}
use Rattle.session.specs.Reached.{Known, Reached, DistinctMembers}
use Rattle.session.proofs.Laws.{makes-repaired, known-reached, reached-known}
use Rattle.session.specs.View.{View, Counts, fresh_view, gone_on}
use Rattle.session.specs.Offer.{keep, keep_extra, accept}
use Rattle.demands.specs.Demand2.ReachedBy.{spares_in}
use Rattle.demands.proofs.Ranges.{ViewInRanges}
use Rattle.demands.proofs.Growing.{as_received, grown-keep, grown-extra, known_grown, known_kept, kept-known, known-spares}
use Rattle.demands.proofs.Growing.{spares-known}
use Rattle.demands.proofs.Shifted.{cell-last, unknown-on}
use Rattle.demands.proofs.InRanges.{fresh-before, fresh-ahead, filled}

-- ---- with its packet and spares: what was known, and what the datagram brings
-- the place p of the view is that of the datagram at distance d, or of one of its spares
pub data Brings (datagram : Carried) (d : ℕ) : ℕ → Type 0 where
  packet : Brings datagram d (kept_before + d)
  copy : (j : ℕ) → j < spares_in datagram.extra → Brings datagram d (kept_before + d - suc j)

module _ (datagram : Carried) (d : ℕ) (view : View) (long : length view.cells ≡ kept_numbers) (low : d < kept_ahead) where
  abbrev arrived : List Cell
  arrived = keep datagram.number received (kept_before + d) datagram.packet view.cells

  arrived-long : length arrived ≡ kept_numbers
  arrived-long = (grown-keep datagram.number (kept_before + d) datagram.packet view.cells as_received).long ∙ long

  abbrev Extras : Extra → Type 0
  Extras extra = (p : ℕ) → Known (keep_extra datagram.number (kept_before + d) extra arrived) p
      ↔ (Known arrived p ⊎ ((j : ℕ) × (j < spares_in extra) × (p ≡ kept_before + d - suc j)))

  extras : (extra : Extra) → Extras extra
  extras (spares copies) p = (
    spares-known datagram.number (kept_before + d) copies arrived p,
    ⊎_elim (known_grown (grown-extra datagram.number (kept_before + d) (spares copies) arrived) p)
        (λ t.
        rw t.2
        (known-spares datagram.number (kept_before + d) copies arrived (let long = arrived-long in omega arith)
        (let long = arrived-long in omega arith)
        t.0
        t.1)),
  )
  extras (parity n messages) p = (λ k. inl k, ⊎_elim (λ k. k) (λ t. absurd (let none = t.1 in omega arith)))

  pub brought : (p : ℕ) → Known (filled d datagram view) p ↔ (Known view.cells p ⊎ Brings datagram d p)
  brought p = (
    λ k.
        ⊎_elim
        (λ first.
        ⊎_elim inl (λ same. inr (subst (Brings datagram d) (sym same) packet))
        (kept-known datagram.number received (kept_before + d) datagram.packet view.cells p first))
        (λ t. inr (subst (Brings datagram d) (sym t.2) (copy t.0 t.1)))
        ((extras datagram.extra p).0 k),
    ⊎_elim
        (λ k. (extras datagram.extra p).1 (inl (known_grown
        (grown-keep datagram.number (kept_before + d) datagram.packet view.cells as_received) p k)))
        (brings p),
  )
    where
      brings : (q : ℕ) → Brings datagram d q → Known (filled d datagram view) q
      brings q packet =
          (extras datagram.extra (kept_before + d)).1
          (inl (known_kept datagram.number (kept_before + d) datagram.packet view.cells (rw long (omega arith)) as_received))
      brings q (copy j few) = (extras datagram.extra (kept_before + d - suc j)).1 (inr (j, few, refl))

-- ---- an accepted offer
pub accept-cells : (d : ℕ) (datagram : Carried) (view : View)
    → (accept d datagram view).cells
    ≡ repair (filled_cell datagram.number repaired) (filled d datagram view) (held_messages (accept d datagram view).held)
unfolding accept
accept-cells d datagram view = refl

-- known after it: what the messages then held reach
pub accept-known : (d : ℕ) (datagram : Carried) (view : View) → DistinctMembers (held_messages (accept d datagram view).held) → (p : ℕ)
    → Known (accept d datagram view).cells p
    ↔ Reached (filled d datagram view) (held_messages (accept d datagram view).held) p
accept-known d datagram view distinct p = (
  λ k.
      known-reached (filled_cell datagram.number repaired) (filled d datagram view) (held_messages (accept d datagram view).held) p
      (rw (accept-cells d datagram view) at k),
  λ t.
      rw (accept-cells d datagram view)
      (reached-known (makes-repaired datagram.number) (filled d datagram view) (held_messages (accept d datagram view).held) distinct p
      t),
)

-- ---- from the start
pub fresh-known : (p : ℕ) → p < kept_numbers → Known fresh_view.cells p ↔ (p < kept_before)
fresh-known p small = (
  λ k.
      ⊎_elim (λ low. low)
      (λ past. absurd (true≢false (sym (ap (λ (c : Cell). is_unknown c.state) (fresh-ahead p past small)) ∙ k)))
      (below_or_not p kept_before),
  λ low. ap (λ (c : Cell). is_unknown c.state) (fresh-before p low),
)

-- ---- a number leaves
pub left-known : (view : View) → ViewInRanges view → (counts : Counts) (p : ℕ) → p < kept_numbers
    → Known (gone_on counts view).cells p ↔ ((suc p < kept_numbers) × Known view.cells (suc p))
left-known view r counts p small = (
  λ k.
      ⊎_elim (λ inside. (inside, sym (unknown-on counts view p (rw r.kept inside)) ∙ k))
      (λ last.
      absurd
      (true≢false (sym (ap (λ (c : Cell). is_unknown c.state) (cell-last counts view p (omega (arith, r.kept)))) ∙ k)))
      (below_or_not (suc p) kept_numbers),
  λ t. unknown-on counts view p (rw r.kept t.0) ∙ t.1,
)
