-- What one call does to the session: nothing leaves, or the number at the base; and the ranges stay. Assumes nothing.
use Prim.Native.Nat.{ℕ, ◌+◌}
use mathlib.Core.Path.{◌≡◌, refl, sym, ap, subst, ◌∙◌}
use mathlib.Core.List.{List, [], ◌∷◌}
use native.Mathlib.Omega.{arith}
use Rattle.length.specs.Answers.{Answer, done, refused, afterwards}
use Rattle.datagram.specs.Carried.{Carried}
use Rattle.datagram.specs.Read.{carried_by}
use Rattle.session.specs.Cells.{State, unknown, received, spare, repaired, blank, kept_before}
use Rattle.session.specs.View.{View, Counts, sum, following, distance, gone_on}
use Rattle.session.specs.Offer as offers
use Rattle.session.specs.Offer.{accept}
use Rattle.session.specs.Release as releases
use Rattle.session.specs.Release.{Release, counted, at_base, view_after_release}
use Rattle.session.proofs.Laws.{release-leaves}
use Rattle.solve.specs.Solve as solutions
use Rattle.demands.specs.Common.History.{Move, offer, release, solve, Left, left_as, after_move, how_many, history_counts}
use Rattle.demands.specs.Demand2.Demand2.{OneKind, grown}
use Rattle.demands.proofs.Ranges.{ViewInRanges}
use Rattle.demands.proofs.InRanges.{read_held, accept-in-ranges, on-in-ranges}
use Rattle.demands.proofs.Taken.{offer-done}
use Rattle.demands.proofs.SolveDone.{solve-done, solved-in-ranges}

-- ---- what a call does
-- what a release makes leave: one number, or none
abbrev pub released_by : Answer Release → List Left
released_by (done a) = left_as a.kind a.number a.note a.octets ∷ []
released_by (refused why) = []

unfoldable pub leaving : Move → View → List Left
leaving (offer octets) view = []
leaving (release leave room) view = released_by (releases.release leave room view)
leaving solve view = []

pub data Step (view after : View) (left : List Left) : Type 0 where
  stays : after.counts ≡ view.counts → after.base ≡ view.base → left ≡ [] → Step view after left
  leaves : (x : Left) → left ≡ x ∷ [] → x.number ≡ view.base → OneKind x
      → after.counts ≡ grown view.counts (history_counts (x ∷ []))
      → after.base ≡ following view.base
      → Step view after left

-- a number that is not blank is of one kind
one-kind : (st : State) → (st ≡ blank → ⊥) → (number note : ℕ) (octets : List ℕ) → OneKind (left_as st number note octets)
one-kind unknown other number note octets = refl
one-kind received other number note octets = refl
one-kind spare other number note octets = refl
one-kind repaired other number note octets = refl
one-kind blank other number note octets = absurd (other refl)

-- its count grows by one
pub counts-path : {a b c d e f g h : ℕ} → a ≡ e → b ≡ f → c ≡ g → d ≡ h
    → ◌≡◌ {A = Counts} (record { received = a; spare = b; repaired = c; lost = d })
    (record { received = e; spare = f; repaired = g; lost = h })
counts-path p q r s = λ i. record { received = p i; spare = q i; repaired = r i; lost = s i }

kind-grown : (st : State) → (st ≡ blank → ⊥) → (number note : ℕ) (octets : List ℕ) (c : Counts)
    → counted st c ≡ grown c (history_counts (left_as st number note octets ∷ []))
unfolding how_many
kind-grown unknown other number note octets c = counts-path (omega arith) (omega arith) (omega arith) (omega arith)
kind-grown received other number note octets c = counts-path (omega arith) (omega arith) (omega arith) (omega arith)
kind-grown spare other number note octets c = counts-path (omega arith) (omega arith) (omega arith) (omega arith)
kind-grown repaired other number note octets c = counts-path (omega arith) (omega arith) (omega arith) (omega arith)
kind-grown blank other number note octets c = absurd (other refl)

-- the number at the base is not blank: one count is one more
counted-sum : (st : State) → (st ≡ blank → ⊥) → (c : Counts) → sum (counted st c) ≡ sum c + 1
counted-sum unknown other c = omega arith
counted-sum received other c = omega arith
counted-sum spare other c = omega arith
counted-sum repaired other c = omega arith
counted-sum blank other c = absurd (other refl)

pub moved_sum : (view : View) → ViewInRanges view → sum (counted (at_base view).state view.counts) ≡ sum view.counts + 1
moved_sum view r = counted-sum (at_base view).state (r.no_blank kept_before (omega arith) (omega arith)) view.counts

gone-base : (counts : Counts) (view : View) → (gone_on counts view).base ≡ following view.base
unfolding gone_on
gone-base counts view = refl

pub gone-counts : (counts : Counts) (view : View) → (gone_on counts view).counts ≡ counts
unfolding gone_on
gone-counts counts view = refl

pub accept-base : (d : ℕ) (datagram : Carried) (view : View) → (accept d datagram view).base ≡ view.base
unfolding accept
accept-base d datagram view = refl

pub accept-counts : (d : ℕ) (datagram : Carried) (view : View) → (accept d datagram view).counts ≡ view.counts
unfolding accept
accept-counts d datagram view = refl

pub step : (move : Move) (view : View) → ViewInRanges view → Step view (after_move move view) (leaving move view)
unfolding after_move leaving
step (offer octets) view r = pick (offers.offer octets view) refl where
  pick : (a : Answer View) → offers.offer octets view ≡ a → Step view (afterwards a view) []
  pick (done v) e =
      let o = offer-done octets view v e in
      stays (ap (λ (x : View). x.counts) (sym o.is) ∙ accept-counts _ _ view)
      (ap (λ (x : View). x.base) (sym o.is) ∙ accept-base _ _ view)
      refl
  pick (refused why) e = stays refl refl refl
step (release leave room) view r = pick (releases.release leave room view) refl where
  pick : (a : Answer Release) → releases.release leave room view ≡ a → Step view (afterwards (view_after_release a) view) (released_by a)
  pick (done a) e =
      let o = release-leaves leave room view a e in
      let other : a.kind ≡ blank → ⊥ = λ is. r.no_blank kept_before (omega arith) (omega arith) (sym o.kind ∙ is) in
      leaves (left_as a.kind a.number a.note a.octets) refl o.number
      (one-kind a.kind other a.number a.note a.octets)
      (ap (λ (x : View). x.counts) o.after
      ∙ gone-counts _ view
      ∙ ap (λ (st : State). counted st view.counts) (sym o.kind)
      ∙ kind-grown a.kind other a.number a.note a.octets view.counts)
      (ap (λ (x : View). x.base) o.after ∙ gone-base _ view)
  pick (refused why) e = stays refl refl refl
step solve view r = pick (solutions.solve view) refl where
  pick : (a : Answer View) → solutions.solve view ≡ a → Step view (afterwards a view) []
  pick (done v) e = let o = solve-done view v e in stays o.counts o.base refl
  pick (refused why) e = stays refl refl refl

-- every call keeps the ranges
pub after-in-ranges : (move : Move) (view : View) → ViewInRanges view → ViewInRanges (after_move move view)
unfolding after_move
after-in-ranges (offer octets) view r = pick (offers.offer octets view) refl where
  pick : (a : Answer View) → offers.offer octets view ≡ a → ViewInRanges (afterwards a view)
  pick (done v) e =
      let o = offer-done octets view v e in
      subst ViewInRanges o.is
      (accept-in-ranges (distance view.base o.parts.number) (carried_by octets o.parts) view r o.near
      (read_held octets o.parts o.read))
  pick (refused why) e = r
after-in-ranges (release leave room) view r = pick (releases.release leave room view) refl where
  pick : (a : Answer Release) → releases.release leave room view ≡ a → ViewInRanges (afterwards (view_after_release a) view)
  pick (done a) e =
      let o = release-leaves leave room view a e in
      subst ViewInRanges (sym o.after) (on-in-ranges _ view r (moved_sum view r))
  pick (refused why) e = r
after-in-ranges solve view r = pick (solutions.solve view) refl where
  pick : (a : Answer View) → solutions.solve view ≡ a → ViewInRanges (afterwards a view)
  pick (done v) e = solved-in-ranges (solve-done view v e) r
  pick (refused why) e = r
