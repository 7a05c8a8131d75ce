-- What is known is never written over: call by call, each of which leaves what is known as it is, or makes the number at the base
-- leave with its kind and octets. Assumes nothing.
use Prim.Native.Nat.{ℕ, suc, ◌+◌, ◌-◌, ◌%◌, ◌≤◌, ◌<◌}
use mathlib.Core.Path.{◌≡◌, refl, sym, ap, ap₂, subst, ◌∙◌}
use mathlib.Core.Logic.{⊎_elim}
use mathlib.Core.List.{List, [], ◌∷◌, ◌++◌, append-nil}
use lib.ListN.{length, length-append, get_or-append}
use lib.Seq.{get_or_at}
use native.Mathlib.Omega.{arith}
use Rattle.octets.proofs.Laws.{below_or_not}
use Rattle.length.specs.Answers.{Answer, done, refused, afterwards}
use Rattle.session.specs.Cells.{unknown, Cell, is_unknown, cell_at, kept_before, kept_numbers}
use Rattle.session.specs.Reached.{Known}
use Rattle.session.specs.View.{View, Counts, numbers, gone_on}
use Rattle.session.specs.Offer as offers
use Rattle.session.specs.Release as releases
use Rattle.session.specs.Release.{Release, at_base, view_after_release}
use Rattle.session.proofs.Laws.{release-leaves}
use Rattle.solve.specs.Solve as solutions
use Rattle.session_held.specs.Table.{view_of}
use Rattle.session_held.specs.declared.Session.{Session}
use Rattle.session_calls.specs.Receiver.{SeenAs}
use Rattle.demands.specs.Common.History as moves
use Rattle.demands.specs.Common.History.{Move, Left, left_as, after_move}
use Rattle.demands.specs.Common.Calls.{Calls, Called, left_by}
use Rattle.demands.specs.Demand2.GoesOn.{move_of, GoesOn, from, by}
use Rattle.demands.specs.Demand2.Demand2.{StaysKnown}
use Rattle.demands.proofs.Ranges.{ViewInRanges}
use Rattle.demands.proofs.Growing.{grown-known}
use Rattle.demands.proofs.Shifted.{cell-on}
use Rattle.demands.proofs.InRanges.{grown-accept}
use Rattle.demands.proofs.Steps.{leaving, released_by}
use Rattle.demands.proofs.Taken.{offer-done}
use Rattle.demands.proofs.SolveDone.{solve-done}
use Rattle.demands.proofs.Leaving.{on-ranges, went}
use Rattle.demands.proofs.Calling.{seen-ranges, left_is, called-went, called_on}

-- ---- one call
data Does (view : View) : List Left → View → Type 0 where
  stays : {last : View} → ((p : ℕ) → Known view.cells p → cell_at last.cells p ≡ cell_at view.cells p) → Does view [] last
  leaves : (counts : Counts)
      → Does view (left_as (at_base view).state view.base (at_base view).note (at_base view).octets ∷ []) (gone_on counts view)

does : (move : Move) (view : View) → ViewInRanges view → Does view (leaving move view) (after_move move view)
unfolding after_move leaving
does (moves.offer octets) view ranges = pick (offers.offer octets view) refl where
  pick : (a : Answer View) → offers.offer octets view ≡ a → Does view [] (afterwards a view)
  pick (done last) e =
      let o = offer-done octets view last e in
      subst (Does view []) o.is (stays (grown-known (grown-accept _ _ view)))
  pick (refused why) e = stays (λ p known. refl)
does (moves.release leave room) view ranges = pick (releases.release leave room view) refl where
  pick : (a : Answer Release) → releases.release leave room view ≡ a → Does view (released_by a) (afterwards (view_after_release a) view)
  pick (done a) e = let o = release-leaves leave room view a e in rw (o.kind, o.number, o.note, o.octets, o.after) (leaves _)
  pick (refused why) e = stays (λ p known. refl)
does moves.solve view ranges = pick (solutions.solve view) refl where
  pick : (a : Answer View) → solutions.solve view ≡ a → Does view [] (afterwards a view)
  pick (done last) e = stays (grown-known ((solve-done view last e).grown ranges.kept))
  pick (refused why) e = stays (λ p known. refl)

-- ---- one number, from call to call
module _ {view : View} {p : ℕ} (small : p < kept_numbers) (known : Known view.cells p) where
  keeps-none : StaysKnown view [] view p
  keeps-none =
      record {
        stays = λ low. let same : p - 0 ≡ p = omega arith in ap (cell_at view.cells) same;
        leaves = λ past low. absurd (omega arith);
      }

  module _ {left : List Left} {held : View} (k : StaysKnown view left held p) where
    still : length left ≤ p → Known held.cells (p - length left)
    still low = ap (λ (c : Cell). is_unknown c.state) (k.stays low) ∙ known

    -- nothing left
    keeps-stays : {last : View} → ((q : ℕ) → Known held.cells q → cell_at last.cells q ≡ cell_at held.cells q)
        → StaysKnown view left last p
    keeps-stays same = record { stays = λ low. same (p - length left) (still low) ∙ k.stays low; leaves = k.leaves }

    -- the number at the base left, as it stood there
    module _ (r : ViewInRanges held) (x : Left)
        (is : x ≡ left_as (at_base held).state held.base (at_base held).note (at_base held).octets)
        (base : held.base ≡ (view.base + length left) % numbers) where
      long : length (left ++ (x ∷ [])) ≡ length left + 1
      long = length-append left (x ∷ [])

      goes_on : (counts : Counts) → length (left ++ (x ∷ [])) ≤ p
          → cell_at (gone_on counts held).cells (p - length (left ++ (x ∷ []))) ≡ cell_at view.cells p
      goes_on counts low =
          let one : suc (p - length (left ++ (x ∷ []))) ≡ p - length left = omega (arith, long) in
          cell-on counts held (p - length (left ++ (x ∷ []))) (rw r.kept (omega (arith, long)))
          ∙ ap (cell_at held.cells) one
          ∙ k.stays (omega (arith, long))

      leaves-now : p ≡ kept_before + length left
          → x
          ≡ left_as (cell_at view.cells p).state ((view.base + (p - kept_before)) % numbers) (cell_at view.cells p).note
          (cell_at view.cells p).octets
      leaves-now at =
          let here : p - length left ≡ kept_before = omega arith in
          let cell : at_base held ≡ cell_at view.cells p = ap (cell_at held.cells) (sym here) ∙ k.stays (omega arith) in
          let turn : held.base ≡ (view.base + (p - kept_before)) % numbers =
          base ∙ ap (λ (n : ℕ). (view.base + n) % numbers) (let same : length left ≡ p - kept_before = omega arith in same) in
          is ∙ ap₂ (λ (c : Cell) (n : ℕ). left_as c.state n c.note c.octets) cell turn

      keeps-left : (counts : Counts) → StaysKnown view (left ++ (x ∷ [])) (gone_on counts held) p
      keeps-left counts =
          record {
            stays = goes_on counts;
            leaves = λ past low.
                ⊎_elim
                (λ before. get_or-append left (x ∷ []) (left_as unknown 0 0 []) (p - kept_before) (omega arith) ∙ k.leaves past before)
                (λ now.
                let at : p ≡ kept_before + length left = omega (arith, long) in
                get_or_at left x [] (left_as unknown 0 0 []) (p - kept_before) (omega arith) ∙ leaves-now at)
                (below_or_not p (kept_before + length left));
          }

  -- one call more
  keeps-by : {left more : List Left} {held last : View} → StaysKnown view left held p → ViewInRanges held
      → held.base ≡ (view.base + length left) % numbers → Does held more last → StaysKnown view (left ++ more) last p
  keeps-by {left} k r base (stays same) = rw (append-nil left) (keeps-stays k same)
  keeps-by k r base (leaves counts) = keeps-left k r _ refl base counts

  -- ---- chains
  pub keeps : {calls : Calls} {held : View} → ViewInRanges view → GoesOn view calls held → StaysKnown view (left_by calls) held p
  unfolding left_by
  keeps r from = keeps-none
  keeps r (by {calls = calls} {call = call} {held = held} on says) =
      rw (left_is held call says) (keeps-by (keeps r on) (on-ranges r on) (went r on).reached (does (move_of call) held (on-ranges r on)))

pub called-keeps : {s t u : Session} {calls more : Calls} {view : View} → SeenAs view s → Called s calls t → Called t more u
    → (p : ℕ) → p < kept_numbers → Known (view_of t).cells p → StaysKnown (view_of t) (left_by more) (view_of u) p
called-keeps {t = t} seen called more p small known =
    let w = called-went seen called in
    let here : SeenAs (view_of t) t = record { within = w.seen.within; view = refl } in
    keeps small known (seen-ranges _ t here) (called_on here more)
