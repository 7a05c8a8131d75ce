-- The receiver is drained: all that wait for their release leave, in order and as they stand, and are counted; then a release is refused.
-- Assumes nothing.
use Rattle.std.proofs.Common.{Result, Ok, Err}
use Prim.Native.Nat.{ℕ, zero, suc, ◌+◌, ◌%◌, ◌≤◌, ◌<◌}
use mathlib.Core.Path.{◌≡◌, refl, sym, ap, ap₂, subst, ◌∙◌}
use mathlib.Core.List.{List, [], ◌∷◌}
use lib.ListN.{length}
use native.Mathlib.Omega.{arith}
use Rattle.octets.specs.Place.{tab}
use Rattle.octets.proofs.Laws.{tab-ext}
use Rattle.length.specs.declared.Refusal.{Refusal}
use Rattle.session.specs.Cells.{State, received, spare, Cell, cell_at, kept_before}
use Rattle.session.specs.Reached.{Unknown}
use Rattle.session.specs.Ranges.{Sound}
use Rattle.session.specs.View.{View, Counts, numbers, session_limit, gone_on}
use Rattle.session.specs.Release.{counted, moved_on}
use Rattle.session_held.specs.Table.{lent_by, view_of}
use Rattle.session_held.specs.Laid.{InRanges}
use Rattle.session_held.specs.declared.ReleaseKind.{ReleaseKind}
use Rattle.session_held.specs.declared.Session.{Session}
use Rattle.session_release.specs.declared.Released.{Released}
use Rattle.session_calls.proofs.Laws.{release-refused, release-done, release-handed}
use Rattle.sender_to_modem.specs.Transfer.{Delivered, delivered_as, Drained, ends, releases}
use Rattle.sender_to_modem.proofs.Ready.{Ready, leaving, release-one, release-none, cell-on, ready_on}

-- what waits i after the base, as the modem gets it
abbrev pub waiting_at : View → ℕ → ℕ → Delivered
waiting_at view q i =
    delivered_as (cell_at view.cells (kept_before + i)).state ((q + i) % numbers) (cell_at view.cells (kept_before + i)).octets

-- the counts after so many have left
unfoldable pub counts_on : ℕ → (ℕ → State) → Counts → Counts
counts_on zero kinds c = c
counts_on (suc n) kinds c = counts_on n (λ i. kinds (suc i)) (counted (kinds zero) c)

abbrev pub kinds_in : View → ℕ → State
kinds_in view i = (cell_at view.cells (kept_before + i)).state

-- what draining comes to, from a receiver with n waiting
pub record DrainsTo (q n : ℕ) (before : View) (more : List Delivered) (t : Session) : Type 0 where
  pub within : InRanges (lent_by t)
  pub ready : Ready (q + n) 0 (view_of t)
  pub modem : more ≡ tab n (waiting_at before q)
  pub counts : (view_of t).counts ≡ counts_on n (kinds_in before) before.counts

-- an answer is a number or a refusal, and not both
not-both : {r : Result Released Refusal} {kind : ReleaseKind} {number note size : ℕ} {why : Refusal} → r ≡ Ok (record { kind = kind; number = number; note = note; size = size })
    → r ≡ Err why → ⊥
not-both e f = let z : ◌≡◌ {A = ℕ} 0 1 = cc in omega arith

-- with an unknown base nothing leaves
pub drained-none : {s t : Session} {more : List Delivered} → InRanges (lent_by s) → Unknown (view_of s).cells kept_before → Drained s more t
    → (more ≡ []) × (t ≡ s)
drained-none {s} within u (ends {old = old} room owes answer) =
    let none = release-none (view_of s) (length old) u in
    (refl, (release-refused within owes none.1).1)
drained-none {s} within u (releases {old = old} room owes answer rest) =
    let none = release-none (view_of s) (length old) u in
    absurd (not-both answer (release-refused within owes none.1).0)

-- ---- one that waited leaves, and the rest after it
counts-ext : (n : ℕ) (f g : ℕ → State) (c : Counts) → ((i : ℕ) → i < n → f i ≡ g i) → counts_on n f c ≡ counts_on n g c
unfolding counts_on
counts-ext zero f g c same = refl
counts-ext (suc n) f g c same =
    ap (λ (k : State). counts_on n (λ i. f (suc i)) (counted k c)) (same zero (omega arith))
    ∙ counts-ext n (λ i. f (suc i)) (λ i. g (suc i)) (counted (g zero) c) (λ i low. same (suc i) (omega arith))

module _ {q n : ℕ} {before : View} (sound : Sound before) (ready : Ready q (suc n) before) (free : q < session_limit) where
  cell-after : (i : ℕ) → i < n → cell_at (moved_on before).cells (kept_before + i) ≡ cell_at before.cells (kept_before + suc i)
  cell-after i low =
      let place : suc (kept_before + i) ≡ kept_before + suc i = omega arith in
      cell-on sound ready free (kept_before + i) (omega (arith, ready.few)) ∙ ap (cell_at before.cells) place

  waiting-after : (i : ℕ) → i < n → waiting_at (moved_on before) (q + 1) i ≡ waiting_at before q (suc i)
  waiting-after i low =
      let place : q + 1 + i ≡ q + suc i = omega arith in
      ap₂ (λ (c : Cell) (m : ℕ). delivered_as c.state (m % numbers) c.octets) (cell-after i low) place

  modem-after : {first : Delivered} {more : List Delivered} → first ≡ waiting_at before q 0
      → more ≡ tab n (waiting_at (moved_on before) (q + 1))
      → first ∷ more ≡ tab (suc n) (waiting_at before q)
  unfolding tab
  modem-after now later =
      ap₂ (λ (d : Delivered) (l : List Delivered). d ∷ l) now
      (later ∙ tab-ext n (waiting_at (moved_on before) (q + 1)) (λ i. waiting_at before q (suc i)) waiting-after)

  counts-after : counts_on n (kinds_in (moved_on before)) (moved_on before).counts ≡ counts_on (suc n) (kinds_in before) before.counts
  unfolding counts_on gone_on
  counts-after =
      counts-ext n (kinds_in (moved_on before)) (λ i. kinds_in before (suc i)) _ (λ i low. ap (λ (c : Cell). c.state) (cell-after i low))

-- ---- all that waited
abbrev Drains : ℕ → Type 0
Drains n = (q : ℕ) (s t : Session) (more : List Delivered) → InRanges (lent_by s) → Ready q n (view_of s) → q + n ≤ session_limit
    → Drained s more t
    → DrainsTo q n (view_of s) more t

drains-none : Drains 0
unfolding tab counts_on
drains-none q s t more within ready fits drained =
    let none = drained-none within (ready.unknown kept_before (omega arith) (omega arith)) drained in
    let same : q ≡ q + 0 = omega arith in
    rw (none.0, none.1)
    (record { within = within; ready = subst (λ (m : ℕ). Ready m 0 (view_of s)) same ready; modem = refl; counts = refl })

drains-more : (n : ℕ) → Drains n → Drains (suc n)
drains-more n rest q s t more within ready fits (ends room owes answer) =
    let is = release-one within.sound ready (omega arith) room in
    absurd (not-both (release-done within owes is).0.4 answer)
drains-more n rest q s t more within ready fits (releases {old = old} {r = r} room owes answer drained) =
    let view = view_of s in
    let free : q < session_limit = omega arith in
    let is = release-one within.sound ready free room in
    let handed = release-handed within owes is answer in
    let after = (release-done within owes is).1 in
    let sound : Sound (moved_on view) = subst Sound after.view after.within.sound in
    let on : Ready (q + 1) n (view_of r.session) =
    subst (Ready (q + 1) n) (sym after.view) (ready_on within.sound ready free sound) in
    let tail = rest (q + 1) r.session t _ after.within on (omega arith) drained in
    let same : q + 1 + n ≡ q + suc n = omega arith in
    record {
      within = tail.within;
      ready = subst (λ (m : ℕ). Ready m 0 (view_of t)) same tail.ready;
      modem =
          modem-after within.sound ready free (first q view ready.base handed.same_kind handed.same_number handed.octets)
          (tail.modem ∙ ap (λ (v : View). tab n (waiting_at v (q + 1))) after.view);
      counts =
          tail.counts
          ∙ ap (λ (v : View). counts_on n (kinds_in v) v.counts) after.view
          ∙ counts-after within.sound ready free;
    }
  where
    first : (q : ℕ) (view : View) → view.base ≡ q % numbers → {kind : State} {number : ℕ} {octets : List ℕ} → kind ≡ (leaving view).kind
        → number ≡ (leaving view).number → octets ≡ (leaving view).octets
        → delivered_as kind number octets ≡ waiting_at view q 0
    first q view base e f g =
        let same : q ≡ q + 0 = omega arith in
        rw (e, f, g, base) (ap (λ (m : ℕ). delivered_as (leaving view).kind (m % numbers) (leaving view).octets) same)

pub drains : (n : ℕ) → Drains n
drains zero = drains-none
drains (suc n) = drains-more n (drains n)

-- ---- l from spares and then one received
pub counts-spares : (l : ℕ) (kinds : ℕ → State) (c : Counts) → ((i : ℕ) → i < l → kinds i ≡ spare) → kinds l ≡ received
    → counts_on (suc l) kinds c
    ≡ record { received = c.received + 1; spare = c.spare + l; repaired = c.repaired; lost = c.lost }
unfolding counts_on
counts-spares zero kinds c each last =
    let same : c.spare ≡ c.spare + 0 = omega arith in
    ap (λ (k : State). counted k c) last
    ∙ ap (λ (m : ℕ). record { received = c.received + 1; spare = m; repaired = c.repaired; lost = c.lost }) same
counts-spares (suc l) kinds c each last =
    let same : c.spare + 1 + l ≡ c.spare + suc l = omega arith in
    ap (λ (k : State). counts_on (suc l) (λ i. kinds (suc i)) (counted k c)) (each zero (omega arith))
    ∙ counts-spares l (λ i. kinds (suc i)) (counted spare c) (λ i low. each (suc i) (omega arith)) last
    ∙ ap (λ (m : ℕ). record { received = c.received + 1; spare = m; repaired = c.repaired; lost = c.lost }) same
