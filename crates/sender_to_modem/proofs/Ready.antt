-- Where a receiver stands that is fed in order with spares alone: so many numbers have left, the next so many are known and wait for their
-- release, all after them is unknown, and no datagram after them is held. A release takes one of them; with none waiting it is refused.
-- Assumes nothing.
use Prim.Native.Nat.{ℕ, suc, ◌+◌, ◌%◌, ◌≤◌, ◌<◌}
use mathlib.Core.Path.{◌≡◌, refl, ap, ◌∙◌}
use mathlib.Core.Bool.{Bool, true, false, not, cond, ◌&&◌}
use mathlib.Core.Logic.{⊎_elim}
use lib.ListN.{length, get_or-eq_default}
use lib.Dec.{leb, ltb}
use native.Mathlib.Omega.{arith}
use borrow.Author.Tests.{lt-leb, le-ltb}
use Rattle.octets.proofs.Laws.{same_or_not, below_or_not}
use Rattle.length.specs.Refusals.{all_passed, base_unknown, no_room, refusal}
use Rattle.length.specs.Answers.{done, refused, refuse}
use Rattle.length.specs.declared.Refusal.{Refusal}
use Rattle.datagram.specs.Sizes.{packet_limit}
use Rattle.session.specs.Cells.{Cell, is_unknown, cell_at, unknown_at, kept_before, kept_ahead, kept_numbers}
use Rattle.session.specs.Held.{nothing_held, held_at}
use Rattle.session.specs.Reached.{Known, Unknown}
use Rattle.session.specs.Ranges.{Sound}
use Rattle.session.specs.View as views
use Rattle.session.specs.View.{View, sum, numbers, session_limit, gone_on}
use Rattle.session.specs.Release.{Release, counted, at_base, moved_on, release}
use Rattle.session.proofs.Laws.{size_fits, sum-counted, last_place, last_ahead, cell-next, cell-last, held_next, held-last}

pub record Ready (q n : ℕ) (view : View) : Type 0 where
  pub passed : sum view.counts ≡ q
  pub base : view.base ≡ q % numbers
  pub few : n ≤ kept_ahead
  pub known : (p : ℕ) → p < kept_before + n → Known view.cells p
  pub unknown : (p : ℕ) → kept_before + n ≤ p → p < kept_numbers → Unknown view.cells p
  pub none : (d : ℕ) → n ≤ d → held_at view.held d ≡ nothing_held

-- ---- a release
-- what leaves is what stands at the base
abbrev pub leaving : View → Release
leaving view =
    record {
      kind = (at_base view).state;
      number = view.base;
      note = (at_base view).note;
      octets = (at_base view).octets;
      after = moved_on view;
    }

-- the tests of a release without leave
tests : (b₁ b₂ b₃ : Bool) (r : Release) → b₁ ≡ false → b₂ ≡ false → b₃ ≡ false
    → cond b₁ (refuse all_passed) (cond (b₂ && not false) (refuse base_unknown) (cond b₃ (refuse no_room) (done r))) ≡ done r
tests b₁ b₂ b₃ r e₁ e₂ e₃ = rw (e₁, e₂, e₃)

module _ {q n : ℕ} {view : View} (sound : Sound view) (ready : Ready q (suc n) view) (free : q < session_limit) where
  base-fits : length (at_base view).octets ≤ packet_limit
  base-fits = size_fits (at_base view).state (length (at_base view).octets) false (sound.cell kept_before (omega arith))

  pub release-one : {room : ℕ} → packet_limit ≤ room → release false room view ≡ done (leaving view)
  unfolding release
  release-one {room} enough =
      tests (leb session_limit (sum view.counts)) (unknown_at view.cells kept_before) (ltb room (length (at_base view).octets))
      (leaving view)
      (lt-leb session_limit (sum view.counts) (omega (arith, ready.passed)))
      (ready.known kept_before (omega arith))
      (le-ltb room (length (at_base view).octets) (omega (arith, base-fits)))

  abbrev counts-on : views.Counts
  counts-on = counted (at_base view).state view.counts

  one-counted : sum counts-on ≡ sum view.counts + 1
  one-counted = sum-counted (at_base view).state (length (at_base view).octets) view.counts (sound.cell kept_before (omega arith))

  counts-fit : sum counts-on ≤ session_limit
  counts-fit = omega (arith, one-counted, ready.passed)

  -- each place has what the next one had
  pub cell-on : (p : ℕ) → p < last_place → cell_at (moved_on view).cells p ≡ cell_at view.cells (suc p)
  cell-on p low = cell-next counts-on sound one-counted counts-fit p low

  unknown-on : (p : ℕ) → p < last_place → unknown_at (moved_on view).cells p ≡ unknown_at view.cells (suc p)
  unknown-on p low = ap (λ (c : Cell). is_unknown c.state) (cell-on p low)

  unknown-last : Unknown (moved_on view).cells last_place
  unknown-last = ap (λ (c : Cell). is_unknown c.state) (cell-last counts-on sound one-counted counts-fit)

  none-on : (after : Sound (moved_on view)) (d : ℕ) → n ≤ d → held_at (moved_on view).held d ≡ nothing_held
  none-on after d past =
      ⊎_elim (λ (low : d < last_ahead). held_next counts-on sound one-counted counts-fit d low ∙ ready.none (suc d) (omega arith))
      (λ (high : last_ahead ≤ d).
      ⊎_elim
      (λ (e : d ≡ last_ahead). ap (held_at (moved_on view).held) e ∙ held-last counts-on sound one-counted counts-fit)
      (λ other. get_or-eq_default (moved_on view).held nothing_held (omega (arith, after.ahead)))
      (same_or_not d last_ahead))
      (below_or_not d last_ahead)

  pub ready_on : Sound (moved_on view) → Ready (q + 1) n (moved_on view)
  unfolding gone_on
  ready_on after =
      record {
        passed = omega (arith, one-counted, ready.passed);
        base = omega (arith, ready.base);
        few = omega (arith, ready.few);
        known = λ p low. unknown-on p (omega (arith, ready.few)) ∙ ready.known (suc p) (omega arith);
        unknown = λ p high low.
            ⊎_elim (λ (e : p ≡ last_place). ap (unknown_at (moved_on view).cells) e ∙ unknown-last)
            (λ other. unknown-on p (omega arith) ∙ ready.unknown (suc p) (omega arith) (omega arith))
            (same_or_not p last_place);
        none = none-on after;
      }

-- with an unknown number at the base it is refused
pub release-none : (view : View) (room : ℕ) → Unknown view.cells kept_before → (why : Refusal) × (release false room view ≡ refused why)
unfolding release
release-none view room u = pick (leb session_limit (sum view.counts)) refl where
  pick : (b : Bool) → leb session_limit (sum view.counts) ≡ b → (why : Refusal) × (release false room view ≡ refused why)
  pick true e = (refusal all_passed, rw e)
  pick false e = (refusal base_unknown, rw (e, u))
