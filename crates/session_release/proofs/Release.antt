-- What `release` is by the tests of the code, and one law for each answer of `release_core`: the tests that led there give the
-- promise. Assumes nothing.
use Rattle.std.proofs.Common.{◌≡◌, ℕ, ◌%◌, ◌<◌, ◌≤◌, Bool, true, false, not, ◌&&◌, eqb, List, sym, refl, ap, ◌∙◌, subst, ⊎_elim, arith, le-ltb, lt-ltb, ne_eqb, Ok}
use mathlib.Core.Bool.{false≢true}
use Rattle.octets.proofs.Laws.{below_or_not, and_right}
use Rattle.length.specs.Refusals.{base_unknown, no_room, all_passed}
use Rattle.length.specs.Answers.{done, refuse}
use Rattle.length.proofs.Laws.{done-same}
use Rattle.length.specs.declared.Reason.{Reason}
use Rattle.session.specs.Cells.{unknown_at, kept_before}
use Rattle.session_slots.specs.Store.{part}
use Rattle.session_slots.proofs.Laws.{length_part}
use Rattle.session.specs.Ranges.{size_right}
use Rattle.session.specs.Release.{moved_on, release}
use Rattle.session_held.specs.Slots.{slots_kept}
use Rattle.session_held.specs.Table.{Lent, lent, last_state, state_of, state_in, size_in, note_in, cell_in, cells_of, view_in, state_numbered}
use Rattle.session_held.specs.Laid.{InRanges}
use Rattle.session_held.specs.declared.Counts.{Counts}
use Rattle.session_held.specs.declared.ReleaseKind.{ReleaseKind}
use Rattle.session_held.proofs.Laws.{unknown-number}
use Rattle.session_release.specs.Steps.{Named, Passed, release_refused}
use Rattle.session_release.specs.Promise.{MayMoveOn, MovesOn, StaysInSlot, Leaves}
use Rattle.session_release.specs.declared.ReleaseDone.{ReleaseDone}
use Rattle.session_release.proofs.Base.{goes_on, base_there, base-cell, base-kind, base-size, base-unknown, base-octets, base-state}

-- ---- what the definition says, by the tests of the code
module _ {b : ℕ} {c : Counts} {t o g : List ℕ} (w : InRanges (lent b c t o g)) {p : Bool} (limit : Passed c p) (leave : Bool) (room : ℕ)
  where
    release-passed : p ≡ true → release leave room (view_in (lent b c t o g)) ≡ refuse all_passed
    unfolding release view_in
    release-passed passed = rw (sym limit.test ∙ passed)

    module _ (more : p ≡ false) {slot : ℕ} (at_base : slot ≡ b % slots_kept) {waits : Bool}
        (test : (eqb (state_in t slot) 0 && not leave) ≡ waits) where
      base-waits : (unknown_at (cells_of b t o) kept_before && not leave) ≡ waits
      base-waits = ap (λ (u : Bool). u && not leave) (base-unknown w at_base ∙ sym (unknown-number (state_in t slot))) ∙ test

      release-waits : waits ≡ true → release leave room (view_in (lent b c t o g)) ≡ refuse base_unknown
      unfolding release view_in
      release-waits stops = rw (sym limit.test ∙ more, base-waits, stops)

      release-short : waits ≡ false → room < size_in t slot → release leave room (view_in (lent b c t o g)) ≡ refuse no_room
      unfolding release view_in
      release-short goes short =
          rw (
            sym limit.test ∙ more,
            base-waits,
            goes,
            base-octets w at_base,
            lt-ltb room (size_in t slot) short,
          )

      release-done : waits ≡ false → size_in t slot ≤ room
          → release leave room (view_in (lent b c t o g))
          ≡ done
          (record {
            kind = state_numbered (state_in t slot);
            number = b;
            note = note_in t slot;
            octets = part o slot (size_in t slot);
            after = moved_on (view_in (lent b c t o g));
          })
      unfolding release view_in cell_in
      release-done goes fits =
          rw (
            sym limit.test ∙ more,
            base-waits,
            goes,
            base-octets w at_base,
            le-ltb room (size_in t slot) fits,
            base-cell w at_base,
          )

-- the test is on the state that was read
same_test : (leave : Bool) {state s : ℕ} → state ≡ s → (eqb s 0 && not leave) ≡ (eqb state 0 && not leave)
same_test leave read = ap (λ (n : ℕ). eqb n 0 && not leave) (sym read)

-- ---- each answer
-- a refusal: the very session
refused-release : {leave : Bool} {room b : ℕ} {c : Counts} {t o g : List ℕ} {r : ReleaseDone} (n : Reason) → InRanges (lent b c t o g)
    → release leave room (view_in (lent b c t o g)) ≡ refuse n
    → r ≡ release_refused b c n
    → Leaves leave room (lent b c t o g) (lent r.base r.counts t o g) r.answer
refused-release n w e made =
    rw made
    (record {
      told = rw e;
      stored = λ r is. let z : ◌≡◌ {A = ℕ} 0 1 = cc in absurd (omega arith);
      state = rw e;
      within = w;
      stays = λ x same. refl;
    })

module _ {leave : Bool} {room b : ℕ} {c : Counts} {t o g : List ℕ} {p : Bool} (w : InRanges (lent b c t o g)) (limit : Passed c p) where
  pub release-16 : {r : ReleaseDone} → p ≡ true → r ≡ release_refused b c all_passed
      → Leaves leave room (lent b c t o g) (lent r.base r.counts t o g) r.answer
  release-16 passed made = refused-release all_passed w (release-passed w limit leave room passed) made

  module _ {slot state : ℕ} (more : p ≡ false) (at_base : slot ≡ b % slots_kept) (read : state ≡ state_in t slot) where
    pub release-10 : {r : ReleaseDone} → (eqb state 0 && not leave) ≡ true → r ≡ release_refused b c base_unknown
        → Leaves leave room (lent b c t o g) (lent r.base r.counts t o g) r.answer
    release-10 waits made = refused-release base_unknown w (release-waits w limit leave room more at_base (same_test leave read) waits) made

    module _ {s : ℕ} (goes : (eqb state 0 && not leave) ≡ false) (size : s ≡ size_in t slot) where
      pub release-13 : {r : ReleaseDone} → room < s → r ≡ release_refused b c no_room
          → Leaves leave room (lent b c t o g) (lent r.base r.counts t o g) r.answer
      release-13 short made =
          refused-release no_room w (release-short w limit leave room more at_base (same_test leave read) goes (rw size at short)) made

      pub release-left : {kind : ReleaseKind} {note : ℕ} {after : Lent} → s ≤ room → note ≡ note_in t slot → Named state kind
          → MovesOn (lent b c t o g) after → Leaves leave room (lent b c t o g) after (Ok (record { kind = kind; number = b; note = note; size = s }))
      release-left {kind} {after = after} fits noted told moved =
          let low = base-size w at_base in
          let long = length_part o slot (size_in t slot) (base_there w at_base) low in
          let whole = release-done w limit leave room more at_base (same_test leave read) goes (rw size at fits) in
          let kinds : state_of kind ≡ state_numbered (state_in t slot) = told.same ∙ ap state_numbered read in
          let there : part after.octets (b % slots_kept) (size_in t slot) ≡ part o slot (size_in t slot) =
          moved.kept (size_in t slot) low ∙ ap (λ (i : ℕ). part o i (size_in t slot)) (sym at_base) in
          record {
            told = rw (whole, long, size, noted, kinds);
            stored = λ r is.
                subst (StaysInSlot after.octets) (done-same (sym whole ∙ is)) (record { fits = rw long low; octets = rw (long, there) });
            state = rw whole moved.state;
            within = moved.within;
            stays = λ x same. let z : ◌≡◌ {A = ℕ} 0 1 = cc in absurd (omega arith);
          }

-- the number that leaves is the one at the base, and not all have passed
pub may-leave : {b slot state : ℕ} {c : Counts} {t o g : List ℕ} {p : Bool} {kind : ReleaseKind}
    → InRanges (lent b c t o g) → Passed c p → p ≡ false → slot ≡ b % slots_kept → state ≡ state_in t slot → Named state kind
    → MayMoveOn kind (lent b c t o g)
may-leave w limit more at_base read told =
    record { same = told.same ∙ ap state_numbered read ∙ sym (base-kind w at_base); left = goes_on limit more }

-- it is not blank
blank-size : (n size : ℕ) → last_state ≤ n → size_right (state_numbered n) size false ≡ true → ⊥
unfolding size_right state_numbered
blank-size n size high e =
    false≢true
    (and_right (eqb size 0) false
    (rw (ne_eqb n 0 (λ z. omega arith), ne_eqb n 1 (λ z. omega arith), ne_eqb n 2 (λ z. omega arith), ne_eqb n 3 (λ z. omega arith)) at e))

pub not-blank : {b slot state : ℕ} {c : Counts} {t o g : List ℕ} → InRanges (lent b c t o g) → slot ≡ b % slots_kept
    → state ≡ state_in t slot → state < last_state
not-blank {slot = slot} {state = state} {t = t} w at_base read =
    ⊎_elim (λ low. low)
    (λ high. absurd (blank-size (state_in t slot) (size_in t slot) (rw read at high) (base-state w at_base)))
    (below_or_not state last_state)
