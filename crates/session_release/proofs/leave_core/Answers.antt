-- `session_release::leave_core` meets its contract. Assumes nothing.
use Rattle.std.proofs.Common.{◌≡◌, ℕ, Bool, true, false, not, ◌&&◌, eqb, ◌⊎◌, ⊎_elim, ne_eqb}
use Rattle.session_release.proofs.Release.{release-16, release-10, release-13, release-left, may-leave, not-blank}
use Rattle.session_release.proofs.leave_core.Goals as goal

-- the base is known, or may be skipped
goes : {state : ℕ} {skip : Bool} → ((state ≡ 0) × (skip ≡ true)) ⊎ (state ≡ 0 → ⊥) → (eqb state 0 && not skip) ≡ false
goes {state} {skip} so = ⊎_elim (λ w. rw (w.0, w.1)) (λ some. rw (ne_eqb state 0 some)) so

pub returns-then-all_passed : goal.returns-then-all_passed
returns-then-all_passed c = release-16 c.requires c.all_passed.ensures c.if-all_passed.true c.release_refused.ensures

pub returns-then-not-skip : goal.returns-then-not-skip
returns-then-not-skip c =
    release-10 c.requires c.all_passed.ensures c.if-all_passed.false c.kept_slot-slot.ensures
    c.state_at-state.ensures (rw (c.if-state-eq-UNKNOWN.true, c.if-not-skip.true)) c.release_refused-then-not-skip.ensures

pub returns-then-room-size : goal.returns-then-room-size
returns-then-room-size c =
    release-13 c.requires c.all_passed.ensures c.if-all_passed.false c.kept_slot-slot.ensures
    c.state_at-state.ensures (goes c.else-state-eq-UNKNOWN.either) c.size_at-size.ensures c.if-room-size.true c.release_refused-then-room-size.ensures

pub kind_of-kind-requires : goal.kind_of-kind-requires
kind_of-kind-requires c = not-blank c.requires c.kept_slot-slot.ensures c.state_at-state.ensures

pub move_on-moved-requires : goal.move_on-moved-requires
move_on-moved-requires c =
    record {
      in_ranges = c.requires;
      may_move_on = may-leave c.requires c.all_passed.ensures c.if-all_passed.false c.kept_slot-slot.ensures c.state_at-state.ensures
          c.kind_of-kind.ensures;
    }

pub returns : goal.returns
returns c =
    release-left c.requires c.all_passed.ensures c.if-all_passed.false c.kept_slot-slot.ensures
    c.state_at-state.ensures (goes c.else-state-eq-UNKNOWN.either) c.size_at-size.ensures c.if-room-size.false c.note_at-note.ensures
    c.kind_of-kind.ensures c.move_on-moved.ensures
