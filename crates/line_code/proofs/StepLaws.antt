-- One line: its own answer, then turns of releasing. Assumes nothing.
use Prim.Native.Nat.{ℕ, ◌+◌, ◌*◌, ◌≤◌}
use mathlib.Core.Path.{◌≡◌, refl}
use mathlib.Core.List.{List, [], ◌∷◌}
use lib.ListN.{length}
use native.Mathlib.Omega.{arith}
use Rattle.length.specs.Answers.{Answer, done, refused}
use Rattle.session.specs.Cells.{kept_ahead}
use Rattle.session.specs.View.{View}
use Rattle.session_held.specs.Table.{Lent, view_in}
use Rattle.session_held.specs.Laid.{InRanges}
use Rattle.line.specs.Lines.{silent, offer_made, line_offered, offer_line, answer_line, step, ◌then◌}
use Rattle.line.specs.Promise.{Does, Able, result_limit, step_limit}
use Rattle.line.proofs.Laws.{appends-none, appends-long}
use Rattle.line_code.specs.Turns.{own_answer, turns_after, turns}
use Rattle.line_code.proofs.ResultSteps.{length-refusal}
use Rattle.line_code.proofs.Stepping.{does-then}

-- ---- a line's own answer
own-none : (line : List ℕ) (view : View) → length line ≡ 0 → own_answer line view ≡ silent view
unfolding own_answer
own-none [] view none = refl
own-none (c ∷ line) view none = absurd (omega (arith, none))

own-some : (line : List ℕ) (view : View) → (length line ≡ 0 → ⊥) → own_answer line view ≡ offer_line line view
unfolding own_answer
own-some [] view some = absurd (some refl)
own-some (c ∷ line) view some = refl

pub owns_none : (line : List ℕ) {session : Lent} {old : List ℕ} {at : ℕ} → length line ≡ 0 → InRanges session → at ≤ length old
    → Does (own_answer line (view_in session)) old at session at old
owns_none line {session} none w inside =
    rw (own-none line (view_in session) none) (record { lent = appends-none inside; state = refl; within = w })

pub owns-line : (line : List ℕ) (view : View) {old : List ℕ} {at : ℕ} {session : Lent} {end : ℕ} {new : List ℕ} → (length line ≡ 0 → ⊥)
    → Does (offer_line line view) old at session end new → Does (own_answer line view) old at session end new
owns-line line view some d = rw (own-some line view some) d

-- ---- the turns after it
pub turns-none : (line : List ℕ) → length line ≡ 0 → kept_ahead + 1 ≡ turns_after line
unfolding turns_after
turns-none [] none = refl
turns-none (c ∷ line) none = absurd (omega (arith, none))

pub turns-some : (line : List ℕ) → (length line ≡ 0 → ⊥) → kept_ahead ≡ turns_after line
unfolding turns_after
turns-some [] some = absurd (some refl)
turns-some (c ∷ line) some = refl

pub turns-few : (line : List ℕ) {n : ℕ} → n ≡ turns_after line → n ≤ kept_ahead + 1
unfolding turns_after
turns-few [] e = omega (arith, e)
turns-few (c ∷ line) e = omega (arith, e)

-- ---- the room that both take
offer-short : (x : Answer View) (view : View) → length (offer_made x view).text ≤ result_limit
offer-short (done after) view = omega arith
offer-short (refused r) view = omega (arith, length-refusal r)

step-short : (line : List ℕ) (view : View) → length (own_answer line view).text + turns_after line * result_limit ≤ step_limit
unfolding own_answer turns_after offer_line
step-short [] view = omega arith
step-short (c ∷ line) view = omega (arith, offer-short (line_offered (c ∷ line) view) view)

-- ---- one after the other
step_is : (line : List ℕ) (view : View) → step line view ≡ (own_answer line view then turns (turns_after line))
unfolding step answer_line own_answer turns_after turns
step_is [] view = refl
step_is (c ∷ line) view = refl

module _ (line : List ℕ) (view : View) {old : List ℕ} {at : ℕ} {session : Lent} {end : ℕ} {new : List ℕ}
    (a : Does (own_answer line view) old at session end new) where
  pub step-ready : {n : ℕ} → n ≡ turns_after line → at + step_limit ≤ length old → Able (n * result_limit) session new end
  step-ready e room =
      record {
        within = a.within;
        room = omega (arith, e, a.lent.after, appends-long a.lent, step-short line view);
      }

  pub step-made : {n : ℕ} {after : Lent} {later : ℕ} {newer : List ℕ} → n ≡ turns_after line
      → Does (turns n (view_in session)) new end after later newer → Does (step line view) old at after later newer
  step-made {n} e b = rw (step_is line view, ← e) (does-then a (turns n) b)
