-- The whole replay, on plain values: what stood in the lent buffer put back, a text that was measured first, and the front of a longer
-- buffer. Assumes nothing.
use Rattle.std.proofs.Common.{Result, Ok, Err}
use Prim.Native.Nat.{ℕ, ◌≤◌, ◌<◌}
use mathlib.Core.Path.{◌≡◌, refl, sym, ap, ◌∙◌}
use mathlib.Core.Bool.{Bool, true, false, cond}
use mathlib.Core.List.{List, ◌++◌, append_assoc, append-nil}
use lib.ListN.{length, take, drop, take-append-drop, drop_of_length-le}
use lib.Seq.{take_at, length-take-le, drop-append-le}
use lib.Dec.{leb}
use native.Mathlib.Omega.{arith}
use borrow.Author.Tests.{le-leb, lt-leb, leb-true, leb-false}
use Rattle.length.specs.Refusals.{no_room}
use Rattle.length.specs.Answers.{Answer, done, refuse, over}
use Rattle.length.specs.Promise.{Put}
use Rattle.length.specs.declared.Refusal.{Refusal}
use Rattle.line.specs.Lines.{Made}
use Rattle.trace_replay.specs.Replay.{replay}
use Rattle.trace_replay.specs.Promise.{ReplayAnswer, replayed_outcome, fitted_text, replay_answer, Replays}
use Rattle.trace_replay.specs.declared.Replayed.{Replayed}
use Rattle.trace_replay_code.specs.Inner.{Plays}

-- ---- an answer tells whether the text fits
-- the answer by the test
abbrev asked : Made → Bool → Answer ReplayAnswer
asked made b = replay_answer made (cond b (done made.text) (refuse no_room))

module _ (made : Made) (old : List ℕ) where
  done-fits : {r : Result Replayed Refusal} {d : Replayed} → replayed_outcome r ≡ replay_answer made (fitted_text made old) → r ≡ Ok d
      → length made.text ≤ length old
  done-fits {r} {d} told is = leb-true (length made.text) (length old) (by (leb (length made.text) (length old)) refl) where
    by : (b : Bool) → leb (length made.text) (length old) ≡ b → b ≡ true
    by true e = refl
    by false e =
        let bad : replayed_outcome (Ok d) ≡ asked made false = sym (ap replayed_outcome is) ∙ told ∙ ap (asked made) e in
        let z : ◌≡◌ {A = ℕ} 0 1 = cc in
        absurd (omega arith)

  refused_full : {r : Result Replayed Refusal} {why : Refusal} → replayed_outcome r ≡ replay_answer made (fitted_text made old) → r ≡ Err why
      → length old < length made.text
  refused_full {r} {why} told is = leb-false (length made.text) (length old) (by (leb (length made.text) (length old)) refl) where
    by : (b : Bool) → leb (length made.text) (length old) ≡ b → b ≡ false
    by true e =
        let bad : replayed_outcome (Err why) ≡ asked made true = sym (ap replayed_outcome is) ∙ told ∙ ap (asked made) e in
        let z : ◌≡◌ {A = ℕ} 0 1 = cc in
        absurd (omega arith)
    by false e = refl

  -- the lent buffer where it fits, and where it does not
  over-fits : length made.text ≤ length old → over (fitted_text made old) old ≡ made.text ++ drop (length made.text) old
  over-fits fits =
      ap (λ (b : Bool). over (cond b (done made.text) (refuse no_room)) old) (le-leb (length made.text) (length old) fits)

  over-full : length old < length made.text → over (fitted_text made old) old ≡ old
  over-full full =
      ap (λ (b : Bool). over (cond b (done made.text) (refuse no_room)) old) (lt-leb (length made.text) (length old) full)

-- ---- played, and written
-- where the text fits
plays-fits : {trace numbers old new : List ℕ} {r : Result Replayed Refusal} → Plays trace numbers true old new r
    → length (replay numbers trace).text ≤ length old
    → Replays trace numbers old new r
plays-fits {trace} {numbers} {old} p fits =
    record { answer = p.answer; lent = p.written refl fits ∙ sym (over-fits (replay numbers trace) old fits) }

pub plays-done : {trace numbers old new : List ℕ} {r : Result Replayed Refusal} {d : Replayed} → Plays trace numbers true old new r
    → r ≡ Ok d → Replays trace numbers old new r
plays-done {trace} {numbers} {old} p is = plays-fits p (done-fits (replay numbers trace) old p.answer is)

-- where it does not, and the lent buffer is as it was
plays-full : {trace numbers : List ℕ} {writes : Bool} {old mid new : List ℕ} {r : Result Replayed Refusal} {why : Refusal}
    → Plays trace numbers writes old mid r → r ≡ Err why → new ≡ old
    → Replays trace numbers old new r
plays-full {trace} {numbers} {old = old} p is same =
    let made = replay numbers trace in
    record { answer = p.answer; lent = same ∙ sym (over-full made old (refused_full made old p.answer is)) }

-- ---- put back
module _ {old zeros aside : List ℕ} {count : ℕ} (saved : Put old zeros aside count) where
  aside-front : take count aside ≡ old
  aside-front = ap (take count) saved.lent ∙ take_at old (drop (length old) zeros) count (sym saved.answer)

  pub aside-long : count ≡ length (take count aside)
  aside-long = saved.answer ∙ sym (ap length aside-front)

  module _ {trace numbers : List ℕ} {writes : Bool} {mid : List ℕ} {r : Result Replayed Refusal} (p : Plays trace numbers writes old mid r) where
    pub aside-fits : length (take count aside) ≤ length mid
    aside-fits = omega (arith, ap length aside-front, p.long)

    pub plays-back : {why : Refusal} {new : List ℕ} {n : ℕ} → r ≡ Err why → Put (take count aside) mid new n
        → Replays trace numbers old new r
    plays-back is back =
        let end : length mid ≤ length old = omega (arith, p.long) in
        plays-full p is
        (back.lent
        ∙ ap (λ (l : List ℕ). l ++ drop (length l) mid) aside-front
        ∙ ap (λ (l : List ℕ). old ++ l) (drop_of_length-le mid end)
        ∙ append-nil old)

-- ---- measured first
module _ {trace numbers old mid : List ℕ} {r : Result Replayed Refusal} (p : Plays trace numbers false old mid r) where
  pub measured-full : {why : Refusal} → r ≡ Err why → Replays trace numbers old mid r
  measured-full is = plays-full p is (p.unwritten refl)

  pub measured-fits : {d : Replayed} {new : List ℕ} {q : Result Replayed Refusal} → r ≡ Ok d → Plays trace numbers true mid new q
      → Replays trace numbers old new q
  measured-fits is q =
      let same : mid ≡ old = p.unwritten refl in
      plays-fits (rw same at q) (done-fits (replay numbers trace) old p.answer is)

-- ---- in the front of a longer buffer
pub front_long : (n : ℕ) (out : List ℕ) → n < length out → length (take n out) ≡ n
front_long n out inside = length-take-le n out (omega arith)

module _ (n : ℕ) (out : List ℕ) (inside : n < length out) {trace numbers part : List ℕ} {r : Result Replayed Refusal}
    (p : Replays trace numbers (take n out) part r) where
  pub front-done : {d : Replayed} → r ≡ Ok d → Replays trace numbers out (part ++ drop n out) r
  front-done is =
      let made = replay numbers trace in
      let text = made.text in
      let fits : length text ≤ length (take n out) = done-fits made (take n out) p.answer is in
      let room : length text ≤ length out = omega (arith, front_long n out inside) in
      record {
        answer =
            p.answer
            ∙ ap (asked made) (le-leb (length text) (length (take n out)) fits ∙ sym (le-leb (length text) (length out) room));
        lent =
            ap (λ (l : List ℕ). l ++ drop n out) (p.lent ∙ over-fits made (take n out) fits)
            ∙ append_assoc text (drop (length text) (take n out)) (drop n out)
            ∙ ap (λ (l : List ℕ). text ++ l)
            (sym (drop-append-le (length text) (take n out) (drop n out) fits) ∙ ap (drop (length text)) (take-append-drop n out))
            ∙ sym (over-fits made out room);
      }

  pub front-full : {why : Refusal} {new : List ℕ} {q : Result Replayed Refusal} → r ≡ Err why
      → Replays trace numbers (part ++ drop n out) new q → Replays trace numbers out new q
  front-full is again =
      let made = replay numbers trace in
      let same : part ++ drop n out ≡ out =
      ap (λ (l : List ℕ). l ++ drop n out) (p.lent ∙ over-full made (take n out) (refused_full made (take n out) p.answer is))
      ∙ take-append-drop n out in
      rw same at again
