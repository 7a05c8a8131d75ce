-- The claims of the host's calls on a joiner: from the promises. Assumes nothing.
use Prim.Native.Nat.{ℕ, zero, suc}
use mathlib.Core.Path.{◌≡◌, refl, sym, ap, ap₂, ◌∙◌}
use mathlib.Core.Bool.{Bool, true, false, not, cond, false≢true}
use mathlib.Core.List.{List, [], ◌∷◌}
use mathlib.Core.Option.{Option, none, some}
use mathlib.Core.Logic.{⊎_elim}
use lib.ListN.{length}
use lib.Dec.{ltb, eqb}
use native.Mathlib.Omega.{arith}
use borrow.Author.Tests.{lt-ltb, eq-eqb, ne_eqb}
use Rattle.octets.proofs.Laws.{true-or-false, and_left, and_right}
use Rattle.length.specs.Refusals.{not_assigned, no_room, wrong_data, outside_ranges, frame_too_long, number_of}
use Rattle.length.specs.Answers.{Answer, done, refused, mapped, over}
use Rattle.length.specs.Tables.{when, unless}
use Rattle.packet.specs.Packet.{types_limit, right_data}
use Rattle.frame.specs.Frame.{joiner_edition}
use Rattle.frame.specs.Frame.{Frame, good, bad, Joining, tainted, opened, adds, passes, with_added, on_open, field_step, would_pass}
use Rattle.frame.specs.Joiner.{held_as, joining_of, joiner_in_ranges}
use Rattle.frame.specs.declared.Joiner.{Joiner}
use Rattle.frame.specs.Promise.{frame_octets, told_in, changes, field_answer, joiner_after, loss_answer, joiner_after_loss}
use Rattle.host_answers.specs.Joiner.{flag_of, frame_told}
use Rattle.host.specs.Joiner.{Memory, memory_of, in_memory, joiner_in, no_flag, field_joined, memory_after}
use Rattle.host.specs.Joiner.{loss_in, memory_after_loss}
use Rattle.host.specs.JoinerClaims.{OneJoined, RefusalsLeave, JoinerClaims}
use Rattle.host_answers.specs.declared.joiner.AfterField.{AfterField}
use Rattle.host_answers.specs.declared.joiner.HandedFrame.{HandedFrame}
use Rattle.host_answers.specs.declared.joiner.JoinerHead.{JoinerHead}

-- one memory, one head and one frame
head_of : Memory → JoinerHead
head_of m = record { tainted = m.tainted; size = m.size }

same_head : (r q : JoinerHead) {frame other : List ℕ} → memory_of r.tainted r.size frame ≡ memory_of q.tainted q.size other
    → (r ≡ q) × (frame ≡ other)
unfolding head_of
same_head r q e = (ap head_of e, ap (λ (m : Memory). m.frame) e)

same_after : {r q : AfterField} → r.head ≡ q.head → r.frame ≡ q.frame → r ≡ q
same_after e f = ap₂ (λ (h : JoinerHead) (x : HandedFrame). record { head = h; frame = x }) e f

one-joined : OneJoined
one-joined =
    record {
      fresh = λ {frame} {other} {r} {q} a b. same_head r q (a.state ∙ sym b.state);
      field =
          λ {type} {octets} {before} {old} {frame} {new} {frame₂} {new₂} {r} {q} a b.
          let one = same_head r.head q.head (a.state ∙ sym b.state) in
          (same_after one.0 (a.answer ∙ sym b.answer), one.1, a.lent ∙ sym b.lent);
      lost =
          λ {before} {frame} {frame₂} {r} {q} a b.
          let one = same_head r.head q.head (a.state ∙ sym b.state) in
          (same_after one.0 (a.answer ∙ sym b.answer), one.1);
    }

-- ---- refusals
flag-back : (tainted : ℕ) → ltb 1 tainted ≡ false → flag_of (eqb tainted 1) ≡ tainted
flag-back zero e = refl
flag-back (suc zero) e = refl
flag-back (suc (suc n)) e = absurd (false≢true (sym e ∙ lt-ltb 1 (suc (suc n)) (omega arith)))

memory-back : (m : Memory) → no_flag m ≡ false → in_memory (joiner_in m) ≡ m
memory-back m low = ap (λ (t : ℕ). memory_of t m.size m.frame) (flag-back m.tainted low)

-- an answer that is neither done nor 18 changes nothing, and no refusal writes
no_change : (a : Answer (Option Frame)) → ((frame_told (told_in a)).refusal ≡ 0 → ⊥) → ((frame_told (told_in a)).refusal ≡ number_of frame_too_long → ⊥)
    → changes a ≡ false
no_change (done none) more other = absurd (more refl)
no_change (done (some (good frame))) more other = absurd (more refl)
no_change (done (some (bad frame))) more other = absurd (more refl)
no_change (refused why) more other = ne_eqb (number_of why.reason) (number_of frame_too_long) other

no-writing : (a : Answer (Option Frame)) (old : List ℕ) → ((frame_told (told_in a)).refusal ≡ 0 → ⊥) → over (mapped frame_octets a) old ≡ old
no-writing (done none) old more = absurd (more refl)
no-writing (done (some (good frame))) old more = absurd (more refl)
no-writing (done (some (bad frame))) old more = absurd (more refl)
no-writing (refused why) old more = refl

-- a changed joiner, or the one before
stays : (m : Memory) (b : Bool) (j : Joiner) → no_flag m ≡ false → b ≡ false → in_memory (cond b j (joiner_in m)) ≡ m
stays m b j low same = rw same (memory-back m low)

module _ (room type : ℕ) (octets : List ℕ) (m : Memory) where
  field-stays : ((frame_told (told_in (field_joined room type octets m))).refusal ≡ 0 → ⊥)
      → ((frame_told (told_in (field_joined room type octets m))).refusal ≡ number_of frame_too_long → ⊥)
      → memory_after room type octets m ≡ m
  unfolding field_joined memory_after joiner_after
  field-stays more other =
      ⊎_elim (λ high. rw high)
      (λ low.
      let more-in = rw low at more in
      let other-in = rw low at other in
      let a = field_answer room type octets (joiner_in m) in
      rw low (stays m (changes a) _ low (no_change a more-in other-in)))
      (true-or-false (no_flag m))

outside-stays : (b : Bool) → ((frame_told (told_in (unless (when b outside_ranges ∷ []) none))).refusal ≡ 0 → ⊥)
    → changes (unless (when b outside_ranges ∷ []) none) ≡ false
unfolding unless
outside-stays true more = refl
outside-stays false more = absurd (more refl)

loss-stays : (m : Memory) → ((frame_told (told_in (loss_in m))).refusal ≡ 0 → ⊥) → memory_after_loss m ≡ m
unfolding loss_in memory_after_loss loss_answer joiner_after_loss
loss-stays m more =
    ⊎_elim (λ high. rw high)
    (λ low.
    let more-in = rw low at more in
    rw low (stays m (changes (loss_answer (joiner_in m))) _ low (outside-stays (not (joiner_in_ranges (joiner_in m))) more-in)))
    (true-or-false (no_flag m))

-- ---- 18: the frame would pass 300
other-number : {n : ℕ} → eqb n (number_of frame_too_long) ≡ false → n ≡ number_of frame_too_long → ⊥
other-number {n} differs e = false≢true (sym differs ∙ ap (λ (k : ℕ). eqb k (number_of frame_too_long)) e)

done-told : (x : Option Frame) → (frame_told (told_in (done x))).refusal ≡ 0
done-told none = refl
done-told (some (good frame)) = refl
done-told (some (bad frame)) = refl

only-18 : (a b c d e : Bool) (x : Option Frame)
    → (frame_told (told_in (unless
    (when a outside_ranges ∷ when b not_assigned ∷ when c wrong_data ∷ when d frame_too_long ∷ when e no_room ∷ []) x))).refusal ≡ number_of frame_too_long
    → d ≡ true
unfolding unless
only-18 true b c d e x told = absurd (other-number refl told)
only-18 false true c d e x told = absurd (other-number refl told)
only-18 false false true d e x told = absurd (other-number refl told)
only-18 false false false true e x told = refl
only-18 false false false false true x told = absurd (other-number refl told)
only-18 false false false false false x told = absurd (other-number refl (sym (done-told x) ∙ told))

passing-taints : (type : ℕ) (octets : List ℕ) (v : Joining) → would_pass type octets v ≡ true → (field_step type octets v).after ≡ tainted
unfolding would_pass field_step on_open with_added
passing-taints type octets tainted e = absurd (false≢true e)
passing-taints type octets (opened frame) e =
    rw (and_left (adds type) (passes frame octets) e, and_right (adds type) (passes frame octets) e)

changes-18 : (a : Answer (Option Frame)) → (frame_told (told_in a)).refusal ≡ number_of frame_too_long → changes a ≡ true
changes-18 (done x) told = refl
changes-18 (refused why) told = eq-eqb (number_of why.reason) (number_of frame_too_long) told

module _ (room type : ℕ) (octets : List ℕ) (m : Memory) where
  passes-told : (frame_told (told_in (field_answer room type octets (joiner_in m)))).refusal ≡ number_of frame_too_long
      → would_pass type octets (joining_of (joiner_in m)) ≡ true
  unfolding field_answer
  passes-told told =
      let step = field_step type octets (joining_of (joiner_in m)) in
      only-18 (not (joiner_in_ranges (joiner_in m))) (ltb (types_limit joiner_edition) type)
      (not (right_data joiner_edition type (ltb 0 (length octets)))) (would_pass type octets (joining_of (joiner_in m)))
      (ltb room (length (frame_octets step.handed))) step.handed told

  field-taints : (frame_told (told_in (field_joined room type octets m))).refusal ≡ number_of frame_too_long
      → memory_after room type octets m ≡ in_memory (held_as tainted)
  unfolding field_joined memory_after joiner_after
  field-taints told =
      ⊎_elim (λ high. absurd (other-number refl (rw high at told)))
      (λ low.
      let told_in_lem = rw low at told in
      rw (low, changes-18 (field_answer room type octets (joiner_in m)) told_in_lem)
      (ap (λ (v : Joining). in_memory (held_as v)) (passing-taints type octets (joining_of (joiner_in m)) (passes-told told_in_lem))))
      (true-or-false (no_flag m))

refusals-leave : RefusalsLeave
refusals-leave =
    record {
      field =
          λ {type} {octets} {before} {old} h more other.
          let is = ap (λ (f : HandedFrame). f.refusal) h.answer in (
            h.state ∙ field-stays (length old) type octets before (λ e. more (is ∙ e)) (λ e. other (is ∙ e)),
            h.lent ∙ no-writing (field_joined (length old) type octets before) old (λ e. more (is ∙ e)),
          );
      too_long =
          λ {type} {octets} {before} {old} h told.
          let is = sym (ap (λ (f : HandedFrame). f.refusal) h.answer) ∙ told in (
            h.state ∙ field-taints (length old) type octets before is,
            h.lent ∙ no-writing (field_joined (length old) type octets before) old (λ e. other-number refl (sym e ∙ is)),
          );
      lost = λ {before} h more. h.state ∙ loss-stays before (λ e. more (ap (λ (f : HandedFrame). f.refusal) h.answer ∙ e));
    }

pub joiner-claims : JoinerClaims
joiner-claims = record { one_outcome = one-joined; refusals = refusals-leave }
