-- The calls for the line of the cases, made one after the other: each has an answer that its promise allows. Assumes nothing.
use Prim.Native.Nat.{ℕ, ◌≤◌}
use mathlib.Core.Path.{◌≡◌, refl, sym, subst, ◌∙◌}
use mathlib.Core.Bool.{Bool, true, false}
use mathlib.Core.List.{List, [], ◌∷◌, ◌++◌}
use lib.ListN.{length, replicate}
use native.Mathlib.Omega.{arith}
use Rattle.length.specs.Answers.{Answer, done, refused, mapped, over}
use Rattle.frame.specs.Frame.{frame_limit, Frame}
use Rattle.frame.specs.Joiner.{in_storage}
use Rattle.frame.specs.Promise.{Told, nothing, good_of, bad_of, handed_outcome, frame_octets, told_in, field_answer, joiner_after}
use Rattle.frame.specs.Promise.{FieldOwes, loss_answer, joiner_after_loss, LossOwes}
use Rattle.frame.specs.Line.{Field, row_of, frames_left, Event, a_field, a_loss, events_on, row_right}
use Rattle.frame.specs.Cases.{line_with, fresh_joiner}
use Rattle.frame.specs.Claims.{frames_in, HandsOut, fed_nothing, fed_field, fed_loss, LineExample}
use Rattle.frame.specs.declared.Joiner.{Joiner}
use Rattle.frame.specs.declared.Joined.{Joined}
use Rattle.frame.proofs.Cases.{cases}
use Rattle.frame.proofs.Outcome.{handed_named}
use Rattle.frame.proofs.Line.{honest-line}

-- ---- an answer for each call
outcome-named : (a : Answer Told) → handed_outcome (handed_named a) ≡ a
outcome-named (done nothing) = refl
outcome-named (done (good_of n)) = refl
outcome-named (done (bad_of n)) = refl
outcome-named (refused r) = refl

-- a buffer with room for any frame
abbrev lent : List ℕ
lent = replicate 300 0

fed_by : Joiner → Field → Joined
fed_by j f =
    record {
      joiner = joiner_after 300 f.type f.octets j;
      answer = handed_named (told_in (field_answer 300 f.type f.octets j));
    }

lost-by : Joiner → Joined
lost-by j = record { joiner = joiner_after_loss j; answer = handed_named (told_in (loss_answer j)) }

pub answers : (j : Joiner) (events : List Event) → (frames : List Frame) × HandsOut j events frames
unfolding fed_by lost-by
answers j [] = ([], fed_nothing)
answers j (a_field f ∷ events) =
    let rest = answers (fed_by j f).joiner events in
    let new : List ℕ = over (mapped frame_octets (field_answer 300 f.type f.octets j)) lent in
    let owes : FieldOwes j f.type f.octets lent new (fed_by j f) =
    record { answer = outcome-named (told_in (field_answer 300 f.type f.octets j)); lent = refl; state = refl } in
    (frames_in (fed_by j f).answer new ++ rest.0, fed_field {f = f} {old = lent} {new = new} {r = fed_by j f} (omega arith) owes rest.1)
answers j (a_loss ∷ events) =
    let rest = answers (lost-by j).joiner events in
    (rest.0, fed_loss {r = lost-by j} (record { answer = outcome-named (told_in (loss_answer j)); state = refl }) rest.1)

-- ---- the line
-- what the calls return is what is left of the sender's frames
left-of : (a b c d : Bool) → row_right (row_of (line_with a b c d)) ≡ true
    → HandsOut fresh_joiner (events_on (line_with a b c d)) (frames_left (line_with a b c d))
left-of a b c d right =
    let run = answers fresh_joiner (events_on (line_with a b c d)) in
    let is = honest-line.with_losses (line_with a b c d) cases.joiner.fresh right run.1 in
    subst (HandsOut fresh_joiner (events_on (line_with a b c d))) is run.1

pub line-example : LineExample
unfolding row_of
line-example =
    record {
      answers = answers;
      whole = subst (HandsOut fresh_joiner (events_on (line_with false false false false))) cases.lines.none-lost
          (left-of false false false false cases.lines.right);
      second_lost = subst (HandsOut fresh_joiner (events_on (line_with false true false false))) cases.lines.lost-second
          (left-of false true false false cases.lines.right);
    }
