-- Joiners that the calls handed out: each holds something that fits, so none is 17, and the frames are those of the definition.
-- Assumes nothing.
use Prim.Native.Nat.{ℕ, ◌≤◌}
use mathlib.Core.Path.{◌≡◌, refl, sym, ap, ap₂, subst, ◌∙◌}
use mathlib.Core.Bool.{Bool, true, false, not, cond, ◌&&◌}
use mathlib.Core.List.{List, [], ◌∷◌, ◌++◌}
use Rattle.std.proofs.Common.{Result, Err}
use mathlib.Core.Option.{Option, none}
use lib.ListN.{length}
use lib.Dec.{leb, ltb, eqb}
use native.Mathlib.Omega.{arith}
use borrow.Author.Tests.{le-ltb, lt-ltb, leb-true, leb-false}
use Rattle.octets.proofs.Laws.{and_left, and_right}
use Rattle.length.specs.Refusals.{refusal, not_assigned, no_room, wrong_data, outside_ranges, frame_too_long, number_of}
use Rattle.length.specs.Answers.{Answer, done, refused, refuse}
use Rattle.length.specs.Tables.{when, unless}
use Rattle.length.specs.declared.Refusal.{Refusal}
use Rattle.length.specs.declared.Reason.{Reason}
use Rattle.packet.specs.Packet.{types_limit, right_data}
use Rattle.frame.specs.Frame.{joiner_edition, frame_limit, Joining, tainted, fresh_joining, Frame, Step, field_step, would_pass}
use Rattle.frame.specs.Joiner.{held_as, joining_of, joiner_in_ranges}
use Rattle.frame.specs.Promise.{Told, handed_outcome, frame_octets, told_in, changes, field_answer, joiner_after, FieldOwes}
use Rattle.frame.specs.Promise.{loss_answer, joiner_after_loss, LossOwes}
use Rattle.frame.specs.Line.{Field, right_field, Event, a_field, a_loss, event_step, list_of, handed_by}
use Rattle.frame.specs.Claims.{HandedOut, Never17, frames_in, HandsOut, fed_nothing, fed_field, fed_loss, AnyEvents}
use Rattle.frame.specs.declared.Joiner.{Joiner}
use Rattle.frame.specs.declared.Joined.{Joined}
use Rattle.frame.specs.declared.Handed.{Handed}
use Rattle.frame.proofs.Laws.{Fitting, held-ranges, held-joining}
use Rattle.frame.proofs.Outcome.{answer-is}
use Rattle.frame.proofs.Fed.{step_fits, FedBy, fed-field, fed-loss}

-- ---- joiners that the calls handed out
-- each holds something that fits
pub record Holds (j : Joiner) : Type 0 where
  pub kept : Joining
  pub fits : Fitting kept
  pub held : j ≡ held_as kept

pub hands_out : {j : Joiner} → HandedOut j → Holds j
unfolding joiner_after joiner_after_loss
hands_out (HandedOut.fresh m) = record { kept = fresh_joining; fits = omega arith; held = m.state }
hands_out (HandedOut.fed {j = j} {type} {octets} {old} {new} {r} before m) =
    after (hands_out before) (changes (field_answer (length old) type octets j)) refl
  where
    after : Holds j → (b : Bool) → changes (field_answer (length old) type octets j) ≡ b → Holds r.joiner
    after h true e =
        record {
          kept = (field_step type octets (joining_of j)).after;
          fits = step_fits type octets (joining_of j);
          held = m.state ∙ rw e;
        }
    after h false e = record { kept = h.kept; fits = h.fits; held = m.state ∙ rw e h.held }
hands_out (HandedOut.lost {j = j} {r} before m) = after (hands_out before) (changes (loss_answer j)) refl where
  after : Holds j → (b : Bool) → changes (loss_answer j) ≡ b → Holds r.joiner
  after h true e = record { kept = tainted; fits = 0; held = m.state ∙ rw e }
  after h false e = record { kept = h.kept; fits = h.fits; held = m.state ∙ rw e h.held }

pub holds-ranges : {j : Joiner} → Holds j → joiner_in_ranges j ≡ true
holds-ranges h = ap joiner_in_ranges h.held ∙ held-ranges h.kept h.fits

-- ---- 17 is not given within the ranges
abbrev number_in : Answer Told → ℕ
number_in (done told) = 0
number_in (refused why) = number_of why.reason

others : (a b c d : Bool) (h : Option Frame)
    → 17 ≡ number_in (told_in (unless (when a not_assigned ∷ when b wrong_data ∷ when c frame_too_long ∷ when d no_room ∷ []) h)) → ⊥
unfolding unless
others true b c d h e = omega arith
others false true c d h e = omega arith
others false false true d h e = omega arith
others false false false true h e = omega arith
others false false false false h e = omega arith

field-never : {j : Joiner} {type : ℕ} {octets old new : List ℕ} {r : Joined} → joiner_in_ranges j ≡ true → FieldOwes j type octets old new r
    → r.answer ≡ Err (refusal outside_ranges) → ⊥
unfolding field_answer unless
field-never {j} {type} {octets} {old} {new} {r} inside m is =
    others (ltb (types_limit joiner_edition) type) (not (right_data joiner_edition type (ltb 0 (length octets))))
    (would_pass type octets (joining_of j))
    (ltb (length old) (length (frame_octets (field_step type octets (joining_of j)).handed)))
    (field_step type octets (joining_of j)).handed
    (rw inside at (ap number_in (sym (ap handed_outcome is) ∙ m.answer)))

loss-never : {j : Joiner} {r : Joined} → joiner_in_ranges j ≡ true → LossOwes j r → r.answer ≡ Err (refusal outside_ranges) → ⊥
unfolding loss_answer unless
loss-never {j} {r} inside m is =
    let e : ◌≡◌ {A = ℕ} 17 0 = rw inside at (ap number_in (sym (ap handed_outcome is) ∙ m.answer)) in
    omega arith

pub never-17 : Never17
never-17 =
    record {
      within = λ {j} out. holds-ranges (hands_out out);
      field = λ {j} {type} {octets} {old} {new} {r} out m. field-never (holds-ranges (hands_out out)) m;
      loss = λ {j} {r} out m. loss-never (holds-ranges (hands_out out)) m;
    }

-- ---- any events
-- a field that a packet may not hold
wrong_answer : (room : ℕ) (f : Field) (v : Joining) → Fitting v → right_field f ≡ false
    → (why : Reason) × (field_answer room f.type f.octets (held_as v) ≡ refuse why) × (eqb (number_of why) (number_of frame_too_long) ≡ false)
unfolding field_answer unless
wrong_answer room f v fits wrong = by (leb f.type (types_limit joiner_edition)) refl where
  by : (b : Bool) → leb f.type (types_limit joiner_edition) ≡ b
      → (why : Reason) × (field_answer room f.type f.octets (held_as v) ≡ refuse why) × (eqb (number_of why) (number_of frame_too_long) ≡ false)
  by false e =
      let over = leb-false f.type (types_limit joiner_edition) e in
      (not_assigned, rw (held-ranges v fits, lt-ltb (types_limit joiner_edition) f.type over), refl)
  by true e =
      let bad-data : right_data joiner_edition f.type (ltb 0 (length f.octets)) ≡ false = rw e at wrong in
      let known = leb-true f.type (types_limit joiner_edition) e in
      (wrong_data, rw (held-ranges v fits, le-ltb (types_limit joiner_edition) f.type known, bad-data), refl)

wrong-field : (v : Joining) {f : Field} {old new : List ℕ} {r : Joined} → Fitting v → right_field f ≡ false
    → FieldOwes (held_as v) f.type f.octets old new r → FedBy v none new r
unfolding joiner_after
wrong-field v {f} {old} {new} {r} fits wrong m =
    let x = wrong_answer (length old) f v fits wrong in
    let told = x.1 in
    let other = x.2 in
    let is : r.answer ≡ Err (refusal x.0) = answer-is r.answer (m.answer ∙ ap told_in told) in
    record { joiner = m.state ∙ rw (told, other); frames = ap (λ (h : Result Handed Refusal). frames_in h new) is }

-- what a call for a field does, and what is kept fits
record FedOn (f : Field) (v : Joining) (new : List ℕ) (r : Joined) : Type 0 where
  fed : FedBy (event_step (a_field f) v).after (event_step (a_field f) v).handed new r
  fits : Fitting (event_step (a_field f) v).after

fed-on : (v : Joining) {f : Field} {old new : List ℕ} {r : Joined} → Fitting v → frame_limit ≤ length old
    → FieldOwes (held_as v) f.type f.octets old new r → FedOn f v new r
unfolding event_step
fed-on v {f} {old} {new} {r} fits wide m = by (right_field f) refl where
  by : (b : Bool) → right_field f ≡ b → FedOn f v new r
  by true e = record { fed = rw e (fed-field v fits e wide m); fits = rw e (step_fits f.type f.octets v) }
  by false e = record { fed = rw e (wrong-field v fits e m); fits = rw e fits }

handed-by : {events : List Event} (v : Joining) (j : Joiner) {frames : List Frame} → Fitting v → j ≡ held_as v → HandsOut j events frames
    → frames ≡ handed_by v events
unfolding handed_by event_step
handed-by v j fits held fed_nothing = refl
handed-by v j fits held (fed_field {f = f} {old} {new} {r} wide owes next) =
    let on : FedOn f v new r = fed-on v {f = f} fits wide (subst (λ (k : Joiner). FieldOwes k f.type f.octets old new r) held owes) in
    ap₂ (λ (a b : List Frame). a ++ b) on.fed.frames
    (handed-by (event_step (a_field f) v).after r.joiner on.fits on.fed.joiner next)
handed-by v j fits held (fed_loss {r = r} owes next) =
    let joiner = fed-loss v fits (subst (λ (k : Joiner). LossOwes k r) held owes) in
    handed-by tainted r.joiner 0 joiner next

pub any-events : AnyEvents
any-events = record { handed = λ {j} {events} {frames} out fed. from (hands_out out) fed } where
  from : {j : Joiner} {events : List Event} {frames : List Frame} → Holds j → HandsOut j events frames
      → frames ≡ handed_by (joining_of j) events
  from {j} {events} h fed =
      handed-by h.kept j h.fits h.held fed
      ∙ ap (λ (v : Joining). handed_by v events) (sym (ap joining_of h.held ∙ held-joining h.kept))
