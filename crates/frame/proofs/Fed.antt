-- What a call does to a joiner that holds v: the joiner after it, the frame that it handed out, and that it is not 17. Assumes nothing.
use Prim.Native.Nat.{ℕ, ◌+◌, ◌≤◌, ◌<◌}
use mathlib.Core.Path.{◌≡◌, refl, sym, ap, subst, ◌∙◌}
use mathlib.Core.Bool.{Bool, true, false, not, cond, ◌&&◌, ◌||◌, false≢true}
use mathlib.Core.List.{List, [], ◌∷◌, ◌++◌}
use Rattle.std.proofs.Common.{Result, Err}
use mathlib.Core.Logic.{⊎_elim}
use mathlib.Core.Option.{Option, none, some}
use lib.ListN.{length, take, drop, length-append}
use lib.Seq.{take-append_seam}
use lib.Dec.{leb, ltb, eqb}
use native.Mathlib.Omega.{arith}
use borrow.Author.Tests.{le-ltb, leb-true, ltb-false}
use Rattle.octets.proofs.Laws.{true-or-false, and_left, and_right}
use Rattle.length.specs.Refusals.{refusal, not_assigned, no_room, wrong_data, outside_ranges, frame_too_long}
use Rattle.length.specs.Answers.{Answer, done, refused, refuse, mapped, over}
use Rattle.length.specs.Tables.{when, unless}
use Rattle.length.specs.declared.Refusal.{Refusal}
use Rattle.packet.specs.Packet.{types_limit, right_data}
use Rattle.frame.specs.Frame.{joiner_edition, frame_limit, Joining, tainted, opened, Frame, good, bad, adds, hands_good, hands_bad}
use Rattle.frame.specs.Frame.{ends_frame, Step, passes, with_added, good_frame, on_open, field_step, would_pass}
use Rattle.frame.specs.Joiner.{held_as, joining_of, ranges_of, joiner_in_ranges}
use Rattle.frame.specs.Promise.{Told, handed_outcome, frame_octets, told_in, changes, field_answer, joiner_after, FieldOwes}
use Rattle.frame.specs.Promise.{loss_answer, joiner_after_loss, LossOwes, FreshMade}
use Rattle.frame.specs.Line.{Field, right_field, list_of}
use Rattle.frame.specs.Claims.{HandedOut, Never17, frames_in}
use Rattle.frame.specs.declared.Joiner.{Joiner}
use Rattle.frame.specs.declared.Joined.{Joined}
use Rattle.frame.specs.declared.Handed.{Handed}
use Rattle.frame.proofs.Laws.{Fitting, held-ranges, held-joining}
use Rattle.frame.proofs.Outcome.{handed_named, answer-is}

-- ---- what is kept fits the storage
grown-fits : (frame octets : List ℕ) (b : Bool) → passes frame octets ≡ b → Fitting (cond b tainted (opened (frame ++ octets)))
grown-fits frame octets true e = 0
grown-fits frame octets false e =
    rw (length-append frame octets) (ltb-false frame_limit (length frame + length octets) e)

pub step_fits : (type : ℕ) (octets : List ℕ) (v : Joining) → Fitting (field_step type octets v).after
unfolding field_step on_open with_added
step_fits type octets tainted = ends (ends_frame type) where
  ends : (b : Bool) → Fitting (cond b (opened []) tainted)
  ends true = omega arith
  ends false = 0
step_fits type octets (opened frame) = by (adds type) (hands_bad type) (hands_good type) where
  by : (a b c : Bool)
      → Fitting
      (cond {A = Step} a (record { handed = none; after = cond (passes frame octets) tainted (opened (frame ++ octets)) })
      (cond b (record { handed = some (bad frame); after = opened [] })
      (cond c (record { handed = good_frame frame; after = opened [] }) (record { handed = none; after = opened [] })))).after
  by true b c = grown-fits frame octets (passes frame octets) refl
  by false true c = omega arith
  by false false true = omega arith
  by false false false = omega arith

-- ---- the frame that a step hands out
-- where 18 is given nothing is handed out
long-none : (type : ℕ) (octets : List ℕ) (v : Joining) → would_pass type octets v ≡ true → (field_step type octets v).handed ≡ none
unfolding field_step would_pass on_open
long-none type octets tainted e = absurd (false≢true e)
long-none type octets (opened frame) e = rw (and_left (adds type) (passes frame octets) e)

-- what is handed out has no more octets than were kept
pub handed-fits : (type : ℕ) (octets : List ℕ) (v : Joining) → Fitting v
    → length (frame_octets (field_step type octets v).handed) ≤ frame_limit
unfolding field_step on_open good_frame
handed-fits type octets tainted fits = omega arith
handed-fits type octets (opened frame) fits = by (adds type) (hands_bad type) (hands_good type) (ltb 0 (length frame)) where
  by : (a b c d : Bool)
      → length
      (frame_octets
      (cond {A = Step} a (record { handed = none; after = with_added frame octets })
      (cond b (record { handed = some (bad frame); after = opened [] })
      (cond c (record { handed = cond d (some (good frame)) none; after = opened [] })
      (record { handed = none; after = opened [] })))).handed)
      ≤ frame_limit
  by true b c d = omega arith
  by false true c d = fits
  by false false true true = fits
  by false false true false = omega arith
  by false false false d = omega arith

-- ---- a field that a packet may hold, with room for any frame
-- neither 17, 12, 14 nor 13 is given
answer-held : (room : ℕ) (f : Field) (v : Joining) → Fitting v → right_field f ≡ true → frame_limit ≤ room
    → field_answer room f.type f.octets (held_as v)
    ≡ cond (would_pass f.type f.octets v) (refuse frame_too_long) (done (field_step f.type f.octets v).handed)
unfolding field_answer unless
answer-held room f v fits right wide =
    let known : ltb (types_limit joiner_edition) f.type ≡ false =
    le-ltb (types_limit joiner_edition) f.type
    (leb-true f.type (types_limit joiner_edition) (and_left (leb f.type (types_limit joiner_edition)) _ right)) in
    let enough : ltb room (length (frame_octets (field_step f.type f.octets v).handed)) ≡ false =
    le-ltb room _ (omega (arith, handed-fits f.type f.octets v fits)) in
    rw (
      held-ranges v fits,
      known,
      and_right (leb f.type (types_limit joiner_edition)) _ right,
      held-joining v,
      enough,
    )
    (given (would_pass f.type f.octets v))
  where
    given : (b : Bool)
        → unless (when b frame_too_long ∷ none ∷ []) (field_step f.type f.octets v).handed
        ≡ cond b (refuse frame_too_long) (done (field_step f.type f.octets v).handed)
    given true = refl
    given false = refl

-- an answer that is done, and the frame at the front of the buffer
frames-done : (handed : Option Frame) (old new : List ℕ) (h : Result Handed Refusal) → handed_outcome h ≡ told_in (done handed)
    → new ≡ over (mapped frame_octets (done handed)) old → frames_in h new ≡ list_of handed
frames-done none old new h e l = ap (λ (k : Result Handed Refusal). frames_in k new) (answer-is h e)
frames-done (some (good frame)) old new h e l =
    ap (λ (k : Result Handed Refusal). frames_in k new) (answer-is h e)
    ∙ ap (λ (o : List ℕ). good o ∷ []) (ap (take (length frame)) l ∙ take-append_seam frame (drop (length frame) old))
frames-done (some (bad frame)) old new h e l =
    ap (λ (k : Result Handed Refusal). frames_in k new) (answer-is h e)
    ∙ ap (λ (o : List ℕ). bad o ∷ []) (ap (take (length frame)) l ∙ take-append_seam frame (drop (length frame) old))

-- what a field does
pub record FedBy (after : Joining) (handed : Option Frame) (new : List ℕ) (r : Joined) : Type 0 where
  pub joiner : r.joiner ≡ held_as after
  pub frames : frames_in r.answer new ≡ list_of handed

pub fed-field : (v : Joining) {f : Field} {old new : List ℕ} {r : Joined} → Fitting v → right_field f ≡ true → frame_limit ≤ length old
    → FieldOwes (held_as v) f.type f.octets old new r
    → FedBy (field_step f.type f.octets v).after (field_step f.type f.octets v).handed new r
unfolding joiner_after
fed-field v {f} {old} {new} {r} fits right wide m =
    ⊎_elim
    (λ long.
    let told : field_answer (length old) f.type f.octets (held_as v) ≡ refuse frame_too_long =
    answer-held (length old) f v fits right wide ∙ rw long in
    let is : r.answer ≡ Err (refusal frame_too_long) = answer-is r.answer (m.answer ∙ ap told_in told) in
    record {
      joiner = m.state ∙ rw (told, held-joining v);
      frames = ap (λ (h : Result Handed Refusal). frames_in h new) is ∙ ap list_of (sym (long-none f.type f.octets v long));
    })
    (λ short.
    let told : field_answer (length old) f.type f.octets (held_as v) ≡ done (field_step f.type f.octets v).handed =
    answer-held (length old) f v fits right wide ∙ rw short in
    record {
      joiner = m.state ∙ rw (told, held-joining v);
      frames =
          frames-done (field_step f.type f.octets v).handed old new r.answer (m.answer ∙ ap told_in told)
          (m.lent ∙ ap (λ (a : Answer (Option Frame)). over (mapped frame_octets a) old) told);
    })
    (true-or-false (would_pass f.type f.octets v))

-- what a lost number does
pub fed-loss : (v : Joining) {r : Joined} → Fitting v → LossOwes (held_as v) r → r.joiner ≡ held_as tainted
unfolding loss_answer joiner_after_loss unless
fed-loss v fits m = m.state ∙ rw (held-ranges v fits)
