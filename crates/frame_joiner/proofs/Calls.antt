-- The functions of this crate, on plain values: one law for each way in which one returns. Assumes nothing.
use Prim.Native.Nat.{ℕ, zero, suc, ◌+◌, ◌-◌, ◌≤◌, ◌<◌}
use mathlib.Core.Path.{◌≡◌, refl, sym, ap, ap₂, subst, ◌∙◌}
use mathlib.Core.Bool.{Bool, true, false, not, cond, ◌&&◌, false≢true}
use mathlib.Core.List.{List, [], ◌∷◌, ◌++◌}
use mathlib.Core.Logic.{⊎_elim}
use mathlib.Core.Option.{Option, none, some}
use Rattle.std.proofs.Common.{Ok}
use lib.ListN.{length, take, drop, replicate, length-append, take-append-drop}
use lib.Seq.{drop-drop}
use lib.Dec.{ltb, eqb}
use native.Mathlib.Omega.{arith}
use borrow.Author.Tests.{lt-ltb, le-ltb, ltb-true, ltb-false, eq-eqb, ne_eqb, not-true, not-false}
use borrow.Rule.Slice.PartMut.{mid_of, put_mid}
use Rattle.octets.proofs.Laws.{below_or_not, true-or-false, and_left, and_right}
use Rattle.length.specs.Refusals.{refusal, not_assigned, no_room, wrong_data, outside_ranges, frame_too_long}
use Rattle.length.specs.Answers.{Answer, done, refuse}
use Rattle.length.specs.Tables.{when, unless}
use Rattle.length.specs.Promise.{Put}
use Rattle.length.proofs.Laws.{put_next}
use Rattle.packet.specs.Packet.{types_limit, right_data}
use Rattle.frame.specs.Frame.{joiner_edition, frame_limit, Joining, tainted, opened, Frame, good, bad, adds, hands_good, hands_bad, ends_frame}
use Rattle.frame.specs.Frame.{Step, passes, with_added, good_frame, on_open, field_step, would_pass}
use Rattle.frame.specs.Joiner.{in_storage, held_as, joining_of, ranges_of}
use Rattle.frame.specs.Promise.{frame_octets, field_answer, FieldOwes, loss_answer, joiner_after_loss, LossOwes}
use Rattle.frame_joiner.specs.Inner.{LaidOut, joiner_of, joined_of, kept_as, unchanged, Remains, leaves, Adds, adds_to, Gives, gives_to}
use Rattle.frame_joiner.specs.Inner.{Drops, Admitted, FieldFed}
use Rattle.frame.specs.declared.Joiner.{Joiner}
use Rattle.frame.specs.declared.Handed.{Handed}
use Rattle.frame.specs.declared.Handed.TheVariants as handed
use Rattle.frame_joiner.specs.declared.inside.Kept.{Kept}
use Rattle.frame_joiner.proofs.Storage.{length-open, drop-open, in-ranges-laid}
use Rattle.frame_joiner.proofs.Owing.{owes-stays, owes-tainted, owes_nothing, owes-good, owes-bad}

-- ---- add
pub add-over : {size : ℕ} {octets storage new : List ℕ} {r : Kept} → frame_limit - size < length octets → new ≡ in_storage []
    → r ≡ unchanged true 0 frame_too_long → Adds size octets storage new r
add-over {size} {octets} over cleared told =
    record { whole = λ old. rw (lt-ltb (frame_limit - size) (length octets) over, cleared, told) }

-- zeros after octets that were put over zeros
drop-zeros : (m n : ℕ) → drop {A = ℕ} m (replicate n 0) ≡ replicate (n - m) 0
drop-zeros zero n = ap (λ (k : ℕ). replicate {A = ℕ} k 0) {x = n} {y = n - 0} (omega arith)
drop-zeros (suc m) zero = ap (λ (k : ℕ). replicate {A = ℕ} k 0) {x = 0} {y = 0 - suc m} (omega arith)
drop-zeros (suc m) (suc n) = drop-zeros m n ∙ ap (λ (k : ℕ). replicate {A = ℕ} k 0) {x = n - m} {y = suc n - suc m} (omega arith)

pub add-fits : {size n : ℕ} {octets storage part : List ℕ} → LaidOut size storage → length octets ≤ frame_limit - size
    → Put octets (mid_of size (length storage - size) storage) part n
    → Adds size octets storage (put_mid size (length storage - size) storage part) (kept_as false (size + n) (Ok handed.Nothing))
unfolding in_storage
add-fits {size} {n} {octets} {storage} {part} l fits put =
    let open-long = length-open l in
    let front : Put (take size storage) storage storage size =
    record {
      inside = omega (arith, l.few, l.long);
      answer = sym open-long;
      lent = sym (ap (λ (k : ℕ). take size storage ++ drop k storage) open-long ∙ take-append-drop size storage);
    } in
    let both = put_next front put in
    let whole : length (take size storage ++ octets) ≡ size + length octets =
    length-append (take size storage) octets ∙ ap (λ (k : ℕ). k + length octets) open-long in
    let left : frame_limit - size - length octets ≡ frame_limit - (size + length octets) = omega arith in
    let rest : drop (size + length octets) storage ≡ replicate (frame_limit - (size + length octets)) 0 =
    sym (drop-drop (length octets) size storage)
    ∙ ap (drop (length octets)) (drop-open l)
    ∙ drop-zeros (length octets) (frame_limit - size)
    ∙ ap (λ (k : ℕ). replicate k 0) left in
    let new : put_mid size (length storage - size) storage part ≡ in_storage (take size storage ++ octets) =
    both.lent
    ∙ ap (λ (k : ℕ). (take size storage ++ octets) ++ drop k storage) whole
    ∙ ap (λ (z : List ℕ). (take size storage ++ octets) ++ z) rest
    ∙ ap (λ (k : ℕ). (take size storage ++ octets) ++ replicate (frame_limit - k) 0) (sym whole) in
    record {
      whole =
          λ old.
          rw (le-ltb (frame_limit - size) (length octets) fits)
          (ap₂ (λ (s : List ℕ) (k : ℕ). leaves (kept_as false (size + k) (Ok handed.Nothing)) s old) new put.answer);
    }

-- ---- give
pub give-short : {size : ℕ} {answer : Handed} {storage old : List ℕ} {r : Kept} → length old < size → r ≡ unchanged false size no_room
    → Gives size answer storage storage old old r
give-short {size} {old = old} short told = record { whole = rw (lt-ltb (length old) size short, told) }

pub give-whole : {size n : ℕ} {answer : Handed} {storage new_storage old new : List ℕ} → LaidOut size storage → size ≤ length old
    → Put (take size storage) old new n → new_storage ≡ in_storage [] → Gives size answer storage new_storage old new (kept_as false 0 (Ok answer))
give-whole {size} {answer = answer} {storage} {new_storage} {old} {new} l room put cleared =
    record {
      whole =
          rw (le-ltb (length old) size room)
          (ap₂ (λ (s z : List ℕ). leaves (kept_as false 0 (Ok answer)) s z) cleared
          (put.lent ∙ ap (λ (k : ℕ). take size storage ++ drop k old) (length-open l)));
    }

-- ---- a field while a frame is open
-- a type that hands out a good frame, or not; a frame with octets, or without
dropped : (frame : List ℕ) (a b : Bool) → (a && b) ≡ false
    → ◌≡◌ {A = Step}
    (cond a (record { handed = cond b (some (good frame)) none; after = opened [] }) (record { handed = none; after = opened [] }))
    (record { handed = none; after = opened [] })
dropped frame true true e = absurd (false≢true (sym e))
dropped frame true false e = refl
dropped frame false b e = refl

-- what is left, put for what it equals
feeds-left : {size type : ℕ} {octets storage new_storage old new : List ℕ} {r : Kept} (left : Remains) → leaves r new_storage new ≡ left
    → FieldOwes (joiner_of false size storage) type octets old left.lent (joined_of left.kept left.storage)
    → FieldFed false size type octets storage new_storage old new r
feeds-left {size} {type} {octets} {storage} {old = old} left e owes =
    record {
      owes =
          subst (λ (l : Remains). FieldOwes (joiner_of false size storage) type octets old l.lent (joined_of l.kept l.storage))
          (sym e) owes;
    }

module _ {size type : ℕ} {octets storage : List ℕ} (g : Admitted size type octets storage) where
  -- 17, 12 and 14 are not given: what the others leave
  answer-open : (room : ℕ)
      → field_answer room type octets (joiner_of false size storage)
      ≡ unless
      (when (adds type && passes (take size storage) octets) frame_too_long
      ∷ when (ltb room (length (frame_octets (on_open type octets (take size storage)).handed))) no_room
      ∷ [])
      (on_open type octets (take size storage)).handed
  unfolding field_answer unless field_step would_pass joining_of
  answer-open room = rw (g.inside, le-ltb (types_limit joiner_edition) type g.assigned, g.right)

  passes-told : passes (take size storage) octets ≡ ltb (frame_limit - size) (length octets)
  passes-told =
      let long = length-open g.frame in
      ⊎_elim
      (λ over.
      lt-ltb frame_limit (length (take size storage) + length octets) (omega (arith, g.frame.few))
      ∙ sym (lt-ltb (frame_limit - size) (length octets) over))
      (λ fits.
      le-ltb frame_limit (length (take size storage) + length octets) (omega (arith, g.frame.few))
      ∙ sym (le-ltb (frame_limit - size) (length octets) fits))
      (below_or_not (frame_limit - size) (length octets))

  -- a type that adds nothing: by what it comes to
  answer-ends : (room : ℕ) (st : Step) → on_open type octets (take size storage) ≡ st → adds type ≡ false
      → field_answer room type octets (joiner_of false size storage)
      ≡ cond (ltb room (length (frame_octets st.handed))) (refuse no_room) (done st.handed)
  unfolding unless
  answer-ends room st e other = answer-open room ∙ rw (e, other) (given (ltb room (length (frame_octets st.handed)))) where
    given : (b : Bool) → unless (when b no_room ∷ []) st.handed ≡ cond b (refuse no_room) (done st.handed)
    given true = refl
    given false = refl

  after_open : (st : Step) → on_open type octets (take size storage) ≡ st
      → (field_step type octets (joining_of (joiner_of false size storage))).after ≡ st.after
  unfolding field_step joining_of
  after_open st e = ap (λ (s : Step). s.after) e

  -- ---- type 0
  pub join-adds : {new old : List ℕ} {r : Kept} → type ≡ 0 → Adds size octets storage new r
      → FieldFed false size type octets storage new old old r
  unfolding on_open with_added unless
  join-adds {new} {old} {r} zero-type a =
      ⊎_elim
      (λ over.
      let pass : passes (take size storage) octets ≡ true = passes-told ∙ over in
      feeds-left (leaves (unchanged true 0 frame_too_long) (in_storage []) old) (a.whole old ∙ rw over)
      (owes-tainted {k = joiner_of true 0 (in_storage [])}
      (ap held_as (after_open (record { handed = none; after = tainted }) (rw (is, pass))))
      (answer-open (length old) ∙ rw (is, pass))))
      (λ fits.
      let pass : passes (take size storage) octets ≡ false = passes-told ∙ fits in
      let whole : length (take size storage ++ octets) ≡ size + length octets =
      length-append (take size storage) octets ∙ ap (λ (k : ℕ). k + length octets) (length-open g.frame) in
      feeds-left (leaves (kept_as false (size + length octets) (Ok handed.Nothing)) (in_storage (take size storage ++ octets)) old)
      (a.whole old ∙ rw fits)
      (owes_nothing {k = joiner_of false (size + length octets) (in_storage (take size storage ++ octets))}
      (ap held_as (after_open (record { handed = none; after = opened (take size storage ++ octets) }) (rw (is, pass)))
      ∙ ap (λ (k : ℕ). joiner_of false k (in_storage (take size storage ++ octets))) whole)
      (answer-open (length old) ∙ rw (is, pass, le-ltb (length old) 0 (omega arith)))))
      (true-or-false (ltb (frame_limit - size) (length octets)))
    where
      is : adds type ≡ true
      is = eq-eqb type 0 zero-type

  -- ---- the types that end a frame or drop it
  module _ (other : type ≡ 0 → ⊥) where
    -- a frame of this size is handed out, or has no room
    gives-out : {answer : Handed} {new_storage old new : List ℕ} {r : Kept} (frame : Frame)
        → on_open type octets (take size storage) ≡ record { handed = some frame; after = opened [] }
        → length (frame_octets (some frame)) ≡ size
        → Gives size answer storage new_storage old new r
        → ((e : field_answer (length old) type octets (joiner_of false size storage) ≡ done (some frame))
        → FieldOwes (joiner_of false size storage) type octets old (take size storage ++ drop size old)
        (joined_of (kept_as false 0 (Ok answer)) (in_storage [])))
        → FieldFed false size type octets storage new_storage old new r
    gives-out {answer} {new_storage} {old} {new} {r} frame is long m owes =
        let told = answer-ends (length old) (record { handed = some frame; after = opened [] }) is (ne_eqb type 0 other) in
        let measured : ltb (length old) (length (frame_octets (some frame))) ≡ ltb (length old) size =
        ap (λ (k : ℕ). ltb (length old) k) long in
        ⊎_elim
        (λ short.
        let none_left : ltb (length old) (length (frame_octets (some frame))) ≡ true = measured ∙ short in
        feeds-left (leaves (unchanged false size no_room) storage old) (m.whole ∙ rw short)
        (owes-stays no_room (told ∙ rw none_left) refl))
        (λ room.
        let enough : ltb (length old) (length (frame_octets (some frame))) ≡ false = measured ∙ room in
        feeds-left (leaves (kept_as false 0 (Ok answer)) (in_storage []) (take size storage ++ drop size old)) (m.whole ∙ rw room)
        (owes (told ∙ rw enough)))
        (true-or-false (ltb (length old) size))

    module _ {new_storage old new : List ℕ} {r : Kept} where
      pub join-bad : {b : Bool} → b ≡ hands_bad type → b ≡ true → Gives size (handed.Bad size) storage new_storage old new r
          → FieldFed false size type octets storage new_storage old new r
      unfolding on_open
      join-bad told yes-bad m =
          let hands : hands_bad type ≡ true = sym told ∙ yes-bad in
          let long = length-open g.frame in
          let is : on_open type octets (take size storage) ≡ record { handed = some (bad (take size storage)); after = opened [] } =
          rw (ne_eqb type 0 other, hands) in
          gives-out (bad (take size storage)) is long m
          (λ e. rw long at (owes-bad {old = old} {k = joiner_of false 0 (in_storage [])} (ap held_as (after_open _ is)) (take size storage) e))

      pub join-good : {b d : Bool} → b ≡ hands_bad type → b ≡ false → d ≡ hands_good type → (d && ltb 0 size) ≡ true
          → Gives size (handed.Good size) storage new_storage old new r → FieldFed false size type octets storage new_storage old new r
      unfolding on_open good_frame
      join-good {b} {d} told no-bad good-told yes-good m =
          let not-bad : hands_bad type ≡ false = sym told ∙ no-bad in
          let hands : (hands_good type && ltb 0 size) ≡ true = rw (← good-told) yes-good in
          let long = length-open g.frame in
          let some-octets : ltb 0 (length (take size storage)) ≡ true = ap (ltb 0) long ∙ and_right (hands_good type) (ltb 0 size) hands in
          let is : on_open type octets (take size storage) ≡ record { handed = some (good (take size storage)); after = opened [] } =
          rw (ne_eqb type 0 other, not-bad, and_left (hands_good type) (ltb 0 size) hands, some-octets) in
          gives-out (good (take size storage)) is long m
          (λ e.
          rw long at (owes-good {old = old} {k = joiner_of false 0 (in_storage [])} (ap held_as (after_open _ is)) (take size storage) e))

    pub join-drops : {new_storage old : List ℕ} {r : Kept} {b d : Bool} → b ≡ hands_bad type → b ≡ false → d ≡ hands_good type
        → (d && ltb 0 size) ≡ false → Drops false new_storage r → FieldFed false size type octets storage new_storage old old r
    unfolding on_open good_frame
    join-drops {new_storage} {old} {r} {b} {d} told no-bad good-told no-good m =
        let not-bad : hands_bad type ≡ false = sym told ∙ no-bad in
        let hands : (hands_good type && ltb 0 size) ≡ false = rw (← good-told) no-good in
        let is : on_open type octets (take size storage) ≡ record { handed = none; after = opened [] } =
        rw (ne_eqb type 0 other, not-bad)
        (dropped (take size storage) (hands_good type) (ltb 0 (length (take size storage)))
        (ap (λ (k : ℕ). hands_good type && ltb 0 k) (length-open g.frame) ∙ hands)) in
        feeds-left (leaves (kept_as false 0 (Ok handed.Nothing)) (in_storage []) old)
        (ap₂ (λ (k : Kept) (s : List ℕ). leaves k s old) m.kept m.storage)
        (owes_nothing {k = joiner_of false 0 (in_storage [])} (ap held_as (after_open _ is))
        (answer-ends (length old) _ is (ne_eqb type 0 other) ∙ rw (le-ltb (length old) 0 (omega arith))))

pub ruleset joinings = (join-adds, join-bad, join-good, join-drops)
