-- The two calls, on plain values: one law for each way in which `feed` and `taint` return. Assumes nothing.
use Prim.Native.Nat.{ℕ, ◌≤◌, ◌<◌}
use mathlib.Core.Path.{◌≡◌, refl, sym, ap, ◌∙◌}
use mathlib.Core.Bool.{Bool, true, false, not, cond, ◌&&◌, ◌||◌}
use mathlib.Core.List.{List, []}
use mathlib.Core.Option.{none}
use lib.ListN.{length, take}
use lib.Dec.{leb, ltb, eqb}
use native.Mathlib.Omega.{arith}
use borrow.Author.Tests.{lt-ltb, le-ltb, eqb-true, not-true, not-false}
use Rattle.octets.proofs.Laws.{and_left, and_right}
use Rattle.length.specs.Refusals.{not_assigned, wrong_data, outside_ranges}
use Rattle.length.specs.Answers.{done}
use Rattle.length.specs.Tables.{unless}
use Rattle.packet.specs.Packet.{types_limit, right_data}
use Rattle.frame.specs.Frame.{joiner_edition, frame_limit, tainted, opened, ends_frame, field_step, would_pass}
use Rattle.frame.specs.Joiner.{in_storage, held_as, joining_of, ranges_of, zeros_after}
use Rattle.frame.specs.Promise.{field_answer, loss_answer, joiner_after_loss}
use Rattle.frame_joiner.specs.Inner.{LaidOut, joiner_of, unchanged, waited, Drops, Admitted, FieldFed, Taints}
use Rattle.frame.specs.declared.Joiner.{Joiner}
use Rattle.frame_joiner.specs.declared.inside.Kept.{Kept}
use Rattle.frame_joiner.proofs.Storage.{in-ranges-laid}
use Rattle.frame_joiner.proofs.Owing.{owes-stays, owes_nothing}

-- within the ranges there is no octet while tainted
tainted-bare : (taint : Bool) (size : ℕ) (storage : List ℕ) → ranges_of taint size storage ≡ true → taint ≡ true
    → length storage ≡ frame_limit → storage ≡ in_storage []
unfolding ranges_of
tainted-bare taint size storage inside stained long =
    let ranges : ranges_of true size storage ≡ true = rw stained at inside in
    let first = and_left (leb size frame_limit && eqb size 0) (zeros_after storage size) ranges in
    let none_kept = eqb-true size 0 (and_right (leb size frame_limit) (eqb size 0) first) in
    (in-ranges-laid taint size storage inside long).clean ∙ ap (λ (k : ℕ). in_storage (take k storage)) none_kept

waits : (over : Bool) → held_as (cond over (opened []) tainted) ≡ joiner_of (not over) 0 (in_storage [])
waits true = refl
waits false = refl

after-waits : (size type : ℕ) (octets storage : List ℕ)
    → held_as (field_step type octets (joining_of (joiner_of true size storage))).after ≡ joiner_of (not (ends_frame type)) 0 (in_storage [])
unfolding field_step joining_of
after-waits size type octets storage = waits (ends_frame type)

answer-waits : (room size type : ℕ) (octets storage : List ℕ) → ranges_of true size storage ≡ true → type ≤ types_limit joiner_edition
    → right_data joiner_edition type (ltb 0 (length octets)) ≡ true → field_answer room type octets (joiner_of true size storage) ≡ done none
unfolding field_answer unless field_step would_pass joining_of
answer-waits room size type octets storage inside known right =
    rw (inside, le-ltb (types_limit joiner_edition) type known, right, le-ltb room 0 (omega arith))

-- ---- a field
module _ {taint ok : Bool} {size type : ℕ} {octets storage old : List ℕ} (e : ok ≡ ranges_of taint size storage) where
  pub feed-outside : {r : Kept} → not ok ≡ true → r ≡ unchanged taint size outside_ranges
      → FieldFed taint size type octets storage storage old old r
  unfolding field_answer unless
  feed-outside out told =
      let outside : ranges_of taint size storage ≡ false = sym e ∙ not-true ok out in
      record { owes = rw told (owes-stays outside_ranges (rw outside) refl) }

  module _ (within : not ok ≡ false) where
    pub feed-unassigned : {r : Kept} → types_limit joiner_edition < type → r ≡ unchanged taint size not_assigned
        → FieldFed taint size type octets storage storage old old r
    unfolding field_answer unless
    feed-unassigned over told =
        let inside : ranges_of taint size storage ≡ true = sym e ∙ not-false ok within in
        record { owes = rw told (owes-stays not_assigned (rw (inside, lt-ltb (types_limit joiner_edition) type over)) refl) }

    module _ {b : Bool} (known : type ≤ types_limit joiner_edition) (rule : b ≡ right_data joiner_edition type (ltb 0 (length octets))) where
      pub feed-wrong : {r : Kept} → not b ≡ true → r ≡ unchanged taint size wrong_data
          → FieldFed taint size type octets storage storage old old r
      unfolding field_answer unless
      feed-wrong wrong told =
          let inside : ranges_of taint size storage ≡ true = sym e ∙ not-false ok within in
          let bad-data : right_data joiner_edition type (ltb 0 (length octets)) ≡ false = sym rule ∙ not-true b wrong in
          record { owes = rw told (owes-stays wrong_data (rw (inside, le-ltb (types_limit joiner_edition) type known, bad-data)) refl) }

      -- while tainted nothing is open
      pub feed-waits : {r : Kept} → not b ≡ false → taint ≡ true → length storage ≡ frame_limit → r ≡ waited type
          → FieldFed taint size type octets storage storage old old r
      feed-waits {r} right stained long told =
          let inside : ranges_of taint size storage ≡ true = sym e ∙ not-false ok within in
          let bare = tainted-bare taint size storage inside stained long in
          rw (told, stained)
          (record {
            owes =
                owes_nothing
                (after-waits size type octets storage
                ∙ ap (λ (s : List ℕ). joiner_of (not (ends_frame type)) 0 s) (sym bare))
                (answer-waits (length old) size type octets storage (rw stained at inside) known (sym rule ∙ not-false b right));
          })

-- ---- a field that reaches the open frame
pub reached : {taint ok b : Bool} {size type : ℕ} {octets storage : List ℕ} → ok ≡ ranges_of taint size storage → not ok ≡ false
    → type ≤ types_limit joiner_edition → b ≡ right_data joiner_edition type (ltb 0 (length octets)) → not b ≡ false → taint ≡ false
    → length storage ≡ frame_limit
    → Admitted size type octets storage
reached {taint} {ok} {b} {size} {type} {octets} {storage} e within known rule right clean long =
    let inside : ranges_of taint size storage ≡ true = sym e ∙ not-false ok within in
    record {
      frame = in-ranges-laid taint size storage inside long;
      inside = rw clean at inside;
      assigned = known;
      right = sym rule ∙ not-false b right;
    }

pub feed-joins : {taint : Bool} {size type : ℕ} {octets storage new_storage old new : List ℕ} {r : Kept} → taint ≡ false
    → FieldFed false size type octets storage new_storage old new r → FieldFed taint size type octets storage new_storage old new r
feed-joins clean m = rw clean m

pub ruleset feedings = (feed-outside, feed-unassigned, feed-wrong, feed-waits, feed-joins)

-- ---- a lost number
module _ {taint ok : Bool} {size : ℕ} {storage : List ℕ} (e : ok ≡ ranges_of taint size storage) where
  pub taint-outside : {r : Kept} → not ok ≡ true → r ≡ unchanged taint size outside_ranges → Taints taint size storage storage r
  unfolding loss_answer joiner_after_loss unless
  taint-outside out told =
      let outside : ranges_of taint size storage ≡ false = sym e ∙ not-true ok out in
      record { owes = rw told (record { answer = rw outside; state = rw outside }) }

  pub taint-done : {new : List ℕ} {r : Kept} → not ok ≡ false → Drops true new r → Taints taint size storage new r
  unfolding loss_answer joiner_after_loss unless
  taint-done within d =
      let inside : ranges_of taint size storage ≡ true = sym e ∙ not-false ok within in
      record { owes = rw (d.kept, d.storage) (record { answer = rw inside; state = rw inside }) }

pub ruleset taintings = (taint-outside, taint-done)
