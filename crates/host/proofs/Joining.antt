-- The host's calls on a joiner, on plain values: what the library's call promises, encoded as numbers. Assumes nothing.
use Prim.Native.Nat.{ℕ}
use mathlib.Core.Path.{◌≡◌, refl, sym, ap, ap₂, ◌∙◌}
use mathlib.Core.Bool.{Bool, true, false}
use mathlib.Core.List.{List}
use lib.Dec.{ltb, eqb}
use Rattle.frame.specs.Promise.{FreshMade}
use Rattle.frame.specs.declared.Joiner.{Joiner}
use Rattle.frame_joiner.specs.Inner.{FieldFed, Taints}
use Rattle.frame_joiner.specs.declared.inside.Kept.{Kept}
use Rattle.host_answers.specs.Joiner.{flag_of, frame_told, outside, FrameTold}
use Rattle.host_answers.specs.declared.joiner.AfterField.{AfterField}
use Rattle.host_answers.specs.declared.joiner.HandedFrame.{HandedFrame}
use Rattle.host.specs.Joiner.{memory_of, in_memory, field_joined, memory_after, loss_in, memory_after_loss}
use Rattle.host.specs.Joiner.{FieldHosted, LossHosted, JoinerMade, KeptTold}

-- ---- the answer encoded as numbers
pub kept-told : {k : Kept} {tainted : ℕ} {frame : HandedFrame} → tainted ≡ flag_of k.tainted → FrameTold k.answer frame
    → KeptTold k (record { head = record { tainted = tainted; size = k.size }; frame = frame })
kept-told e told = record { tainted = e; size = refl; frame = told.is }

-- ---- a fresh joiner
pub fresh-made : {j : Joiner} {tainted : ℕ} → FreshMade j → tainted ≡ flag_of j.tainted
    → JoinerMade j.frame (record { tainted = tainted; size = j.size })
fresh-made {j} made e = record { state = ap (λ (t : ℕ). memory_of t j.size j.frame) e ∙ ap in_memory made.state }

-- ---- the memory after a call
memory-told : {k : Kept} {r : AfterField} (frame : List ℕ) → KeptTold k r
    → memory_of r.head.tainted r.head.size frame ≡ memory_of (flag_of k.tainted) k.size frame
memory-told frame t = ap₂ (λ (f n : ℕ). memory_of f n frame) t.tainted t.size

module _ {tainted size : ℕ} {frame : List ℕ} {b : Bool} (e : b ≡ ltb 1 tainted) where
  -- ---- a field
  pub field-outside : {type : ℕ} {octets old : List ℕ} {r : AfterField} → b ≡ true → r ≡ outside tainted size
      → FieldHosted type octets (memory_of tainted size frame) old frame old r
  unfolding field_joined memory_after
  field-outside over told =
      let high : ltb 1 tainted ≡ true = sym e ∙ over in
      rw told (record { answer = rw high; lent = rw high; state = rw high })

  pub field-hosted : {type : ℕ} {octets old after new : List ℕ} {k : Kept} {r : AfterField} → b ≡ false
      → FieldFed (eqb tainted 1) size type octets frame after old new k
      → KeptTold k r
      → FieldHosted type octets (memory_of tainted size frame) old after new r
  unfolding field_joined memory_after
  field-hosted {after = after} flag fed told =
      let low : ltb 1 tainted ≡ false = sym e ∙ flag in
      record {
        answer = rw low (told.frame ∙ ap frame_told fed.owes.answer);
        lent = rw low fed.owes.lent;
        state = rw low (memory-told after told ∙ ap in_memory fed.owes.state);
      }

  -- ---- a lost number
  pub loss-outside : {r : AfterField} → b ≡ true → r ≡ outside tainted size → LossHosted (memory_of tainted size frame) frame r
  unfolding loss_in memory_after_loss
  loss-outside over told =
      let high : ltb 1 tainted ≡ true = sym e ∙ over in
      rw told (record { answer = rw high; state = rw high })

  pub loss-hosted : {after : List ℕ} {k : Kept} {r : AfterField} → b ≡ false
      → Taints (eqb tainted 1) size frame after k
      → KeptTold k r
      → LossHosted (memory_of tainted size frame) after r
  unfolding loss_in memory_after_loss
  loss-hosted {after = after} flag taints told =
      let low : ltb 1 tainted ≡ false = sym e ∙ flag in
      record {
        answer = rw low (told.frame ∙ ap frame_told taints.owes.answer);
        state = rw low (memory-told after told ∙ ap in_memory taints.owes.state);
      }

pub ruleset hostings = (field-outside, field-hosted, loss-outside, loss-hosted)
