-- The claims about the calls from C on a joiner. Statements only.
use Rattle.std.specs.Prelude.{ℕ, ◌≡◌, List}
use Rattle.length.specs.Refusals.{frame_too_long, number_of}
use Rattle.frame.specs.Frame.{tainted}
use Rattle.frame.specs.Joiner.{held_as}
use Rattle.host.specs.Joiner.{Memory, memory_of, in_memory, JoinerMade, FieldHosted, LossHosted}
use Rattle.host_answers.specs.declared.joiner.AfterField.{AfterField}
use Rattle.host_answers.specs.declared.joiner.JoinerHead.{JoinerHead}

-- two outcomes that a promise allows are equal, in the answer and in all of the caller's memory (rule 28.14)
pub record OneJoined : Type 0 where
  pub fresh : {frame other : List ℕ} {r q : JoinerHead} → JoinerMade frame r → JoinerMade other q → (r ≡ q) × (frame ≡ other)
  pub field : {type : ℕ} {octets : List ℕ} {before : Memory} {old frame new frame₂ new₂ : List ℕ} {r q : AfterField}
      → FieldHosted type octets before old frame new r → FieldHosted type octets before old frame₂ new₂ q
      → (r ≡ q) × (frame ≡ frame₂) × (new ≡ new₂)
  pub lost : {before : Memory} {frame frame₂ : List ℕ} {r q : AfterField} → LossHosted before frame r → LossHosted before frame₂ q
      → (r ≡ q) × (frame ≡ frame₂)

-- a refusal leaves the joiner's memory and the caller's buffer unchanged, except that 18 leaves a tainted joiner in the memory (rules 16.13
-- and 24.9)
pub record RefusalsLeave : Type 0 where
  pub field : {type : ℕ} {octets : List ℕ} {before : Memory} {old frame new : List ℕ} {r : AfterField}
      → FieldHosted type octets before old frame new r → (r.frame.refusal ≡ 0 → ⊥) → (r.frame.refusal ≡ number_of frame_too_long → ⊥)
      → (memory_of r.head.tainted r.head.size frame ≡ before) × (new ≡ old)
  pub too_long : {type : ℕ} {octets : List ℕ} {before : Memory} {old frame new : List ℕ} {r : AfterField}
      → FieldHosted type octets before old frame new r → r.frame.refusal ≡ number_of frame_too_long
      → (memory_of r.head.tainted r.head.size frame ≡ in_memory (held_as tainted)) × (new ≡ old)
  pub lost : {before : Memory} {frame : List ℕ} {r : AfterField} → LossHosted before frame r → (r.frame.refusal ≡ 0 → ⊥)
      → memory_of r.head.tainted r.head.size frame ≡ before

pub record JoinerClaims : Type 0 where
  pub one_outcome : OneJoined
  pub refusals : RefusalsLeave
