-- What the calls from C on a joiner promise: what the library's own calls promise, for the joiner in the caller's memory, encoded as
-- numbers (rules 24.8, 24.9 and 24.11). If `tainted` is an octet over 1, the joiner is outside its ranges: 17, before all else (rule 24.6).
-- Definitions only.
use Rattle.std.specs.Prelude.{ℕ, ◌≡◌, Bool, cond, List, length, ltb, eqb}
use Rattle.std.proofs.Math.Option.{Option}
use Rattle.length.specs.Refusals.{outside_ranges}
use Rattle.length.specs.Answers.{Answer, refuse, mapped, over}
use Rattle.frame.specs.Frame.{fresh_joining, Frame}
use Rattle.frame.specs.Joiner.{held_as}
use Rattle.frame.specs.Promise.{handed_outcome, frame_octets, told_in}
use Rattle.frame.specs.Promise.{field_answer, joiner_after, loss_answer, joiner_after_loss}
use Rattle.frame.specs.declared.Joiner.{Joiner}
use Rattle.frame_joiner.specs.declared.inside.Kept.{Kept}
use Rattle.host_answers.specs.Joiner.{flag_of, frame_told}
use Rattle.host_answers.specs.declared.joiner.AfterField.{AfterField}
use Rattle.host_answers.specs.declared.joiner.JoinerHead.{JoinerHead}

-- ---- the caller's memory
-- tainted, the size of the open frame, and its octets
pub record Memory : Type 0 where
  pub tainted : ℕ
  pub size : ℕ
  pub frame : List ℕ

abbrev pub memory_of : ℕ → ℕ → List ℕ → Memory
memory_of tainted size frame = record { tainted = tainted; size = size; frame = frame }

-- a joiner as it is stored there
abbrev pub in_memory : Joiner → Memory
in_memory j = memory_of (flag_of j.tainted) j.size j.frame

-- the joiner that is stored there
abbrev pub joiner_in : Memory → Joiner
joiner_in m = record { tainted = eqb m.tainted 1; size = m.size; frame = m.frame }

-- `tainted` is neither 0 nor 1 (rule 24.6)
abbrev pub no_flag : Memory → Bool
no_flag m = ltb 1 m.tainted

-- ---- one field: the memory and the caller's buffer before it, the frame and the buffer after it (rules 16.2 to 16.16)
unfoldable pub field_joined : ℕ → ℕ → List ℕ → Memory → Answer (Option Frame)
field_joined room type octets m = cond (no_flag m) (refuse outside_ranges) (field_answer room type octets (joiner_in m))

unfoldable pub memory_after : ℕ → ℕ → List ℕ → Memory → Memory
memory_after room type octets m = cond (no_flag m) m (in_memory (joiner_after room type octets (joiner_in m)))

pub record FieldHosted (type : ℕ) (octets : List ℕ) (before : Memory) (old frame new : List ℕ) (r : AfterField) : Type 0 where
  pub answer : r.frame ≡ frame_told (told_in (field_joined (length old) type octets before))
  pub lent : new ≡ over (mapped frame_octets (field_joined (length old) type octets before)) old
  pub state : memory_of r.head.tainted r.head.size frame ≡ memory_after (length old) type octets before

-- ---- one lost number (rules 16.8 and 16.16)
unfoldable pub loss_in : Memory → Answer (Option Frame)
loss_in m = cond (no_flag m) (refuse outside_ranges) (loss_answer (joiner_in m))

unfoldable pub memory_after_loss : Memory → Memory
memory_after_loss m = cond (no_flag m) m (in_memory (joiner_after_loss (joiner_in m)))

pub record LossHosted (before : Memory) (frame : List ℕ) (r : AfterField) : Type 0 where
  pub answer : r.frame ≡ frame_told (told_in (loss_in before))
  pub state : memory_of r.head.tainted r.head.size frame ≡ memory_after_loss before

-- ---- a fresh joiner (rules 16.1 and 24.18)
pub record JoinerMade (frame : List ℕ) (r : JoinerHead) : Type 0 where
  pub state : memory_of r.tainted r.size frame ≡ in_memory (held_as fresh_joining)

-- ---- the library's answer encoded as numbers
pub record KeptTold (from : Kept) (r : AfterField) : Type 0 where
  pub tainted : r.head.tainted ≡ flag_of from.tainted
  pub size : r.head.size ≡ from.size
  pub frame : r.frame ≡ frame_told (handed_outcome from.answer)
