-- A joiner's answer as C gets it, and whether a joiner is tainted, as an octet (rules 24.6 and 24.8). Definitions only.
use Rattle.std.specs.Prelude.{ℕ, ◌≡◌, Bool, cond, Result}
use Rattle.length.specs.Refusals.{outside_ranges, number_of}
use Rattle.length.specs.Answers.{Answer, done, refused}
use Rattle.frame.specs.Promise.{Told, nothing, good_of, bad_of, handed_outcome}
use Rattle.length.specs.declared.Refusal.{Refusal}
use Rattle.frame.specs.declared.Handed.{Handed}
use Rattle.host_answers.specs.declared.joiner.AfterField.{AfterField}
use Rattle.host_answers.specs.declared.joiner.HandedFrame.{HandedFrame}

-- tainted, as an octet (rule 24.6)
abbrev pub flag_of : Bool → ℕ
flag_of b = cond b 1 0

-- 0 and what the joiner returns: 0 nothing, 1 a good frame, 2 a bad frame, and its size (rule 24.8); or the number of the refusal
abbrev pub frame_told : Answer Told → HandedFrame
frame_told (done nothing) = record { refusal = 0; kind = 0; size = 0 }
frame_told (done (good_of n)) = record { refusal = 0; kind = 1; size = n }
frame_told (done (bad_of n)) = record { refusal = 0; kind = 2; size = n }
frame_told (refused why) = record { refusal = number_of why.reason; kind = 0; size = 0 }

-- the library's answer encoded as numbers
pub record FrameTold (from : Result Handed Refusal) (r : HandedFrame) : Type 0 where
  pub is : r ≡ frame_told (handed_outcome from)

-- 17, with the joiner unchanged (rules 24.6 and 24.9)
abbrev pub outside : ℕ → ℕ → AfterField
outside tainted size =
    record { head = record { tainted = tainted; size = size }; frame = record { refusal = number_of outside_ranges; kind = 0; size = 0 } }
