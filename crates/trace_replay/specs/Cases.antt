-- Replays of small traces. Each case cites the rule that it shows. Definitions only.
use Rattle.std.specs.Prelude.{ℕ, ◌≡◌, List, [], ◌∷◌, ◌++◌, replicate, Ok, Err}
use Rattle.length.specs.Refusals.{refusal, numbered}
use Rattle.session.specs.Cases.{arrived, started}
use Rattle.line.specs.Lines.{silent}
use Rattle.line.specs.Text.{characters}
use Rattle.trace_replay.specs.Replay.{replay, replay_steps}
use Rattle.trace_replay.specs.Promise.{Replays}

-- the trace of rule 26.17: its second datagram has number 2, and comes again after number 2 has left
abbrev pub whole_case : List ℕ
whole_case = characters "000001060000\n00020100000106C00180000055\n\n00020100000106C00180000055\n"

-- datagram 1 with a spare of 0, then datagram 0
abbrev pub late_one : List ℕ
late_one = characters "0001010700010106\n000001060000\n"

-- datagrams 1 and 2, the second with a message that repairs 0, datagram 7 with four spares, and two empty lines
abbrev pub all_kinds : List ℕ
all_kinds = characters "000106C001800000550000\n000201068001020106C60180000055\n0007010600040105010401030102\n\n\n"

-- the answer and the caller's whole buffer, for what the promise allows (rule 21.2)
pub record AnswerCases : Type 0 where
  -- three received, four spares, one repaired, two lost, and 106 characters; the rest of the buffer is unchanged (rule 2.26)
  pub counts : Replays all_kinds [] (replicate 108 7)
      (characters "020000060000000000\n000001C00180000055\n00000206\n01000302\n01000403\n01000504\n01000605\n00000706\n030008\n030009\n"
      ++ (7 ∷ 7 ∷ []))
      (Ok (record { counts = record { received = 3; spare = 4; repaired = 1; lost = 2 }; size = 106 }))
  -- number 2 dropped: 16 characters fit a buffer of 16, and in one of 15 nothing is written (rule 21.6)
  pub fits : Replays whole_case (2 ∷ []) (replicate 16 7) (characters "00000006\n030001\n")
      (Ok (record { counts = record { received = 1; spare = 0; repaired = 0; lost = 1 }; size = 16 }))
  pub no_room : Replays whole_case (2 ∷ []) (replicate 15 7) (replicate 15 7) (Err (refusal (numbered 13)))

pub record Cases : Type 0 where
  pub answers : AnswerCases
  -- an empty line is a give-up, whatever is listed (rule 21.1)
  pub give-up : (replay (0 ∷ []) (characters "\n")).text ≡ characters "030000\n"
  -- number 2 is dropped twice and writes no line, not even where it would be late (rule 21.4); the empty line gives up number 1
  pub two-dropped : (replay (2 ∷ []) whole_case).text ≡ characters "00000006\n030001\n"
  pub two-counted : (replay (2 ∷ []) whole_case).after.counts ≡ record { received = 1; spare = 0; repaired = 0; lost = 1 }
  -- a number listed twice counts once, and one that never occurs does nothing (rule 21.3)
  pub twice-listed : (replay (2 ∷ 9 ∷ 2 ∷ []) whole_case).text ≡ characters "00000006\n030001\n"
  -- with an empty list the replay is the program (rules 21.2 and 26.17)
  pub none-listed : (replay [] whole_case).text ≡ characters "00000006\n010001C00180000055\n00000200\n030003\nFF090000\n"
  -- every number of the list is dropped, wherever it is in the list (rule 21.1)
  pub second-listed : (replay (5 ∷ 0 ∷ []) (characters "000001060000\n")).text ≡ []
  -- a line that does not read is refused and not dropped, though it begins with a listed number: it ends too early, or its digits are not
  -- paired (rule 21.5)
  pub cut_short : (replay (2 ∷ []) (characters "0002\n")).text ≡ characters "FF010002\n"
  pub not-paired : (replay (2 ∷ []) (characters "0002010000000\n")).text ≡ characters "FF0F0000\n"
  -- a dropped line releases nothing, even from a session that has something to release (rule 21.4)
  pub no-release : replay_steps (2 ∷ []) (characters "000201000000" ∷ []) (started (arrived 0 ∷ []) [])
      ≡ silent (started (arrived 0 ∷ []) [])
  -- a last line without a line feed counts (rule 21.9)
  pub last_line : (replay (2 ∷ []) (characters "000001060000")).text ≡ characters "00000006\n"
  -- why demand 3 is not claimed of replays (rule 21.7): with 1 dropped, 0 is received in time; otherwise its spare has left and it is late
  pub in-time : (replay (1 ∷ []) late_one).text ≡ characters "00000006\n"
