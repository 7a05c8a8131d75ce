-- Comparisons of small traces, at a limit or where a rule could be misread. Each case cites the rule that it shows. Definitions only.
use Rattle.std.specs.Prelude.{ℕ, ◌≡◌, List, [], ◌∷◌, replicate, Ok}
use Rattle.length.specs.Refusals.{refusal, refusal_at, numbered}
use Rattle.line.specs.Lines.{line_feed}
use Rattle.line.specs.Text.{characters}
use Rattle.trace_compare.specs.Entries.{Entry}
use Rattle.trace_compare.specs.Told.{PlacedAnswer, told, stopped}
use Rattle.trace_compare.specs.Traces.{comparison}
use Rattle.trace_compare.specs.Promise.{refused_at, Compares}

abbrev pub entry : ℕ → ℕ → Entry
entry number code = record { number = number; code = code }

-- datagram 0 with a packet and no spares, then datagram 1 with another packet and one spare
abbrev pub two : List ℕ
two = characters "0000010A0000\n0001010700010106\n"

-- two datagrams with number 0 and different packets, each without spares
abbrev pub twice : List ℕ
twice = characters "000001060000\n000001070000\n"

-- `count` empty lines
abbrev pub empties : ℕ → List ℕ
empties count = replicate count line_feed

-- the answer and the caller's whole list, for what the promise allows
pub record AnswerCases : Type 0 where
  -- an entry is the number, then its code; the rest of the list is unchanged (rules 2.26, 22.2 and 22.16)
  pub listed : Compares two [] (7 ∷ 7 ∷ 7 ∷ 7 ∷ 7 ∷ []) (0 ∷ 1 ∷ 1 ∷ 1 ∷ 7 ∷ []) (Ok 2)
  pub fits : Compares two [] (7 ∷ 7 ∷ 7 ∷ 7 ∷ []) (0 ∷ 1 ∷ 1 ∷ 1 ∷ []) (Ok 2)
  pub alike : Compares two two (7 ∷ []) (7 ∷ []) (Ok 0)
  -- 13 if the entries do not fit, and then the list is unchanged (rule 22.16)
  pub full : Compares two [] (7 ∷ 7 ∷ 7 ∷ []) (7 ∷ 7 ∷ 7 ∷ []) (refused_at (refusal (numbered 13)) 0 0)
  -- a reading refusal names trace and line, and comes before 13 (rules 22.15 and 22.16)
  pub unread : Compares two (characters "\n000001060000\n0002\n") [] [] (refused_at (refusal_at 2 (numbered 1)) 2 3)
  pub unread-first : Compares (characters "0002\n") two [] [] (refused_at (refusal_at 2 (numbered 1)) 1 1)

pub record Cases : Type 0 where
  -- digits in the other case, empty lines and a missing last line feed are no differences (rules 22.13, 22.18 and 22.21)
  pub alike : comparison two (characters "\n0000010a0000\n\n0001010700010106") ≡ told []
  -- lines pair by datagram number, in whatever order they come (rule 22.10)
  pub by_number : comparison two (characters "0001010700010106\n0000010A0000\n") ≡ told []
  -- the first of a number pairs with the first, the second with the second; each pair that differs is listed (rules 22.10 and 22.11)
  pub in-turn : comparison twice twice ≡ told []
  pub both-differ : comparison twice (characters "000001070000\n000001060000\n")
      ≡ told (entry 0 3 ∷ entry 0 3 ∷ [])
  -- a third line of a number has no partner (rule 22.3)
  pub third : comparison (characters "000001060000\n000001070000\n000001060000\n") twice ≡ told (entry 0 1 ∷ [])
  -- lines only in the second trace come last, in its order (rule 22.12)
  pub only : comparison two (characters "000901060000\n0001010800010106\n000801060000\n")
      ≡ told (entry 0 1 ∷ entry 1 3 ∷ entry 9 2 ∷ entry 8 2 ∷ [])
  -- each entry that applies is listed in order, and spares against parity are both 4 and 5, also without spare or message octets
  -- (rules 22.8 and 22.9)
  pub all_three : comparison (characters "000001060000\n") (characters "0000010780010101010A\n")
      ≡ told (entry 0 3 ∷ entry 0 4 ∷ entry 0 5 ∷ [])
  pub both-empty : comparison (characters "000001068001010100\n") (characters "000001060000\n")
      ≡ told (entry 0 4 ∷ entry 0 5 ∷ [])
  -- the packet differs alone, in its last octet or in its length (rule 22.5)
  pub packet-end : comparison (characters "00000206070000\n") (characters "00000206080000\n") ≡ told (entry 0 3 ∷ [])
  pub packet-longer : comparison (characters "000001060000\n") (characters "00000206000000\n") ≡ told (entry 0 3 ∷ [])
  pub packet-shorter : comparison (characters "00000206000000\n") (characters "000001060000\n") ≡ told (entry 0 3 ∷ [])
  -- the spares differ alone: an octet, or one spare more on either side (rule 22.6)
  pub other-spare : comparison (characters "0001010700010106\n") (characters "0001010700010105\n") ≡ told (entry 1 4 ∷ [])
  pub more-spares : comparison (characters "0001010700010106\n") (characters "00010107000201060105\n") ≡ told (entry 1 4 ∷ [])
  pub less-spares : comparison (characters "00010107000201060105\n") (characters "0001010700010106\n") ≡ told (entry 1 4 ∷ [])
  -- parity differs alone, in a message or in m (rule 22.7)
  pub other-message : comparison (characters "00000106800101010106\n") (characters "00000106800101010107\n") ≡ told (entry 0 5 ∷ [])
  pub other-m : comparison (characters "00000106800101010106\n") (characters "000001068001010201060106\n") ≡ told (entry 0 5 ∷ [])
  -- and in n alone (rule 22.7)
  pub other-n : comparison (characters "00000106800101010106\n") (characters "00000106800102010106\n") ≡ told (entry 0 5 ∷ [])
  -- empty lines count in line numbers, and the refusal of a line gives the place in its datagram (rules 22.13 and 22.15)
  pub line-3 : comparison two (characters "\n000001060000\n0002\n")
      ≡ stopped (refusal_at 2 (numbered 1)) (record { trace = 2; line = 3 })
  -- the first trace is refused before the second (rule 22.15), here for a line of one digit, 15 at 0 (rule 22.22)
  pub first-first : comparison (characters "000001060000\n0\n") (characters "0002\n")
      ≡ stopped (refusal (numbered 15)) (record { trace = 1; line = 2 })
  pub answers : AnswerCases

-- at the limit of 512 lines
pub record LimitCases : Type 0 where
  -- 22 comes before the reading refusals of either trace, and empty lines count towards the limit (rules 1.15, 22.13, 22.14 and 26.33)
  pub too-many-first : comparison (empties 513) (characters "0\n") ≡ stopped (refusal (numbered 22)) (record { trace = 0; line = 0 })
  pub too_many : comparison (characters "0\n") (empties 513) ≡ stopped (refusal (numbered 22)) (record { trace = 0; line = 0 })
  pub most : comparison (empties 512) (empties 512) ≡ told []
