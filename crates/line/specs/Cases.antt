-- Small inputs, at a limit or where rules 18.1 to 18.15 are easily misread. Each case says in characters what is read or written.
use Rattle.std.specs.Prelude.{ℕ, ◌≡◌, true, false, List, [], ◌∷◌, map, length, replicate}
use Rattle.std.proofs.Math.Option.{none, some}
use Rattle.std.proofs.Math.ListN.{get_elem?}
use Rattle.length.specs.Refusals.{refusal_at, numbered}
use Rattle.length.specs.Answers.{done, refuse}
use Rattle.session.specs.Cells.{unknown, received, spare, repaired, blank}
use Rattle.session.specs.Cases.{at_limit}
use Rattle.session.specs.View.{fresh_view}
use Rattle.session.specs.Release.{release}
use Rattle.line.specs.Hex.{line_limit, line_rows, line_octets, hex_of}
use Rattle.line.specs.Lines.{kind_octet, result_line, refusal_line, step, program}
use Rattle.line.specs.Feed.{kept_limit, at_start}
use Rattle.line.specs.Promise.{result_limit, releases_limit, step_limit, goes_on}
use Rattle.line.specs.FeedPromise.{plain_at, line_end, taken_of}
use Rattle.line.specs.Text.{characters}

-- ---- hexadecimal
pub record HexCases : Type 0 where
  -- rules 18.7 and 18.15: digits of both cases are read, the high one first
  pub upper : line_octets (characters "0123456789ABCDEF") ≡ done (0x01 ∷ 0x23 ∷ 0x45 ∷ 0x67 ∷ 0x89 ∷ 0xAB ∷ 0xCD ∷ 0xEF ∷ [])
  pub lower : line_octets (characters "abcdef") ≡ done (0xAB ∷ 0xCD ∷ 0xEF ∷ [])
  -- rules 18.7 and 18.15: upper case is written, the high digit first
  pub written : hex_of (0x01 ∷ 0x23 ∷ 0x45 ∷ 0x67 ∷ 0x89 ∷ 0xAB ∷ 0xCD ∷ 0xEF ∷ []) ≡ characters "0123456789ABCDEF"
  -- rule 18.10: the characters before and behind the digits of each kind are no digits; nor are a carriage return and a space
  pub no-digits : map line_octets (characters "0/" ∷ characters "0:" ∷ characters "0@" ∷ characters "0G" ∷ characters "0`" ∷ characters "0g" ∷ [])
      ≡ replicate 6 (refuse (numbered 15))
  pub return : line_octets (characters "00\r") ≡ refuse (numbered 15)
  pub blanks : line_octets (characters "0 06") ≡ refuse (numbered 15)
  -- rule 18.10: a last digit without its pair is not dropped
  pub one-digit : line_octets (characters "0") ≡ refuse (numbered 15)
  pub odd : line_octets (characters "060") ≡ refuse (numbered 15)
  -- rules 1.11 and 18.11: a line of 4,801 characters, each `G`, which is no digit, is 2, before 15; one of 4,800 does not meet the row of 2
  pub too-long-first : line_octets (replicate 4801 0x47) ≡ refuse (numbered 2)
  pub longest : get_elem? (line_rows (replicate 4800 0x47)) 0 ≡ some none

-- ---- result lines
pub record ResultCases : Type 0 where
  -- rule 18.5: the kind of a number that left; a blank number never leaves (rule 9.3)
  pub kinds : map kind_octet (received ∷ spare ∷ repaired ∷ unknown ∷ blank ∷ []) ≡ 0x00 ∷ 0x01 ∷ 0x02 ∷ 0x03 ∷ 0x03 ∷ []
  -- rule 18.5: kind, number in two octets, high first, and octets
  pub numbers : map (λ (number : ℕ). result_line 0x02 number (0x06 ∷ 0x00 ∷ [])) (0x0000 ∷ 0x00FF ∷ 0x0100 ∷ 0x1200 ∷ 0xFFFF ∷ [])
      ≡ characters "0200000600\n"
      ∷ characters "0200FF0600\n"
      ∷ characters "0201000600\n"
      ∷ characters "0212000600\n"
      ∷ characters "02FFFF0600\n"
      ∷ []
  pub lost : result_line 0x03 0x1234 [] ≡ characters "031234\n"
  -- rule 18.6: `FF`, the number of the refusal, the place in four digits, high first
  pub refusals : refusal_line (refusal_at 0x05DB (numbered 6)) ≡ characters "FF0605DB\n"
  pub places : refusal_line (refusal_at 0x0900 (numbered 23)) ≡ characters "FF170900\n"
  pub last-place : refusal_line (refusal_at 0xFFFF (numbered 6)) ≡ characters "FF06FFFF\n"

-- ---- the program
-- rule 26.17: the whole case
abbrev pub WholeCase : Type 0
WholeCase =
    program (characters "000001060000\n00020100000106C00180000055\n\n00020100000106C00180000055\n")
    ≡ characters "00000006\n010001C00180000055\n00000200\n030003\nFF090000\n"

pub record ProgramCases : Type 0 where
  -- rules 18.5, 26.10 and 26.11: with datagram 0 lost, its packet is repaired out of datagram 2 and leaves with its zeros, as 02
  pub repaired : program (characters "000106C001800000550000\n000201068001020106C60180000055\n")
      ≡ characters "020000060000000000\n000001C00180000055\n00000206\n"
  -- rule 18.2: an empty line gives up the number that is waited for, and then all that can leave leaves
  pub give-up : program (characters "000101070000\n\n") ≡ characters "030000\n00000107\n"
  -- rules 10.2, 10.4 and 18.6: a number too far ahead is 8, a repeated one 7
  pub far : program (characters "002001060000\n") ≡ characters "FF080000\n"
  pub again : program (characters "000101060000\n000101060000\n") ≡ characters "FF070000\n"
  -- rules 18.9, 18.10 and 26.32: only a line feed ends a line, and a carriage return is no digit
  pub carriage-return : program (characters "\r\n") ≡ characters "FF0F0000\n"
  -- rules 2.27, 18.6 and 26.20: the place, from the start of the datagram; here a datagram that ends where a length must come
  pub placed : program (characters "0000\n") ≡ characters "FF010002\n"
  -- rule 18.8: a last line without a line feed counts unless it is empty
  pub last_line : program (characters "000001060000") ≡ characters "00000006\n"
  pub no_line : program [] ≡ []
  -- rule 18.4: only releasing is silent at 16; an empty line at the limit writes the refusal
  pub at-limit : (step [] (at_limit [] [])).text ≡ characters "FF100000\n"

-- ---- the limits of a line, of what is kept of it, of a result line (519 characters for a packet of 256 octets), of the 32 releases behind
-- a line, and of all that a line can write (rules 1.1, 1.11 and 1.13)
pub record LimitCases : Type 0 where
  pub line : line_limit ≡ 4800
  pub kept : kept_limit ≡ 4801
  pub result : length (result_line 0x00 0x0000 (replicate 256 0x00)) ≡ 519
  pub results : result_limit ≡ 519
  pub releases : releases_limit ≡ 16608
  pub step : step_limit ≡ 17127
  -- the end of the first line of a block; and how much is taken of a block: nothing unless there is room for all that a line can write,
  -- then line by line while there is. The first line here writes `FF010002`, nine characters (rule 18.12)
  pub first-end : line_end (characters "00\n00\n") ≡ 3
  pub no_end : line_end (characters "00") ≡ 2
  pub plain : map (plain_at (characters "00\n0") 1) (0 ∷ 1 ∷ 2 ∷ 3 ∷ []) ≡ true ∷ false ∷ true ∷ true ∷ []
  pub none-taken : taken_of 17126 true (characters "0000\n00") at_start ≡ 0
  pub one-taken : taken_of 17135 true (characters "0000\n00") at_start ≡ 5
  pub both-taken : taken_of 17136 true (characters "0000\n00") at_start ≡ 7
  -- releasing goes on after a number that left, and stops at a refusal (rules 18.2 and 18.3)
  pub goes_on_case : goes_on (release true 256 fresh_view) ≡ true
  pub stops : goes_on (release false 256 fresh_view) ≡ false

pub record Cases : Type 0 where
  pub hex : HexCases
  pub results : ResultCases
  pub program : ProgramCases
  pub limits : LimitCases
