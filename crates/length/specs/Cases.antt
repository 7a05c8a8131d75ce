-- The numbers of the refusals, and small lengths, read and written: at a limit, or where a mistake would look right. Each case gives the
-- one right answer, in octets and numbers. Definitions only.
use Rattle.std.specs.Prelude.{ℕ, ◌≡◌, true, false, [], ◌∷◌, map, Ok, Err}
use Rattle.std.proofs.Math.Option.{none, some}
use Rattle.length.specs.Refusals.{ends_early, too_long, bad_form, outside_sizes, spare_bit, left_over, repeated, too_far, late}
use Rattle.length.specs.Refusals.{base_unknown, not_assigned, no_room, wrong_data, wrong_settings, all_passed, outside_ranges}
use Rattle.length.specs.Refusals.{frame_too_long, bad_image, other_edition, too_many_lines, no_solution, number_of, numbered}
use Rattle.length.specs.Answers.{Answer, done, refused, read_from, is_done, afterwards, LengthAnswer, length_outcome, refusal_of}
use Rattle.length.specs.Answers.{written_outcome, fitted, size_of, over}
use Rattle.length.specs.Tables.{when, first, unless, refusal_in, place_in, room_row}
use Rattle.length.specs.Length.{length_limit, length_at, length_within, length_to_write}

-- rules 2.1 to 2.23: the number of each refusal; 11 is retired, and there is no 19. A number that the rules do not give stays what it is
pub record NumberCases : Type 0 where
  pub to-6 : map number_of (ends_early ∷ too_long ∷ bad_form ∷ outside_sizes ∷ spare_bit ∷ left_over ∷ []) ≡ 1 ∷ 2 ∷ 3 ∷ 4 ∷ 5 ∷ 6 ∷ []
  pub to-10 : map number_of (repeated ∷ too_far ∷ late ∷ base_unknown ∷ []) ≡ 7 ∷ 8 ∷ 9 ∷ 10 ∷ []
  pub to-15 : map number_of (not_assigned ∷ no_room ∷ wrong_data ∷ wrong_settings ∷ []) ≡ 12 ∷ 13 ∷ 14 ∷ 15 ∷ []
  pub to-18 : map number_of (all_passed ∷ outside_ranges ∷ frame_too_long ∷ []) ≡ 16 ∷ 17 ∷ 18 ∷ []
  pub to-23 : map number_of (bad_image ∷ other_edition ∷ too_many_lines ∷ no_solution ∷ []) ≡ 20 ∷ 21 ∷ 22 ∷ 23 ∷ []
  pub names : map (λ n. number_of (numbered n)) (1 ∷ 2 ∷ 3 ∷ 4 ∷ 5 ∷ 6 ∷ 7 ∷ 8 ∷ 9 ∷ 10 ∷ 12 ∷ 13 ∷ 14 ∷ 15 ∷ 16 ∷ 17 ∷ 18 ∷ 20 ∷ 21 ∷ 22 ∷ 23 ∷ [])
      ≡ 1 ∷ 2 ∷ 3 ∷ 4 ∷ 5 ∷ 6 ∷ 7 ∷ 8 ∷ 9 ∷ 10 ∷ 12 ∷ 13 ∷ 14 ∷ 15 ∷ 16 ∷ 17 ∷ 18 ∷ 20 ∷ 21 ∷ 22 ∷ 23 ∷ []
  pub others : map (λ n. number_of (numbered n)) (0 ∷ 11 ∷ 19 ∷ 24 ∷ 255 ∷ []) ≡ 0 ∷ 11 ∷ 19 ∷ 24 ∷ 255 ∷ []

-- a length that is read: its value, and how many octets it has
abbrev pub found : ℕ → ℕ → Answer LengthAnswer
found value size = done (record { value = value; size = size })

-- a refusal: its number, and its place
abbrev pub placed : {A : Type 0} → ℕ → ℕ → Answer A
placed number place = refused (record { reason = numbered number; place = place })

pub record ReadCases : Type 0 where
  -- rules 3.1 and 3.7: below 128 a length is one octet, whatever follows it
  pub zero : length_at (0x00 ∷ []) ≡ found 0 1
  pub one-octet : length_at (0x7F ∷ 0xFF ∷ []) ≡ found 127 1
  -- rule 3.2: from 128 to 16,383 it is two octets, high first
  pub least-two : length_at (0x80 ∷ 0x80 ∷ []) ≡ found 128 2
  pub high-first : length_at (0x81 ∷ 0x02 ∷ 0xFF ∷ []) ≡ found 258 2
  pub most-two : length_at (0xBF ∷ 0xFF ∷ []) ≡ found 16383 2
  -- rules 3.3, 3.5 and 26.19: C0 or more is 3, as the last octet too; as the last octet 80 to BF is 1, and so is no octet
  pub over-limit : length_at (0xC0 ∷ 0x00 ∷ []) ≡ placed 3 0
  pub last-c0 : length_at (0xC0 ∷ []) ≡ placed 3 0
  pub last-ff : length_at (0xFF ∷ []) ≡ placed 3 0
  pub last-80 : length_at (0x80 ∷ []) ≡ placed 1 0
  pub last-bf : length_at (0xBF ∷ []) ≡ placed 1 0
  pub nothing : length_at [] ≡ placed 1 0
  -- rule 3.4: two octets for less than 128 are 3
  pub two-for-0 : length_at (0x80 ∷ 0x00 ∷ []) ≡ placed 3 0
  pub two-for-127 : length_at (0x80 ∷ 0x7F ∷ []) ≡ placed 3 0
  -- rules 2.31 and 3.9: a length that is read from an octet on is refused at that octet
  pub from-octet-2 : read_from 2 (length_at (0xC0 ∷ [])) ≡ placed 3 2
  pub further-on : read_from 2 (read_from 3 (length_at [])) ≡ placed 1 5
  -- rules 2.4 and 3.6: 4 outside the sizes, below and above; 3 and 1 come before it
  pub below-sizes : length_within 2 5 (0x01 ∷ []) ≡ placed 4 0
  pub least_size : length_within 2 5 (0x02 ∷ []) ≡ found 2 1
  pub most-size : length_within 2 5 (0x05 ∷ []) ≡ found 5 1
  pub above-sizes : length_within 2 5 (0x06 ∷ []) ≡ placed 4 0
  pub form-first : length_within 2 5 (0xC0 ∷ []) ≡ placed 3 0
  pub end-first : length_within 2 5 [] ≡ placed 1 0
  -- rule 30.10: the cases of the reader's answer
  pub value-told : length_outcome (Ok (record { value = 200; size = 2 })) ≡ found 200 2
  pub refusal-told : length_outcome (Err (record { reason = numbered 3; place = 7 })) ≡ placed 3 7
  pub why : refusal_of (Err (record { reason = numbered 3; place = 7 })) ≡ record { reason = numbered 3; place = 7 }
  pub why-value : refusal_of (Ok (record { value = 200; size = 2 })) ≡ record { reason = numbered 1; place = 0 }

pub record WriteCases : Type 0 where
  -- rules 3.1, 3.2 and 3.8: one octet below 128, two to 16,383, and more is 4
  pub zero : length_to_write 0 ≡ done (0x00 ∷ [])
  pub one-octet : length_to_write 127 ≡ done (0x7F ∷ [])
  pub least-two : length_to_write 128 ≡ done (0x80 ∷ 0x80 ∷ [])
  pub high_part : length_to_write 256 ≡ done (0x81 ∷ 0x00 ∷ [])
  pub high-first : length_to_write 258 ≡ done (0x81 ∷ 0x02 ∷ [])
  pub most-two : length_to_write 16383 ≡ done (0xBF ∷ 0xFF ∷ [])
  pub over-limit : length_to_write 16384 ≡ placed 4 0
  pub limit : length_limit ≡ 16383
  -- rules 2.13 and 3.8: a buffer that is too short is 13, and 4 comes before it
  pub two-into-one : fitted (length_to_write 128) (0xAA ∷ []) ≡ placed 13 0
  pub one-into-none : fitted (length_to_write 5) [] ≡ placed 13 0
  pub one-into-one : fitted (length_to_write 5) (0xAA ∷ []) ≡ done (0x05 ∷ [])
  pub size-first : fitted (length_to_write 16384) [] ≡ placed 4 0
  -- rule 2.25: after that 13 the buffer of one octet is unchanged
  pub refused-stays : over (fitted (length_to_write 128) (0xAA ∷ [])) (0xAA ∷ []) ≡ 0xAA ∷ []
  -- rule 2.26: the front of the buffer is written, and the rest is unchanged
  pub rest-stays : over (fitted (length_to_write 5) (0xAA ∷ 0xBB ∷ [])) (0xAA ∷ 0xBB ∷ []) ≡ 0x05 ∷ 0xBB ∷ []
  -- rule 30.10: the cases of the writer's answer, and how many octets it reports
  pub size-told : written_outcome (Ok 2) ≡ size_of (length_to_write 128)
  pub two-told : size_of (length_to_write 128) ≡ done 2
  pub refusal-told : written_outcome (Err (record { reason = numbered 13; place = 0 })) ≡ placed 13 0

-- rule 2.24: the first row of a table that applies is the answer, and without one the call is done; here 5 is the value of a call that is
-- done, and 12 and 14 are its refusals
pub record TableCases : Type 0 where
  pub none-applies : unless {A = ℕ} (when false (numbered 12) ∷ when false (numbered 14) ∷ []) 5 ≡ done 5
  pub first-applies : unless {A = ℕ} (when true (numbered 12) ∷ when true (numbered 14) ∷ []) 5 ≡ placed 12 0
  pub second-applies : unless {A = ℕ} (when false (numbered 12) ∷ when true (numbered 14) ∷ []) 5 ≡ placed 14 0
  pub first-row : first (when false (numbered 12) ∷ when true (numbered 14) ∷ when true (numbered 15) ∷ []) ≡ some (numbered 14)
  pub no_row : first (when false (numbered 12) ∷ []) ≡ none
  pub done-row : refusal_in {A = ℕ} (done 5) ≡ none
  pub refused-row : refusal_in {A = ℕ} (placed 12 7) ≡ some (numbered 12)
  pub done-place : place_in {A = ℕ} (done 5) ≡ 0
  pub refused-place : place_in {A = ℕ} (placed 12 7) ≡ 7
  -- rule 2.13: the last row of a call that writes two octets, over a buffer of two octets and of one
  pub room : room_row (0x01 ∷ 0x02 ∷ []) (0xAA ∷ 0xAA ∷ []) ≡ none ∷ []
  pub no_room_case : room_row (0x01 ∷ 0x02 ∷ []) (0xAA ∷ []) ≡ some (numbered 13) ∷ []
  -- rule 2.25: done or refused; the state after a call
  pub is-done : is_done {A = ℕ} (done 5) ≡ true
  pub is-refused : is_done {A = ℕ} (placed 12 0) ≡ false
  pub new-state : afterwards {A = ℕ} (done 5) 4 ≡ 5
  pub old-state : afterwards {A = ℕ} (placed 12 0) 4 ≡ 4

pub record Cases : Type 0 where
  pub numbers : NumberCases
  pub reads : ReadCases
  pub writes : WriteCases
  pub tables : TableCases
