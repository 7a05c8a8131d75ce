-- Small lists and octets: where a list ends, which octet is lowest, and what is added. Each case gives the one right answer. Definitions
-- only.
use Rattle.std.specs.Prelude.{◌+◌, ◌≡◌, true, false, [], ◌∷◌, ltb, eqb}
use Rattle.octets.specs.Place.{tab, all_below}
use Rattle.octets.specs.ExclusiveOr.{xor_at, exclusive_or, longest}
use Rattle.octets.specs.Words.{word_of, both}

pub record Cases : Type 0 where
  -- a list by place has its elements from place 0 on
  pub tab-0 : tab 0 (λ k. k + 7) ≡ []
  pub tab-3 : tab 3 (λ k. k + 7) ≡ 7 ∷ 8 ∷ 9 ∷ []
  -- a test over the places below n: from 0 on, and not at n
  pub none_below : all_below 0 (λ k. false) ≡ true
  pub below-3 : all_below 3 (λ k. ltb k 3) ≡ true
  pub below-4 : all_below 4 (λ k. ltb k 3) ≡ false
  pub not_first : all_below 2 (λ k. eqb k 1) ≡ false
  -- rules 4.13 and 11.3: the exclusive or of 0F F0 33, 01 and 81 02; shorter lists are padded with zeros to the longest
  pub at-0 : xor_at ((0x0F ∷ 0xF0 ∷ 0x33 ∷ []) ∷ (0x01 ∷ []) ∷ (0x81 ∷ 0x02 ∷ []) ∷ []) 0 ≡ 0x8F
  pub at_1 : xor_at ((0x0F ∷ 0xF0 ∷ 0x33 ∷ []) ∷ (0x01 ∷ []) ∷ (0x81 ∷ 0x02 ∷ []) ∷ []) 1 ≡ 0xF2
  pub of_three : exclusive_or 3 ((0x0F ∷ 0xF0 ∷ 0x33 ∷ []) ∷ (0x01 ∷ []) ∷ (0x81 ∷ 0x02 ∷ []) ∷ []) ≡ 0x8F ∷ 0xF2 ∷ 0x33 ∷ []
  pub of_none : exclusive_or 2 [] ≡ 0x00 ∷ 0x00 ∷ []
  pub longest-none : longest [] ≡ 0
  pub longest-second : longest ((0x01 ∷ []) ∷ (0x81 ∷ 0x02 ∷ []) ∷ []) ≡ 2
  pub longest-first : longest ((0x81 ∷ 0x02 ∷ []) ∷ (0x01 ∷ []) ∷ []) ≡ 2
  -- rule 30.9: some octets as one number, the first octet lowest
  pub word-0 : word_of 0 (0x34 ∷ []) 0 ≡ 0
  pub word-past : word_of 2 (0x34 ∷ []) 0 ≡ 0x34
  pub word-2 : word_of 2 (0x78 ∷ 0x56 ∷ 0x34 ∷ 0x12 ∷ []) 1 ≡ 0x3456
  pub word-4 : word_of 4 (0x78 ∷ 0x56 ∷ 0x34 ∷ 0x12 ∷ []) 0 ≡ 0x12345678
  -- rule 30.9: one run added to another, which keeps its length
  pub added : both (0x0F ∷ 0x01 ∷ []) (0xFF ∷ 0x80 ∷ 0x11 ∷ []) ≡ 0xF0 ∷ 0x81 ∷ 0x11 ∷ []
