-- Fields and lost numbers at a limit, or where a mistake would look right: each case gives the one right answer, or the joiner after it.
-- Definitions only.
use Rattle.std.specs.Prelude.{ℕ, ◌≡◌, Bool, true, false, List, [], ◌∷◌, map, replicate}
use Rattle.std.proofs.Math.Option.{Option, none, some}
use Rattle.length.specs.Answers.{done, refuse}
use Rattle.length.specs.Tables.{refusal_in}
use Rattle.length.specs.Refusals.{numbered}
use Rattle.length.specs.declared.Reason.{Reason}
use Rattle.frame.specs.Frame.{frame_limit, Joining, tainted, opened, Frame, good, bad, Step, field_step}
use Rattle.frame.specs.Joiner.{held_as}
use Rattle.frame.specs.Promise.{field_answer, joiner_after, loss_answer, joiner_after_loss, FreshMade}
use Rattle.frame.specs.Line.{Field, row_right, senders_frames, Cut, row_of, frames_left, Event, a_field, a_loss, events_on, none_lost}
use Rattle.frame.specs.declared.Joiner.{Joiner}

-- a joiner with this frame open; one at the limit; and joiners outside their ranges
abbrev pub with : List ℕ → Joiner
with frame = held_as (opened frame)

abbrev pub full_frame : List ℕ
full_frame = replicate 300 0x55

abbrev pub saved_over : Joiner
saved_over = record { tainted = false; size = 301; frame = full_frame }

abbrev pub saved_tainted : Joiner
saved_tainted = record { tainted = true; size = 1; frame = replicate 300 0 }

abbrev pub saved_past : Joiner
saved_past = record { tainted = false; size = 299; frame = full_frame }

-- ---- the types, 0 to 11
abbrev pub types : List ℕ
types = 0 ∷ 1 ∷ 2 ∷ 3 ∷ 4 ∷ 5 ∷ 6 ∷ 7 ∷ 8 ∷ 9 ∷ 10 ∷ 11 ∷ []

-- a step that returns this, and keeps this
abbrev pub step_to : Option Frame → Joining → Step
step_to handed after = record { handed = handed; after = after }

-- the refusal of a field, if it is refused
abbrev pub refusal_for : List ℕ → ℕ → Option Reason
refusal_for octets type = refusal_in (field_answer 300 type octets (held_as tainted))

pub record TypeCases : Type 0 where
  -- rules 16.2 to 16.5 and 16.7: a field of each type with the octet `11`, where the open frame is `FF 13`
  pub on-open : map (λ (type : ℕ). field_step type (0x11 ∷ []) (opened (0xFF ∷ 0x13 ∷ []))) types
      ≡ step_to none (opened (0xFF ∷ 0x13 ∷ 0x11 ∷ []))
      ∷ step_to none (opened [])
      ∷ step_to (some (good (0xFF ∷ 0x13 ∷ []))) (opened [])
      ∷ step_to (some (bad (0xFF ∷ 0x13 ∷ []))) (opened [])
      ∷ step_to (some (good (0xFF ∷ 0x13 ∷ []))) (opened [])
      ∷ step_to (some (bad (0xFF ∷ 0x13 ∷ []))) (opened [])
      ∷ replicate 6 (step_to none (opened []))
  -- rules 16.4 and 16.6: where the open frame has no octets, types 3 and 5 return it and no other type returns a frame
  pub on-empty : map (λ (type : ℕ). (field_step type (0x11 ∷ []) (opened [])).handed) types
      ≡ none ∷ none ∷ none ∷ some (bad []) ∷ none ∷ some (bad []) ∷ replicate 6 none
  -- rules 16.8 to 16.10: while tainted nothing is returned, and types 1 to 5 end the taint
  pub while-tainted : map (λ (type : ℕ). field_step type (0x11 ∷ []) tainted) types
      ≡ step_to none tainted
      ∷ step_to none (opened [])
      ∷ step_to none (opened [])
      ∷ step_to none (opened [])
      ∷ step_to none (opened [])
      ∷ step_to none (opened [])
      ∷ replicate 6 (step_to none tainted)
  -- rule 16.11: which types are 14 without data, and which with data
  pub bare : map (refusal_for []) types
      ≡ some (numbered 14) ∷ none ∷ none ∷ none ∷ none ∷ none ∷ some (numbered 14) ∷ none ∷ some (numbered 14) ∷ some (numbered 14) ∷ some (numbered 14) ∷ none ∷ []
  pub with-data : map (refusal_for (0x11 ∷ [])) types
      ≡ none ∷ some (numbered 14) ∷ some (numbered 14) ∷ some (numbered 14) ∷ some (numbered 14) ∷ some (numbered 14) ∷ none ∷ none ∷ none ∷ none ∷ none ∷ none ∷ []

-- ---- a line of four packets: the frame `AA`, the bad frame `BB`, the beginning of `CC DD`, and its end with the bad frame `EE`
abbrev pub field : ℕ → List ℕ → Field
field type octets = record { type = type; octets = octets }

abbrev pub cut : Bool → List Field → Cut
cut lost fields = record { fields = fields; lost = lost }

-- with these packets lost or not
abbrev pub line_with : Bool → Bool → Bool → Bool → List Cut
line_with a b c d =
    cut a (field 0 (0xAA ∷ []) ∷ field 2 [] ∷ [])
    ∷ cut b (field 0 (0xBB ∷ []) ∷ field 3 [] ∷ [])
    ∷ cut c (field 0 (0xCC ∷ []) ∷ [])
    ∷ cut d (field 0 (0xDD ∷ []) ∷ field 4 [] ∷ field 0 (0xEE ∷ []) ∷ field 5 [] ∷ [])
    ∷ []

pub record LineCases : Type 0 where
  -- rule 16.11: a packet may hold these fields, and a row of no fields; a type over 11 or wrong data is not in such a row
  pub right : row_right (row_of (line_with false true false false)) ≡ true
  pub right-none : row_right [] ≡ true
  pub wrong_type : row_right (field 2 [] ∷ field 12 [] ∷ []) ≡ false
  pub wrong-data : row_right (field 2 (0x11 ∷ []) ∷ field 2 [] ∷ []) ≡ false
  -- rules 17.1 and 17.2: what the joiner is fed if the second packet is lost
  pub events : events_on (line_with false true false false)
      ≡ a_field (field 0 (0xAA ∷ []))
      ∷ a_field (field 2 [])
      ∷ a_loss
      ∷ a_field (field 0 (0xCC ∷ []))
      ∷ a_field (field 0 (0xDD ∷ []))
      ∷ a_field (field 4 [])
      ∷ a_field (field 0 (0xEE ∷ []))
      ∷ a_field (field 5 [])
      ∷ []
  -- rule 16.19: the sender's frames
  pub sent : senders_frames (row_of (line_with false true false false))
      ≡ good (0xAA ∷ []) ∷ bad (0xBB ∷ []) ∷ good (0xCC ∷ 0xDD ∷ []) ∷ bad (0xEE ∷ []) ∷ []
  -- rules 16.17 and 17.4: a lost packet that ends a frame spoils the next frame too; the one after it is whole
  pub lost-first : frames_left (line_with true false false false) ≡ good (0xCC ∷ 0xDD ∷ []) ∷ bad (0xEE ∷ []) ∷ []
  pub lost-second : frames_left (line_with false true false false) ≡ good (0xAA ∷ []) ∷ bad (0xEE ∷ []) ∷ []
  pub lost-third : frames_left (line_with false false true false) ≡ good (0xAA ∷ []) ∷ bad (0xBB ∷ []) ∷ bad (0xEE ∷ []) ∷ []
  pub lost-last : frames_left (line_with false false false true) ≡ good (0xAA ∷ []) ∷ bad (0xBB ∷ []) ∷ []
  -- rule 16.19: with nothing lost all of them are left
  pub none-lost : frames_left (line_with false false false false)
      ≡ good (0xAA ∷ []) ∷ bad (0xBB ∷ []) ∷ good (0xCC ∷ 0xDD ∷ []) ∷ bad (0xEE ∷ []) ∷ []
  pub is_none : none_lost (line_with false false false false) ≡ true
  pub is_some : none_lost (line_with false false false true) ≡ false
  -- rules 16.5 and 16.13: in a stretch a field of type 6 drops what is open, and after 301 octets nothing is kept up to its end
  pub dropped : senders_frames (field 0 (0xAA ∷ []) ∷ field 6 (0xBB ∷ []) ∷ field 0 (0xCC ∷ []) ∷ field 2 [] ∷ []) ≡ good (0xCC ∷ []) ∷ []
  pub at-limit : senders_frames (field 0 full_frame ∷ field 2 [] ∷ []) ≡ good full_frame ∷ []
  pub too_long : senders_frames (field 0 full_frame ∷ field 0 (0x11 ∷ []) ∷ field 6 (0x11 ∷ []) ∷ field 0 (0x22 ∷ []) ∷ field 2 [] ∷ []) ≡ []
  -- rule 16.6: a good frame of no octets is none, a bad one is
  pub empties : senders_frames (field 2 [] ∷ field 3 [] ∷ field 4 [] ∷ field 5 [] ∷ field 1 [] ∷ []) ≡ bad [] ∷ bad [] ∷ []

-- a fresh joiner is not tainted, and its open frame has no octets (rule 16.1)
abbrev pub fresh_joiner : Joiner
fresh_joiner = record { tainted = false; size = 0; frame = replicate 300 0 }

pub record JoinerCases : Type 0 where
  pub fresh : FreshMade fresh_joiner
  -- rules 16.3, 16.4 and 16.7: type 2 returns a good frame and type 5 a bad one, and then the open frame has no octets
  pub good-out : field_answer 2 2 [] (with (0xFF ∷ 0x13 ∷ [])) ≡ done (some (good (0xFF ∷ 0x13 ∷ [])))
  pub bad-out : field_answer 2 5 [] (with (0xFF ∷ 0x13 ∷ [])) ≡ done (some (bad (0xFF ∷ 0x13 ∷ [])))
  pub out-after : joiner_after 2 2 [] (with (0xFF ∷ 0x13 ∷ [])) ≡ with []
  -- rules 16.4, 16.6 and 26.29: a good frame of no octets is dropped, and a bad one is returned
  pub good-empty : field_answer 0 2 [] (with []) ≡ done none
  pub bad-empty : field_answer 0 3 [] (with []) ≡ done (some (bad []))
  -- rule 16.5: types 1, 6 and 7 drop what is open
  pub drop-1 : joiner_after 0 1 [] (with (0xFF ∷ [])) ≡ with []
  pub drop-6 : joiner_after 0 6 (0x11 ∷ []) (with (0xFF ∷ [])) ≡ with []
  pub drop-7 : joiner_after 0 7 [] (with (0xFF ∷ [])) ≡ with []
  -- rules 16.5 and 16.11: so do types 8 to 11, type 11 with data or without; type 10 without data is 14
  pub drop-8 : joiner_after 0 8 (0x11 ∷ []) (with (0xFF ∷ [])) ≡ with []
  pub drop-11 : joiner_after 0 11 (0x11 ∷ []) (with (0xFF ∷ [])) ≡ with []
  pub drop-11-bare : field_answer 0 11 [] (with (0xFF ∷ [])) ≡ done none
  pub bare-10 : field_answer 0 10 [] (with []) ≡ refuse (numbered 14)
  -- rules 16.8 and 16.10: a lost number taints up to and including the next field of types 1 to 5; types 6 and 11 end no taint
  pub loss-taints : joiner_after_loss (with (0xFF ∷ [])) ≡ held_as tainted
  pub tainted-quiet : field_answer 300 2 [] (held_as tainted) ≡ done none
  pub tainted-ends : joiner_after 300 2 [] (held_as tainted) ≡ with []
  pub tainted-goes-on : joiner_after 0 6 (0x11 ∷ []) (held_as tainted) ≡ held_as tainted
  pub tainted-goes-on-11 : joiner_after 0 11 [] (held_as tainted) ≡ held_as tainted
  -- rules 16.9, 16.11 and 26.30: while tainted nothing is kept and 18 is not given; 12 and 14 are given, and end no taint
  pub tainted-adds : field_answer 0 0 (0x11 ∷ full_frame) (held_as tainted) ≡ done none
  pub tainted-14 : field_answer 0 0 [] (held_as tainted) ≡ refuse (numbered 14)
  pub tainted-12 : joiner_after 0 12 [] (held_as tainted) ≡ held_as tainted
  -- rules 16.12 and 16.13: a field may have more data than a packet; a frame that would pass 300 octets is 18, and taints the joiner
  pub adds-over-packet : joiner_after 0 0 (replicate 257 0x55) (with []) ≡ with (replicate 257 0x55)
  pub adds-last : field_answer 0 0 full_frame (with []) ≡ done none
  pub adds-over : field_answer 0 0 (0x11 ∷ []) (with full_frame) ≡ refuse (numbered 18)
  -- rule 26.31: 257 octets, then 44
  pub adds-257-44 : field_answer 0 0 (replicate 44 0x55) (with (replicate 257 0x55)) ≡ refuse (numbered 18)
  pub too-long-taints : joiner_after 0 0 (0x11 ∷ []) (with full_frame) ≡ held_as tainted
  -- rule 16.15: 13 leaves the frame open
  pub no_room : field_answer 1 2 [] (with (0xFF ∷ 0x13 ∷ [])) ≡ refuse (numbered 13)
  pub no-room-stays : joiner_after 1 2 [] (with (0xFF ∷ 0x13 ∷ [])) ≡ with (0xFF ∷ 0x13 ∷ [])
  -- rules 16.14 and 16.16: over 300 octets, an octet while tainted, or an octet past the length that is not zero, are 17, which comes first
  pub octets-over : loss_answer saved_over ≡ refuse (numbered 17)
  pub octets-tainted : loss_answer saved_tainted ≡ refuse (numbered 17)
  pub octets-past : loss_answer saved_past ≡ refuse (numbered 17)
  pub ranges-first : field_answer 0 12 [] saved_past ≡ refuse (numbered 17)
  -- rule 16.11: a type over 11 is 12
  pub type-over : field_answer 0 12 [] (with []) ≡ refuse (numbered 12)

pub record Cases : Type 0 where
  pub types : TypeCases
  pub joiner : JoinerCases
  pub lines : LineCases
  -- rule 1.12: the most octets of a frame
  pub limit : frame_limit ≡ 300
