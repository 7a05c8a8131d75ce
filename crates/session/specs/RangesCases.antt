-- Cases at the edges of a session's ranges (rules 13.1 to 13.4, 13.6 to 13.8 and 13.10): each states, in numbers, whether it is within
-- them. Definitions only.
use Rattle.std.specs.Prelude.{ℕ, ◌-◌, ◌≡◌, true, false, List, [], ◌∷◌, ◌++◌, length, replicate}
use Rattle.session.specs.Cells.{Cell, unknown, received, spare, repaired, blank}
use Rattle.session.specs.Held.{Held}
use Rattle.session.specs.RepairCases.{came, gap, early, holding, bare}
use Rattle.session.specs.View.{View, Counts, fresh_view}
use Rattle.session.specs.Ranges.{sum_right, blank_at, is_fill, size_right, note_right, mark_right, held_right, in_ranges}
use Rattle.session.specs.Cases.{counts, session, started, later, at_limit, arrived, marked}

-- a fresh session, except for its base and counts
abbrev pub counting : ℕ → Counts → View
counting base counts = record { base = base; counts = counts; cells = replicate 32 early ++ replicate 32 gap; held = replicate 32 bare }

pub record RangesCases : Type 0 where
  -- a fresh session is within its ranges (rule 9.12)
  pub at-start : in_ranges fresh_view ≡ true
  -- the base equals the sum of the four counts modulo 65,536, and the sum is at most 1,000,000 (rules 13.1 and 13.2)
  pub before_last : sum_right (counting 65535 (counts 65535 0 0 0)) ≡ true
  pub after_last : sum_right (counting 0 (counts 0 65536 0 0)) ≡ true
  pub not-wrapped : sum_right (counting 65536 (counts 0 65536 0 0)) ≡ false
  pub base-apart : sum_right (counting 1 (counts 65536 0 0 0)) ≡ false
  pub each-counted : sum_right (counting 4321 (counts 1 20 300 4000)) ≡ true
  pub sum-at-limit : sum_right (counting 0x4240 (counts 250000 250000 250000 250000)) ≡ true
  pub sum-past-limit : sum_right (counting 0x4241 (counts 250000 250000 250000 250001)) ≡ false
  -- the sum is a true sum of four numbers of 32 bits: one that wrapped would be 0 here (rules 2.34 and 13.2)
  pub sum_wraps : sum_right (counting 0 (counts 4294967295 0 0 1)) ≡ false
  -- the number base − j is blank exactly if j exceeds the sum of the counts, and no other is (rule 13.3): place 31 has j = 1, place 0 has
  -- j = 32, and place 32 is the base
  pub before-first : blank_at 0 31 ≡ true
  pub first-left : blank_at 1 31 ≡ false
  pub second-before : blank_at 1 30 ≡ true
  pub last-blank : blank_at 31 0 ≡ true
  pub none-blank : blank_at 32 0 ≡ false
  pub base-not-blank : blank_at 0 32 ≡ false
  pub ahead-not-blank : blank_at 0 63 ≡ false
  pub blank-elsewhere : size_right blank 0 false ≡ false
  pub blank-there : size_right blank 0 true ≡ true
  pub unknown-there : size_right unknown 0 true ≡ false
  pub received-there : size_right received 1 true ≡ false
  pub spare-there : size_right spare 1 true ≡ false
  pub repaired-there : size_right repaired 1 true ≡ false
  -- an unknown or blank number has length 0, any other 1 to 256 (rule 13.4)
  pub unknown-empty : size_right unknown 0 false ≡ true
  pub unknown-with-octets : size_right unknown 1 false ≡ false
  pub blank-with-octets : size_right blank 1 true ≡ false
  pub received-empty : size_right received 0 false ≡ false
  pub received-least : size_right received 1 false ≡ true
  pub received-at-limit : size_right received 256 false ≡ true
  pub received-over : size_right received 257 false ≡ false
  pub spare-empty : size_right spare 0 false ≡ false
  pub spare-least : size_right spare 1 false ≡ true
  pub spare-at-limit : size_right spare 256 false ≡ true
  pub spare-over : size_right spare 257 false ≡ false
  pub repaired-empty : size_right repaired 0 false ≡ false
  pub repaired-least : size_right repaired 1 false ≡ true
  pub repaired-at-limit : size_right repaired 256 false ≡ true
  pub repaired-over : size_right repaired 257 false ≡ false
  -- the states of a number that has a packet (rule 13.4)
  pub received-fills : is_fill received ≡ true
  pub spare-fills : is_fill spare ≡ true
  pub repaired-fills : is_fill repaired ≡ true
  pub unknown-empties : is_fill unknown ≡ false
  pub blank-empties : is_fill blank ≡ false
  -- the note of a received number is its own number, that of a blank or unknown number is 0, and a spare or repaired number may have any
  -- (rule 13.10)
  pub own-note : note_right received 7 7 ≡ true
  pub another-note : note_right received 8 7 ≡ false
  pub no_note : note_right received 0 7 ≡ false
  pub unknown-note : note_right unknown 7 7 ≡ false
  pub unknown-no-note : note_right unknown 0 7 ≡ true
  pub blank-note : note_right blank 7 7 ≡ false
  pub blank-no-note : note_right blank 0 7 ≡ true
  pub spare-note : note_right spare 8 7 ≡ true
  pub repaired-note : note_right repaired 8 7 ≡ true
  -- an accepted number is known (rule 13.6)
  pub accepted-unknown : mark_right true false 0 0 ≡ false
  pub accepted-known : mark_right true true 0 0 ≡ true
  pub neither : mark_right false false 0 0 ≡ true
  pub known_alone : mark_right false true 0 0 ≡ true
  -- only accepted numbers have messages (rule 13.7); with m = 0 also n = 0, and otherwise n is 1 to 8 and m is 1 to 4 (rule 13.8)
  pub bare-messages : mark_right false true 1 1 ≡ false
  pub bare-n : mark_right false true 1 0 ≡ false
  pub n-without-messages : mark_right true true 1 0 ≡ false
  pub n-0 : mark_right true true 0 1 ≡ false
  pub least : mark_right true true 1 1 ≡ true
  pub most : mark_right true true 8 4 ≡ true
  pub n-9 : mark_right true true 9 4 ≡ false
  pub m-5 : mark_right true true 8 5 ≡ false
  -- and message lengths are 0 to 256 (rule 13.8)
  pub message-empty : held_right (holding 1 ([] ∷ [])) true ≡ true
  pub message-at-limit : held_right (holding 1 (replicate 256 1 ∷ [])) true ≡ true
  pub message-over : held_right (holding 1 (replicate 257 1 ∷ [])) true ≡ false
  pub last-message-over : held_right (holding 1 ([] ∷ [] ∷ [] ∷ replicate 257 1 ∷ [])) true ≡ false
  pub messages-bare : held_right (record { accepted = false; n = 1; messages = [] ∷ [] }) true ≡ false
  -- a whole session, and one with a wrong number at either end of the view or at the base (rules 13.3, 13.6 and 13.10)
  pub whole : in_ranges (started (arrived 0 ∷ []) (marked ∷ [])) ≡ true
  pub marked-unknown : in_ranges (started [] (marked ∷ [])) ≡ false
  pub marked-unknown-at-end : in_ranges (started [] (replicate 31 bare ++ (marked ∷ []))) ≡ false
  pub not-blank-at-front : in_ranges (session 31 31 gap [] []) ≡ false
  pub all-passed : in_ranges (session 32 32 gap [] []) ≡ true
  pub blank-at-end : in_ranges (started (replicate 31 gap ++ (early ∷ [])) []) ≡ false
  pub noted-at-end : in_ranges (started (replicate 31 gap ++ (arrived 30 ∷ [])) []) ≡ false
  pub own-at-end : in_ranges (started (replicate 31 gap ++ (arrived 31 ∷ [])) []) ≡ true
  pub noted-at-front : in_ranges (session 0 65536 (came 0 (0x06 ∷ [])) [] []) ≡ false
