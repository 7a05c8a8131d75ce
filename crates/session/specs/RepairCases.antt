-- Small rows of numbers, at a limit or where a rule is easily misread: each case states one answer and cites its rule.
use Rattle.std.specs.Prelude.{ℕ, ◌≡◌, true, false, List, [], ◌∷◌}
use Rattle.session.specs.Cells.{Cell, unknown, received, repaired, blank}
use Rattle.session.specs.Members.{members_of}
use Rattle.session.specs.Repair.{repair}
use Rattle.session.specs.Held.{Held, messages_in_row}
use Rattle.session.specs.Honest.{message_over}

-- ---- the numbers and held values of the cases, written out
-- number S, received; a number filled by repair while datagram S was offered; an unknown number, and a blank one
abbrev pub came : ℕ → List ℕ → Cell
came S octets = record { state = received; octets = octets; note = S }

abbrev pub filled : ℕ → List ℕ → Cell
filled S octets = record { state = repaired; octets = octets; note = S }

abbrev pub gap : Cell
gap = record { state = unknown; octets = []; note = 0 }

abbrev pub early : Cell
early = record { state = blank; octets = []; note = 0 }

-- what is held of a datagram with these messages over n packets each, and of one that was not accepted
abbrev pub holding : ℕ → List (List ℕ) → Held
holding n messages = record { accepted = true; n = n; messages = messages }

abbrev pub bare : Held
bare = record { accepted = false; n = 0; messages = [] }

-- message i of datagram S covers the n numbers S + i − m, S + i − 2m, and so on; S itself is in none (rule 4.12)
pub record MembersCases : Type 0 where
  pub one-message : members_of 34 2 1 0 ≡ 33 ∷ 32 ∷ []
  pub low-of-two : members_of 36 3 2 0 ≡ 34 ∷ 32 ∷ 30 ∷ []
  pub high-of-two : members_of 36 3 2 1 ≡ 35 ∷ 33 ∷ 31 ∷ []
  -- n = 8 and m = 4 reach back 32 numbers (rule 1.6)
  pub widest-low : members_of 32 8 4 0 ≡ 28 ∷ 24 ∷ 20 ∷ 16 ∷ 12 ∷ 8 ∷ 4 ∷ 0 ∷ []
  pub widest-high : members_of 32 8 4 3 ≡ 31 ∷ 27 ∷ 23 ∷ 19 ∷ 15 ∷ 11 ∷ 7 ∷ 3 ∷ []

-- a sender's message is the exclusive or of its members, shorter ones padded with zeros to the longest (rule 4.13); numbers before the
-- first count as empty (rule 4.14)
pub record MessageCases : Type 0 where
  pub longest-last : message_over ((0x06 ∷ []) ∷ (0xC0 ∷ 0x01 ∷ 0x80 ∷ []) ∷ []) ≡ 0xC6 ∷ 0x01 ∷ 0x80 ∷ []
  pub longest-first : message_over ((0xC0 ∷ 0x01 ∷ []) ∷ (0x06 ∷ []) ∷ (0x06 ∷ []) ∷ []) ≡ 0xC0 ∷ 0x01 ∷ []
  pub zeros-too : message_over ((0x06 ∷ 0x01 ∷ []) ∷ (0x06 ∷ 0x01 ∷ []) ∷ []) ≡ 0x00 ∷ 0x00 ∷ []
  pub before-first : message_over ([] ∷ (0x06 ∷ []) ∷ []) ≡ 0x06 ∷ []
  pub over_nothing : message_over ([] ∷ [] ∷ []) ≡ []

pub record RepairCases : Type 0 where
  -- a fill is as long as its message and keeps the zeros at its end (rules 11.3, 11.8 and 27.1)
  pub zeros-stay : repair (filled 2) (gap ∷ came 1 (0xC0 ∷ 0x01 ∷ []) ∷ [])
      (messages_in_row 2 (holding 2 ((0xC6 ∷ 0x01 ∷ []) ∷ []) ∷ []))
      ≡ filled 2 (0x06 ∷ 0x00 ∷ []) ∷ came 1 (0xC0 ∷ 0x01 ∷ []) ∷ []
  -- a fill is as long as its message also where a known member is longer: packet 1 is `AA BB`, the message of datagram 2 is `01`, and
  -- packet 0 is `AB` (rules 11.3 and 26.18)
  pub short-message : repair (filled 2) (gap ∷ came 1 (0xAA ∷ 0xBB ∷ []) ∷ []) (messages_in_row 2 (holding 2 ((0x01 ∷ []) ∷ []) ∷ []))
      ≡ filled 2 (0xAB ∷ []) ∷ came 1 (0xAA ∷ 0xBB ∷ []) ∷ []
  -- a message of length 0 never repairs (rule 11.7)
  pub empty-message : repair (filled 2) (gap ∷ came 1 (0xAA ∷ []) ∷ []) (messages_in_row 2 (holding 2 ([] ∷ []) ∷ []))
      ≡ gap ∷ came 1 (0xAA ∷ []) ∷ []
  -- a message with two unknown members is not usable (rule 11.1)
  pub two-missing : repair (filled 2) (gap ∷ gap ∷ []) (messages_in_row 2 (holding 2 ((0x01 ∷ []) ∷ []) ∷ []))
      ≡ gap ∷ gap ∷ []
  -- the first accepted number, counted from the base on, is taken: number 2, whose message is `AA`, and not number 3 (rule 11.2)
  pub first-number : repair (filled 1) (gap ∷ came 1 (0x01 ∷ []) ∷ came 2 (0x01 ∷ []) ∷ [])
      (messages_in_row 2 (holding 2 ((0xAA ∷ []) ∷ []) ∷ holding 3 ((0xBB ∷ []) ∷ []) ∷ []))
      ≡ filled 1 (0xAB ∷ []) ∷ came 1 (0x01 ∷ []) ∷ came 2 (0x01 ∷ []) ∷ []
  -- of a number the lowest usable message is taken (rule 11.2), and after each fill the search begins again (rule 11.4): message 0 of
  -- number 4 fills number 2, then the message of number 3 fills number 1
  pub lowest-message : repair (filled 0) (came 0 (0x01 ∷ []) ∷ gap ∷ gap ∷ came 3 (0x01 ∷ []) ∷ came 4 (0x01 ∷ []) ∷ [])
      (messages_in_row 3 (holding 2 ((0x10 ∷ []) ∷ []) ∷ holding 2 ((0x20 ∷ []) ∷ (0x40 ∷ []) ∷ []) ∷ []))
      ≡ came 0 (0x01 ∷ []) ∷ filled 0 (0x31 ∷ []) ∷ filled 0 (0x21 ∷ []) ∷ came 3 (0x01 ∷ []) ∷ came 4 (0x01 ∷ []) ∷ []
  -- a message of length 1 is usable; each of two messages fills its own member (rules 11.1 and 11.4)
  pub both_used : repair (filled 4) (gap ∷ gap ∷ came 2 (0x01 ∷ []) ∷ came 3 (0x02 ∷ []) ∷ [])
      (messages_in_row 4 (holding 2 ((0x11 ∷ []) ∷ (0x32 ∷ []) ∷ []) ∷ []))
      ≡ filled 4 (0x10 ∷ []) ∷ filled 4 (0x30 ∷ []) ∷ came 2 (0x01 ∷ []) ∷ came 3 (0x02 ∷ []) ∷ []
  -- a message whose members are all known fills nothing (rule 11.1)
  pub none-missing : repair (filled 2) (came 0 (0x01 ∷ []) ∷ came 1 (0x02 ∷ []) ∷ []) (messages_in_row 2 (holding 2 ((0x55 ∷ []) ∷ []) ∷ []))
      ≡ came 0 (0x01 ∷ []) ∷ came 1 (0x02 ∷ []) ∷ []
  -- a blank member is known and empty, so the message over it and one lost number is that number's packet (rules 4.14 and 9.3)
  pub blank-member : repair (filled 2) (early ∷ gap ∷ []) (messages_in_row 2 (holding 2 ((0x07 ∷ []) ∷ []) ∷ []))
      ≡ early ∷ filled 2 (0x07 ∷ []) ∷ []
