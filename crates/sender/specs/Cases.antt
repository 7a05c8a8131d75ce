-- Cases of a sending session, in numbers and octets: what a send writes, what it refuses and in which order (17, 16, 15, 4, 13, rule 15.8),
-- the history, and the ranges. Definitions only.
use Rattle.std.specs.Prelude.{ℕ, ◌≡◌, true, false, List, [], ◌∷◌, ◌++◌, replicate}
use Rattle.length.specs.Answers.{done, refuse, is_done, fitted}
use Rattle.length.specs.Refusals.{numbered}
use Rattle.sender.specs.Sending.{Sending, newest_place, fresh_sending, sent_on}
use Rattle.sender.specs.Sender.{history_octets, history_slot, packet_in}
use Rattle.sender.specs.Send.{datagram_to_send}
use Rattle.sender.specs.Ranges.{size_in_range, place_in_range, history_in_ranges}
use Rattle.sender.specs.Promise.{to_send}
use Rattle.sender.specs.Honest.{packet_at}
use Rattle.sender.specs.declared.Sender.{Sender}
use Rattle.sender.specs.declared.Settings.TheVariants as settings

-- a session that has sent this many packets, the last 32 of them `02`
abbrev pub sent_many : ℕ → Sending
sent_many sent = record { sent = sent; history = replicate 32 (0x02 ∷ []) }

-- a session that has sent `02`, `03` and `C4 01`
abbrev pub sent_three : Sending
sent_three = record { sent = 3; history = replicate 29 [] ++ ((0x02 ∷ []) ∷ (0x03 ∷ []) ∷ (0xC4 ∷ 0x01 ∷ []) ∷ []) }

-- a session that has sent one more than 1,000,000, which is outside its ranges (rule 15.13)
abbrev pub past_limit : Sender
past_limit = record { sent = 1000001; sizes = []; octets = [] }

-- the octets that a send of `06` writes
pub record DatagramCases : Type 0 where
  -- a first send with n = 8, m = 4: messages over nothing but numbers before the first have length 0 (rules 15.5 and 15.6)
  pub first-parity : datagram_to_send (settings.Parity 8 4) (0x06 ∷ []) fresh_sending
      ≡ done (0x00 ∷ 0x00 ∷ 0x01 ∷ 0x06 ∷ 0x80 ∷ 0x01 ∷ 0x08 ∷ 0x04 ∷ 0x00 ∷ 0x00 ∷ 0x00 ∷ 0x00 ∷ [])
  -- a first send with k = 8 writes no spares (rules 15.2 and 15.4)
  pub first-spares : datagram_to_send (settings.Spares 8) (0x06 ∷ []) fresh_sending ≡ done (0x00 ∷ 0x00 ∷ 0x01 ∷ 0x06 ∷ 0x00 ∷ 0x00 ∷ [])
  -- the j-th spare is packet S − j, so the newest comes first (rule 4.5)
  pub two-spares : datagram_to_send (settings.Spares 2) (0x06 ∷ []) sent_three
      ≡ done (0x00 ∷ 0x03 ∷ 0x01 ∷ 0x06 ∷ 0x00 ∷ 0x02 ∷ 0x02 ∷ 0xC4 ∷ 0x01 ∷ 0x01 ∷ 0x03 ∷ [])
  -- k = 0 is allowed, and never more spares are written than packets were sent (rules 1.3 and 15.4)
  pub no-spares : datagram_to_send (settings.Spares 0) (0x06 ∷ []) sent_three ≡ done (0x00 ∷ 0x03 ∷ 0x01 ∷ 0x06 ∷ 0x00 ∷ 0x00 ∷ [])
  pub three-of-eight : datagram_to_send (settings.Spares 8) (0x06 ∷ []) sent_three
      ≡ done (0x00 ∷ 0x03 ∷ 0x01 ∷ 0x06 ∷ 0x00 ∷ 0x03 ∷ 0x02 ∷ 0xC4 ∷ 0x01 ∷ 0x01 ∷ 0x03 ∷ 0x01 ∷ 0x02 ∷ [])
  -- one message over two packets: `C4 01` and `03` padded with a zero (rules 4.12 and 4.13)
  pub one-message : datagram_to_send (settings.Parity 2 1) (0x06 ∷ []) sent_three
      ≡ done (0x00 ∷ 0x03 ∷ 0x01 ∷ 0x06 ∷ 0x80 ∷ 0x01 ∷ 0x02 ∷ 0x01 ∷ 0x02 ∷ 0xC7 ∷ 0x01 ∷ [])
  -- two messages over two packets each: message 0 covers 1 and a number before the first, message 1 covers 2 and 0 (rules 4.12 and 4.14)
  pub two-messages : datagram_to_send (settings.Parity 2 2) (0x06 ∷ []) sent_three
      ≡ done (0x00 ∷ 0x03 ∷ 0x01 ∷ 0x06 ∷ 0x80 ∷ 0x01 ∷ 0x02 ∷ 0x02 ∷ 0x01 ∷ 0x03 ∷ 0x02 ∷ 0xC6 ∷ 0x01 ∷ [])
  -- a number before the first is decided by how many were sent, not by its size (rule 15.7): number 0 again, and all 32 packets count
  pub reach-again : datagram_to_send (settings.Parity 1 4) (0x06 ∷ []) (sent_many 65536)
      ≡ done (0x00 ∷ 0x00 ∷ 0x01 ∷ 0x06 ∷ 0x80 ∷ 0x01 ∷ 0x01 ∷ 0x04 ∷ 0x01 ∷ 0x02 ∷ 0x01 ∷ 0x02 ∷ 0x01 ∷ 0x02 ∷ 0x01 ∷ 0x02 ∷ [])
  -- the number is how many packets were sent before, modulo 65,536 (rules 15.3 and 15.7)
  pub last-number : datagram_to_send (settings.Spares 0) (0x06 ∷ []) (sent_many 65535) ≡ done (0xFF ∷ 0xFF ∷ 0x01 ∷ 0x06 ∷ 0x00 ∷ 0x00 ∷ [])
  pub number-0-again : datagram_to_send (settings.Spares 2) (0x06 ∷ []) (sent_many 65536)
      ≡ done (0x00 ∷ 0x00 ∷ 0x01 ∷ 0x06 ∷ 0x00 ∷ 0x02 ∷ 0x01 ∷ 0x02 ∷ 0x01 ∷ 0x02 ∷ [])
  -- the 1,000,000th packet is sent (rule 15.10)
  pub last-packet : datagram_to_send (settings.Spares 0) (0x06 ∷ []) (sent_many 999999) ≡ done (0x42 ∷ 0x3F ∷ 0x01 ∷ 0x06 ∷ 0x00 ∷ 0x00 ∷ [])

-- where more than one refusal applies, the case shows which one is given
pub record RefusalCases : Type 0 where
  -- 17 before 16, 15 and 4 (rule 15.8)
  pub ranges-first : to_send past_limit (settings.Spares 9) [] ≡ refuse (numbered 17)
  -- 16 from 1,000,000 on, before 15 and before 4 (rules 15.8 and 15.10)
  pub passed : datagram_to_send (settings.Spares 0) (0x06 ∷ []) (sent_many 1000000) ≡ refuse (numbered 16)
  pub passed-then-settings : datagram_to_send (settings.Spares 9) (0x06 ∷ []) (sent_many 1000000) ≡ refuse (numbered 16)
  pub passed-then-size : datagram_to_send (settings.Spares 0) [] (sent_many 1000000) ≡ refuse (numbered 16)
  -- 15 for k over 8, n not 1 to 8 and m not 1 to 4, before 4 (rules 1.3 to 1.5 and 15.9)
  pub settings-then-size : datagram_to_send (settings.Spares 9) [] fresh_sending ≡ refuse (numbered 15)
  pub k-8 : is_done (datagram_to_send (settings.Spares 8) (0x06 ∷ []) fresh_sending) ≡ true
  pub k-9 : datagram_to_send (settings.Spares 9) (0x06 ∷ []) fresh_sending ≡ refuse (numbered 15)
  pub n-0 : datagram_to_send (settings.Parity 0 1) (0x06 ∷ []) fresh_sending ≡ refuse (numbered 15)
  pub n-1 : is_done (datagram_to_send (settings.Parity 1 1) (0x06 ∷ []) fresh_sending) ≡ true
  pub n-8 : is_done (datagram_to_send (settings.Parity 8 1) (0x06 ∷ []) fresh_sending) ≡ true
  pub n-9 : datagram_to_send (settings.Parity 9 1) (0x06 ∷ []) fresh_sending ≡ refuse (numbered 15)
  pub m-0 : datagram_to_send (settings.Parity 1 0) (0x06 ∷ []) fresh_sending ≡ refuse (numbered 15)
  pub m-4 : is_done (datagram_to_send (settings.Parity 1 4) (0x06 ∷ []) fresh_sending) ≡ true
  pub m-5 : datagram_to_send (settings.Parity 1 5) (0x06 ∷ []) fresh_sending ≡ refuse (numbered 15)
  -- 4 for an empty packet and for one of 257 octets (rules 4.19 and 15.9), before 13 (rule 15.8)
  pub packet-0 : datagram_to_send (settings.Spares 0) [] fresh_sending ≡ refuse (numbered 4)
  pub packet-256 : is_done (datagram_to_send (settings.Spares 0) (replicate 256 0) fresh_sending) ≡ true
  pub packet-257 : datagram_to_send (settings.Spares 0) (replicate 257 0) fresh_sending ≡ refuse (numbered 4)
  pub size-then-room : fitted (datagram_to_send (settings.Spares 0) [] fresh_sending) [] ≡ refuse (numbered 4)
  -- 13 if the datagram, here of six octets, is longer than the buffer (rules 2.13 and 15.8)
  pub room-5 : fitted (datagram_to_send (settings.Spares 0) (0x06 ∷ []) fresh_sending) (replicate 5 0) ≡ refuse (numbered 13)
  pub room-6 : is_done (fitted (datagram_to_send (settings.Spares 0) (0x06 ∷ []) fresh_sending) (replicate 6 0)) ≡ true

pub record HistoryCases : Type 0 where
  -- a fresh session has sent nothing, and its history is empty (rules 1.14 and 15.1)
  pub fresh : fresh_sending ≡ record { sent = 0; history = replicate 32 [] }
  pub newest-place : newest_place ≡ 31
  -- the packet is the newest of the history, and the oldest of 32 drops out (rule 15.12)
  pub newest : sent_on (0x06 ∷ []) (record { sent = 3; history = (0x01 ∷ []) ∷ replicate 31 (0x02 ∷ []) })
      ≡ record { sent = 4; history = replicate 31 (0x02 ∷ []) ++ ((0x06 ∷ []) ∷ []) }
  -- the packet of a number is kept in slot number modulo 32 (rule 15.18): place 31 is the number sent last, place 0 the oldest
  pub octets : history_octets ≡ 8192
  pub slot-of-32 : history_slot 33 31 ≡ 0
  pub slot-of-31 : history_slot 32 31 ≡ 31
  pub slot-of-oldest : history_slot 100 0 ≡ 4
  pub in-slot-1 : packet_in (0 ∷ 2 ∷ []) (replicate 256 0 ++ (0x06 ∷ 0x07 ∷ 0x08 ∷ [])) 1 ≡ 0x06 ∷ 0x07 ∷ []
  -- number 0 is at place 32 of the row, and the places before it are empty (rule 4.14)
  pub row-of-0 : packet_at ((0x06 ∷ []) ∷ (0x07 ∷ []) ∷ []) 32 ≡ 0x06 ∷ []
  pub row-before-0 : packet_at ((0x06 ∷ []) ∷ (0x07 ∷ []) ∷ []) 31 ≡ []
  pub row-of-1 : packet_at ((0x06 ∷ []) ∷ (0x07 ∷ []) ∷ []) 33 ≡ 0x07 ∷ []

-- the ranges (rule 15.13)
pub record RangesCases : Type 0 where
  -- history lengths are 1 to 256, or 0 exactly for numbers before the first: the first argument is the number plus 32
  pub before-first : size_in_range 31 0 ≡ true
  pub octets-before-first : size_in_range 31 1 ≡ false
  pub first-empty : size_in_range 32 0 ≡ false
  pub first-least : size_in_range 32 1 ≡ true
  pub at-limit : size_in_range 32 256 ≡ true
  pub over : size_in_range 32 257 ≡ false
  -- octets past a length are zero
  pub no_more : place_in_range 1 (1 ∷ []) (0x06 ∷ 0x00 ∷ []) 31 ≡ true
  pub one_more : place_in_range 1 (1 ∷ []) (0x06 ∷ 0x01 ∷ []) 31 ≡ false
  pub at-the-end : place_in_range 1 (1 ∷ []) (0x06 ∷ replicate 254 0 ++ (0x01 ∷ [])) 31 ≡ false
  -- at most 1,000,000 sent
  pub none-sent : history_in_ranges 0 [] [] ≡ true
  pub one-sent : history_in_ranges 1 (1 ∷ []) (0x06 ∷ []) ≡ true
  pub one-missing : history_in_ranges 1 [] [] ≡ false
  pub sum-at-limit : history_in_ranges 1000000 (replicate 32 1) [] ≡ true
  pub sum-past-limit : history_in_ranges 1000001 (replicate 32 1) [] ≡ false
