-- Small sessions, at a limit or where a rule is easily misread: each case states one answer, in numbers and octets, and cites its rule.
use Rattle.std.specs.Prelude.{ℕ, ◌-◌, ◌≡◌, true, false, List, [], ◌∷◌, ◌++◌, length, replicate}
use Rattle.length.specs.Answers.{done, refuse, refuse_at, is_done}
use Rattle.length.specs.Refusals.{numbered}
use Rattle.datagram.specs.Carried.{Carried, spares, parity}
use Rattle.session.specs.Cells.{unknown, received, spare, repaired, blank, Cell, is_unknown}
use Rattle.session.specs.Held.{Held}
use Rattle.session.specs.RepairCases.{came, filled, gap, early, holding, bare}
use Rattle.session.specs.View.{View, Counts, sum, following, distance, number_at, fresh_view}
use Rattle.session.specs.Offer.{offer, offered}
use Rattle.session.specs.Release.{release, counted}

-- ---- the numbers, datagrams and sessions of the cases
-- number S, received with the packet `06`, and a number filled by the spare `02` of datagram S
abbrev pub arrived : ℕ → Cell
arrived S = came S (0x06 ∷ [])

abbrev pub copy : ℕ → Cell
copy S = record { state = spare; octets = 0x02 ∷ []; note = S }

-- the message `C6 01` over two packets. Number 1 was received with one of them, `C0 01`, so the other is `06 00`, repaired while datagram 2
-- was offered
abbrev pub message : List ℕ
message = 0xC6 ∷ 0x01 ∷ []

abbrev pub member : Cell
member = came 1 (0xC0 ∷ 0x01 ∷ [])

abbrev pub restored : Cell
restored = filled 2 (0x06 ∷ 0x00 ∷ [])

-- what is held of a datagram without messages, and of one with that message
abbrev pub marked : Held
marked = holding 0 []

abbrev pub over_two : Held
over_two = holding 2 (message ∷ [])

-- datagram S with the packet `06` alone, with one spare, with three, and with that message
abbrev pub alone : ℕ → Carried
alone S = record { number = S; packet = 0x06 ∷ []; extra = spares [] }

abbrev pub with_spare : ℕ → Carried
with_spare S = record { number = S; packet = 0x06 ∷ []; extra = spares ((0x02 ∷ []) ∷ []) }

abbrev pub with_three : ℕ → Carried
with_three S = record { number = S; packet = 0x06 ∷ []; extra = spares ((0x02 ∷ []) ∷ (0x03 ∷ []) ∷ (0x04 ∷ []) ∷ []) }

abbrev pub with_message : ℕ → Carried
with_message S = record { number = S; packet = 0x06 ∷ []; extra = parity 2 (message ∷ []) }

-- the four counts: received, spare, repaired, lost
abbrev pub counts : ℕ → ℕ → ℕ → ℕ → Counts
counts a b c d = record { received = a; spare = b; repaired = c; lost = d }

-- a session: its base, how many numbers were received and released, the cell of every number before the base, and the first cells and held
-- values from the base on; nothing is known of the numbers behind those
abbrev pub session : ℕ → ℕ → Cell → List Cell → List Held → View
session base passed before cells held =
    record {
      base = base;
      counts = counts passed 0 0 0;
      cells = replicate 32 before ++ (cells ++ replicate (32 - length cells) gap);
      held = held ++ replicate (32 - length held) bare;
    }

-- a session at its start, and a later one, with its base and how many numbers have passed
abbrev pub started : List Cell → List Held → View
started = session 0 0 early

abbrev pub later : ℕ → ℕ → List Cell → List Held → View
later base passed = session base passed gap

-- after 1,000,000 numbers the base is `42 40` (rules 1.10 and 13.1)
abbrev pub at_limit : List Cell → List Held → View
at_limit = later 0x4240 1000000

-- ---- what a session is
pub record ViewCases : Type 0 where
  -- base and counts are 0, the 32 numbers before the first are blank, the 32 from the base on unknown, and nothing is accepted (rules 1.13,
  -- 9.1 and 9.3)
  pub fresh : fresh_view
      ≡ record { base = 0; counts = counts 0 0 0 0; cells = replicate 32 early ++ replicate 32 gap; held = replicate 32 bare }
  -- of the five states one is not known (rules 9.2 and 9.3)
  pub unknown-is : is_unknown unknown ≡ true
  pub received-known : is_unknown received ≡ false
  pub spare-known : is_unknown spare ≡ false
  pub repaired-known : is_unknown repaired ≡ false
  pub blank-known : is_unknown blank ≡ false
  -- behind 65,535 comes 0, and a distance wraps (rule 2.35)
  pub after-0 : following 0 ≡ 1
  pub after_last : following 65535 ≡ 0
  pub ahead : distance 65535 0 ≡ 1
  pub same : distance 65535 65535 ≡ 0
  pub behind : distance 0 65535 ≡ 65535
  pub half : distance 40000 7231 ≡ 32767
  -- the view begins 32 numbers before the base and ends 31 behind it (rule 1.13)
  pub first-in-view : number_at 0 0 ≡ 65504
  pub before-base : number_at 0 31 ≡ 65535
  pub at_base : number_at 65535 32 ≡ 65535
  pub behind-base : number_at 65535 33 ≡ 0
  pub last-in-view : number_at 65535 63 ≡ 30
  -- the sum of the counts is the base's whole advance (rule 9.11)
  pub summed : sum (counts 1 20 300 4000) ≡ 4321
  -- each kind has its own count (rules 9.10 and 12.13)
  pub one-received : counted received (counts 1 20 300 4000) ≡ counts 2 20 300 4000
  pub one-spare : counted spare (counts 1 20 300 4000) ≡ counts 1 21 300 4000
  pub one-repaired : counted repaired (counts 1 20 300 4000) ≡ counts 1 20 301 4000
  pub one-lost : counted unknown (counts 1 20 300 4000) ≡ counts 1 20 300 4001
  -- a blank number never leaves (rule 9.3)
  pub none-blank : counted blank (counts 1 20 300 4000) ≡ counts 1 20 300 4000

-- ---- offer
pub record OfferCases : Type 0 where
  -- the packet and its spare are kept, both with the datagram's number as note, the datagram's number is marked, and no count changes
  -- (rules 9.5, 9.6, 10.6 and 10.10)
  pub spare-kept : offered (with_spare 1) fresh_view ≡ done (started (copy 1 ∷ arrived 1 ∷ []) (bare ∷ marked ∷ []))
  -- the j-th spare is packet S − j, numbers before the base too, and what is known stays (rules 4.5, 9.9 and 10.7): of the spares of
  -- datagram 3 with base 2 the first finds number 2 received, and the others fill numbers 1 and 0
  pub spares-in-order : offered (with_three 3) (later 2 2 (came 2 (0x07 ∷ []) ∷ []) (marked ∷ []))
      ≡ done (record {
        base = 2;
        counts = counts 2 0 0 0;
        cells = replicate 30 gap
            ++ (record { state = spare; octets = 0x04 ∷ []; note = 3 }
            ∷ record { state = spare; octets = 0x03 ∷ []; note = 3 }
            ∷ came 2 (0x07 ∷ [])
            ∷ arrived 3
            ∷ replicate 30 gap);
        held = marked ∷ marked ∷ replicate 30 bare;
      })
  -- a spare for a number before the first is ignored, since blank is known (rules 10.7 and 10.9)
  pub spare-before-first : offered (with_spare 0) fresh_view ≡ done (started (arrived 0 ∷ []) (marked ∷ []))
  -- a datagram accepted for a number that is already spare or repaired leaves its kind, octets and note, and its mark and messages are kept
  -- (rules 9.9 and 10.8)
  pub spare-stays : offered (alone 0) (started (copy 1 ∷ []) []) ≡ done (started (copy 1 ∷ []) (marked ∷ []))
  pub repaired-stays : offered (with_message 2) (started (gap ∷ gap ∷ filled 3 (0x05 ∷ []) ∷ []) [])
      ≡ done (started (gap ∷ gap ∷ filled 3 (0x05 ∷ []) ∷ []) (bare ∷ bare ∷ over_two ∷ []))
  -- a datagram's own message repairs within its own offer, and is kept (rules 10.11 and 11.6)
  pub repaired-then : offered (with_message 2) (started (gap ∷ member ∷ []) (bare ∷ marked ∷ []))
      ≡ done (started (restored ∷ member ∷ arrived 2 ∷ []) (bare ∷ marked ∷ over_two ∷ []))
  -- the note is the number of the datagram being offered: datagram 1 arrives after datagram 2, which holds the message, and fills number 0
  -- (rule 9.8)
  pub noted-then : offered (alone 1) (started (gap ∷ gap ∷ arrived 2 ∷ []) (bare ∷ bare ∷ over_two ∷ []))
      ≡ done (started (filled 1 (0xC0 ∷ 0x01 ∷ []) ∷ arrived 1 ∷ arrived 2 ∷ []) (bare ∷ marked ∷ over_two ∷ []))
  -- a saved session may hold a usable message: the next accepted offer uses it (rule 10.14)
  pub used-at-next : offered (alone 3) (started (gap ∷ member ∷ arrived 2 ∷ []) (bare ∷ marked ∷ over_two ∷ []))
      ≡ done (started (filled 3 (0x06 ∷ 0x00 ∷ []) ∷ member ∷ arrived 2 ∷ arrived 3 ∷ []) (bare ∷ marked ∷ over_two ∷ marked ∷ []))
  -- a number before the base is repaired too, and no count changes (rule 11.5)
  pub before-base : offered (with_message 2) (later 1 1 (member ∷ []) (marked ∷ []))
      ≡ done (record {
        base = 1;
        counts = counts 1 0 0 0;
        cells = replicate 31 gap ++ (restored ∷ member ∷ arrived 2 ∷ replicate 30 gap);
        held = marked ∷ over_two ∷ replicate 30 bare;
      })
  -- a message is kept while two of its members are missing (rules 11.9 and 27.3)
  pub two-missing : offered (with_message 2) fresh_view ≡ done (started (gap ∷ gap ∷ arrived 2 ∷ []) (bare ∷ bare ∷ over_two ∷ []))
  -- number 0 is one ahead of base 65,535 (rules 2.35 and 27.4)
  pub across-last : offered (alone 0) (later 65535 65535 [] [])
      ≡ done (later 65535 65535 (gap ∷ arrived 0 ∷ []) (bare ∷ marked ∷ []))
  -- an offer is never 16 (rule 10.12)
  pub at-limit : offered (alone 0x4240) (at_limit [] []) ≡ done (at_limit (arrived 0x4240 ∷ []) (marked ∷ []))
  -- a datagram at distance 31 is accepted (rules 10.1 and 26.14)
  pub last-ahead : offered (alone 31) fresh_view
      ≡ done (started (replicate 31 gap ++ (arrived 31 ∷ [])) (replicate 31 bare ++ (marked ∷ [])))
  -- distances 32 to 32,767 are too far ahead, and 32,768 to 65,535 are late (rules 10.2 and 10.3), across 65,535 too (rule 2.35)
  pub first-far : offered (alone 32) fresh_view ≡ refuse (numbered 8)
  pub last-far : offered (alone 32767) fresh_view ≡ refuse (numbered 8)
  pub first-late : offered (alone 32768) fresh_view ≡ refuse (numbered 9)
  pub last-late : offered (alone 65535) fresh_view ≡ refuse (numbered 9)
  pub last-ahead-across : is_done (offered (alone 15) (later 65520 65520 [] [])) ≡ true
  pub first-far-across : offered (alone 16) (later 65520 65520 [] []) ≡ refuse (numbered 8)
  pub last-far-across : offered (alone 32751) (later 65520 65520 [] []) ≡ refuse (numbered 8)
  pub first-late-across : offered (alone 32752) (later 65520 65520 [] []) ≡ refuse (numbered 9)
  -- the order is reading order, then 8 or 9, then 7 (rule 10.5); a number that left is 9 and not 7 (rule 10.3)
  pub read-before-far : offer (0x01 ∷ 0x00 ∷ []) fresh_view ≡ refuse_at 2 (numbered 1)
  pub read-before-late : offer (0xFF ∷ 0xFF ∷ 0x00 ∷ []) fresh_view ≡ refuse_at 2 (numbered 4)
  pub read-before-again : offer (0x00 ∷ 0x00 ∷ []) (started (arrived 0 ∷ []) (marked ∷ [])) ≡ refuse_at 2 (numbered 1)
  pub far-first : offered (alone 32) (started (arrived 0 ∷ []) (marked ∷ [])) ≡ refuse (numbered 8)
  pub late-first : offered (alone 0) (later 1 1 (arrived 1 ∷ []) []) ≡ refuse (numbered 9)
  -- a number whose datagram was accepted before is 7, and one that only a spare filled is not (rules 10.4 and 10.8)
  pub again : offered (alone 0) (started (arrived 0 ∷ []) (marked ∷ [])) ≡ refuse (numbered 7)
  pub again-at-end : offered (alone 31) (started (replicate 31 gap ++ (arrived 31 ∷ [])) (replicate 31 bare ++ (marked ∷ []))) ≡ refuse (numbered 7)

-- ---- release, with refusals in the order 16, 10, 13 (rule 12.9); 16 is given with leave and without (rule 12.12)
pub record ReleaseCases : Type 0 where
  pub passed-then-unknown : release false 0 (at_limit [] []) ≡ refuse (numbered 16)
  pub passed-then-room : release false 0 (at_limit (arrived 0x4240 ∷ []) []) ≡ refuse (numbered 16)
  pub passed-with-leave : release true 0 (at_limit [] []) ≡ refuse (numbered 16)
  -- an unknown base without leave is 10, whatever the room (rule 12.3); a packet longer than the room is 13 (rule 2.13)
  pub unknown-then-room : release false 0 fresh_view ≡ refuse (numbered 10)
  pub unknown-with-room : release false 256 fresh_view ≡ refuse (numbered 10)
  pub no_room : release false 0 (started (copy 1 ∷ []) []) ≡ refuse (numbered 13)
  pub no-room-by-one : release false 1 (started (restored ∷ []) []) ≡ refuse (numbered 13)
  -- with leave at a known base a buffer that is too short is 13 (rule 12.10)
  pub no-room-with-leave : release true 0 (started (copy 1 ∷ []) []) ≡ refuse (numbered 13)
  -- a received number leaves, and its packet stays in view as the number before the base (rules 1.13 and 12.2); it drops its mark and its
  -- message, the numbers behind it keep theirs, and the number that comes into view has nothing (rules 12.5, 12.7 and 12.8)
  pub received-leaves : release false 2 (started (came 0 (0xC0 ∷ 0x01 ∷ []) ∷ arrived 1 ∷ []) (over_two ∷ marked ∷ []))
      ≡ done (record {
        kind = received;
        number = 0;
        note = 0;
        octets = 0xC0 ∷ 0x01 ∷ [];
        after = record {
          base = 1;
          counts = counts 1 0 0 0;
          cells = replicate 31 early ++ (came 0 (0xC0 ∷ 0x01 ∷ []) ∷ arrived 1 ∷ replicate 31 gap);
          held = marked ∷ replicate 31 bare;
        };
      })
  -- the 1,000,000th number may leave: a repaired one, with its note, from base `42 3F` (rules 1.10, 12.2 and 12.12)
  pub repaired-leaves : release false 2 (later 0x423F 999999 (restored ∷ []) [])
      ≡ done (record {
        kind = repaired;
        number = 0x423F;
        note = 2;
        octets = 0x06 ∷ 0x00 ∷ [];
        after = record {
          base = 0x4240;
          counts = counts 999999 0 1 0;
          cells = replicate 31 gap ++ (restored ∷ replicate 32 gap);
          held = replicate 32 bare;
        };
      })
  -- a spare is counted as it leaves, with leave too, and its note is returned (rules 12.2 and 12.13); behind base 65,535 comes base 0
  -- (rules 12.5 and 26.15); the mark is dropped, and the number that comes into view has note 0 (rules 12.7 and 12.8)
  pub spare-leaves : release true 1 (later 65535 65535 (copy 1 ∷ []) (marked ∷ []))
      ≡ done (record {
        kind = spare;
        number = 65535;
        note = 1;
        octets = 0x02 ∷ [];
        after = record {
          base = 0;
          counts = counts 65535 1 0 0;
          cells = replicate 31 gap ++ (copy 1 ∷ replicate 32 gap);
          held = replicate 32 bare;
        };
      })
  -- a number that is skipped is lost, without room too and with note 0, and stays unknown (rules 12.4, 12.6 and 12.11)
  pub stays-unknown : release true 0 fresh_view
      ≡ done (record {
        kind = unknown;
        number = 0;
        note = 0;
        octets = [];
        after = record {
          base = 1;
          counts = counts 0 0 0 1;
          cells = replicate 31 early ++ (gap ∷ replicate 32 gap);
          held = replicate 32 bare;
        };
      })
