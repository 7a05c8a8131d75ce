-- Small datagrams, read and written: at a limit, or where a mistake would look right. Each case gives the one right answer, in octets and
-- numbers. Definitions only.
use Rattle.std.specs.Prelude.{ℕ, ◌≡◌, true, false, List, [], ◌∷◌, ◌++◌, map, replicate, Ok, Err}
use Rattle.length.specs.Answers.{Answer, done, is_done}
use Rattle.length.specs.Cases.{placed}
use Rattle.length.specs.Refusals.{numbered}
use Rattle.datagram.specs.Carried.{spares, parity}
use Rattle.datagram.specs.Write.{datagram_to_write}
use Rattle.datagram.specs.Inner.Heads.{spares_head, parity_head, items_size, datagram_size, n_fits}
use Rattle.datagram.specs.Read.{DatagramParts, read_datagram, carried_by}
use Rattle.datagram.specs.Promise.{datagram_read}
use Rattle.datagram.specs.declared.reader.Part.{Part}
use Rattle.datagram.specs.declared.kind.Kind.{Kind}
use Rattle.datagram.specs.declared.kind.Kind.TheVariants as kind

-- number 256 and the newest packet `06`, then these octets
abbrev pub reads : List ℕ → Answer DatagramParts
reads octets = read_datagram (0x01 ∷ 0x00 ∷ 0x01 ∷ 0x06 ∷ octets)

-- a part of the octets, by its start and its length (rule 4.23)
abbrev pub part : ℕ → ℕ → Part
part start size = record { start = start; size = size }

-- such a datagram as read: what follows its packet, and the parts
abbrev pub gives : Kind → List Part → Answer DatagramParts
gives kind items = done (record { number = 256; packet = part 3 1; kind = kind; items = items })

pub record ReadCases : Type 0 where
  -- rules 1.2, 2.2 and 4.15: over 2,400 octets are 2, whatever they are; 2,400 are read
  pub octets-2401 : read_datagram (replicate 2401 0) ≡ placed 2 0
  pub octets-2400 : read_datagram (replicate 2400 0) ≡ placed 4 2
  -- rules 4.1, 4.2 and 4.23: the number has its high octet first; the newest packet is one octet at place 3
  pub number-256 : reads (0x00 ∷ 0x00 ∷ []) ≡ gives kind.Spares []
  pub number-258 : read_datagram (0x01 ∷ 0x02 ∷ 0x02 ∷ 0x06 ∷ 0x07 ∷ 0x00 ∷ 0x00 ∷ [])
      ≡ done (record { number = 258; packet = part 3 2; kind = kind.Spares; items = [] })
  -- rules 1.1, 3.6 and 4.10: a packet has 1 to 256 octets; a length outside the sizes is 4, before the missing octets are 1
  pub packet-0 : read_datagram (0x00 ∷ 0x00 ∷ 0x00 ∷ []) ≡ placed 4 2
  pub packet-256 : read_datagram (0x00 ∷ 0x00 ∷ 0x81 ∷ 0x00 ∷ replicate 256 0x06 ++ (0x00 ∷ 0x00 ∷ []))
      ≡ done (record { number = 0; packet = part 4 256; kind = kind.Spares; items = [] })
  pub packet-257 : read_datagram (0x00 ∷ 0x00 ∷ 0x81 ∷ 0x01 ∷ []) ≡ placed 4 2
  pub packet-form : read_datagram (0x00 ∷ 0x00 ∷ 0x80 ∷ 0x01 ∷ 0x06 ∷ []) ≡ placed 3 2
  -- rule 4.3: one of the low seven bits is set, each by itself, and one beside 80
  pub low-bits : map (λ (octet : ℕ). reads (octet ∷ [])) (0x01 ∷ 0x02 ∷ 0x04 ∷ 0x08 ∷ 0x10 ∷ 0x20 ∷ 0x40 ∷ 0x7F ∷ 0x81 ∷ [])
      ≡ replicate 9 (placed 5 4)
  -- rules 1.3, 4.4 and 4.9: at most 8 spares, in order
  pub spares-2 : reads (0x00 ∷ 0x02 ∷ 0x01 ∷ 0xAA ∷ 0x02 ∷ 0xBB ∷ 0xCC ∷ []) ≡ gives kind.Spares (part 7 1 ∷ part 9 2 ∷ [])
  pub spares-8 : reads (0x00 ∷ 0x08 ∷ 0x01 ∷ 1 ∷ 0x01 ∷ 2 ∷ 0x01 ∷ 3 ∷ 0x01 ∷ 4 ∷ 0x01 ∷ 5 ∷ 0x01 ∷ 6 ∷ 0x01 ∷ 7 ∷ 0x01 ∷ 8 ∷ [])
      ≡ gives kind.Spares (part 7 1 ∷ part 9 1 ∷ part 11 1 ∷ part 13 1 ∷ part 15 1 ∷ part 17 1 ∷ part 19 1 ∷ part 21 1 ∷ [])
  pub spares-9 : reads (0x00 ∷ 0x09 ∷ []) ≡ placed 4 5
  pub count-form : reads (0x00 ∷ 0xC0 ∷ []) ≡ placed 3 5
  -- rules 4.10 and 26.36: a spare is a packet, of 1 to 256 octets
  pub spare-0 : reads (0x00 ∷ 0x01 ∷ 0x00 ∷ []) ≡ placed 4 6
  pub spare-256 : reads (0x00 ∷ 0x01 ∷ 0x81 ∷ 0x00 ∷ replicate 256 0x06) ≡ gives kind.Spares (part 8 256 ∷ [])
  pub spare-257 : reads (0x00 ∷ 0x01 ∷ 0x81 ∷ 0x01 ∷ []) ≡ placed 4 6
  pub spare-form : reads (0x00 ∷ 0x01 ∷ 0xC0 ∷ []) ≡ placed 3 6
  -- rules 4.6, 4.8 and 26.21: octet 01 and octet n are plain octets, not read by the length rule
  pub octet-00 : reads (0x80 ∷ 0x00 ∷ []) ≡ placed 4 5
  pub octet-02 : reads (0x80 ∷ 0x02 ∷ []) ≡ placed 4 5
  pub octet-c0 : reads (0x80 ∷ 0xC0 ∷ []) ≡ placed 4 5
  pub octet-n-c0 : reads (0x80 ∷ 0x01 ∷ 0xC0 ∷ []) ≡ placed 4 6
  -- rules 1.4, 1.5 and 4.9: n is 1 to 8, and m is 1 to 4
  pub n-0 : reads (0x80 ∷ 0x01 ∷ 0x00 ∷ []) ≡ placed 4 6
  pub n-1 : reads (0x80 ∷ 0x01 ∷ 0x01 ∷ 0x01 ∷ 0x01 ∷ 0xAA ∷ []) ≡ gives (kind.Parity 1) (part 9 1 ∷ [])
  pub n-8-m-4 : reads (0x80 ∷ 0x01 ∷ 0x08 ∷ 0x04 ∷ 0x01 ∷ 0xAA ∷ 0x00 ∷ 0x00 ∷ 0x02 ∷ 0xBB ∷ 0xCC ∷ [])
      ≡ gives (kind.Parity 8) (part 9 1 ∷ part 11 0 ∷ part 12 0 ∷ part 13 2 ∷ [])
  pub n-9 : reads (0x80 ∷ 0x01 ∷ 0x09 ∷ []) ≡ placed 4 6
  pub m-0 : reads (0x80 ∷ 0x01 ∷ 0x02 ∷ 0x00 ∷ []) ≡ placed 4 7
  pub m-5 : reads (0x80 ∷ 0x01 ∷ 0x02 ∷ 0x05 ∷ []) ≡ placed 4 7
  pub m-form : reads (0x80 ∷ 0x01 ∷ 0x02 ∷ 0xC0 ∷ []) ≡ placed 3 7
  -- rules 1.7 and 4.11: a message may be empty, and has at most 256 octets
  pub message-0 : reads (0x80 ∷ 0x01 ∷ 0x02 ∷ 0x01 ∷ 0x00 ∷ []) ≡ gives (kind.Parity 2) (part 9 0 ∷ [])
  pub message-256 : reads (0x80 ∷ 0x01 ∷ 0x02 ∷ 0x01 ∷ 0x81 ∷ 0x00 ∷ replicate 256 0x06) ≡ gives (kind.Parity 2) (part 10 256 ∷ [])
  pub message-257 : reads (0x80 ∷ 0x01 ∷ 0x02 ∷ 0x01 ∷ 0x81 ∷ 0x01 ∷ []) ≡ placed 4 8
  -- rules 4.5, 4.6 and 4.23: what a datagram carries, in order
  pub carried-spares : carried_by (0x01 ∷ 0x00 ∷ 0x01 ∷ 0x06 ∷ 0x00 ∷ 0x02 ∷ 0x01 ∷ 0xAA ∷ 0x02 ∷ 0xBB ∷ 0xCC ∷ [])
      (record { number = 256; packet = part 3 1; kind = kind.Spares; items = part 7 1 ∷ part 9 2 ∷ [] })
      ≡ record { number = 256; packet = 0x06 ∷ []; extra = spares ((0xAA ∷ []) ∷ (0xBB ∷ 0xCC ∷ []) ∷ []) }
  pub carried-parity : carried_by (0x01 ∷ 0x00 ∷ 0x01 ∷ 0x06 ∷ 0x80 ∷ 0x01 ∷ 0x02 ∷ 0x01 ∷ 0x02 ∷ 0xBB ∷ 0xCC ∷ [])
      (record { number = 256; packet = part 3 1; kind = kind.Parity 2; items = part 9 2 ∷ [] })
      ≡ record { number = 256; packet = 0x06 ∷ []; extra = parity 2 ((0xBB ∷ 0xCC ∷ []) ∷ []) }
  -- rule 4.23: unused places are zero; a refused datagram has none
  pub unused : datagram_read (reads (0x00 ∷ 0x02 ∷ 0x01 ∷ 0xAA ∷ 0x01 ∷ 0xBB ∷ []))
      ≡ Ok (record {
        number = 256;
        packet = part 3 1;
        kind = kind.Spares;
        count = 2;
        items = part 7 1 ∷ part 9 1 ∷ replicate 6 (part 0 0);
      })
  pub all-unused : datagram_read (read_datagram (0x00 ∷ []))
      ≡ Err (record { reason = numbered 1; place = 0 })

-- rule 2.27: the place is the octet at which the refused item begins, where the datagram ends too early or goes on too long
pub record PlaceCases : Type 0 where
  -- rules 4.16 and 26.20: the number is one item
  pub nothing : read_datagram [] ≡ placed 1 0
  pub half-number : read_datagram (0x00 ∷ []) ≡ placed 1 0
  -- rules 2.28 and 26.20: a length, and the octets that it promises, are one item each
  pub no_length : read_datagram (0x00 ∷ 0x00 ∷ []) ≡ placed 1 2
  pub half_length : read_datagram (0x00 ∷ 0x00 ∷ 0x80 ∷ []) ≡ placed 1 2
  pub half-packet : read_datagram (0x00 ∷ 0x00 ∷ 0x02 ∷ 0x06 ∷ []) ≡ placed 1 3
  pub packet-128 : read_datagram (0x00 ∷ 0x00 ∷ 0x80 ∷ 0x80 ∷ []) ≡ placed 1 4
  pub no_kind : reads [] ≡ placed 1 4
  pub no-count : reads (0x00 ∷ []) ≡ placed 1 5
  -- rule 4.16: octet 01 and octet n are two items
  pub no-octet-01 : reads (0x80 ∷ []) ≡ placed 1 5
  pub no-n : reads (0x80 ∷ 0x01 ∷ []) ≡ placed 1 6
  pub no-m : reads (0x80 ∷ 0x01 ∷ 0x02 ∷ []) ≡ placed 1 7
  -- rule 2.27: the place is counted from the start of the datagram, at the second of two spares and at a message too
  pub second-spare : reads (0x00 ∷ 0x02 ∷ 0x01 ∷ 0xAA ∷ 0x02 ∷ 0xBB ∷ []) ≡ placed 1 9
  pub half-message : reads (0x80 ∷ 0x01 ∷ 0x02 ∷ 0x01 ∷ 0x02 ∷ 0xAA ∷ []) ≡ placed 1 9
  -- rules 2.29 and 4.7: the first octet left over, behind spares and behind messages
  pub left_over : reads (0x00 ∷ 0x00 ∷ 0xAA ∷ 0xBB ∷ []) ≡ placed 6 6
  pub left-over-parity : reads (0x80 ∷ 0x01 ∷ 0x02 ∷ 0x01 ∷ 0x01 ∷ 0xAA ∷ 0x00 ∷ []) ≡ placed 6 10

-- number 258 and the newest packet `06`, with these items
abbrev pub writes : Kind → List ℕ → List ℕ → Answer (List ℕ)
writes kind lengths run = datagram_to_write 258 (0x06 ∷ []) kind lengths run

pub record WriteCases : Type 0 where
  -- rules 4.1 to 4.6: the octets, and the lengths that cut the run of data
  pub two-spares : writes kind.Spares (1 ∷ 2 ∷ []) (0xAA ∷ 0xBB ∷ 0xCC ∷ [])
      ≡ done (0x01 ∷ 0x02 ∷ 0x01 ∷ 0x06 ∷ 0x00 ∷ 0x02 ∷ 0x01 ∷ 0xAA ∷ 0x02 ∷ 0xBB ∷ 0xCC ∷ [])
  pub two-messages : writes (kind.Parity 3) (2 ∷ 0 ∷ []) (0xAA ∷ 0xBB ∷ [])
      ≡ done (0x01 ∷ 0x02 ∷ 0x01 ∷ 0x06 ∷ 0x80 ∷ 0x01 ∷ 0x03 ∷ 0x02 ∷ 0x02 ∷ 0xAA ∷ 0xBB ∷ 0x00 ∷ [])
  pub number-256 : datagram_to_write 256 (0x06 ∷ []) kind.Spares [] [] ≡ done (0x01 ∷ 0x00 ∷ 0x01 ∷ 0x06 ∷ 0x00 ∷ 0x00 ∷ [])
  pub last-number : datagram_to_write 65535 (0x06 ∷ []) kind.Spares [] [] ≡ done (0xFF ∷ 0xFF ∷ 0x01 ∷ 0x06 ∷ 0x00 ∷ 0x00 ∷ [])
  -- rules 1.3 to 1.5, 4.9 and 4.17: n or a count outside the sizes is 4, before 15
  pub spares-8 : is_done (writes kind.Spares (replicate 8 1) (replicate 8 0x06)) ≡ true
  pub spares-9 : writes kind.Spares (replicate 9 1) (replicate 9 0x06) ≡ placed 4 0
  pub n-0 : writes (kind.Parity 0) (1 ∷ []) (0xAA ∷ []) ≡ placed 4 0
  pub n-1 : is_done (writes (kind.Parity 1) (1 ∷ []) (0xAA ∷ [])) ≡ true
  pub n-8 : is_done (writes (kind.Parity 8) (1 ∷ []) (0xAA ∷ [])) ≡ true
  pub n-9 : writes (kind.Parity 9) (1 ∷ []) (0xAA ∷ []) ≡ placed 4 0
  pub m-0 : writes (kind.Parity 2) [] [] ≡ placed 4 0
  pub m-4 : is_done (writes (kind.Parity 2) (replicate 4 1) (replicate 4 0xAA)) ≡ true
  pub m-5 : writes (kind.Parity 2) (replicate 5 1) (replicate 5 0xAA) ≡ placed 4 0
  pub count-first : writes kind.Spares (replicate 10 1) [] ≡ placed 4 0
  -- rules 4.17, 4.18 and 26.28: 15 comes before 4 for a length, the newest packet's included
  pub sum_over : writes kind.Spares (1 ∷ []) (0xAA ∷ 0xBB ∷ []) ≡ placed 15 0
  pub sum-before-size : datagram_to_write 0 [] kind.Spares (2 ∷ []) (0x06 ∷ []) ≡ placed 15 0
  -- rules 2.34 and 26.28: a sum does not wrap
  pub true-sum : writes kind.Spares (65535 ∷ 1 ∷ []) [] ≡ placed 15 0
  -- rules 1.1, 1.7, 4.10, 4.11 and 4.19: an empty packet and an empty spare are 4, and so is more than 256 octets; a message may be empty
  pub packet-0 : datagram_to_write 0 [] kind.Spares [] [] ≡ placed 4 0
  pub packet-256 : is_done (datagram_to_write 0 (replicate 256 0x06) kind.Spares [] []) ≡ true
  pub packet-257 : datagram_to_write 0 (replicate 257 0x06) kind.Spares [] [] ≡ placed 4 0
  pub spare-0 : writes kind.Spares (0 ∷ []) [] ≡ placed 4 0
  pub spare-256 : is_done (writes kind.Spares (256 ∷ []) (replicate 256 0x06)) ≡ true
  pub spare-257 : writes kind.Spares (1 ∷ 257 ∷ []) (replicate 258 0x06) ≡ placed 4 0
  pub message-256 : is_done (writes (kind.Parity 2) (256 ∷ []) (replicate 256 0x06)) ≡ true
  pub message-257 : writes (kind.Parity 2) (257 ∷ []) (replicate 257 0x06) ≡ placed 4 0

-- how many octets an item writer needs, and what it can write
pub record HeadCases : Type 0 where
  -- rules 4.3, 4.4 and 4.6: what comes before two spares, and before two messages with n = 3
  pub before-spares : spares_head 2 ≡ 0x00 ∷ 0x02 ∷ []
  pub before-messages : parity_head 3 2 ≡ 0x80 ∷ 0x01 ∷ 0x03 ∷ 0x02 ∷ []
  -- rules 3.1, 3.2 and 4.2: items of 127 and 128 octets, with their lengths
  pub items : items_size (127 ∷ 128 ∷ []) ≡ 258
  -- rule 1.17: eight spares of 256 octets and a newest packet of 256 octets take 2,326 octets
  pub largest : datagram_size 0 (replicate 256 0x06) kind.Spares (replicate 8 256) ≡ 2326
  -- rule 4.6: n is one octet
  pub no-n : n_fits kind.Spares ≡ true
  pub last-n : n_fits (kind.Parity 255) ≡ true
  pub over-n : n_fits (kind.Parity 256) ≡ false
