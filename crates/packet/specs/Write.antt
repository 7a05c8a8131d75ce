-- A packet, written: kind, value, the fields' types, the length of each field's data and all the data give the packet's octets, or a
-- refusal (rules 6.18 to 6.23). The refusals are in the writer's order (rule 6.20), but the promise adds 13, since it has the caller's
-- buffer. Definitions only.
use Rattle.std.specs.Prelude.{ℕ, ◌+◌, Bool, true, not, ◌&&◌, List, [], ◌∷◌, length, take, drop, leb, ltb, eqb}
use Rattle.std.proofs.Math.Option.{Option}
use Rattle.length.specs.Refusals.{outside_sizes, wrong_settings, not_assigned, wrong_data}
use Rattle.length.specs.Answers.{Answer}
use Rattle.length.specs.Tables.{when, unless}
use Rattle.length.specs.declared.Reason.{Reason}
use Rattle.format.specs.Spelling.{in_octets}
use Rattle.datagram.specs.Sizes.{packet_limit}
use Rattle.packet.specs.Edition.{Edition}
use Rattle.packet.specs.Packet.{fields_limit, types_limit, many_values, right_fields, right_data, every, Content, packet}
use Rattle.packet.specs.declared.types.PacketKind.{PacketKind}

-- to the writer a field of length 0 has no data (rule 6.18)
abbrev pub with_data : ℕ → Bool
with_data size = ltb 0 size

-- the fields in order; each has the next part of the data, of its length. Where the data begins is not written
unfoldable pub contents_of : List ℕ → List ℕ → List ℕ → List Content
contents_of [] lengths octets = []
contents_of (type ∷ types) [] octets = []
contents_of (type ∷ types) (size ∷ lengths) octets =
    record { type = type; start = 0; octets = take size octets } ∷ contents_of types lengths (drop size octets)

-- what the description spells, in octets
unfoldable pub packet_octets : Edition → PacketKind → ℕ → List ℕ → List ℕ → List ℕ → List ℕ
packet_octets edition kind value types lengths octets =
    in_octets ((packet edition).spelling (record { kind = kind; value = value; contents = contents_of types lengths octets }) 0)

-- ---- the refusals, each over the whole packet
-- the sum of a measure over all elements; nothing wraps (rule 2.34)
unfoldable pub total : (ℕ → ℕ) → List ℕ → ℕ
total measure [] = 0
total measure (x ∷ rest) = measure x + total measure rest

abbrev pub lengths_sum : List ℕ → ℕ
lengths_sum lengths = total (λ x. x) lengths

-- not 15: one length for each field type, and the lengths sum to the data (rules 2.15 and 6.20)
unfoldable pub one_each : List ℕ → List ℕ → List ℕ → Bool
one_each types lengths octets = eqb (length types) (length lengths) && eqb (lengths_sum lengths) (length octets)

-- not 12: the value is assigned (rule 7.16), and no type is over 7, or over 11 in the new edition (rule 6.19)
unfoldable pub all_assigned : Edition → PacketKind → ℕ → List ℕ → Bool
all_assigned edition kind value types = ltb value (many_values edition kind) && every (λ t. leb t (types_limit edition)) types

-- each field has data or not, as its type may (rules 6.10 and 7.10)
unfoldable pub right_types : Edition → List ℕ → List ℕ → Bool
right_types edition [] lengths = true
right_types edition (type ∷ types) [] = true
right_types edition (type ∷ types) (size ∷ lengths) = right_data edition type (with_data size) && right_types edition types lengths

-- not 14: data only where it may be and always where it must be (rule 2.14), and no fields on an indicator (rule 6.22)
unfoldable pub all_right : Edition → PacketKind → List ℕ → List ℕ → Bool
all_right edition kind types lengths = right_fields kind (ltb 0 (length types)) && right_types edition types lengths

-- not the second 4: the data of each field and the whole are within the packet limit (rule 6.23)
unfoldable pub in_sizes : List ℕ → ℕ → Bool
in_sizes lengths size = every (λ n. leb n packet_limit) lengths && leb size packet_limit

-- what the packet writer refuses, in order: 4 for over 16 types, 15, 12, 14, 4 for a length (rules 6.20 and 6.21); otherwise it writes
abbrev pub packet_writer_rows : Edition → PacketKind → ℕ → List ℕ → List ℕ → List ℕ → List (Option Reason)
packet_writer_rows edition kind value types lengths octets =
    when (ltb fields_limit (length types)) outside_sizes
    ∷ when (not (one_each types lengths octets)) wrong_settings
    ∷ when (not (all_assigned edition kind value types)) not_assigned
    ∷ when (not (all_right edition kind types lengths)) wrong_data
    ∷ when (not (in_sizes lengths (length (packet_octets edition kind value types lengths octets)))) outside_sizes
    ∷ []

unfoldable pub packet_to_write : Edition → PacketKind → ℕ → List ℕ → List ℕ → List ℕ → Answer (List ℕ)
packet_to_write edition kind value types lengths octets =
    unless (packet_writer_rows edition kind value types lengths octets) (packet_octets edition kind value types lengths octets)
