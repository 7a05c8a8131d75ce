-- The claims of this crate (rules 6.24, 6.25, 7.13 and 28.4), and the definitions that they use.
use Rattle.std.specs.Prelude.{Result, ℕ, ◌+◌, ◌≤◌, ◌<◌, ◌≡◌, ◌↔◌, List, [], ◌++◌, map, length, get_or, replicate}
use Rattle.length.specs.Answers.{Answer, done}
use Rattle.length.specs.Claims.{Octets}
use Rattle.datagram.specs.Sizes.{packet_limit}
use Rattle.packet.specs.Edition.{Edition, SoundEdition, edition98, edition02}
use Rattle.packet.specs.Packet.{many_values, no_field, all_data, read_packet, PacketAnswer}
use Rattle.packet.specs.Write.{packet_to_write}
use Rattle.packet.specs.Promise.{PacketTold}
use Rattle.packet.specs.Cases.{ReadCases, WriteCases}
use Rattle.packet.specs.NewCases.{NewReadCases, NewWriteCases}
use Rattle.packet.specs.TableCases.{TableCases}
use Rattle.packet.specs.declared.types.PacketKind.{PacketKind}
use Rattle.packet.specs.declared.types.Ending.{Ending}
use Rattle.packet.specs.declared.types.Ending.TheVariants.{Whole, Repaired}
use Rattle.length.specs.declared.Refusal.{Refusal}
use Rattle.packet.specs.declared.types.PacketRead.{PacketRead}

-- some octets, read in this edition and with this ending, are a packet of this kind and value, with fields of these types, lengths and data
pub record PacketReadsAs (edition : Edition) (ending : Ending) (input : List ℕ) (kind : PacketKind) (value : ℕ)
    (types lengths octets : List ℕ)
    : Type 0 where
  pub packet : PacketAnswer
  pub reads : read_packet edition ending input ≡ done packet
  pub kind_same : packet.kind ≡ kind
  pub value_same : packet.value ≡ value
  pub types_same : map (λ f. f.kind) packet.fields ≡ types
  pub lengths_same : map (λ f. f.size) packet.fields ≡ lengths
  pub octets_same : all_data input packet.fields ≡ octets

-- what is written reads back, as received (rule 6.24)
abbrev pub WrittenReads : Type 0
WrittenReads = (edition : Edition) → SoundEdition edition
    → (kind : PacketKind) (value : ℕ) (types lengths octets w : List ℕ)
    → packet_to_write edition kind value types lengths octets ≡ done w
    → PacketReadsAs edition Whole w kind value types lengths octets

-- and as repaired, with any zeros behind it that the packet limit leaves room for (rule 6.12)
abbrev pub RepairedReads : Type 0
RepairedReads = (edition : Edition) → SoundEdition edition
    → (kind : PacketKind) (value : ℕ) (types lengths octets w : List ℕ) (n : ℕ)
    → packet_to_write edition kind value types lengths octets ≡ done w
    → length w + n ≤ packet_limit
    → PacketReadsAs edition Repaired (w ++ replicate n 0) kind value types lengths octets

-- what reads as received writes back to the same octets (rule 6.25)
abbrev pub ReadWrites : Type 0
ReadWrites = (edition : Edition) (octets : List ℕ) (p : PacketAnswer)
    → Octets octets
    → read_packet edition Whole octets ≡ done p
    → packet_to_write edition p.kind p.value (map (λ f. f.kind) p.fields) (map (λ f. f.size) p.fields)
    (all_data octets p.fields)
    ≡ done octets

-- the parts of a packet that reads lie within its octets (rule 6.27)
abbrev pub PartsWithin : Type 0
PartsWithin = (edition : Edition) (ending : Ending) (octets : List ℕ) (p : PacketAnswer)
    → read_packet edition ending octets ≡ done p
    → (i : ℕ)
    → (get_or p.fields i no_field).start + (get_or p.fields i no_field).size ≤ length octets

-- a repaired packet reads the same with any more zeros behind it that the packet limit leaves room for (rule 6.12)
abbrev pub ZerosFollow : Type 0
ZerosFollow = (edition : Edition) (octets : List ℕ) (p : PacketAnswer) (n : ℕ)
    → read_packet edition Repaired octets ≡ done p
    → length octets + n ≤ packet_limit
    → read_packet edition Repaired (octets ++ replicate n 0) ≡ done p

-- so what it reads as does not depend on how many zeros follow (rules 6.12 and 27.1)
abbrev pub ZerosAlike : Type 0
ZerosAlike = (edition : Edition) (octets : List ℕ) (p q : PacketAnswer) (n m : ℕ)
    → read_packet edition Repaired (octets ++ replicate n 0) ≡ done p
    → read_packet edition Repaired (octets ++ replicate m 0) ≡ done q
    → p ≡ q

-- a packet without fields and without an added value reads alike in both editions (rule 7.13). With fields it need not: a header has four
-- bits in the old edition and five in the new, so the same octets may mean something else (`old-type` and `new-type` of `NewCases`)
abbrev pub PlainAlike : Type 0
PlainAlike = (ending : Ending) (octets : List ℕ) (p : PacketAnswer)
    → p.fields ≡ []
    → p.value < many_values edition98 p.kind
    → (read_packet edition98 ending octets ≡ done p) ↔ (read_packet edition02 ending octets ≡ done p)

-- two outcomes that a promise allows are equal (rule 28.14)
pub record OneOutcome : Type 0 where
  pub read : {due : Answer PacketAnswer} {r q : Result PacketRead Refusal} → PacketTold due r → PacketTold due q → r ≡ q

-- what is written reads back in every edition in which no two values share their bits; `sound98` and `sound02` say this of both editions
pub record Claims : Type 0 where
  pub sound98 : SoundEdition edition98
  pub sound02 : SoundEdition edition02
  pub written_reads : WrittenReads
  pub repaired_reads : RepairedReads
  pub read_writes : ReadWrites
  pub parts_within : PartsWithin
  pub zeros_follow : ZerosFollow
  pub zeros_alike : ZerosAlike
  pub plain_alike : PlainAlike
  pub one_outcome : OneOutcome
  pub read_cases : ReadCases
  pub write_cases : WriteCases
  pub new_read_cases : NewReadCases
  pub new_write_cases : NewWriteCases
  pub table_cases : TableCases
