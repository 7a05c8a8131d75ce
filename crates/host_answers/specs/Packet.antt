-- A packet as C gets it, and how C names a kind and a repaired packet (rules 24.5 and 24.17). Definitions only.
use Rattle.std.specs.Prelude.{ℕ, Bool, cond, [], length, eqb}
use Rattle.length.specs.Answers.{Answer, done, refused}
use Rattle.length.specs.Refusals.{number_of}
use Rattle.packet.specs.Packet.{PacketAnswer}
use Rattle.packet.specs.Promise.{padded_fields}
use Rattle.packet.specs.declared.types.PacketKind.{PacketKind}
use Rattle.packet.specs.declared.types.PacketKind.TheVariants.{Indicator, Data}
use Rattle.packet.specs.declared.types.Ending.{Ending}
use Rattle.packet.specs.declared.types.Ending.TheVariants.{Whole, Repaired}
use Rattle.host_answers.specs.declared.packet_answers.PacketFound.{PacketFound}

-- repaired; otherwise received or spare
abbrev pub ending_named : Bool → Ending
ending_named repaired = cond repaired Repaired Whole

-- a kind as an octet, and back (rule 24.5)
abbrev pub kind_told : PacketKind → ℕ
kind_told Indicator = 0
kind_told Data = 1

abbrev pub kind_named : ℕ → PacketKind
kind_named octet = cond (eqb octet 0) Indicator Data

-- unused fields are zero (rule 6.27); with a refusal all is 0 but the refusal and its place (rule 24.17)
abbrev pub packet_told : Answer PacketAnswer → PacketFound
packet_told (done p) =
    record { refusal = 0; kind = kind_told p.kind; value = p.value; place = 0; count = length p.fields; fields = padded_fields p.fields }
packet_told (refused why) = record { refusal = number_of why.reason; kind = 0; value = 0; place = why.place; count = 0; fields = padded_fields [] }
