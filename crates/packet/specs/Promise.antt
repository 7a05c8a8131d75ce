-- What the two packet readers and the packet writer owe, for the octet by which the caller names the edition (rules 7.1 and 7.2): the
-- promises that their contracts cite; and the rules' number and values for each case of a reader's answer (rules 6.27 and 30.10).
-- Definitions only.
use Rattle.std.specs.Prelude.{Result, Ok, Err, ℕ, ◌-◌, ◌≡◌, List, [], ◌++◌, length, take, replicate}
use Rattle.length.specs.declared.Refusal.{Refusal}
use Rattle.length.specs.Answers.{Answer, done, refused}
use Rattle.length.specs.Promise.{Puts}
use Rattle.packet.specs.Edition.{by_edition}
use Rattle.packet.specs.Packet.{fields_limit, no_field, PacketAnswer, read_packet}
use Rattle.packet.specs.Write.{packet_to_write}
use Rattle.packet.specs.declared.types.Ending.{Ending}
use Rattle.packet.specs.declared.types.PacketKind.{PacketKind}
use Rattle.packet.specs.declared.types.Field.{Field}
use Rattle.packet.specs.declared.types.PacketRead.{PacketRead}

-- each case of the packet reader's answer in the rules' number and values (rule 30.10); the fields are in the first places
abbrev pub packet_outcome : Result PacketRead Refusal → Answer PacketAnswer
packet_outcome (Ok p) = done (record { kind = p.kind; value = p.value; fields = take p.count p.fields })
packet_outcome (Err r) = refused r

-- a packet's fields in as many places as a packet may have; unused places are zero (rule 6.27)
unfoldable pub padded_fields : List Field → List Field
padded_fields fields = fields ++ replicate (fields_limit - length fields) no_field

-- the whole answer for what a packet reads as, unused places included
abbrev pub packet_read : Answer PacketAnswer → Result PacketRead Refusal
packet_read (done p) = Ok (record { kind = p.kind; value = p.value; count = length p.fields; fields = padded_fields p.fields })
packet_read (refused r) = Err r

-- what reading a packet owes, once its answer is known: its outcome, and the whole of what it returns (rule 28.14)
pub record PacketTold (due : Answer PacketAnswer) (r : Result PacketRead Refusal) : Type 0 where
  pub answer : packet_outcome r ≡ due
  pub whole : r ≡ packet_read due

-- what `packet_reader::read` and `packet_pencil::read` promise for the octet that names the edition: another octet is 15, before all else
-- (rule 7.2)
abbrev pub ReadBy : ℕ → Ending → List ℕ → Result PacketRead Refusal → Type 0
ReadBy octet ending octets r = PacketTold (by_edition octet (λ edition. read_packet edition ending octets)) r

-- what `packet_writer::write` must write, and what it promises: its answer, and the whole buffer (rules 2.25 and 2.26)
abbrev pub packet_by : ℕ → PacketKind → ℕ → List ℕ → List ℕ → List ℕ → Answer (List ℕ)
packet_by octet kind value types lengths octets = by_edition octet (λ edition. packet_to_write edition kind value types lengths octets)

abbrev pub PacketWritten : ℕ → PacketKind → ℕ → List ℕ → List ℕ → List ℕ → List ℕ → List ℕ → Result ℕ Refusal → Type 0
PacketWritten octet kind value types lengths octets old new r = Puts (packet_by octet kind value types lengths octets) old new r
