-- The second packet reader returns for every input, received or repaired, in both editions, the same fields or the same refusal at the
-- same place as the packet reader (rule 8.2), proved once over both endings (rule 8.3). Both promise what the definition of a packet
-- reads, so the agreement is stated of the promises and follows every change of that definition. Statements only.
use Rattle.std.specs.Prelude.{Result, ℕ, ◌≡◌, List}
use Rattle.length.specs.declared.Refusal.{Refusal}
use Rattle.packet.specs.Promise.{packet_outcome, ReadBy}
use Rattle.packet.specs.declared.types.Ending.{Ending}
use Rattle.packet.specs.declared.types.PacketRead.{PacketRead}

-- two answers are the same: in fields or refusal, and in the unused places
pub record SameAnswer (quick second : Result PacketRead Refusal) : Type 0 where
  pub answer : packet_outcome quick ≡ packet_outcome second
  pub whole : quick ≡ second

-- what `packet_reader::read` returns, `packet_pencil::read` returns, whichever octet names the edition
abbrev pub SecondReader : Type 0
SecondReader = (octet : ℕ) (ending : Ending) (octets : List ℕ) (quick second : Result PacketRead Refusal)
    → ReadBy octet ending octets quick
    → ReadBy octet ending octets second
    → SameAnswer quick second
