-- The claims about the calls from C on packets: two outcomes that a promise allows are equal, in the answer and in all of the caller's
-- memory (rule 28.14). Statements only.
use Rattle.std.specs.Prelude.{ℕ, ◌≡◌, Bool, List}
use Rattle.host.specs.Packet.{PacketHosted, WriteHosted}
use Rattle.host_answers.specs.declared.answers.Wrote.{Wrote}
use Rattle.host_answers.specs.declared.packet_answers.PacketFound.{PacketFound}

pub record OnePacket : Type 0 where
  pub read : {edition : ℕ} {repaired : Bool} {octets : List ℕ} {r q : PacketFound}
      → PacketHosted edition repaired octets r → PacketHosted edition repaired octets q → r ≡ q
  pub write : {edition kind value : ℕ} {types lengths octets old new₂ new₃ : List ℕ} {r q : Wrote}
      → WriteHosted edition kind value types lengths octets old new₂ r → WriteHosted edition kind value types lengths octets old new₃ q
      → (r ≡ q) × (new₂ ≡ new₃)
