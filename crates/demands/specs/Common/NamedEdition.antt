-- The caller names the edition at each packet read or written, by an octet (rule 7.1); an octet that names none is 15, before all other
-- refusals (rule 7.2). What the calls promise for that octet is in `packet` (`ReadBy`, `PacketWritten`). Definitions only.
use Rattle.std.specs.Prelude.{ℕ, ◌<◌, ◌≡◌, ◌↔◌, List, Result, Some, None}
use Rattle.std.proofs.Math.Option.{some}
use Rattle.length.specs.declared.Refusal.{Refusal}
use Rattle.length.specs.Refusals.{wrong_settings}
use Rattle.length.specs.Answers.{refuse, written_outcome}
use Rattle.length.specs.Tables.{refusal_in}
use Rattle.packet.specs.Edition.{choice_of}
use Rattle.packet.specs.Promise.{packet_outcome, ReadBy, PacketWritten}
use Rattle.packet.specs.declared.types.Ending.{Ending}
use Rattle.packet.specs.declared.types.PacketKind.{PacketKind}
use Rattle.packet.specs.declared.types.Named.{Named}
use Rattle.packet.specs.declared.types.PacketRead.{PacketRead}

-- an octet names this edition
abbrev pub Names : ℕ → Named → Type 0
Names octet named = choice_of octet ≡ Some named

pub record AnotherEdition : Type 0 where
  -- an octet names one of the two editions, or it is over 1 (rule 7.1)
  pub named : (octet : ℕ) → (choice_of octet ≡ None) ↔ (1 < octet)
  -- a packet reader refuses with 15 exactly for an octet over 1, at place 0 and before anything else (rules 2.30 and 7.2)
  pub read : (octet : ℕ) (ending : Ending) (octets : List ℕ) {r : Result PacketRead Refusal} → ReadBy octet ending octets r
      → (packet_outcome r ≡ refuse wrong_settings) ↔ (1 < octet)
  pub read_only : (octet : ℕ) (ending : Ending) (octets : List ℕ) {r : Result PacketRead Refusal} → ReadBy octet ending octets r
      → (refusal_in (packet_outcome r) ≡ some wrong_settings) ↔ (1 < octet)
  -- and so does the packet writer, whatever it was to write
  pub written : (octet : ℕ) (kind : PacketKind) (value : ℕ) (types lengths octets : List ℕ) {old new : List ℕ} {r : Result ℕ Refusal}
      → PacketWritten octet kind value types lengths octets old new r → 1 < octet → written_outcome r ≡ refuse wrong_settings
