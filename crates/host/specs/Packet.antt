-- What the calls from C on packets promise: what `packet_reader::read` and `packet_writer::write` promise, encoded as numbers (rule 24.11).
-- No enum is passed to or from C: a kind is the octet 0 for an indicator or 1 for data (rule 24.5), and a bool says whether the packet was
-- repaired. Definitions only.
use Rattle.std.specs.Prelude.{ℕ, ◌≡◌, Bool, cond, List, ltb}
use Rattle.length.specs.Refusals.{wrong_settings}
use Rattle.length.specs.Answers.{Answer, refuse, fitted, size_of, over}
use Rattle.packet.specs.Edition.{by_edition}
use Rattle.packet.specs.Packet.{read_packet}
use Rattle.packet.specs.Write.{packet_to_write}
use Rattle.packet.specs.declared.types.PacketKind.{PacketKind}
use Rattle.host_answers.specs.Answers.{wrote_told}
use Rattle.host_answers.specs.Packet.{ending_named, kind_named, packet_told}
use Rattle.host_answers.specs.declared.answers.Wrote.{Wrote}
use Rattle.host_answers.specs.declared.packet_answers.PacketFound.{PacketFound}

-- 15 for an octet that names no kind, before all else (rule 24.5); another edition is 15 too (rule 7.2)
abbrev pub by_kind : {A : Type 0} → ℕ → (PacketKind → Answer A) → Answer A
by_kind octet answer = cond (ltb 1 octet) (refuse wrong_settings) (answer (kind_named octet))

-- ---- read
pub record PacketHosted (edition : ℕ) (repaired : Bool) (octets : List ℕ) (r : PacketFound) : Type 0 where
  pub answer : r ≡ packet_told (by_edition edition (λ e. read_packet e (ending_named repaired) octets))

-- ---- write: the octets of the packet, or the refusal without 13 (rule 6.20)
unfoldable pub packet_asked : ℕ → ℕ → ℕ → List ℕ → List ℕ → List ℕ → Answer (List ℕ)
packet_asked edition kind value types lengths octets =
    by_kind kind (λ k. by_edition edition (λ e. packet_to_write e k value types lengths octets))

pub record WriteHosted (edition kind value : ℕ) (types lengths octets old new : List ℕ) (r : Wrote) : Type 0 where
  pub answer : r ≡ wrote_told (size_of (fitted (packet_asked edition kind value types lengths octets) old))
  pub lent : new ≡ over (fitted (packet_asked edition kind value types lengths octets) old) old
