-- The claim of this crate (rule 6.26), and the definition that it uses.
use Rattle.std.specs.Prelude.{ℕ, ◌+◌, ◌≤◌, ◌≡◌, cond, List, length, ltb}
use Rattle.length.specs.Answers.{done}
use Rattle.packet.specs.Edition.{edition98}
use Rattle.packet.specs.Write.{with_data, total, packet_to_write}
use Rattle.packet.specs.declared.types.PacketKind.{PacketKind}

-- how many octets a field takes if its header has an octet of its own
abbrev pub own_size : ℕ → ℕ
own_size size = cond (with_data size) (3 + size) 1

-- no packet of the old edition is longer than with every field header on an octet of its own (rule 6.26)
abbrev pub NeverLonger : Type 0
NeverLonger = (kind : PacketKind) (value : ℕ) (types lengths octets w : List ℕ)
    → packet_to_write edition98 kind value types lengths octets ≡ done w
    → length w ≤ cond (ltb 0 (length lengths)) (2 + total own_size lengths) 1

pub record Claims : Type 0 where
  pub never_longer : NeverLonger
