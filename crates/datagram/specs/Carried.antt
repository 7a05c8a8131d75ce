-- What a datagram carries: its number, its newest packet, and spares or messages (rules 4.1 to 4.6). Definitions only.
use Rattle.std.specs.Prelude.{ℕ, List}

-- beside its newest packet a datagram carries spares, or n and messages (rule 4.3)
pub data Extra : Type 0 where
  -- the j-th spare of datagram S is packet S − j, j from 1 (rule 4.5)
  spares : List (List ℕ) → Extra
  -- n, and the m messages in order (rule 4.6)
  parity : ℕ → List (List ℕ) → Extra

pub record Carried : Type 0 where
  pub number : ℕ
  pub packet : List ℕ
  pub extra : Extra
