-- What the function promises that converts digits to octets, sixteen octets together (rule 18.7). Definitions only.
use Rattle.std.specs.Prelude.{◌≡◌, ℕ, ◌+◌, ◌<◌, ◌≤◌, List, length, slice_index}
use Rattle.line.specs.Hex.{pair_at}

-- how many octets are converted together
abbrev pub together : ℕ
together = 16

-- the chunk holds the octets of a line from octet `from` on
pub record NearRead (line : List ℕ) (from : ℕ) (chunk : List ℕ) : Type 0 where
  pub read : (k : ℕ) → k < together → slice_index chunk k ≡ pair_at line (from + k)
