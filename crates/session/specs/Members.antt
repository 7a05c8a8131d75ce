-- The members of a datagram's messages (rule 4.12). Numbers are given as places of a row that begins so far before S that no place is below
-- 0: the view of a session begins 32 numbers before its base, and the reach n·m is at most 32 (rules 1.6 and 1.13). Definitions only.
use Rattle.std.specs.Prelude.{ℕ, suc, ◌+◌, ◌-◌, ◌*◌, ◌≤◌, ◌<◌, List}
use Rattle.octets.specs.Place.{tab}

-- member t (from 0) of message i of the datagram at place S, with m messages: S + i − m, S + i − 2m, and so on
abbrev pub member_at : ℕ → ℕ → ℕ → ℕ → ℕ
member_at S m i t = (S + i) - suc t * m

-- the members of message i, with m messages over n packets each
unfoldable pub members_of : ℕ → ℕ → ℕ → ℕ → List ℕ
members_of S n m i = tab n (member_at S m i)

-- p is in the reach of S, the n·m numbers before it (rule 1.6)
pub record InReach (S n m p : ℕ) : Type 0 where
  pub above : S - n * m ≤ p
  pub before : p < S
