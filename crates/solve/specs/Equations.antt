-- The held messages as equations over the numbers in view, and their solutions (rules 14.1 and 14.2). Two numbers may be unknown in every
-- message, and the messages together may still determine them. Definitions only.
use Rattle.std.specs.Prelude.{ℕ, ◌≡◌, length, get_or}
use mathlib.Core.List.{List, map, Memᴰ as Among}
use Rattle.octets.specs.Place.{tab}
use Rattle.octets.specs.ExclusiveOr.{exclusive_or}
use Rattle.length.specs.Claims.{Octets}
use Rattle.datagram.specs.Sizes.{packet_limit}
use Rattle.session.specs.Cells.{Cell, cell_at}
use Rattle.session.specs.Repair.{Message}
use Rattle.session.specs.Reached.{Known}

-- octets padded with zeros to the packet limit, 256 (rule 14.1)
unfoldable pub padded : List ℕ → List ℕ
padded octets = tab packet_limit (λ k. get_or octets k 0)

-- octets x p for every number p in view, each of the limit's length: a known number has its own octets, and every message is the exclusive
-- or of its members (rules 14.1 and 14.5)
pub record Solution (cells : List Cell) (messages : List Message) (x : ℕ → List ℕ) : Type 0 where
  pub long : (p : ℕ) → length (x p) ≡ packet_limit
  pub known : (p : ℕ) → Known cells p → x p ≡ padded (cell_at cells p).octets
  pub equation : (message : Message) → Among message messages
      → exclusive_or packet_limit (map x message.members) ≡ padded message.octets

-- some octets satisfy all equations; or none do, which is 23 (rule 14.6)
abbrev pub Solvable : List Cell → List Message → Type 0
Solvable cells messages = (x : ℕ → List ℕ) × Solution cells messages x

abbrev pub Unsolvable : List Cell → List Message → Type 0
Unsolvable cells messages = (x : ℕ → List ℕ) → Solution cells messages x → ⊥

-- the equations and the known octets allow only one value for number p (rule 14.2)
abbrev pub OneValue : List Cell → List Message → ℕ → Type 0
OneValue cells messages p = (x y : ℕ → List ℕ) → Solution cells messages x → Solution cells messages y → x p ≡ y p

-- ---- over octets
-- the octets of every number and message are below 256, as in every session in memory
pub record OfOctets (cells : List Cell) (messages : List Message) : Type 0 where
  pub numbers : (p : ℕ) → Octets (cell_at cells p).octets
  pub held : (message : Message) → Among message messages → Octets message.octets

-- a solution whose values are below 256
pub record OctetSolution (cells : List Cell) (messages : List Message) (x : ℕ → List ℕ) : Type 0 where
  pub solution : Solution cells messages x
  pub octets : (p : ℕ) → Octets (x p)

-- no octets satisfy all equations (rule 14.6); the octets that satisfy them allow only one value for number p (rule 14.2)
abbrev pub NoOctets : List Cell → List Message → Type 0
NoOctets cells messages = (x : ℕ → List ℕ) → OctetSolution cells messages x → ⊥

abbrev pub OneOctets : List Cell → List Message → ℕ → Type 0
OneOctets cells messages p = (x y : ℕ → List ℕ) → OctetSolution cells messages x → OctetSolution cells messages y → x p ≡ y p
