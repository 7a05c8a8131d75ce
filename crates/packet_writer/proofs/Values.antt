-- A value of an ENUMERATED type: one law for each answer of the functions that tell its bits. Assumes nothing.
use Prim.Native.Nat.{ℕ, ◌+◌, ◌-◌, ◌≤◌, ◌<◌}
use mathlib.Core.Path.{◌≡◌}
use mathlib.Core.Bool.{true, false}
use native.Mathlib.Omega.{arith}
use borrow.Author.Tests.{le-leb, lt-leb}
use Rattle.packet_laws.specs.Octets.{Narrow}
use Rattle.packet_laws.specs.Laid.{value_width, value_bits}
use Rattle.packet_laws.specs.Items.{ValueWide}
use Rattle.packet.specs.declared.types.Enumerated.{Enumerated}

-- ---- in how many bits a value stands, and the number that they make
module _ {e : Enumerated} {v : ℕ} (narrow : Narrow e) where
  pub wide-added : e.assigned ≤ v → ValueWide e v 8
  unfolding value_width
  wide-added high = record { same = rw (le-leb e.assigned v high); few = omega arith }

  pub wide-marked : v < e.assigned → e.extensible ≡ true → ValueWide e v (1 + e.width)
  unfolding value_width
  wide-marked low marked = record { same = rw (lt-leb e.assigned v low, marked); few = omega (arith, narrow.few) }

  pub wide-plain : v < e.assigned → e.extensible ≡ false → ValueWide e v e.width
  unfolding value_width
  wide-plain low marked = record { same = rw (lt-leb e.assigned v low, marked) (omega arith); few = omega (arith, narrow.few) }

  pub bits-added : e.assigned ≤ v → 128 + (v - e.assigned) ≡ value_bits e v
  unfolding value_bits
  bits-added high = rw (le-leb e.assigned v high)

  pub bits-plain : v < e.assigned → v ≡ value_bits e v
  unfolding value_bits
  bits-plain low = rw (lt-leb e.assigned v low)

-- the laws of a value
pub ruleset widths = (wide-added, wide-marked, wide-plain, bits-added, bits-plain)
