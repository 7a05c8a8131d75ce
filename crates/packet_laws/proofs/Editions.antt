-- What the code needs of an edition's values holds of both editions. Assumes nothing.
use native.Mathlib.Omega.{arith}
use Rattle.packet.specs.Edition.{values, edition98, edition02, edition_of}
use Rattle.packet.specs.declared.types.PacketKind.{PacketKind}
use Rattle.packet.specs.declared.types.PacketKind.TheVariants.{Indicator, Data}
use Rattle.packet.specs.declared.types.Named.{Named}
use Rattle.packet.specs.declared.types.Named.TheVariants.{Old, New}
use Rattle.packet.proofs.Laws.{sound98, sound02}
use Rattle.packet_laws.specs.Octets.{Narrow, NarrowEdition}

pub narrow : (named : Named) → NarrowEdition (edition_of named)
narrow Old =
    record { of_kind = by; of_types = record { sound = sound98.of_types; some = omega arith; few = omega arith; values = omega arith } } where
      by : (k : PacketKind) → Narrow (values edition98 k)
      by Indicator = record { sound = sound98.of_kind Indicator; some = omega arith; few = omega arith; values = omega arith }
      by Data = record { sound = sound98.of_kind Data; some = omega arith; few = omega arith; values = omega arith }
narrow New =
    record { of_kind = by; of_types = record { sound = sound02.of_types; some = omega arith; few = omega arith; values = omega arith } } where
      by : (k : PacketKind) → Narrow (values edition02 k)
      by Indicator = record { sound = sound02.of_kind Indicator; some = omega arith; few = omega arith; values = omega arith }
      by Data = record { sound = sound02.of_kind Data; some = omega arith; few = omega arith; values = omega arith }
