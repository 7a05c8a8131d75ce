-- One outcome of the second reader's productions, which the program `explain` calls one by one (rules 8.1 and 28.14): a field for each,
-- under its name and with its promise. All but `octet` have a `requires`. Statements only.
use Rattle.std.specs.Prelude.{ℕ, List}
use Rattle.packet.specs.Edition.{edition_of}
use Rattle.packet.specs.declared.types.Named.{Named}
use Rattle.packet_pencil.specs.Bits.{BitTaken, FlagTaken, EdgeTaken}
use Rattle.packet_pencil.specs.Items.{ValueTaken, OctetTaken, CountTaken, SizeTaken, PartTaken}
use Rattle.packet_pencil.specs.Fields.{HeaderTaken}
use Rattle.packet_pencil.specs.Packet.{StartTaken}
use Rattle.demands.specs.OneOutcome.OneTold.{One}

pub record InPencilReader : Type 0 where
  pub bit : (octets : List ℕ) (item at : ℕ) → One (BitTaken octets item at)
  pub flag : (octets : List ℕ) (item at : ℕ) → One (FlagTaken octets item at)
  pub align : (octets : List ℕ) (at : ℕ) → One (EdgeTaken octets at)
  pub t30_indicator : (named : Named) (octets : List ℕ) (item at : ℕ) → One (ValueTaken (edition_of named).indicators octets item at)
  pub t30_data : (named : Named) (octets : List ℕ) (item at : ℕ) → One (ValueTaken (edition_of named).kinds octets item at)
  pub field_type : (named : Named) (octets : List ℕ) (item at : ℕ) → One (ValueTaken (edition_of named).types octets item at)
  pub octet : (octets : List ℕ) (at : ℕ) → One (OctetTaken octets at)
  pub count : (octets : List ℕ) (at : ℕ) → One (CountTaken octets at)
  pub size : (octets : List ℕ) (at : ℕ) → One (SizeTaken octets at)
  pub field_data : (octets : List ℕ) (at : ℕ) → One (PartTaken octets at)
  pub header : (named : Named) (octets : List ℕ) (at : ℕ) → One (HeaderTaken named octets at)
  pub start : (named : Named) (octets : List ℕ) (at : ℕ) → One (StartTaken named octets at)
