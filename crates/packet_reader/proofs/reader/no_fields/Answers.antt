-- `packet_reader::no_fields` meets its contract. It is the definition's list. Assumes nothing.
use mathlib.Core.Path.{refl}
use Rattle.packet.specs.Promise.{padded_fields}
use Rattle.packet_reader.proofs.reader.no_fields.Goals as goal

pub returns : goal.returns
unfolding padded_fields
returns c = refl
