-- `packet_reader::bit` meets its contract. The one octet that holds the bit is the high one of the definition's two. Assumes nothing.
use Rattle.packet_reader.proofs.ReadPlaces.{places}
use Rattle.packet_reader.proofs.places.bit.Goals as goal

pub returns : goal.returns
returns c = search places
