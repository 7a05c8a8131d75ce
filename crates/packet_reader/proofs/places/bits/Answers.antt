-- `packet_reader::bits` meets its contract. The window of two octets, the shift and the rest are those of `bits_at`. Assumes nothing.
use Rattle.packet_reader.proofs.ReadPlaces.{places}
use Rattle.packet_reader.proofs.places.bits.Goals as goal

pub returns : goal.returns
returns c = search places
