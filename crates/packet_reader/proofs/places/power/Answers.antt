-- `packet_reader::power` meets its contract. A 1 that is shifted by at most eight places stays within the word. Assumes nothing.
use Rattle.packet_reader.proofs.ReadPlaces.{places}
use Rattle.packet_reader.proofs.places.power.Goals as goal

pub returns : goal.returns
returns c = search places
