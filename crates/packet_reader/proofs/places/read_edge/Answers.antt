-- `packet_reader::read_edge` meets its contract. Each answer is a law of `ReadPlaces`: the test is that of `edge_at`. Assumes nothing.
use Rattle.packet_reader.proofs.ReadPlaces.{places}
use Rattle.packet_reader.proofs.places.read_edge.Goals as goal

pub returns-then-octet-values-gt0 : goal.returns-then-octet-values-gt0
returns-then-octet-values-gt0 c = search places

pub returns : goal.returns
returns c = search places
