-- `packet_reader::read_first` meets its contract. A value that is cut at once is a law of `ReadHeads`; what is found part by
-- part is the same promise. Assumes nothing.
use Rattle.packet_reader.proofs.ReadHeads.{firsts, first-narrow}
use Rattle.packet_reader.proofs.items.read_first.Goals as goal

pub plain_width-width-requires : goal.plain_width-width-requires
plain_width-width-requires c = search first-narrow

pub returns : goal.returns
returns c = search firsts
