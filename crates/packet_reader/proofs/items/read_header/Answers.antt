-- `packet_reader::read_header` meets its contract. A header that is cut at once is a law of `ReadHeads`; what is found part by
-- part is the same promise. Assumes nothing.
use Rattle.packet_reader.proofs.ReadHeads.{headers, header-narrow}
use Rattle.packet_reader.proofs.items.read_header.Goals as goal

pub plain_width-below-requires : goal.plain_width-below-requires
plain_width-below-requires c = search header-narrow

pub returns : goal.returns
returns c = search headers
