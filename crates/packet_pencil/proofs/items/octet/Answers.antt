-- `packet_pencil::items::octet` meets its contract. Each answer is a law of `ReadSizes`. Assumes nothing.
use Rattle.packet_pencil.proofs.ReadSizes.{octets}
use Rattle.packet_pencil.proofs.items.octet.Goals as goal

pub returns-then-octets-whole : goal.returns-then-octets-whole
returns-then-octets-whole c = search octets
