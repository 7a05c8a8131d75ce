-- `packet_pencil::bits::bit` meets its contract. Each answer is a law of `OneBit`. Assumes nothing.
use Rattle.packet_pencil.proofs.OneBit.{ones}
use Rattle.packet_pencil.proofs.bits.bit.Goals as goal

pub returns-then-octets-at : goal.returns-then-octets-at
returns-then-octets-at c = search ones

pub returns : goal.returns
returns c = search ones
