-- `datagram_writer::put_octets` meets its contract. Assumes nothing.
use Prim.Native.Nat.{◌-◌}
use Rattle.datagram_writer.proofs.Copying.{copies}
use Rattle.datagram_writer.proofs.put.put_octets.Goals as goal

pub loop-i-init : goal.loop-i-init
loop-i-init c = search copies

pub loop-i-preserved : goal.loop-i-preserved
loop-i-preserved c = search copies

pub returns : goal.returns
returns c = search copies
