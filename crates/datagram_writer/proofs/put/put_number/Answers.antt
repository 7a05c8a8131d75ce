-- `datagram_writer::put_number` meets its contract. Assumes nothing.
use native.Mathlib.Omega.{arith}
use Rattle.datagram_writer.proofs.PutSteps.{puts}
use Rattle.datagram.proofs.Laws.{number-length}
use Rattle.datagram_writer.proofs.put.put_number.Goals as goal

pub put_octets-requires : goal.put_octets-requires
put_octets-requires c = omega (arith, number-length c.args.number)

pub returns : goal.returns
returns c = search puts
