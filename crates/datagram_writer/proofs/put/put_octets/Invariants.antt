-- `datagram_writer::put_octets` meets its contract. Assumes nothing.
use Prim.Native.Nat.{◌-◌}
use lib.ListN.{length}
use Rattle.datagram_writer.proofs.Copying.{Copied}
use Rattle.datagram_writer.proofs.put.put_octets.Given as goal

abbrev pub invariant-loop-i : goal.invariant-loop-i
invariant-loop-i l = Copied l.octets l.initial.out l.out l.i
