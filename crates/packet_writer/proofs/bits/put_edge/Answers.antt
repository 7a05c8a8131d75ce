-- `packet_writer::put_edge` meets its contract. The octet is what waits with zero bits below it. Assumes nothing.
use native.Mathlib.Omega.{arith}
use Rattle.packet_writer.proofs.Putting.{puts, edge-room}
use Rattle.packet_writer.proofs.bits.put_edge.Goals as goal

pub returns-then-before-lt1 : goal.returns-then-before-lt1
returns-then-before-lt1 c = search puts

pub overflow_cast-out : goal.overflow_cast-out
overflow_cast-out c = search puts

pub bounds-out-0 : goal.bounds-out-0
bounds-out-0 c =
    let room = edge-room c.requires c.if-before-lt1.false in
    omega arith

pub returns : goal.returns
returns c = search puts
