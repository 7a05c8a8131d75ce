-- `packet_writer::put_bits` meets its contract. What waits and the bits make a number of at most fifteen bits; its highest eight are the
-- octet, where there are so many. Assumes nothing.
use native.Mathlib.Omega.{arith}
use Rattle.packet_writer.proofs.Putting.{puts, bits-room}
use Rattle.packet_writer.proofs.bits.put_bits.Goals as goal

pub returns-then-long-lt8 : goal.returns-then-long-lt8
returns-then-long-lt8 c = search puts

pub overflow_cast-out : goal.overflow_cast-out
overflow_cast-out c = search puts

pub bounds-out-0 : goal.bounds-out-0
bounds-out-0 c =
    let room = bits-room c.requires c.if-long-lt8.false in
    omega arith

pub returns : goal.returns
returns c = search puts
