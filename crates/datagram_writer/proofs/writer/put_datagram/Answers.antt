-- `datagram_writer::put_datagram` meets its contract. Assumes nothing.
use Rattle.datagram_writer.proofs.WriteSteps.{writes, items-asked}
use Rattle.datagram_writer.proofs.writer.put_datagram.Goals as goal

pub put_front-at-requires : goal.put_front-at-requires
put_front-at-requires c = search writes

pub put_items-items-requires : goal.put_items-items-requires
put_items-items-requires c =
    let given = c.args in
    items-asked given.number given.packet.now given.kind given.lengths.now given.«data».now c.requires.0
    c.requires.1
    c.put_front-at.ensures

pub returns : goal.returns
returns c = search writes
