-- `datagram_reader::whole_of` meets its contract: the loop's invariant: what is left to read, put behind what was read, is the
-- whole. Assumes nothing.
use Rattle.datagram_reader.proofs.ReadTurn.{Turning}
use Rattle.datagram_reader.proofs.reader.whole_of.Given as goal

abbrev pub invariant-loop-i : goal.invariant-loop-i
invariant-loop-i l = Turning l.low l.high l.octets l.extra.count l.extra.first l.items l.at l.i
