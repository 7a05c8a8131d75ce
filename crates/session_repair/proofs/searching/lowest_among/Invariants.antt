-- `session_repair::searching::lowest_among` meets its contract: none of the messages so far is usable. Assumes nothing.
use Rattle.session_repair.proofs.Below.{NoneBelow}
use Rattle.session_repair.proofs.searching.lowest_among.Given as goal

abbrev pub invariant-loop-i : goal.invariant-loop-i
invariant-loop-i l = NoneBelow l.table l.at l.i
