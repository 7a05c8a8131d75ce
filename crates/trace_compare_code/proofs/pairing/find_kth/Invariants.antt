-- `trace_compare_code::find_kth` meets its contract. The invariant: how many of its like are still to pass from j on. Assumes nothing.
use Rattle.trace_compare_code.proofs.Often.{Seeking}
use Rattle.trace_compare_code.proofs.pairing.find_kth.Given as goal

abbrev pub invariant-loop-j : goal.invariant-loop-j
invariant-loop-j l = Seeking l.numbers l.number l.k l.left l.j
