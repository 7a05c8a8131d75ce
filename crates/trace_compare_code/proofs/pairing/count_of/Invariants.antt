-- `trace_compare_code::count_of` meets its contract. The invariant: how often the number stands so far. Assumes nothing.
use Rattle.trace_compare_code.proofs.Often.{Counted}
use Rattle.trace_compare_code.proofs.pairing.count_of.Given as goal

abbrev pub invariant-loop-here : goal.invariant-loop-here
invariant-loop-here l = Counted l.numbers l.number l.count l.here-index
