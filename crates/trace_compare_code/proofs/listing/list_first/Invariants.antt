-- `trace_compare_code::list_first` meets its contract. The invariant: what is listed, and what is still to come, are all entries. Assumes
-- nothing.
use Rattle.trace_compare.specs.Traces.{first_trace, second_trace}
use Rattle.trace_compare_code.specs.Lines.{datagram_lines}
use Rattle.trace_compare_code.proofs.FirstLines.{FirstListed}
use Rattle.trace_compare_code.proofs.listing.list_first.Given as goal

abbrev pub invariant-loop-i : goal.invariant-loop-i
invariant-loop-i l = FirstListed (datagram_lines first_trace l.first) (datagram_lines second_trace l.second) l.initial.list l.i l.at l.list
