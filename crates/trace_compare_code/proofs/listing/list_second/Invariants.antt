-- `trace_compare_code::list_second` meets its contract. The invariant: what is listed, and what is still to come, are all entries. Assumes
-- nothing.
use Rattle.trace_compare_code.proofs.SecondLines.{SecondListed}
use Rattle.trace_compare_code.proofs.listing.list_second.Given as goal

abbrev pub invariant-loop-j : goal.invariant-loop-j
invariant-loop-j l = SecondListed l.a l.b l.initial.list l.from l.j l.at l.list
