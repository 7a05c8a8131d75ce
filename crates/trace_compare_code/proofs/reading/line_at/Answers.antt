-- `trace_compare_code::line_at` meets its contract: up to the next line feed, or to the end of the trace. Assumes nothing.
use Rattle.trace_compare_code.proofs.Cutting.{cut_line, cut-last}
use Rattle.trace_compare_code.proofs.reading.line_at.Goals as goal

pub returns-then-stop-rest : goal.returns-then-stop-rest
returns-then-stop-rest c = cut_line c.args.trace.now c.requires c.find_feed-stop.ensures c.if-stop-rest.true

pub returns-else-stop-rest : goal.returns-else-stop-rest
returns-else-stop-rest c = cut-last c.args.trace.now c.requires c.find_feed-stop.ensures c.if-stop-rest.false
