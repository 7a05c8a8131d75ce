-- `trace_compare_code::put_row` meets its contract: one entry, or none. Assumes nothing.
use Rattle.trace_compare_code.proofs.DifferencesListing.{row_put, row-none}
use Rattle.trace_compare_code.proofs.differing.put_row.Goals as goal

pub returns-then-applies : goal.returns-then-applies
returns-then-applies c = row_put _ _ c.if-applies.true c.put_entry.ensures

pub returns-else-applies : goal.returns-else-applies
returns-else-applies c = row-none _ _ c.if-applies.false c.requires
