-- `trace_compare_code::list_all` meets its contract: the entries are gathered, then laid into the lent list, if they fit. Assumes nothing.
use native.Mathlib.Omega.{arith}
use Rattle.trace_compare_code.proofs.Whole.{room-second, both-listed, list_full, list_put}
use Rattle.trace_compare_code.proofs.traces.list_all.Goals as goal

pub list_second-size-requires : goal.list_second-size-requires
list_second-size-requires c = room-second c.requires.kept_trace c.requires.kept_trace_2 c.list_first-end.ensures c.requires.a_len_bound c.requires.b_len_bound (omega arith)

pub returns-then-list-size : goal.returns-then-list-size
returns-then-list-size c =
    list_full _ _ (both-listed c.requires.kept_trace c.requires.kept_trace_2 c.list_first-end.ensures c.list_second-size.ensures)
    c.if-list-size.true c.no_line.ensures

pub returns : goal.returns
returns c =
    list_put _ _ (both-listed c.requires.kept_trace c.requires.kept_trace_2 c.list_first-end.ensures c.list_second-size.ensures)
    c.if-list-size.false c.copy_from_slice.ensures.after
