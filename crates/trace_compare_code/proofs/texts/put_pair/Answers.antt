-- `trace_compare_code::put_pair` meets its contract: the lines are cut where they were cut before. Assumes nothing.
use Rattle.trace_compare_code.proofs.Rereading.{line-holds, pair_put}
use Rattle.trace_compare_code.proofs.texts.put_pair.Goals as goal

pub put_lines-requires : goal.put_lines-requires
put_lines-requires c = record { a_value = line-holds c.line_at-a.ensures c.requires.holds_datagram; b_value = line-holds c.line_at-b.ensures c.requires.holds_datagram_2; line_room_in_bounds = c.requires.line_room_in_bounds }

pub returns : goal.returns
returns c = pair_put _ c.line_at-a.ensures c.line_at-b.ensures c.put_lines.ensures
