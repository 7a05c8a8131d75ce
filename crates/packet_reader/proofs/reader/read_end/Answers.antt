-- `packet_reader::read_end` meets its contract. Each answer is a law of `ReadPacket`. Assumes nothing.
use Rattle.std.proofs.lemmas.Result.{err_from_is_err_and}
use Rattle.packet_reader.proofs.ReadPacket.{ending}
use Rattle.packet_reader.proofs.reader.read_end.Goals as goal

pub returns-in_err-at : goal.returns-in_err-at
returns-in_err-at c =
    let p = err_from_is_err_and c.from_residual.result c.from_residual.ensures.1 in
    rw (p.1, p.2) (search (ending, c.in_err-at.was))

pub slice_bounds-may_follow-count : goal.slice_bounds-may_follow-count
slice_bounds-may_follow-count c = search (ending, c.in_ok-at.was)

pub slice_bounds-may_follow-start : goal.slice_bounds-may_follow-start
slice_bounds-may_follow-start c = search (ending, c.in_ok-at.was)

pub returns-then-may_follow : goal.returns-then-may_follow
returns-then-may_follow c = search (ending, c.in_ok-at.was)

pub returns-else-may_follow : goal.returns-else-may_follow
returns-else-may_follow c = search (ending, c.in_ok-at.was)
