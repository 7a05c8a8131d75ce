-- `session_repair::searching::lowest_usable` meets its contract. Assumes nothing.
use Rattle.std.proofs.Common.{arith}
use Rattle.session_repair.proofs.Below.{small_count, seeable, lowest-empty}
use Rattle.session_repair.proofs.searching.lowest_usable.Goals as goal

pub returns-then-count-eq0 : goal.returns-then-count-eq0
returns-then-count-eq0 c = lowest-empty c.heard_slot-slot.ensures c.m_at-count.ensures c.if-count-eq0.true

pub narrow-requires : goal.narrow-requires
narrow-requires c = small_count c.requires (omega (arith, c.heard_slot-slot.ensures)) c.m_at-count.ensures

pub lowest_among-requires : goal.lowest_among-requires
lowest_among-requires c = seeable c.requires c.heard_slot-slot.ensures c.m_at-count.ensures c.n_at-n.ensures c.narrow.ensures
