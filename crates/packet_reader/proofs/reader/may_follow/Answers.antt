-- `packet_reader::may_follow` meets its contract. Each ending's answer is its case of the definition. Assumes nothing.
use Rattle.packet_reader.proofs.reader.may_follow.Goals as goal

pub returns-in-Whole : goal.returns-in-Whole
returns-in-Whole c = rw c.in-Whole.is

pub returns-in-Repaired : goal.returns-in-Repaired
returns-in-Repaired c = rw c.in-Repaired.is c.all_zero.ensures
