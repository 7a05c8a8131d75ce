-- `image_reader::item_at` meets its contract: its length, then the octets that are left, give each answer. Assumes nothing.
use Rattle.std.proofs.Common.{arith, rules}
use Rattle.image_reader.proofs.Parting.{parts, length-ends}
use Rattle.image_reader.proofs.items.item_at.Goals as goal

pub returns-in_default : goal.returns-in_default
returns-in_default c = search parts

pub overflow_add-start : goal.overflow_add-start
overflow_add-start c =
    let a = c.args in
    let read = c.read_within.ensures in
    omega (arith, length-ends a.s.now a.at read c.in-Ok.is (search rules))

pub overflow_sub-s : goal.overflow_sub-s
overflow_sub-s c =
    let a = c.args in
    let read = c.read_within.ensures in
    length-ends a.s.now a.at read c.in-Ok.is (search rules)

pub returns-then-s-start : goal.returns-then-s-start
returns-then-s-start c = search parts

pub returns : goal.returns
returns c = search parts
