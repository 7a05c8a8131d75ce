-- `datagram_writer::datagram_size` meets its contract. Assumes nothing.
use lib.ListN.{length}
use native.Mathlib.Omega.{arith}
use Rattle.datagram_writer.proofs.SizeSteps.{sizes, datagram-bound}
use Rattle.datagram_writer.proofs.writer.datagram_size.Goals as goal

pub overflow_add-head : goal.overflow_add-head
overflow_add-head c =
    let given = c.args in
    let all =
    datagram-bound _ given.kind (length given.lengths.now) _ c.item_size-newest.ensures
    c.kind_size-before.ensures c.items_size-items.ensures in
    omega arith

pub overflow_add-all : goal.overflow_add-all
overflow_add-all c =
    let given = c.args in
    let all =
    datagram-bound _ given.kind (length given.lengths.now) _ c.item_size-newest.ensures
    c.kind_size-before.ensures c.items_size-items.ensures in
    omega arith

pub overflow_add-result : goal.overflow_add-result
overflow_add-result c =
    let given = c.args in
    let all =
    datagram-bound _ given.kind (length given.lengths.now) _ c.item_size-newest.ensures
    c.kind_size-before.ensures c.items_size-items.ensures in
    omega arith

pub returns : goal.returns
returns c = search sizes
