-- `image_writer::messages_size` meets its contract: the sizes before i are added up. Assumes nothing.
use native.Mathlib.Omega.{arith}
use Rattle.datagram.specs.Sizes.{messages_limit}
use Rattle.datagram.specs.Inner.Heads.{item_size}
use Rattle.image_writer.proofs.Turns.{counted_start, counted-turn, counted-done}
use Rattle.image_writer.proofs.Sizing.{message-short, message-told}
use Rattle.image_writer.proofs.rows.messages_size.Goals as goal

pub loop-i-init : goal.loop-i-init
loop-i-init c = counted_start

pub item_size-requires : goal.item_size-requires
item_size-requires c =
    let pre = c.requires in
    let short = message-short c.args.table.now c.args.heard c.loop-i.i pre.table_fits pre.heard_lt_slots_heard (omega arith)
    c.message_size_at-octets.ensures in
    omega arith

pub overflow_mul-size : goal.overflow_mul-size
overflow_mul-size c =
    let told = message-told c.args.table.now c.args.heard c.loop-i.i c.requires.table_fits c.requires.heard_lt_slots_heard (omega arith)
    c.message_size_at-octets.ensures c.item_size.ensures in
    omega (arith, told.few)

pub overflow_add-size : goal.overflow_add-size
overflow_add-size c =
    let told = message-told c.args.table.now c.args.heard c.loop-i.i c.requires.table_fits c.requires.heard_lt_slots_heard (omega arith)
    c.message_size_at-octets.ensures c.item_size.ensures in
    omega (arith, told.few, c.loop-i.invariant.few)

pub loop-i-preserved : goal.loop-i-preserved
loop-i-preserved c =
    let told = message-told c.args.table.now c.args.heard c.loop-i.i c.requires.table_fits c.requires.heard_lt_slots_heard (omega arith)
    c.message_size_at-octets.ensures c.item_size.ensures in
    counted-turn c.loop-i.invariant (omega arith) told

pub returns : goal.returns
returns c = counted-done messages_limit c.loop-i.invariant (omega arith) c.requires.m_le_messages_limit
