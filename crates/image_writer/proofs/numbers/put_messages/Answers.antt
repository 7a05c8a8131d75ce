-- `image_writer::put_messages` meets its contract: the messages before i are laid. Assumes nothing.
use native.Mathlib.Omega.{arith}
use Rattle.image_writer.proofs.Laying.{message-asked, message-put}
use Rattle.image_writer.proofs.Turns.{going_start, going-room, going-turn, going_done}
use Rattle.image_writer.proofs.numbers.put_messages.Goals as goal

pub loop-i-init : goal.loop-i-init
loop-i-init c = going_start c.requires.room

pub put_item-end-requires : goal.put_item-end-requires
put_item-end-requires c =
    let pre = c.requires in
    let asked =
    message-asked c.args.table.now c.args.messages.now c.args.heard c.loop-i.i
    c.message_size_at-size.ensures
    pre.table_fits pre.messages_len pre.heard_lt_slots_heard (omega arith)
    (going-room pre.room c.loop-i.invariant (omega arith)) in
    record { has_slot = asked.0; size_le_packet_limit = asked.1.0; room = asked.1.1 }

pub loop-i-preserved : goal.loop-i-preserved
loop-i-preserved c =
    going-turn c.loop-i.invariant (omega arith)
    (message-put c.args.table.now c.args.messages.now c.args.heard c.loop-i.i
    c.message_size_at-size.ensures
    c.put_item-end.ensures)

pub shape_of-out : goal.shape_of-out
shape_of-out c = c.loop-i.invariant.long

pub returns : goal.returns
returns c = going_done c.loop-i.invariant (omega arith)
