-- `image_reader::lay_messages` meets its contract: after i turns i messages are laid, and all others are unchanged. Assumes nothing.
use Rattle.std.proofs.Common.{arith}
use Rattle.image_reader.proofs.Messages.{laying-turn}
use Rattle.image_reader.proofs.laying.lay_messages.Goals as goal

pub loop-i-preserved : goal.loop-i-preserved
loop-i-preserved c =
    let pre = c.requires in
    laying-turn c.loop-i.invariant pre.j_lt_slots_heard pre.table_len pre.messages_len pre.messages_fit (omega arith) c.lay_message.ensures
