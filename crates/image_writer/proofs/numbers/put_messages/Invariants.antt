-- `image_writer::put_messages` meets its contract: the messages before i are laid. Assumes nothing.
use Rattle.image_writer.proofs.Turns.{Going}
use Rattle.image_writer.specs.Rows.{message_text}
use Rattle.image_writer.proofs.numbers.put_messages.Given as goal

abbrev pub invariant-loop-i : goal.invariant-loop-i
invariant-loop-i l = Going (message_text l.table l.messages l.heard) l.m l.initial.out l.at l.out l.end l.i
