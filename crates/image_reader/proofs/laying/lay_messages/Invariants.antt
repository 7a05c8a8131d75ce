-- `image_reader::lay_messages` meets its contract: after i turns i messages are laid, and all others are unchanged. Assumes nothing.
use Rattle.image_reader.proofs.Messages.{Laying}
use Rattle.image_reader.proofs.laying.lay_messages.Given as goal

abbrev pub invariant-loop-i : goal.invariant-loop-i
invariant-loop-i l = Laying l.j l.s l.parts l.count l.initial.table l.initial.messages l.table l.messages l.i
