-- `packet_reader::read` meets its contract. What the octet names decides between the named edition's
-- answer and refusal 15. Assumes nothing.
use mathlib.Core.Path.{sym, ◌∙◌}
use Rattle.packet_reader.proofs.ReadPacket.{packet-other}
use Rattle.packet_reader.proofs.reader.read.Goals as goal

pub returns-in-Some : goal.returns-in-Some
returns-in-Some c = rw (sym c.choice_of.ensures ∙ c.in-Some.is) c.read_named.ensures.told

pub returns-in-None : goal.returns-in-None
returns-in-None c = rw (sym c.choice_of.ensures ∙ c.in-None.is) (packet-other c.new.ensures)
