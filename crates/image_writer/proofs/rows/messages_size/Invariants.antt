-- `image_writer::messages_size` meets its contract: the sizes before i are added up. Assumes nothing.
use Prim.Native.Nat.{◌-◌, ◌*◌}
use Rattle.datagram.specs.Sizes.{packet_limit}
use Rattle.datagram.specs.Inner.Heads.{item_size}
use Rattle.session_held.specs.Slots.{message_slot}
use Rattle.session_held.specs.Table.{message_size_in}
use Rattle.image.specs.Image.{longest_item}
use Rattle.image_writer.proofs.Turns.{Counted}
use Rattle.image_writer.proofs.rows.messages_size.Given as goal

abbrev pub invariant-loop-i : goal.invariant-loop-i
invariant-loop-i l = Counted (λ k. 2 * item_size (message_size_in l.table (message_slot l.heard k))) (2 * longest_item packet_limit) l.m l.size l.i
