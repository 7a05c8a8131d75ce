-- `image_writer::put_rows` meets its contract: the lines before place p are laid. Assumes nothing.
use Rattle.session_held.specs.Slots.{slots_kept}
use Rattle.image_writer.proofs.Turns.{Going}
use Rattle.image_writer.specs.Rows.{image_row_at, row_text}
use Rattle.image_writer.proofs.numbers.put_rows.Given as goal

abbrev pub invariant-loop-p : goal.invariant-loop-p
invariant-loop-p l = Going (λ q. row_text l.table l.octets l.messages (image_row_at l.base l.table q)) slots_kept l.initial.out l.at l.out l.end l.p
