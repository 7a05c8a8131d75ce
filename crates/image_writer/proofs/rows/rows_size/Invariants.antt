-- `image_writer::rows_size` meets its contract: the sizes before place p are added up. Assumes nothing.
use Rattle.datagram.specs.Sizes.{packet_limit}
use Rattle.session_held.specs.Slots.{slots_kept}
use Rattle.image.specs.Image.{line_size, number_line_limit}
use Rattle.image_writer.proofs.Turns.{Counted}
use Rattle.image_writer.specs.Rows.{image_row_at, row_size}
use Rattle.image_writer.proofs.rows.rows_size.Given as goal

abbrev pub invariant-loop-p : goal.invariant-loop-p
invariant-loop-p l = Counted (λ q. row_size l.table (image_row_at l.base l.table q)) (line_size (number_line_limit packet_limit)) slots_kept l.size l.p
