-- `image_writer::rows_size` meets its contract: the sizes before place p are added up. Assumes nothing.
use native.Mathlib.Omega.{arith}
use Rattle.session_held.specs.Slots.{slots_kept}
use Rattle.image_writer.proofs.Turns.{counted_start, counted-turn, counted-done}
use Rattle.image_writer.proofs.Sizing.{told-size}
use Rattle.image_writer.proofs.rows.rows_size.Goals as goal

pub loop-p-init : goal.loop-p-init
loop-p-init c = counted_start

pub overflow_add-size : goal.overflow_add-size
overflow_add-size c = omega (arith, c.row_size-size.ensures.few, c.loop-p.invariant.few)

pub loop-p-preserved : goal.loop-p-preserved
loop-p-preserved c = counted-turn c.loop-p.invariant (omega arith) (told-size c.row_at-row.ensures c.row_size-size.ensures)

pub returns : goal.returns
returns c = counted-done slots_kept c.loop-p.invariant (omega arith) (omega arith)
