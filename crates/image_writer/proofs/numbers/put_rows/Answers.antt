-- `image_writer::put_rows` meets its contract: the lines before place p are laid. Assumes nothing.
use native.Mathlib.Omega.{arith}
use Rattle.image_writer.proofs.Laying.{told-room, told-put}
use Rattle.image_writer.proofs.Turns.{going_start, going-room, going-turn, going_done}
use Rattle.image_writer.proofs.numbers.put_rows.Goals as goal

pub loop-p-init : goal.loop-p-init
loop-p-init c = going_start c.requires.room

pub put_row-end-requires : goal.put_row-end-requires
put_row-end-requires c =
    let pre = c.requires in
    let room = going-room pre.room c.loop-p.invariant (omega arith) in
    let row = c.row_at-row.ensures in record { table_fits = pre.table_fits; octets_len = pre.octets_len; messages_len = pre.messages_len; row_fits = row.fits; room = told-room row c.args.octets.now c.args.messages.now room }

pub loop-p-preserved : goal.loop-p-preserved
loop-p-preserved c =
    let args = c.args in
    going-turn c.loop-p.invariant (omega arith)
    (told-put c.row_at-row.ensures args.octets.now args.messages.now c.put_row-end.ensures)

pub shape_of-out : goal.shape_of-out
shape_of-out c = c.loop-p.invariant.long

pub returns : goal.returns
returns c = going_done c.loop-p.invariant (omega arith)
