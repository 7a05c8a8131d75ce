-- `image_writer::put_kept` meets its contract: state, accepted and note are laid, then the packet. Assumes nothing.
use Rattle.image_writer.proofs.Laying.{room-front, room-hex, front-put, kept-asked, kept_put}
use Rattle.image_writer.proofs.numbers.put_kept.Goals as goal

pub put_digits-next-requires : goal.put_digits-next-requires
put_digits-next-requires c = room-hex _ (room-front _ _ c.requires.room)

pub put_item-requires : goal.put_item-requires
put_item-requires c =
    let t = c.args.table.now in
    let row = c.args.row in
    let asked =
    kept-asked t row c.args.octets.now c.size_at-size.ensures
    (front-put t row c.state_at.ensures c.note_at-note.ensures c.put_digits-next.ensures)
    c.requires.table_fits c.requires.octets_len c.requires.row_fits c.requires.room in
    record { has_slot = asked.0; size_le_packet_limit = asked.1.0; room = asked.1.1 }

pub returns : goal.returns
returns c =
    let t = c.args.table.now in
    let row = c.args.row in
    kept_put t row c.args.octets.now c.size_at-size.ensures
    (front-put t row c.state_at.ensures c.note_at-note.ensures c.put_digits-next.ensures)
    c.put_item.ensures
