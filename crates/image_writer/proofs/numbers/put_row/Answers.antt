-- `image_writer::put_row` meets its contract: its parts are laid one after the other. Assumes nothing.
use Rattle.image_writer.proofs.Laying.{row_kept, row_counts, row-messages, row-feed, row_put}
use Rattle.image_writer.proofs.numbers.put_row.Goals as goal

pub put_kept-one-requires : goal.put_kept-one-requires
put_kept-one-requires c =
    let args = c.args in
    let pre = c.requires in record { table_fits = pre.table_fits; octets_len = pre.octets_len; row_fits = pre.row_fits; room = row_kept args.table.now args.octets.now args.messages.now args.row pre.room }

pub put_digits-two-requires : goal.put_digits-two-requires
put_digits-two-requires c =
    let args = c.args in
    row_counts args.table.now args.octets.now args.messages.now args.row c.put_kept-one.ensures c.requires.room

pub put_messages-end-requires : goal.put_messages-end-requires
put_messages-end-requires c =
    let args = c.args in
    let pre = c.requires in
    let row = pre.row_fits in
    let room = row-messages args.table.now args.octets.now args.messages.now args.row c.put_kept-one.ensures
    c.put_digits-two.ensures pre.room in record { table_fits = pre.table_fits; messages_len = pre.messages_len; heard_lt_slots_heard = row.heard; m_le_messages_limit = row.few; room = room }

pub end_line-requires : goal.end_line-requires
end_line-requires c =
    let args = c.args in
    row-feed args.table.now args.octets.now args.messages.now args.row c.put_kept-one.ensures
    c.put_digits-two.ensures
    c.put_messages-end.ensures c.requires.room

pub returns : goal.returns
returns c =
    let args = c.args in
    row_put args.table.now args.octets.now args.messages.now args.row c.put_kept-one.ensures c.put_digits-two.ensures
    c.put_messages-end.ensures c.end_line.ensures
