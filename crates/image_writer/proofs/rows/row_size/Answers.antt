-- `image_writer::row_size` meets its contract. Assumes nothing.
use native.Mathlib.Omega.{arith}
use Rattle.image_writer.proofs.Sizing.{packet-short, packet-few, row_told}
use Rattle.image_writer.proofs.rows.row_size.Goals as goal

pub item_size-packet-requires : goal.item_size-packet-requires
item_size-packet-requires c =
    let short = packet-short c.args.table.now c.args.row c.requires.table_fits c.requires.row_fits c.size_at-octets.ensures in
    omega arith

pub overflow_add-result : goal.overflow_add-result
overflow_add-result c =
    let few = packet-few c.args.table.now c.args.row c.requires.table_fits c.requires.row_fits c.size_at-octets.ensures
    c.item_size-packet.ensures in
    omega arith

pub overflow_mul-result : goal.overflow_mul-result
overflow_mul-result c =
    let few = packet-few c.args.table.now c.args.row c.requires.table_fits c.requires.row_fits c.size_at-octets.ensures
    c.item_size-packet.ensures in
    omega arith

pub overflow_add-result-2 : goal.overflow_add-result-2
overflow_add-result-2 c =
    let few = packet-few c.args.table.now c.args.row c.requires.table_fits c.requires.row_fits c.size_at-octets.ensures
    c.item_size-packet.ensures in
    omega arith

pub overflow_add-result-3 : goal.overflow_add-result-3
overflow_add-result-3 c =
    let few = packet-few c.args.table.now c.args.row c.requires.table_fits c.requires.row_fits c.size_at-octets.ensures
    c.item_size-packet.ensures in
    omega (arith, c.messages_size-messages.ensures.few)

pub returns : goal.returns
returns c =
    row_told c.args.table.now c.args.row c.requires.table_fits c.requires.row_fits c.size_at-octets.ensures
    c.item_size-packet.ensures c.messages_size-messages.ensures
