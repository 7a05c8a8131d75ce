-- `image_writer::put_item` meets its contract: the item with its length is laid in a line of octets, and that is put. Assumes nothing.
use Rattle.image_writer.proofs.Laying.{item-asked, taken-long, taken-room, taken-put}
use Rattle.image_writer.proofs.numbers.put_item.Goals as goal

pub put_item-count-requires : goal.put_item-count-requires
put_item-count-requires c =
    let args = c.args in
    item-asked args.store.now args.slot args.size c.requires.has_slot c.requires.size_le_packet_limit

pub slice_bounds-put_digits-end : goal.slice_bounds-put_digits-end
slice_bounds-put_digits-end c =
    let args = c.args in
    taken-long args.store.now args.slot args.size c.put_item-count.ensures

pub put_digits-requires : goal.put_digits-requires
put_digits-requires c =
    let args = c.args in
    taken-room args.store.now args.slot args.size c.put_item-count.ensures c.requires.room

pub returns : goal.returns
returns c =
    let args = c.args in
    taken-put args.store.now args.slot args.size c.put_item-count.ensures c.put_digits.ensures
