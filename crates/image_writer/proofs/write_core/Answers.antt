-- `image_writer::write_core` meets its contract: 17 outside the ranges, then 13 where there is no room, else the lines. Assumes nothing.
use native.Mathlib.Omega.{arith}
use Rattle.session_held.specs.Table.{lent}
use Rattle.image_writer.proofs.Laying.{room-front, room-rest}
use Rattle.image_writer.proofs.Answers.{Lengths, write-outside, table_fits, write-full, write-room, write_done}
use Rattle.image_writer.proofs.write_core.Goals as goal

pub in_ranges-requires : goal.in_ranges-requires
in_ranges-requires c = c.requires

pub returns-then-not-in_ranges : goal.returns-then-not-in_ranges
returns-then-not-in_ranges c =
    let args = c.args in
    let session = lent args.base args.counts args.table.now args.octets.now args.messages.now in
    write-outside session c.in_ranges.ensures c.new.ensures c.if-not-in_ranges.true-raw

pub rows_size-requires : goal.rows_size-requires
rows_size-requires c =
    let args = c.args in
    let session = lent args.base args.counts args.table.now args.octets.now args.messages.now in
    table_fits session c.in_ranges.ensures c.if-not-in_ranges.false-raw (c.requires.table_len, (c.requires.octets_len, c.requires.messages_len))

pub overflow_add-size-2 : goal.overflow_add-size-2
overflow_add-size-2 c = omega (arith, c.rows_size.ensures.few)

pub returns-then-out-size : goal.returns-then-out-size
returns-then-out-size c =
    let args = c.args in
    let session = lent args.base args.counts args.table.now args.octets.now args.messages.now in
    write-full session c.in_ranges.ensures c.if-not-in_ranges.false-raw
    (c.requires.table_len, (c.requires.octets_len, c.requires.messages_len)) c.rows_size.ensures {old = args.out.now} c.new-then-out-size.ensures (omega (arith, c.if-out-size.true))

pub put_first-first-requires : goal.put_first-first-requires
put_first-first-requires c =
    let args = c.args in
    let session = lent args.base args.counts args.table.now args.octets.now args.messages.now in
    room-front _ _
    (write-room session c.in_ranges.ensures c.if-not-in_ranges.false-raw
    (c.requires.table_len, (c.requires.octets_len, c.requires.messages_len)) c.rows_size.ensures c.if-out-size.false)

pub put_rows-end-requires : goal.put_rows-end-requires
put_rows-end-requires c =
    let args = c.args in
    let session = lent args.base args.counts args.table.now args.octets.now args.messages.now in
    let long : Lengths session = (c.requires.table_len, (c.requires.octets_len, c.requires.messages_len)) in
    let told = c.in_ranges.ensures in
    let inside = c.if-not-in_ranges.false-raw in
    let room = write-room session told inside long c.rows_size.ensures c.if-out-size.false in record { table_fits = table_fits session told inside long; octets_len = c.requires.octets_len; messages_len = c.requires.messages_len; room = room-rest _ c.put_first-first.ensures room }

pub returns : goal.returns
returns c =
    let args = c.args in
    let session = lent args.base args.counts args.table.now args.octets.now args.messages.now in
    write_done session c.in_ranges.ensures c.if-not-in_ranges.false-raw
    (c.requires.table_len, (c.requires.octets_len, c.requires.messages_len)) c.put_first-first.ensures c.put_rows-end.ensures
