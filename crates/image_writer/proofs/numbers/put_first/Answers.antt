-- `image_writer::put_first` meets its contract: its parts are laid one after the other. Assumes nothing.
use Rattle.line.proofs.Laws.{appends-then}
use Rattle.image_writer.proofs.Laying.{room-front, room-rest, room-hex}
use Rattle.image_writer.proofs.numbers.put_first.Goals as goal

pub put_digits-one-requires : goal.put_digits-one-requires
put_digits-one-requires c = room-hex _ (room-front _ _ c.requires)

pub put_count-two-requires : goal.put_count-two-requires
put_count-two-requires c = room-front _ _ (room-rest _ c.put_digits-one.ensures c.requires)

pub put_count-three-requires : goal.put_count-three-requires
put_count-three-requires c =
    let after_front = room-rest _ c.put_digits-one.ensures c.requires in
    room-front _ _ (room-rest _ c.put_count-two.ensures after_front)

pub put_count-four-requires : goal.put_count-four-requires
put_count-four-requires c =
    let after_front = room-rest _ c.put_digits-one.ensures c.requires in
    let after_one = room-rest _ c.put_count-two.ensures after_front in
    room-front _ _ (room-rest _ c.put_count-three.ensures after_one)

pub put_count-end-requires : goal.put_count-end-requires
put_count-end-requires c =
    let after_front = room-rest _ c.put_digits-one.ensures c.requires in
    let after_one = room-rest _ c.put_count-two.ensures after_front in
    let after_two = room-rest _ c.put_count-three.ensures after_one in
    room-front _ _ (room-rest _ c.put_count-four.ensures after_two)

pub end_line-requires : goal.end_line-requires
end_line-requires c =
    let after_front = room-rest _ c.put_digits-one.ensures c.requires in
    let after_one = room-rest _ c.put_count-two.ensures after_front in
    let after_two = room-rest _ c.put_count-three.ensures after_one in
    let after-three = room-rest _ c.put_count-four.ensures after_two in
    room-rest _ c.put_count-end.ensures after-three

pub returns : goal.returns
returns c =
    appends-then c.put_digits-one.ensures
    (appends-then c.put_count-two.ensures
    (appends-then c.put_count-three.ensures
    (appends-then c.put_count-four.ensures (appends-then c.put_count-end.ensures c.end_line.ensures))))
