-- `image_reader::items_at` meets its contract. The loop's invariant: what is left to read, put behind what was read, is the whole. Assumes
-- nothing.
use Rattle.image_reader.proofs.Parting.{Turning}
use Rattle.image_reader.proofs.items.items_at.Given as goal

abbrev pub invariant-loop-i : goal.invariant-loop-i
invariant-loop-i l = Turning l.limit l.s l.count l.first l.parts l.at l.i
