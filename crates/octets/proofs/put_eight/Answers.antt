-- `octets::put_eight` meets its contract. Assumes nothing.
use Rattle.octets.proofs.Turns.{spells-eight}
use Rattle.octets.proofs.put_eight.Goals as goal

pub returns : goal.returns
returns c =
    rw c.copy_from_slice.ensures.after
    (spells-eight c.args.octets.now c.args.at c.args.w c.requires c.ranges.w.fits c.to_le_bytes.ensures)
