-- `octets::eight` meets its contract. Assumes nothing.
use Rattle.octets.proofs.Turns.{reads-eight}
use Rattle.octets.proofs.eight.Goals as goal

pub returns : goal.returns
returns c = reads-eight _ _ (λ j from to. (c.type_inv.octets j).fits) c.from_le_bytes.ensures
