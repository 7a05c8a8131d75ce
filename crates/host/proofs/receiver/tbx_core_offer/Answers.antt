-- `tbx_core_offer` meets its contract. Assumes nothing.
use Rattle.std.proofs.Common.{rules}
use Rattle.host.proofs.Receiving.{offer-hosted}
use Rattle.host.proofs.receiver.tbx_core_offer.Goals as goal

pub returns : goal.returns
returns c = offer-hosted (search rules) (rw c.counts-counts.ensures at c.offer_core-answer.ensures) c.offered_told.ensures
