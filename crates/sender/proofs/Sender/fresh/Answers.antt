-- `sender::Sender::fresh` meets its contract. Assumes nothing.
use Rattle.sender.proofs.FreshSteps.{fresh-made}
use Rattle.sender.proofs.Sender.fresh.Goals as goal

pub returns : goal.returns
returns c = fresh-made
