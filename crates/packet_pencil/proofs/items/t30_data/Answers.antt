-- `packet_pencil::items::t30_data` meets its contract. Each answer is a law of `ReadValues`. Assumes nothing.
use Rattle.std.proofs.Common.{rules}
use Rattle.packet_pencil.proofs.ReadValues.{editions}
use Rattle.packet_pencil.proofs.items.t30_data.Goals as goal

pub enumerated-requires : goal.enumerated-requires
enumerated-requires c = search (rules, editions)

pub returns : goal.returns
returns c = search editions
