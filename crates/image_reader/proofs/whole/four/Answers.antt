-- `image_reader::four` meets its contract. Assumes nothing.
use Rattle.std.proofs.Common.{rules}
use Rattle.image_reader.proofs.FirstLine.{four-octets}
use Rattle.image_reader.proofs.whole.four.Goals as goal

pub returns : goal.returns
returns c = four-octets c.args.s.now c.args.at _ _ (search rules) (search rules)
