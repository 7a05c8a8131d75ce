-- `packet_reader::all_zero` meets its contract. What the iterator tests of each octet is the definition's test. Assumes nothing.
use Rattle.std.proofs.Common.{◌∙◌, rules, tests}
use lib.Dec.{eqb}
use Rattle.std.proofs.lemmas.Iterator.{YieldsList-from_slice}
use Rattle.std.proofs.lemmas.Iterator.Search.{all_from_yields_List}
use Rattle.packet_laws.proofs.Laws.{all-every}
use Rattle.packet_reader.proofs.reader.all_zero.Goals as goal

pub returns : goal.returns
returns c =
    all_from_yields_List _ _ _ _ c.all.ensures.ran (YieldsList-from_slice c.args.octets.now cc) (λ x b q k. search (rules, tests))
    ∙ all-every (λ x. eqb x 0) c.args.octets.now
