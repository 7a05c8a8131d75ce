-- `packet_writer::all_short` meets its contract. What the iterator tests of each element is the definition's test. Assumes nothing.
use Rattle.std.proofs.Common.{◌∙◌, leb, rules, tests}
use Rattle.datagram.specs.Sizes.{packet_limit}
use Rattle.std.proofs.lemmas.Iterator.{YieldsList-from_slice}
use Rattle.std.proofs.lemmas.Iterator.Search.{all_from_yields_List}
use Rattle.packet_laws.proofs.Laws.{all-every}
use Rattle.packet_writer.proofs.sizes.all_short.Goals as goal

pub returns : goal.returns
returns c =
    all_from_yields_List _ _ _ _ c.all.ensures.ran (YieldsList-from_slice c.args.lengths.now cc) (λ x b q k. search (rules, tests))
    ∙ all-every (λ n. leb n packet_limit) c.args.lengths.now
