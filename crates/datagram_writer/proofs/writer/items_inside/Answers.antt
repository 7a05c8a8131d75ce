-- `datagram_writer::items_inside` meets its contract: what the iterator tests of each length is the definition's test. Assumes nothing.
use Rattle.std.proofs.Common.{◌∙◌, rules, tests}
use Rattle.std.proofs.lemmas.Iterator.{YieldsList-from_slice}
use Rattle.std.proofs.lemmas.Iterator.Search.{all_from_yields_List}
use Rattle.datagram_writer.proofs.WriteTests.{all-inside}
use Rattle.datagram_writer.proofs.writer.items_inside.Goals as goal

pub returns : goal.returns
returns c =
    all_from_yields_List _ _ _ _ c.all.ensures.ran (YieldsList-from_slice c.args.lengths.now cc) (λ x b q k. search (rules, tests))
    ∙ all-inside c.args.kind c.args.lengths.now
