-- `frame_joiner::inside::taint` meets its contract. Assumes nothing.
use Rattle.std.proofs.Common.{rules}
use mathlib.Core.Path.{sym, ◌∙◌}
use borrow.Author.Tests.{not-false}
use Rattle.frame_joiner.proofs.Storage.{in-ranges-laid}
use Rattle.frame_joiner.proofs.Feeding.{taintings}
use Rattle.frame_joiner.proofs.inside.taint.Goals as goal

pub returns-then-not-in_ranges : goal.returns-then-not-in_ranges
returns-then-not-in_ranges c = search taintings

pub drop_open-requires : goal.drop_open-requires
drop_open-requires c =
    let told = c.in_ranges in
    in-ranges-laid c.args.tainted c.args.size c.args.frame.now
    (sym told.ensures ∙ not-false told.result c.if-not-in_ranges.false-raw)
    (search rules)

pub returns : goal.returns
returns c = search taintings
