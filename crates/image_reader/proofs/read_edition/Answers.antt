-- `image_reader::read_edition` meets its contract: the text as an image, then the ranges of the session that it is an image of, give each
-- answer. Assumes nothing.
use Rattle.std.proofs.Common.{rules}
use Rattle.image_reader.proofs.Restoring.{cleared-zeros, read-misshapen, read-outside, read-restored}
use Rattle.image_reader.proofs.read_edition.Goals as goal

pub read_core-requires-clause-cleared : goal.read_core-requires-clause-cleared
read_core-requires-clause-cleared c = cleared-zeros

pub returns-in_default : goal.returns-in_default
returns-in_default c = search (read-misshapen, rules)

pub returns-then-not-in_ranges : goal.returns-then-not-in_ranges
returns-then-not-in_ranges c =
    read-outside c.read_core.ensures c.in-Some.is c.in_ranges.ensures (search rules) c.refused-then-not-in_ranges.ensures

pub returns : goal.returns
returns c = read-restored c.read_core.ensures c.in-Some.is c.in_ranges.ensures (search rules)
