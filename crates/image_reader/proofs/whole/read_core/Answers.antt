-- `image_reader::read_core` meets its contract: each part of the text in turn gives its answer. Assumes nothing.
use Rattle.std.proofs.Common.{rules}
use Rattle.image_reader.proofs.Core.{head-inside, core-no-first, core-no-before, core-no-ahead, core-left, core-read}
use Rattle.image_reader.proofs.whole.read_core.Goals as goal

pub returns-in_err-first : goal.returns-in_err-first
returns-in_err-first c = core-no-first c.first_line.ensures c.in_err-first.was (search rules)

pub read_lines-requires-clause-from_in_bounds : goal.read_lines-requires-clause-from_in_bounds
read_lines-requires-clause-from_in_bounds c = head-inside c.first_line.ensures c.in_ok-first.was

pub returns-in_err-middle : goal.returns-in_err-middle
returns-in_err-middle c =
    core-no-before c.first_line.ensures c.in_ok-first.was c.read_lines.ensures c.in_err-middle.was (search rules)

pub returns-in_err-end : goal.returns-in_err-end
returns-in_err-end c =
    core-no-ahead c.first_line.ensures c.in_ok-first.was c.read_lines.ensures c.in_ok-middle.was c.read_lines-2.ensures
    c.in_err-end.was (search rules)

pub returns-then-end-text : goal.returns-then-end-text
returns-then-end-text c =
    core-left c.first_line.ensures c.in_ok-first.was c.read_lines.ensures c.in_ok-middle.was c.read_lines-2.ensures
    c.in_ok-end.was c.if-end-text.true

pub returns : goal.returns
returns c =
    core-read c.first_line.ensures c.in_ok-first.was c.read_lines.ensures c.in_ok-middle.was c.read_lines-2.ensures
    c.in_ok-end.was c.if-end-text.false c.requires.cleared
