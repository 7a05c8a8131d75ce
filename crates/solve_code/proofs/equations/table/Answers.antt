-- `solve_code::table` meets its contract. The loop's invariant: the first e rows are laid. Assumes nothing.
use Rattle.std.proofs.Common.{refl, rules}
use Rattle.solve_code.proofs.Laying.{rows_start, rows-turn, rows-done}
use Rattle.solve_code.proofs.equations.table.Goals as goal

pub unknown_places-unknown-requires : goal.unknown_places-unknown-requires
unknown_places-unknown-requires c = c.requires.long

pub loop-e-init : goal.loop-e-init
loop-e-init c = search (rows_start, rules)

pub loop-e-preserved : goal.loop-e-preserved
loop-e-preserved c =
    rows-turn c.unknown_places-unknown.ensures c.loop-e.invariant c.loop-e-test.true c.equation_mask-mask.ensures refl
    c.start.ensures

pub returns : goal.returns
returns c = search rows-done
