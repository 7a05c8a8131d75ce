-- `solve_code::solve_core` meets its contract. Assumes nothing.
use Rattle.session_repair.proofs.Laws.{searchable}
use Rattle.solve_code.proofs.Whole.{solved-filled, solved-refused}
use Rattle.solve_code.proofs.solve_core.Goals as goal

pub table-rows-requires : goal.table-rows-requires
table-rows-requires c = searchable c.requires

pub returns : goal.returns
returns c =
    solved-filled c.requires c.table-rows.ensures c.reduced-reduced.ensures c.sides.ensures
    c.all_fit.ensures c.if-not-all_fit.false c.fill_rows.ensures

pub returns-then-not-all_fit : goal.returns-then-not-all_fit
returns-then-not-all_fit c =
    solved-refused c.requires c.table-rows.ensures c.reduced-reduced.ensures c.sides.ensures
    c.all_fit.ensures c.if-not-all_fit.true c.new.ensures
