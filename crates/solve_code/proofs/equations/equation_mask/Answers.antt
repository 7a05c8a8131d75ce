-- `solve_code::equation_mask` meets its contract. Assumes nothing.
use Rattle.std.proofs.Common.{refl}
use Rattle.solve_code.proofs.Equation.{back_fits, equation-made, equation-empty}
use Rattle.solve_code.proofs.equations.equation_mask.Goals as goal

pub places_back-requires : goal.places_back-requires
places_back-requires c =
    let fits =
    back_fits c.args.base c.requires.searchable c.requires.e_lt_table_rows refl refl refl refl
    c.heard_slot-slot.ensures c.m_at-count.ensures c.if-index-count.true c.n_at-covered.ensures refl refl refl refl refl in
    record { m_bound = fits.0; at_bound = fits.1 }

pub returns-then-index-count : goal.returns-then-index-count
returns-then-index-count c =
    equation-made c.args.base c.requires.searchable c.requires.e_lt_table_rows refl refl refl refl
    c.heard_slot-slot.ensures c.m_at-count.ensures c.if-index-count.true c.n_at-covered.ensures refl refl refl refl refl
    c.places_back.ensures

pub returns-else-index-count : goal.returns-else-index-count
returns-else-index-count c =
    equation-empty c.args.base c.requires.searchable c.requires.e_lt_table_rows refl refl refl refl
    c.heard_slot-slot.ensures c.m_at-count.ensures c.if-index-count.false
