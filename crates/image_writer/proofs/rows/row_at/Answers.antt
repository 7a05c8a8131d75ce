-- `image_writer::row_at` meets its contract. Assumes nothing.
use Rattle.image_writer.proofs.Sizing.{row_before_lem, row-ahead}
use Rattle.image_writer.proofs.rows.row_at.Goals as goal

pub returns-then-p-lt-BEFORE : goal.returns-then-p-lt-BEFORE
returns-then-p-lt-BEFORE c = row_before_lem c.if-p-lt-BEFORE.true

pub returns : goal.returns
returns c =
    row-ahead c.requires.table_fits c.if-p-lt-BEFORE.false c.accepted_at-accepted.ensures c.n_at-n.ensures
    c.m_at-m.ensures
