-- `trace_compare_code::put_differences` meets its contract: the packets are compared, and what stands behind them. Assumes nothing.
use Rattle.trace_compare_code.proofs.Telling.{differences-put}
use Rattle.trace_compare_code.proofs.differing.put_differences.Goals as goal

pub returns : goal.returns
returns c =
    differences-put (λ k. (c.type_inv.a k).fits) (λ k. (c.type_inv.b k).fits)
    c.shape_of-left.ensures c.shape_of-right.ensures c.args.number c.requires.a_value c.requires.b_value
    c.same-packets.ensures c.same-extras.ensures c.put_rows.ensures
