-- `trace_compare_code::shape_of` meets its contract: where the reader found the packet. Assumes nothing.
use native.Mathlib.Omega.{arith}
use Rattle.trace_compare_code.proofs.Shapes.{end-inside, shape-read, shape-refused}
use Rattle.trace_compare_code.proofs.differing.shape_of.Goals as goal

pub overflow_add-end : goal.overflow_add-end
overflow_add-end c =
    let end = end-inside c.read.ensures (λ k. (c.type_inv.octets k).fits) c.in-Ok.is in
    record { fits = omega (arith, end, c.well_formed.0) }

pub returns-in-Ok : goal.returns-in-Ok
returns-in-Ok c =
    shape-read c.read.ensures (λ k. (c.type_inv.octets k).fits) c.in-Ok.is
    c.has_spares.ensures

pub returns-in-Err : goal.returns-in-Err
returns-in-Err c = shape-refused c.read.ensures (λ k. (c.type_inv.octets k).fits) c.in-Err.is
