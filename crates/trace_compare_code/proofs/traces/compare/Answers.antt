-- `trace_compare_code::compare` meets its contract: too many lines, then the first trace, then the second, then both are listed. Assumes
-- nothing.
use Rattle.std.proofs.lemmas.Result.{err_from_is_err_and}
use native.Mathlib.Omega.{arith}
use Rattle.trace_compare_code.proofs.Whole.{compares-too-many, few-lines, room-lines, taken-short, compares-first, first_read, compares-second, compares-all}
use Rattle.trace_compare_code.proofs.traces.compare.Goals as goal

pub returns-then-too_many : goal.returns-then-too_many
returns-then-too_many c = compares-too-many _ _ c.too_many.ensures c.if-too_many.true c.no_line.ensures

pub read_trace-requires : goal.read_trace-requires
read_trace-requires c = room-lines _ _ _ (few-lines _ _ c.too_many.ensures c.if-too_many.false).left (omega arith) (omega arith)

pub returns-in_err-m : goal.returns-in_err-m
returns-in_err-m c =
    let p = err_from_is_err_and c.from_residual.result c.from_residual.ensures.1 in
    rw (p.1, p.2)
    (compares-first _ _ _ (few-lines _ _ c.too_many.ensures c.if-too_many.false) (c.read_trace.ensures.refused _ c.in_err-m.was))

pub read_trace-requires-2 : goal.read_trace-requires-2
read_trace-requires-2 c = room-lines _ _ _ (few-lines _ _ c.too_many.ensures c.if-too_many.false).right (omega arith) (omega arith)

pub returns-in_err-n : goal.returns-in_err-n
returns-in_err-n c =
    let p = err_from_is_err_and c.from_residual-in_err-n.result c.from_residual-in_err-n.ensures.1 in
    let few = few-lines _ _ c.too_many.ensures c.if-too_many.false in
    rw (p.1, p.2)
    (compares-second _ _ _ (first_read _ _ few (c.read_trace.ensures.kept _ c.in_ok-m.was))
    (c.read_trace-2.ensures.refused _ c.in_err-n.was))

pub slice_bounds-a-end : goal.slice_bounds-a-end
slice_bounds-a-end c = (c.read_trace.ensures.kept _ c.in_ok-m.was).inside

pub slice_bounds-b-end : goal.slice_bounds-b-end
slice_bounds-b-end c = (c.read_trace-2.ensures.kept _ c.in_ok-n.was).inside

pub list_all-requires : goal.list_all-requires
list_all-requires c =
    let few = few-lines _ _ c.too_many.ensures c.if-too_many.false in
    let one = c.read_trace.ensures.kept _ c.in_ok-m.was in
    let two = c.read_trace-2.ensures.kept _ c.in_ok-n.was in
    record { kept_trace = one.kept; kept_trace_2 = two.kept; a_len_bound = taken-short one few.left; b_len_bound = taken-short two few.right }

pub returns : goal.returns
returns c =
    let few = few-lines _ _ c.too_many.ensures c.if-too_many.false in
    compares-all _ _ _ (first_read _ _ few (c.read_trace.ensures.kept _ c.in_ok-m.was)) (c.read_trace-2.ensures.kept _ c.in_ok-n.was)
    c.list_all.ensures
