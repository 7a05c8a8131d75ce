-- `line_code::release` meets its contract: one law for each answer of the core. Assumes nothing.
use native.Mathlib.Omega.{arith}
use Rattle.line_code.proofs.Stepping.{packet-there, packet-short, packet-room, released-one, released-told, released-none}
use Rattle.line_code.proofs.releasing.release.Goals as goal

pub returns-then-skip : goal.returns-then-skip
returns-then-skip c =
    released-told c.leave_core-done.ensures c.in-Err.is c.if-skip.true
    c.put_refusal-told.ensures

pub put_kept-end-requires : goal.put_kept-end-requires
put_kept-end-requires c = record { has_slot = packet-there c.leave_core-done.ensures _; size_le_packet_limit = packet-short c.leave_core-done.ensures c.in-Ok.is; size_in_bounds = packet-room c.leave_core-done.ensures c.in-Ok.is c.args.at c.args.out.now c.requires.room }

pub returns-else-skip : goal.returns-else-skip
returns-else-skip c = released-none c.leave_core-done.ensures c.in-Err.is c.if-skip.false (omega (arith, c.requires.room))

pub returns-in-Ok : goal.returns-in-Ok
returns-in-Ok c =
    released-one c.leave_core-done.ensures c.in-Ok.is c.kind_octet-octet.ensures
    c.put_kept-end.ensures
