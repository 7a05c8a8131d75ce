-- `trace_replay_code::dropping::reads` meets its contract: a line that has octets reads if they are a datagram. Assumes nothing.
use native.Mathlib.Omega.{arith}
use Rattle.line_code.proofs.Laws.{line-inside, line-length}
use Rattle.trace_replay_code.proofs.Fronts.{line_reads, line_refused}
use Rattle.trace_replay_code.proofs.dropping.reads.Goals as goal

pub slice_bounds-work-end : goal.slice_bounds-work-end
slice_bounds-work-end c = line-inside _ (omega arith) c.hex_to_octets-read.ensures c.in-Ok.is

pub slice_bounds-is_datagram-end : goal.slice_bounds-is_datagram-end
slice_bounds-is_datagram-end c = line-length _ (omega arith) c.hex_to_octets-read.ensures c.in-Ok.is

pub returns-in-Ok : goal.returns-in-Ok
returns-in-Ok c = line_reads _ (omega arith) c.hex_to_octets-read.ensures c.in-Ok.is c.is_datagram.ensures

pub returns-in-Err : goal.returns-in-Err
returns-in-Err c = line_refused _ (omega arith) c.hex_to_octets-read.ensures c.in-Err.is
