-- `line_code::offer_line` meets its contract: the line's octets are offered, or its refusal is written. Assumes nothing.
use native.Mathlib.Omega.{arith}
use Rattle.line_code.proofs.Offering.{line-inside, line-length, line-offered, line_refused}
use Rattle.line_code.proofs.steps.offer_line.Goals as goal

pub slice_bounds-work-end : goal.slice_bounds-work-end
slice_bounds-work-end c = line-inside _ (omega arith) c.hex_to_octets-read.ensures c.in-Ok.is

pub slice_bounds-offer_octets-end : goal.slice_bounds-offer_octets-end
slice_bounds-offer_octets-end c = line-length _ (omega arith) c.hex_to_octets-read.ensures c.in-Ok.is

pub returns-in-Ok : goal.returns-in-Ok
returns-in-Ok c = line-offered _ (omega arith) c.hex_to_octets-read.ensures _ c.in-Ok.is c.offer_octets.ensures

pub returns-in-Err : goal.returns-in-Err
returns-in-Err c = line_refused _ (omega arith) c.hex_to_octets-read.ensures c.in-Err.is c.requires.within c.put_refusal.ensures
