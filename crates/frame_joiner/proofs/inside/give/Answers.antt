-- `frame_joiner::inside::give` meets its contract. Assumes nothing.
use native.Mathlib.Omega.{arith}
use mathlib.Core.Path.{sym}
use Rattle.frame_joiner.proofs.Storage.{length-open}
use Rattle.frame_joiner.proofs.Calls.{give-short, give-whole}
use Rattle.frame_joiner.proofs.inside.give.Goals as goal

pub returns-then-out-size : goal.returns-then-out-size
returns-then-out-size c = search give-short

pub slice_bounds-put_octets-end-2 : goal.slice_bounds-put_octets-end-2
slice_bounds-put_octets-end-2 c = sym (length-open c.requires)

pub put_octets-requires : goal.put_octets-requires
put_octets-requires c = omega (arith, length-open c.requires)

pub returns : goal.returns
returns c = search give-whole
