-- `frame_joiner::inside::clear` meets its contract. Assumes nothing.
use Rattle.std.proofs.Common.{rules}
use Rattle.frame_joiner.proofs.Storage.{length-open, storage-cleared}
use Rattle.frame_joiner.proofs.inside.clear.Goals as goal

pub slice_bounds-clear_run-end-2 : goal.slice_bounds-clear_run-end-2
slice_bounds-clear_run-end-2 c = search (length-open, rules)

pub returns : goal.returns
returns c = search storage-cleared
