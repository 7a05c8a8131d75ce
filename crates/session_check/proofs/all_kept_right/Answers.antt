-- `session_check::all_kept_right` meets its contract. States that are right have lengths that a slot holds, which is what the look at the
-- octets asks. Assumes nothing.
use Rattle.std.proofs.Common.{◌≡◌, false, ◌∙◌}
use Rattle.session_check.specs.Pieces.{all_kept}
use Rattle.session_check.proofs.Slot.{sizes-right, kept-passed, kept-failed}
use Rattle.session_check.proofs.all_kept_right.Goals as goal

pub all_packets_laid-requires-clause-sizes_fit : goal.all_packets_laid-requires-clause-sizes_fit
all_packets_laid-requires-clause-sizes_fit c = search sizes-right

pub returns-then-all_states_right : goal.returns-then-all_states_right
returns-then-all_states_right c = search kept-passed

pub returns-else-all_states_right : goal.returns-else-all_states_right
returns-else-all_states_right c = let e : false ≡ all_kept c.args.base c.args.whole c.args.table.now c.args.octets.now = search kept-failed in c.if-all_states_right.false ∙ e
