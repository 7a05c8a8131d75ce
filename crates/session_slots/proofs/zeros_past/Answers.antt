-- `session_slots::zeros_past` meets its contract. Assumes nothing.
use native.Mathlib.Omega.{arith}
use Rattle.session_slots.proofs.Turns.{length_run, slot-checked, slot-mask}
use Rattle.session_slots.proofs.zeros_past.Goals as goal

pub zeros_in_run-requires : goal.zeros_in_run-requires
zeros_in_run-requires c =
    let o = c.args.octets.now in
    let slot = c.args.slot in record { n_in_bounds = omega (arith, length_run o slot c.requires.has_slot); table_value = slot-mask o slot c.requires.has_slot c.requires.table_value }

pub returns : goal.returns
returns c = search slot-checked
