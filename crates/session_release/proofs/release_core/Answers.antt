-- `session_release::release_core` meets its contract: what gone is copied out of its slot. Assumes nothing.
use Rattle.session_release.proofs.Copying.{gone-there, gone-short, gone-fits, copied, not-copied}
use Rattle.session_release.proofs.release_core.Goals as goal

pub returns-in_default : goal.returns-in_default
returns-in_default c = not-copied c.leave_core-done.ensures c.in_default.is

pub copy_out-requires : goal.copy_out-requires
copy_out-requires c = record { has_slot = gone-there c.leave_core-done.ensures _ c.kept_slot-slot.ensures; n_le_packet_limit = gone-short c.leave_core-done.ensures c.in-Ok.is; n_in_bounds = gone-fits c.leave_core-done.ensures c.in-Ok.is }

pub returns-in-Ok : goal.returns-in-Ok
returns-in-Ok c = copied c.leave_core-done.ensures c.in-Ok.is c.kept_slot-slot.ensures c.copy_out.ensures
