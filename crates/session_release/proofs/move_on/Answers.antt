-- `session_release::move_on` meets its contract. Assumes nothing.
use Rattle.std.proofs.Common.{rules}
use Rattle.session_release.proofs.Moving.{few-leave, base-moved}
use Rattle.session_release.proofs.move_on.Goals as goal

pub count_one-requires : goal.count_one-requires
count_one-requires c = c.requires.may_move_on.left

pub free_messages-requires : goal.free_messages-requires
free_messages-requires c = record { j_lt_slots_heard = search rules; messages_len = search rules; m_le_messages_limit = few-leave c.requires.in_ranges c.heard_slot-leaves.ensures c.m_at-m.ensures }

pub returns : goal.returns
returns c =
    base-moved c.requires.in_ranges c.requires.may_move_on c.count_one.ensures c.from.ensures
    c.heard_slot-leaves.ensures c.m_at-m.ensures c.clear.ensures c.free_messages.ensures
    c.set_kept.ensures c.drop_heard.ensures
    c.number_after.ensures
