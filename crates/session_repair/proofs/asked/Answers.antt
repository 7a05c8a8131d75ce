-- `session_repair::asked` meets its contract. Assumes nothing.
use Rattle.std.proofs.Common.{refl, arith, length-take}
use Rattle.datagram.specs.Sizes.{packet_limit}
use Rattle.session_slots.specs.Store.{zeros}
use Rattle.session_slots.proofs.Laws.{length-zeros, zeros-at}
use Rattle.session_repair.proofs.Search.{searchable}
use Rattle.session_repair.proofs.Below.{small_count}
use Rattle.session_repair.proofs.Sums.{size_small, asked-over}
use Rattle.session_repair.proofs.asked.Goals as goal

pub narrow-m-requires : goal.narrow-m-requires
narrow-m-requires c = small_count (searchable c.requires.may_mend.within) (omega (arith, c.heard_slot-slot.ensures)) c.m_at.ensures

pub copy_out-requires : goal.copy_out-requires
copy_out-requires c =
    let small =
    size_small c.requires.may_mend.within c.args.distance c.args.index c.requires.index_bound
    refl
    c.heard_slot-slot.ensures c.message_size_at-size.ensures in record { has_slot = omega (arith, c.requires.may_mend.within.laid.messages, c.requires.index_lt_messages_limit, c.heard_slot-slot.ensures); n_le_packet_limit = small; n_in_bounds = small }

pub slice_bounds-sum-end : goal.slice_bounds-sum-end
slice_bounds-sum-end c = omega (arith, c.requires.width_le_packet_limit)

pub slice_bounds-add_members-end : goal.slice_bounds-add_members-end
slice_bounds-add_members-end c =
    omega (
      arith,
      c.requires.width_le_packet_limit,
      length-take c.args.width c.copy_out.new.out,
    )

pub add_members-requires : goal.add_members-requires
add_members-requires c =
    record {
      octets_len = c.requires.may_mend.within.laid.octets;
      sum_len_bound = omega (arith, c.requires.width_le_packet_limit, length-take c.args.width c.copy_out.new.out);
    }

pub returns : goal.returns
unfolding zeros
returns c =
    asked-over c.requires.may_mend.within c.args.distance c.args.index c.requires.distance_lt_kept_ahead c.requires.index_bound
    (zeros packet_limit) (length-zeros packet_limit)
    refl c.heard_slot-slot.ensures c.n_at-n.ensures
    c.m_at.ensures
    c.narrow-m.ensures refl c.message_size_at-size.ensures c.copy_out.ensures c.narrow.ensures
    refl (zeros-at packet_limit) c.requires.width_le_packet_limit c.add_members.ensures
