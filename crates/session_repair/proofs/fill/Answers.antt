-- `session_repair::fill` meets its contract. Assumes nothing.
use Rattle.std.proofs.Common.{arith, length-take}
use Rattle.session_repair.proofs.Fills.{slot-fits, index-fits, size_fits, filled}
use Rattle.session_repair.proofs.fill.Goals as goal

pub size_of-size-requires : goal.size_of-size-requires
size_of-size-requires c = record { table_len = c.requires.may_mend.within.laid.long; index_lt_messages_limit = index-fits c.requires.may_mend.within c.requires.points c.requires.index_value }

pub asked-sum-requires : goal.asked-sum-requires
asked-sum-requires c = record { may_mend = c.requires.may_mend; distance_lt_kept_ahead = c.requires.points.near; index_lt_messages_limit = index-fits c.requires.may_mend.within c.requires.points c.requires.index_value; index_bound = c.requires.points.low; width_le_packet_limit = size_fits c.requires.may_mend.within c.requires.points c.requires.index_value c.size_of-size.ensures }

pub slice_bounds-sum-end : goal.slice_bounds-sum-end
slice_bounds-sum-end c =
    omega (
      arith,
      size_fits c.requires.may_mend.within c.requires.points c.requires.index_value
          c.size_of-size.ensures,
      c.asked-sum.ensures.long,
    )

pub slice_bounds-put-end : goal.slice_bounds-put-end
slice_bounds-put-end c =
    let fits = size_fits c.requires.may_mend.within c.requires.points c.requires.index_value c.size_of-size.ensures in
    omega (arith, fits, length-take c.size_of-size.result c.asked-sum.result, c.asked-sum.ensures.long)

pub put-requires : goal.put-requires
put-requires c = let fits = size_fits c.requires.may_mend.within c.requires.points c.requires.index_value c.size_of-size.ensures in record { has_slot = omega (arith, slot-fits c.requires.may_mend.within c.requires.points c.requires.index_value, c.requires.may_mend.within.laid.octets); src_len_bound = omega (arith, fits, length-take c.size_of-size.result c.asked-sum.result) }

pub narrow-requires : goal.narrow-requires
narrow-requires c = size_fits c.requires.may_mend.within c.requires.points c.requires.index_value c.size_of-size.ensures

pub set_kept-requires : goal.set_kept-requires
set_kept-requires c = record { table_len = c.requires.may_mend.within.laid.long; slot_lt_slots_kept = slot-fits c.requires.may_mend.within c.requires.points c.requires.index_value }

pub returns : goal.returns
returns c =
    record {
      fills =
          λ counts w.
          filled w c.requires.points c.requires.index_value c.asked-sum.ensures c.size_of-size.ensures c.put.ensures
          c.narrow.ensures c.set_kept.ensures;
    }
