-- `solve_code::sides::side` meets its contract. Assumes nothing.
use Rattle.std.proofs.Common.{refl, arith}
use Rattle.session_slots.specs.Store.{zeros}
use Rattle.solve_code.proofs.Siding.{index-there, side-there, side-none}
use Rattle.solve_code.proofs.sides.side.Goals as goal

pub asked-requires : goal.asked-requires
asked-requires c =
    record {
      may_mend = c.requires.may_mend;
      distance_lt_kept_ahead = omega (arith, c.requires.e_lt_table_rows);
      index_lt_messages_limit = omega (arith, c.requires.e_lt_table_rows);
      index_bound =
          index-there c.args.base c.args.table.now c.requires.e_lt_table_rows refl refl refl refl
          c.heard_slot-slot.ensures
          c.m_at.ensures
          c.if-index-m_at.true;
      width_le_packet_limit = omega arith;
    }

pub returns-then-index-m_at : goal.returns-then-index-m_at
returns-then-index-m_at c =
    side-there c.args.base _ c.requires.e_lt_table_rows refl refl refl refl c.heard_slot-slot.ensures
    c.m_at.ensures c.if-index-m_at.true c.asked.ensures

pub returns-else-index-m_at : goal.returns-else-index-m_at
unfolding zeros
returns-else-index-m_at c =
    side-none c.args.base _ c.requires.e_lt_table_rows refl refl refl refl c.heard_slot-slot.ensures
    c.m_at.ensures _ _ c.if-index-m_at.false
