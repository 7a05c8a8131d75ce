-- `solve_code::fill_row` meets its contract. Assumes nothing.
use Rattle.std.proofs.Common.{refl, arith}
use Rattle.solve_code.proofs.Filling.{repaired-fills, repaired-noted, part-inside, stands, may-keep, row-fills, row-none}
use Rattle.solve_code.proofs.Filling.{table-long, octets-long}
use Rattle.solve_code.proofs.fill_row.Goals as goal

pub keep-requires : goal.keep-requires
keep-requires c =
    record {
      table_len = table-long c.requires.may_fill;
      octets_len = octets-long c.requires.may_fill;
      may_keep = may-keep c.args.base _ c.if-place-lt-PLACES.true refl (omega (arith, c.ranges.base.fits)) refl
          refl
          c.requires.may_fill;
      state_value = repaired-fills;
      number_value = repaired-noted 0 _;
      part_inside = part-inside c.row_sum-sum.ensures;
    }

pub returns-then-place-lt-PLACES : goal.returns-then-place-lt-PLACES
returns-then-place-lt-PLACES c =
    row-fills c.lone_place-place.ensures c.if-place-lt-PLACES.true
    (stands c.args.base _ c.if-place-lt-PLACES.true refl (omega (arith, c.ranges.base.fits)) refl
    refl)
    c.row_sum-sum.ensures c.keep.ensures

pub returns-else-place-lt-PLACES : goal.returns-else-place-lt-PLACES
returns-else-place-lt-PLACES c = row-none _ _ _ c.lone_place-place.ensures c.if-place-lt-PLACES.false
