-- `session_offer::offer_read` meets its contract: one law for each answer. Assumes nothing.
use Rattle.std.proofs.Common.{arith}
use Rattle.session_offer.proofs.Offering.{made-far, made-late, made_again, may-accept, made-accepted}
use Rattle.session_offer.proofs.offer_read.Goals as goal

pub returns-then-distance-ge-LATE_FROM : goal.returns-then-distance-ge-LATE_FROM
returns-then-distance-ge-LATE_FROM c =
    let a = c.args in
    made-late c.requires.in_ranges a.s.now a.packet a.kind a.count a.items
    c.ranges.number.fits (omega arith) (omega (arith, c.ranges.base.fits, c.ranges.number.fits))
    (omega (arith, c.if-distance-ge-LATE_FROM.true)) c.if-distance-ge-LATE_FROM.true c.refused.ensures

pub returns-then-distance-ge-AHEAD : goal.returns-then-distance-ge-AHEAD
returns-then-distance-ge-AHEAD c =
    let a = c.args in
    made-far c.requires.in_ranges a.s.now a.packet a.kind a.count a.items
    c.ranges.number.fits (omega arith) (omega (arith, c.ranges.base.fits, c.ranges.number.fits))
    c.if-distance-ge-AHEAD.true c.if-distance-ge-LATE_FROM.false c.refused-then-distance-ge-AHEAD.ensures

pub returns-then-accepted_at : goal.returns-then-accepted_at
returns-then-accepted_at c =
    let a = c.args in
    made_again c.requires.in_ranges a.s.now a.packet a.kind a.count a.items
    c.ranges.number.fits (omega arith) (omega (arith, c.ranges.base.fits, c.ranges.number.fits))
    c.if-distance-ge-AHEAD.false c.heard_slot.ensures c.accepted_at.ensures c.if-accepted_at.true c.refused-then-accepted_at.ensures

pub accept-requires : goal.accept-requires
accept-requires c =
    let a = c.args in record {
      in_ranges = c.requires.in_ranges;
      may_be_accepted = may-accept c.requires.in_ranges a.s.now a.packet a.kind a.count a.items
          c.ranges.number.fits (omega arith) (omega (arith, c.ranges.base.fits, c.ranges.number.fits))
          c.if-distance-ge-AHEAD.false c.heard_slot.ensures c.accepted_at.ensures c.if-accepted_at.false
          c.requires.inside c.requires.count_in_bounds;
    }

pub returns : goal.returns
returns c =
    let a = c.args in
    made-accepted c.requires.in_ranges a.s.now a.packet a.kind a.count a.items
    c.ranges.number.fits (omega arith) (omega (arith, c.ranges.base.fits, c.ranges.number.fits))
    c.if-distance-ge-AHEAD.false c.heard_slot.ensures c.accepted_at.ensures c.if-accepted_at.false c.accept.ensures
