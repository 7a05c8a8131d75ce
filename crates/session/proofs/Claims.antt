-- The claims of this crate, each proved by a law. Assumes nothing.
use Rattle.session.specs.Claims.{Claims}
use Rattle.session.proofs.Members.{members-distinct, members-exact}
use Rattle.session.proofs.Held.{held-distinct}
use Rattle.session.proofs.Grows.{repair-known, length-repair}
use Rattle.session.proofs.Enough.{repair-closed}
use Rattle.session.proofs.Least.{known-within, known-reached, reached-known, known-any-order, known_more}
use Rattle.session.proofs.Honest.{repair-right}
use Rattle.session.proofs.MendedBurst.{burst-mended, burst-repaired}
use Rattle.session.proofs.Spares.{spares-exact}

pub claims : Claims
claims =
    record {
      members_exact = record { distinct = members-distinct; exact = members-exact };
      held_distinct = held-distinct;
      known_kept = repair-known;
      length_kept = length-repair;
      none_left = λ made. repair-closed;
      nothing_more = known-within;
      known_reached = λ made makes cells messages distinct p. (
        known-reached made cells messages p,
        reached-known makes cells messages distinct p,
      );
      any_order = λ made. known-any-order;
      no_less = λ made. known_more;
      stays_true = λ made. repair-right;
      burst_mended = burst-mended;
      burst_repaired = burst-repaired;
      spares_exact = spares-exact;
    }
