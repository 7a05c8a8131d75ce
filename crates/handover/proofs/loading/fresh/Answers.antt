-- `handover::loading::fresh` meets its contract: a fresh session is within its ranges. Assumes nothing.
use Rattle.session_held.proofs.Laws.{session-in-ranges}
use Rattle.handover.proofs.loading.fresh.Goals as goal

pub returns : goal.returns
returns c =
    let fresh = c.fresh-session.ensures in
    session-in-ranges _ fresh.ranges fresh.sized
