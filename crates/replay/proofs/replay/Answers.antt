-- `replay::replay` is safe and ends: a fresh session is within its ranges. Assumes nothing.
use Rattle.session_held.proofs.Laws.{session-in-ranges}
use Rattle.replay.proofs.replay.Goals as goal

pub play-requires : goal.play-requires
play-requires c =
    let fresh = c.fresh-session.ensures in
    session-in-ranges _ fresh.ranges fresh.sized
