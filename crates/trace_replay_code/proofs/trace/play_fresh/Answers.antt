-- `trace_replay_code::trace::play_fresh` meets its contract: a fresh session is within its ranges. Assumes nothing.
use Rattle.session_held.proofs.Laws.{session-in-ranges}
use Rattle.trace_replay_code.proofs.trace.play_fresh.Goals as goal

pub play-requires-clause-in_ranges : goal.play-requires-clause-in_ranges
play-requires-clause-in_ranges c = let fresh = c.fresh-session.ensures in session-in-ranges _ fresh.ranges fresh.sized
