-- `frame_feed::turn::turns` meets its contract. Assumes nothing.
use Rattle.frame_feed.proofs.Turning.{turnings}
use Rattle.frame_feed.proofs.turn.turns.Goals as goal

pub returns-in-Ok : goal.returns-in-Ok
returns-in-Ok c = search turnings

pub returns-in-Err : goal.returns-in-Err
returns-in-Err c = search turnings
