-- `trace_replay_code::dropping::is_datagram` meets its contract: what the reader finds is a datagram, or a refusal. Assumes nothing.
use Rattle.trace_replay_code.proofs.Fronts.{is_read, is-refused}
use Rattle.trace_replay_code.proofs.dropping.is_datagram.Goals as goal

pub returns-in-Ok : goal.returns-in-Ok
returns-in-Ok c = is_read c.read.ensures c.in-Ok.is

pub returns-in-Err : goal.returns-in-Err
returns-in-Err c = is-refused c.read.ensures c.in-Err.is
