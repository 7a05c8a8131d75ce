-- `session_offer::hold` meets its contract: the number that it marks, with the messages that it lays, is held at that distance. Assumes
-- nothing.
use Rattle.std.proofs.Common.{arith, rules}
use Rattle.session_offer.proofs.Holding.{carried-fit, covered-small, may-long, may-octets, number-held}
use Rattle.session_offer.proofs.kept.hold.Goals as goal

pub overflow_cast-covered : goal.overflow_cast-covered
overflow_cast-covered c = search (covered-small, arith)

pub lay-requires-clause-table_len : goal.lay-requires-clause-table_len
lay-requires-clause-table_len c = search (rules, may-long)

pub lay-requires-clause-messages_len : goal.lay-requires-clause-messages_len
lay-requires-clause-messages_len c = search (rules, may-octets)

pub lay-requires-clause-fit : goal.lay-requires-clause-fit
lay-requires-clause-fit c = search carried-fit

pub returns : goal.returns
returns c = search number-held
