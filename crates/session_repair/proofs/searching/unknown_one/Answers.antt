-- `session_repair::searching::unknown_one` meets its contract. Assumes nothing.
use Rattle.session_repair.proofs.Turns.{one-unknown, one_known}
use Rattle.session_repair.proofs.searching.unknown_one.Goals as goal

pub returns-then-state_at-eq-UNKNOWN : goal.returns-then-state_at-eq-UNKNOWN
returns-then-state_at-eq-UNKNOWN c = search one-unknown

pub returns-else-state_at-eq-UNKNOWN : goal.returns-else-state_at-eq-UNKNOWN
returns-else-state_at-eq-UNKNOWN c = search one_known
