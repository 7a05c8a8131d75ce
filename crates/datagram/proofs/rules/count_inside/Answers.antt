-- `datagram::count_inside` meets its contract. Assumes nothing.
use Rattle.datagram.proofs.SizeTests.{tests}
use Rattle.datagram.proofs.rules.count_inside.Goals as goal

pub returns-then-not-within : goal.returns-then-not-within
returns-then-not-within c = search tests

pub returns-in-Spares : goal.returns-in-Spares
returns-in-Spares c = search tests

pub returns-else-not-within : goal.returns-else-not-within
returns-else-not-within c = search tests
