-- `sender_history::message_size` meets its contract. Assumes nothing.
use Rattle.sender_history.proofs.MessageSteps.{Sizing}
use Rattle.sender_history.proofs.slots.History.message_size.Given as goal

abbrev pub invariant-loop : goal.invariant-loop
invariant-loop l = Sizing l.self.number l.self.sizes.now l.n l.m l.i l.at l.size l.counter
