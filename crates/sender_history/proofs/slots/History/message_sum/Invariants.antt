-- `sender_history::message_sum` meets its contract. Assumes nothing.
use Rattle.sender_history.proofs.MessageSteps.{Summing}
use Rattle.sender_history.proofs.slots.History.message_sum.Given as goal

abbrev pub invariant-loop : goal.invariant-loop
invariant-loop l = Summing l.self.number l.self.octets.now l.n l.m l.i l.size l.member l.sum l.counter
