-- `sender_history::items_size` meets its contract. Assumes nothing.
use Rattle.sender_history.proofs.ItemsSteps.{Totalling}
use Rattle.sender_history.proofs.slots.History.items_size.Given as goal

abbrev pub invariant-loop-j : goal.invariant-loop-j
invariant-loop-j l = Totalling l.kind l.count l.self.number l.self.sizes.now l.size l.j
