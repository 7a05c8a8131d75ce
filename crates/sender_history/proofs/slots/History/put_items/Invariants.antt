-- `sender_history::put_items` meets its contract. Assumes nothing.
use Rattle.sender_history.proofs.ItemsSteps.{Putting}
use Rattle.sender_history.proofs.slots.History.put_items.Given as goal

abbrev pub invariant-loop-j : goal.invariant-loop-j
invariant-loop-j l = Putting l.kind l.count l.self.number l.self.sizes.now l.self.octets.now l.initial.out l.out l.j l.at
