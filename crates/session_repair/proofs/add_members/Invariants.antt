-- `session_repair::add_members` meets its contract: what is summed, with what is left to sum, is the whole. Assumes nothing.
use Rattle.session_repair.proofs.Sums.{Summing}
use Rattle.session_repair.proofs.add_members.Given as goal

abbrev pub invariant-loop : goal.invariant-loop
invariant-loop l = Summing l.octets l.x l.n l.m l.initial.sum l.at l.sum l.counter
