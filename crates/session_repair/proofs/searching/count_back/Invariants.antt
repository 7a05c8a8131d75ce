-- `session_repair::searching::count_back` meets its contract: what is counted, with what is left to count, is the whole. Assumes nothing.
use Rattle.session_repair.proofs.Turns.{Counting}
use Rattle.session_repair.proofs.searching.count_back.Given as goal

abbrev pub invariant-loop : goal.invariant-loop
invariant-loop l = Counting l.table l.x l.n l.m l.at l.count l.counter
