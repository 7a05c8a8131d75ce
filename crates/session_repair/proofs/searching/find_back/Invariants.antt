-- `session_repair::searching::find_back` meets its contract: what is left to search holds the whole answer. Assumes nothing.
use Rattle.session_repair.proofs.Turns.{Finding}
use Rattle.session_repair.proofs.searching.find_back.Given as goal

abbrev pub invariant-loop : goal.invariant-loop
invariant-loop l = Finding l.table l.x l.n l.m l.at l.counter
