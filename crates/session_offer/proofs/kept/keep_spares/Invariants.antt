-- `session_offer::keep_spares` meets its contract: after j turns j spares are kept. Assumes nothing.
use Rattle.session_offer.proofs.Sparing.{Sparing}
use Rattle.session_offer.proofs.kept.keep_spares.Given as goal

abbrev pub invariant-loop-j : goal.invariant-loop-j
invariant-loop-j l = Sparing l.number l.s l.items l.count l.initial.table l.initial.octets l.table l.octets l.at l.j
