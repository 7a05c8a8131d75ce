-- `session_offer::lay` meets its contract: after i turns i messages are laid and every other slot is as it was. Assumes
-- nothing.
use Rattle.session_offer.proofs.Laying.{Laying}
use Rattle.session_offer.proofs.kept.lay.Given as goal

abbrev pub invariant-loop-i : goal.invariant-loop-i
invariant-loop-i l = Laying l.s l.j l.items l.count l.initial.table l.initial.messages l.table l.messages l.i
