-- `session_release::free_messages` meets its contract: after i turns i messages are cleared and every other slot is as it was. Assumes
-- nothing.
use Rattle.session_release.proofs.Freeing.{Freeing}
use Rattle.session_release.proofs.free_messages.Given as goal

abbrev pub invariant-loop-i : goal.invariant-loop-i
invariant-loop-i l = Freeing l.j l.m l.initial.messages l.messages l.i
