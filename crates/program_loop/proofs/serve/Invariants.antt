-- `program_loop::serve` meets its contract: between two blocks the program is within its ranges, all that was read is taken in and its text
-- handed over; the end of the input comes last. Assumes nothing.
use Rattle.session_held.specs.Table.{lent, view_in}
use Rattle.program_loop.proofs.Turning.{Turning}
use Rattle.program_loop.proofs.serve.Given as goal

abbrev pub invariant-loop : goal.invariant-loop
invariant-loop g l = Turning (view_in (lent l.initial.after l.initial.moves l.initial.table l.initial.octets l.initial.messages)) (lent l.after l.moves l.table l.octets l.messages) l.line l.block l.begun l.out l.taken l.handed
