-- `program_loop::pass` meets its contract: between two parts of the block the program may go on, the front of it is taken in and its text
-- handed over; each part takes some of it. Assumes nothing.
use Rattle.std.proofs.Common.{◌-◌, length}
use Rattle.session_held.specs.Table.{lent}
use Rattle.program_loop.proofs.Serving.{Serving}
use Rattle.program_loop.proofs.pass.Given as goal

abbrev pub invariant-loop-from : goal.invariant-loop-from
invariant-loop-from g l = Serving (lent l.initial.after l.initial.moves l.initial.table l.initial.octets l.initial.messages) l.initial.line l.initial.kept l.initial.out l.block l.initial.handed (lent l.after l.moves l.table l.octets l.messages) l.line l.kept l.out l.from l.handed

abbrev pub decreases-loop-from : goal.decreases-loop-from
decreases-loop-from g l = length l.block - l.from
