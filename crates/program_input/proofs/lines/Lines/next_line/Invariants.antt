-- `program_input::lines::Lines::next_line` is safe and ends: what was read is within the line. Assumes nothing.
use Rattle.std.proofs.Common.{◌≤◌, length}
use Rattle.program_input.proofs.lines.Lines.next_line.Given as goal

abbrev pub invariant-loop : goal.invariant-loop
invariant-loop g l = l.size ≤ length l.line

abbrev pub invariant-loop-next : goal.invariant-loop-next
invariant-loop-next g l = l.size ≤ length l.line
