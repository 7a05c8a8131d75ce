-- What the solve call must fill, keep and refuse, of a session within its ranges (rules 14.2 to 14.8). Refusal 17 comes before, in
-- `session_calls`. Definitions only.
use Rattle.std.specs.Prelude.{ℕ, ◌≡◌, List, length}
use Rattle.length.specs.Refusals.{refusal, no_solution}
use Rattle.length.specs.Answers.{Answer, done, refused}
use Rattle.session.specs.Cells.{Cell, cell_at, filled_cell, repaired}
use Rattle.session.specs.Repair.{Message}
use Rattle.session.specs.Reached.{Known, Unknown}
use Rattle.session.specs.Held.{held_messages}
use Rattle.session.specs.View.{View}
use Rattle.solve.specs.Equations.{Solution, Solvable, Unsolvable, OneValue}

-- the numbers in view after the call, if some octets satisfy all equations. A solution has the limit's length, and so has a fill
-- (rules 14.2, 14.3 and 14.8)
pub record Solved (cells : List Cell) (messages : List Message) (after : List Cell) : Type 0 where
  pub some : Solvable cells messages
  pub size : length after ≡ length cells
  pub kept : (p : ℕ) → Known cells p → cell_at after p ≡ cell_at cells p
  pub filled : (p : ℕ) → Unknown cells p → OneValue cells messages p → (x : ℕ → List ℕ) → Solution cells messages x
      → cell_at after p ≡ filled_cell 0 repaired (x p)
  pub left : (p : ℕ) → Unknown cells p → (OneValue cells messages p → ⊥) → cell_at after p ≡ cell_at cells p

-- the session afterwards: numbers in view are filled, and base, counts, marks and messages are unchanged (rules 14.4 and 14.8)
pub record SolvedTo (view after : View) : Type 0 where
  pub base : after.base ≡ view.base
  pub counts : after.counts ≡ view.counts
  pub held : after.held ≡ view.held
  pub cells : Solved view.cells (held_messages view.held) after.cells

-- what the call may return: the filled session, or 23 exactly if no octets satisfy all equations (rule 14.6)
abbrev pub Solves : View → Answer View → Type 0
Solves view (done after) = SolvedTo view after
Solves view (refused why) = Unsolvable view.cells (held_messages view.held) × (why ≡ refusal no_solution)
