-- Equation e in the words of the session's table. Assumes nothing.
use Rattle.std.proofs.Common.{◌≡◌, ℕ, ◌+◌, ◌<◌, ◌≤◌, List, length, sym, ap, ◌∙◌}
use Rattle.session.specs.Cells.{kept_before, kept_ahead}
use Rattle.session.specs.Held.{Held, held_at, message_at}
use Rattle.session_held.specs.Slots.{heard_slot_at}
use Rattle.session_held.specs.Table.{held_in, held_of}
use Rattle.session_held.proofs.Laws.{held-at}
use Rattle.session_repair.specs.Promise.{m_at, message_held}
use Rattle.session_repair.proofs.Laws.{message-is, messages-long}
use Rattle.solve.specs.Table.{no_message, message_or}
use Rattle.solve.proofs.SolutionsLaws.{message-there, message-none}

module _ (base : ℕ) (t g : List ℕ) (d : ℕ) (near : d < kept_ahead) where
  held-count : length (held_at (held_of base t g) d).messages ≡ m_at base t d
  held-count = ap (λ (h : Held). length h.messages) (held-at base t g d near) ∙ messages-long base t g d

  pub equation-there : (i : ℕ) → i < m_at base t d → message_or (held_of base t g) d i ≡ message_held base t g d i
  equation-there i low =
      message-there (held_of base t g) d i (rw held-count low)
      ∙ ap (λ (h : Held). message_at (kept_before + d) h i) (held-at base t g d near)
      ∙ message-is base t g d i low

  pub equation-none : (i : ℕ) → m_at base t d ≤ i → message_or (held_of base t g) d i ≡ no_message
  equation-none i past = message-none (held_of base t g) d i (rw held-count past)
