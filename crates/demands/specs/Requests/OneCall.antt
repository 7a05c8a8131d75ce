-- Release is one call that takes whether it may skip (rule 12.1). So nothing can happen between finding a number unknown and giving it
-- up, and a known number is never lost. Statements only.
use Rattle.std.specs.Prelude.{ℕ, ◌+◌, ◌-◌, ◌≤◌, ◌<◌, ◌≡◌, false, [], length, get_or}
use Rattle.session.specs.Cells.{unknown, kept_before, kept_numbers}
use Rattle.session.specs.Reached.{Known}
use Rattle.session_held.specs.Table.{view_of}
use Rattle.session_held.specs.declared.Session.{Session}
use Rattle.session_calls.specs.Claims as sessions
use Rattle.demands.specs.Common.History.{left_as, is_lost}
use Rattle.demands.specs.Common.Calls.{Calls, Called, left_by}
use Rattle.demands.specs.Demand2.Demand2.{Begins}

pub record OneCall : Type 0 where
  -- a known base is never lost, with leave or without (rule 12.2)
  pub known_never_lost : sessions.KnownNeverLost
  -- whatever is called between: a number that is known when some calls begin, and leaves by them, is not lost (rules 9.9 and 12.2)
  pub none_between : {s t u : Session} {calls more : Calls} → Begins s → Called s calls t → Called t more u
      → (p : ℕ) → p < kept_numbers → Known (view_of t).cells p → kept_before ≤ p → p < kept_before + length (left_by more)
      → is_lost (get_or (left_by more) (p - kept_before) (left_as unknown 0 0 [])).kind ≡ false
