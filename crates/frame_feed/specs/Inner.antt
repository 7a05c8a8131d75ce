-- What the functions inside this crate promise each other. It adds nothing to the meaning. Definitions only.
use Rattle.std.specs.Prelude as rust
use Rattle.std.specs.Prelude.{ℕ, ◌+◌, ◌≤◌, ◌≡◌, List, Some, None, length}
use Rattle.std.proofs.Math.Option.{Option, none, some}
use Rattle.std.proofs.Math.ListN.{get_elem?}
use Rattle.session.specs.Cells.{State}
use Rattle.frame.specs.Line.{Event, a_field, a_loss}
use Rattle.frame_feed.specs.Feed.{released, events_of, field_in}
use Rattle.frame_feed.specs.declared.turn.Turn.{Turn}
use Rattle.frame_feed.specs.declared.turn.Turn.TheVariants as turns

abbrev pub event_in : List ℕ → rust.Option Turn → Option Event
event_in s (Some (turns.Field f)) = some (a_field (field_in s f))
event_in s (Some turns.Loss) = some a_loss
event_in s None = none

-- where a field's data ends
abbrev pub end_in : rust.Option Turn → ℕ
end_in (Some (turns.Field f)) = f.start + f.size
end_in (Some turns.Loss) = 0
end_in None = 0

pub record TurnTold (edition : ℕ) (kind : State) (packet : List ℕ) (turn : ℕ) (r : rust.Option Turn) : Type 0 where
  pub event : event_in packet r ≡ get_elem? (events_of (released edition kind packet)) turn
  pub inside : end_in r ≤ length packet
