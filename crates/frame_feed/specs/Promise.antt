-- What each call of this crate promises (rules 17.1 to 17.3). Definitions only.
use Rattle.std.specs.Prelude.{ℕ, ◌≡◌, List, Ok, length}
use Rattle.std.proofs.Math.Option.{Option, none, some}
use Rattle.std.proofs.Math.ListN.{get_elem?}
use Rattle.session.specs.Cells.{State}
use Rattle.frame.specs.Promise.{FieldOwes, LossOwes}
use Rattle.frame.specs.Line.{Event, a_field, a_loss}
use Rattle.frame.specs.declared.Joiner.{Joiner}
use Rattle.frame.specs.declared.Joined.{Joined}
use Rattle.frame.specs.declared.Handed.TheVariants as handed
use Rattle.frame_feed.specs.Feed.{released, events_of}

-- what `turns` promises: one turn for each event
pub record TurnsTold (edition : ℕ) (kind : State) (packet : List ℕ) (r : ℕ) : Type 0 where
  pub answer : r ≡ length (events_of (released edition kind packet))

-- a lost number leaves the caller's buffer unchanged; past the last event nothing is done
pub record LossFed (j : Joiner) (old new : List ℕ) (r : Joined) : Type 0 where
  pub owes : LossOwes j r
  pub lent : new ≡ old

pub record NothingFed (j : Joiner) (old new : List ℕ) (r : Joined) : Type 0 where
  pub answer : r ≡ record { joiner = j; answer = Ok handed.Nothing }
  pub lent : new ≡ old

abbrev pub EventOwes : Option Event → Joiner → List ℕ → List ℕ → Joined → Type 0
EventOwes (some (a_field f)) j old new r = FieldOwes j f.type f.octets old new r
EventOwes (some a_loss) j old new r = LossFed j old new r
EventOwes none j old new r = NothingFed j old new r

-- what `feed` promises: the event of that turn is fed to the joiner
pub record FeedOwes (j : Joiner) (edition : ℕ) (kind : State) (packet : List ℕ) (turn : ℕ) (old new : List ℕ) (r : Joined) : Type 0 where
  pub owes : EventOwes (get_elem? (events_of (released edition kind packet)) turn) j old new r
