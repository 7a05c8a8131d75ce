-- The history of a receiving session: a call, the session after it, the numbers that left, and their four counts (rules 9.10, 9.11 and
-- 28.6). Definitions only.
use Rattle.std.specs.Prelude.{ℕ, ◌+◌, List, [], ◌∷◌, Bool, true, false, cond}
use Rattle.length.specs.Answers.{afterwards}
use Rattle.session.specs.Cells.{State, unknown, received, spare, repaired, blank, is_unknown}
use Rattle.session.specs.View.{View, Counts}
use Rattle.session.specs.Offer as offers
use Rattle.session.specs.Release as releases
use Rattle.session.specs.Release.{view_after_release}
use Rattle.solve.specs.Solve as solutions

-- a call without its answer
pub data Move : Type 0 where
  -- an offer of any octets
  offer : List ℕ → Move
  -- a release, with leave to skip or without, into a buffer of this many octets
  release : Bool → ℕ → Move
  -- solving: all held messages treated together
  solve : Move

-- a number that left: released as received, spare or repaired, with its note and octets; or lost, which has the state unknown
pub record Left : Type 0 where
  pub kind : State
  pub number : ℕ
  pub note : ℕ
  pub octets : List ℕ

abbrev pub left_as : State → ℕ → ℕ → List ℕ → Left
left_as kind number note octets = record { kind = kind; number = number; note = note; octets = octets }

-- the session after a call; a refusal changes nothing (rule 2.25)
unfoldable pub after_move : Move → View → View
after_move (offer octets) view = afterwards (offers.offer octets view) view
after_move (release leave room) view = afterwards (view_after_release (releases.release leave room view)) view
after_move solve view = afterwards (solutions.solve view) view

-- ---- the four counts: received, spare and repaired, each released, and lost; each is how many numbers left so (rules 9.10 and 9.11)

abbrev pub is_received : State → Bool
is_received unknown = false
is_received received = true
is_received spare = false
is_received repaired = false
is_received blank = false

abbrev pub is_spare : State → Bool
is_spare unknown = false
is_spare received = false
is_spare spare = true
is_spare repaired = false
is_spare blank = false

abbrev pub is_repaired : State → Bool
is_repaired unknown = false
is_repaired received = false
is_repaired spare = false
is_repaired repaired = true
is_repaired blank = false

abbrev pub is_lost : State → Bool
is_lost = is_unknown

-- how many numbers of a list have a kind that passes a test
unfoldable pub how_many : (State → Bool) → List Left → ℕ
how_many test [] = 0
how_many test (x ∷ more) = cond (test x.kind) 1 0 + how_many test more

-- the four counts of a history
abbrev pub history_counts : List Left → Counts
history_counts left =
    record {
      received = how_many is_received left;
      spare = how_many is_spare left;
      repaired = how_many is_repaired left;
      lost = how_many is_lost left;
    }
