-- What the claims about the program and about images require can be met, in characters: a fresh session takes in one line, and is handed
-- over (rules 18.12, 20.11 and 20.22). Definitions only.
use Rattle.std.specs.Prelude.{ℕ, ◌≤◌, List, [], ◌++◌, length, drop, replicate}
use Rattle.session_held.specs.Table.{lent_by}
use Rattle.session_held.specs.Promise.{Fresh}
use Rattle.session_held.specs.declared.Session.{Session}
use Rattle.line.specs.Feed.{going_in}
use Rattle.line.specs.FeedPromise.{Feeds, Ends}
use Rattle.line.specs.Text.{characters}
use Rattle.image.specs.Image.{LentOctets}
use Rattle.image.specs.Cases.{fresh_from}
use Rattle.demands.specs.Demand3.Example.{example_row, example_datagrams}
use Rattle.demands.specs.Program.{Running}
use Rattle.demands.specs.Requests.Handover.{Wrote, ReadAs, StartsAt}

-- ---- the program takes in the line `0` and its line feed, with room for all that a line can write
abbrev pub no_line : List ℕ
no_line = replicate 4801 0

-- the buffer after it
abbrev pub refused_line : List ℕ → List ℕ
refused_line out = characters "FF0F0000\n" ++ drop 9 out

pub record LineTaken (r : Session) (out : List ℕ) : Type 0 where
  pub taken : Feeds (going_in (lent_by r) no_line 0 out 0) (characters "0\n") out (lent_by r) no_line 0 2 (refused_line out) 9
  pub running : Running (characters "0\n") [] (characters "FF0F0000\n") (lent_by r) no_line 0
  pub ended : Ends (going_in (lent_by r) no_line 0 out 0) out (lent_by r) out 0

-- ---- a fresh session is handed over: the call writes this text, which reads back, and demand 3 starts there
abbrev pub fresh_text : List ℕ
fresh_text = fresh_from (characters "02000000000000000000000000000000000000\n")

pub record FreshHandedOver (s : Session) : Type 0 where
  pub wrote : Wrote s fresh_text
  pub reads : ReadAs fresh_text s
  pub starts : StartsAt example_row example_datagrams s

pub record RunInstances : Type 0 where
  pub line_taken : (r : Session) (out : List ℕ) → Fresh r → 17127 ≤ length out → LineTaken r out
  pub handed_over : (s : Session) → Fresh s → LentOctets (lent_by s) → FreshHandedOver s
