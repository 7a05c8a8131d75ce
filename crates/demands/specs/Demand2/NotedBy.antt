-- The note of a known number: the number of the datagram whose offer filled it (rule 9.5). Which datagram that is, in a session fresh at
-- its start, follows from the calls and their answers, as the reached numbers do. Definitions only.
use Rattle.std.specs.Prelude.{ℕ, ◌+◌, ◌<◌, ◌≡◌, true, false, List, [], length, get_or}
use Rattle.datagram.specs.Carried.{Carried}
use Rattle.session.specs.Cells.{unknown, kept_before}
use Rattle.demands.specs.Common.History.{Left, left_as, is_lost}
use Rattle.demands.specs.Common.Calls.{Call, Calls, ◌then◌, fills_in}
use Rattle.demands.specs.Demand2.ReachedBy.{Accepts, ReachedBy}

-- the note of the number at a place, after these calls
pub data NotedBy : Calls → ℕ → ℕ → Type 0 where
  -- a number before the first is blank, with note 0 (rule 9.7)
  before_first : {calls : Calls} {P : ℕ} → P < kept_before → NotedBy calls P 0
  -- an accepted offer reaches the place, which was not reached before: the number of the datagram being offered (rule 9.8)
  filled : {calls : Calls} {call : Call} {S P : ℕ} {datagram : Carried} → Accepts calls call S datagram
      → (ReachedBy calls P → ⊥) → ReachedBy (calls then call) P
      → NotedBy (calls then call) P datagram.number
  -- solving reaches the place, which was not reached before: note 0 (rule 14.3)
  together : {calls : Calls} {call : Call} {P : ℕ} → fills_in call ≡ true → (ReachedBy calls P → ⊥) → ReachedBy (calls then call) P
      → NotedBy (calls then call) P 0
  -- a note stays (rule 9.9)
  earlier : {calls : Calls} {call : Call} {P note : ℕ} → NotedBy calls P note → NotedBy (calls then call) P note

-- the j-th number to leave, from 0
abbrev pub left_at : List Left → ℕ → Left
left_at left j = get_or left j (left_as unknown 0 0 [])

-- each released number left with its note, and each lost one with note 0 (rules 12.2 and 12.4)
pub record LeftNoted (calls : Calls) (left : List Left) : Type 0 where
  pub released : (j : ℕ) → j < length left → is_lost (left_at left j).kind ≡ false → NotedBy calls (kept_before + j) (left_at left j).note
  pub lost : (j : ℕ) → j < length left → is_lost (left_at left j).kind ≡ true → (left_at left j).note ≡ 0
