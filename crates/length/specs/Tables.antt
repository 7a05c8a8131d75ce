-- Refusals as a table: the rules give each call's refusals in order, each with its reason and its condition. The first row that applies is
-- the call's answer, and if none applies, the call is done (rule 2.24). Definitions only.
use Rattle.std.specs.Prelude.{ℕ, Bool, true, false, not, List, [], ◌∷◌, length, leb}
use Rattle.std.proofs.Math.Option.{Option, none, some}
use Rattle.length.specs.Refusals.{no_room}
use Rattle.length.specs.declared.Reason.{Reason}
use Rattle.length.specs.Answers.{Answer, done, refused, refuse}

-- a row: it applies, with its reason, if the condition is met
abbrev pub when : {A : Type 0} → Bool → A → Option A
when true a = some a
when false a = none

-- the first row that applies
unfoldable pub first : List (Option Reason) → Option Reason
first [] = none
first (some why ∷ rows) = some why
first (none ∷ rows) = first rows

-- a call that returns a unless a row of its table applies
unfoldable pub unless : {A : Type 0} → List (Option Reason) → A → Answer A
unless [] a = done a
unless (some why ∷ rows) a = refuse why
unless (none ∷ rows) a = unless rows a

-- the reason of a call's refusal, or none
abbrev pub refusal_in : {A : Type 0} → Answer A → Option Reason
refusal_in (done a) = none
refusal_in (refused why) = some why.reason

-- its place, or 0 if the call is done
abbrev pub place_in : {A : Type 0} → Answer A → ℕ
place_in (done a) = 0
place_in (refused why) = why.place

-- the last row of every call that writes these octets to the caller's buffer: 13 if they are longer than the buffer (rule 2.13)
abbrev pub room_row : List ℕ → List ℕ → List (Option Reason)
room_row octets lent = when (not (leb (length octets) (length lent))) no_room ∷ []
