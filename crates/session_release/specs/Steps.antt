-- What the inner functions of this crate promise. Definitions only.
use Rattle.std.specs.Prelude.{◌≡◌, ℕ, ◌<◌, ◌≤◌, Bool, true, List, length, nat_le, Err}
use Rattle.length.specs.Refusals.{refusal}
use Rattle.length.specs.declared.Reason.{Reason}
use Rattle.datagram.specs.Sizes.{packet_limit}
use Rattle.session_slots.specs.Store.{HasSlot, part, zeros_past}
use Rattle.session.specs.View.{sum, session_limit}
use Rattle.session_held.specs.Slots.{message_slot, Apart}
use Rattle.session_held.specs.Table.{counts_of, state_of, state_numbered}
use Rattle.session_held.specs.declared.Counts.{Counts}
use Rattle.session_held.specs.declared.ReleaseKind.{ReleaseKind}
use Rattle.session_release.specs.declared.ReleaseDone.{ReleaseDone}

abbrev pub release_refused : ℕ → Counts → Reason → ReleaseDone
release_refused b c why = record { base = b; counts = c; answer = Err (refusal why) }

-- the kind that an answer names, for the state that a number of the table encodes
pub record Named (state : ℕ) (kind : ReleaseKind) : Type 0 where
  pub same : state_of kind ≡ state_numbered state

pub record Passed (c : Counts) (p : Bool) : Type 0 where
  pub test : p ≡ nat_le session_limit (sum (counts_of c))

pub record Freed (j m : ℕ) (old new : List ℕ) : Type 0 where
  pub long : length new ≡ length old
  pub cleared : (i n : ℕ) → i < m → zeros_past new (message_slot j i) n ≡ true
  pub parts : (k n : ℕ) → HasSlot k old → n ≤ packet_limit → Apart j m k → part new k n ≡ part old k n
  pub zeros : (k n : ℕ) → Apart j m k → zeros_past new k n ≡ zeros_past old k n
