-- What each call promises, of the session's memory before and after (rules 12.2 to 12.9). Definitions only.
use Rattle.std.specs.Prelude.{◌≡◌, ℕ, ◌%◌, ◌<◌, ◌≤◌, Bool, List, length, Result}
use Rattle.length.specs.Answers.{done, refused, over, afterwards}
use Rattle.length.specs.declared.Refusal.{Refusal}
use Rattle.datagram.specs.Sizes.{packet_limit}
use Rattle.session_slots.specs.Store.{part}
use Rattle.session.specs.View.{sum, session_limit}
use Rattle.session.specs.Release.{Release, at_base, moved_on, release, view_after_release}
use Rattle.session_held.specs.Slots.{slots_kept}
use Rattle.session_held.specs.Table.{state_of, counts_of, Lent, view_in}
use Rattle.session_held.specs.Laid.{InRanges}
use Rattle.session_held.specs.declared.ReleaseKind.{ReleaseKind}
use Rattle.session_release.specs.Outcome.{released_outcome, handed_of, octets_handed}
use Rattle.session_release.specs.declared.Released.{Released}

-- the base may move on: the number there is of this kind, and not all numbers have passed
pub record MayMoveOn (kind : ReleaseKind) (l : Lent) : Type 0 where
  pub same : state_of kind ≡ (at_base (view_in l)).state
  pub left : sum (counts_of l.counts) < session_limit

-- the base moved on by one (rule 12.5), and the packet of the number that left stays in its slot
pub record MovesOn (before after : Lent) : Type 0 where
  pub state : view_in after ≡ moved_on (view_in before)
  pub within : InRanges after
  pub kept : (n : ℕ) → n ≤ packet_limit
      → part after.octets (before.base % slots_kept) n ≡ part before.octets (before.base % slots_kept) n

-- the packet of a number that left is in that number's slot
pub record StaysInSlot (store : List ℕ) (r : Release) : Type 0 where
  pub fits : length r.octets ≤ packet_limit
  pub octets : part store (r.number % slots_kept) (length r.octets) ≡ r.octets

-- a number leaves, with leave to skip or without, and with room for this many octets: the answer, the session after, and where its packet
-- is; a refusal leaves the memory unchanged (rule 2.25)
pub record Leaves (leave : Bool) (room : ℕ) (before after : Lent) (answer : Result Released Refusal) : Type 0 where
  pub told : released_outcome answer ≡ handed_of (release leave room (view_in before))
  pub stored : (r : Release) → release leave room (view_in before) ≡ done r → StaysInSlot after.octets r
  pub state : view_in after ≡ afterwards (view_after_release (release leave room (view_in before))) (view_in before)
  pub within : InRanges after
  pub stays : (x : Refusal) → release leave room (view_in before) ≡ refused x → after ≡ before

-- a release, with leave to skip or without: its answer, the caller's buffer old before and new after, and the session after; a refusal
-- leaves the memory unchanged (rule 2.25)
pub record Releases (leave : Bool) (before after : Lent) (old new : List ℕ) (answer : Result Released Refusal) : Type 0 where
  pub told : released_outcome answer ≡ handed_of (release leave (length old) (view_in before))
  pub written : new ≡ over (octets_handed (release leave (length old) (view_in before))) old
  pub state : view_in after ≡ afterwards (view_after_release (release leave (length old) (view_in before))) (view_in before)
  pub within : InRanges after
  pub stays : (x : Refusal) → release leave (length old) (view_in before) ≡ refused x → after ≡ before
