-- What the calls from C on a receiving session promise: what the library's own calls promise, for the session in the caller's memory (rules
-- 24.1 to 24.3, 24.8 and 24.11). A call that takes any memory and its form that requires the ranges promise the same (rule 24.4).
-- Definitions only.
use Rattle.std.specs.Prelude.{ℕ, ◌≡◌, Bool, List, length}
use Rattle.session_release.specs.declared.Released.{Released}
use Rattle.length.specs.Answers.{over}
use Rattle.session.specs.Release.{view_after_release}
use Rattle.session_held.specs.declared.Counts.{Counts}
use Rattle.session_held.specs.declared.Session.{Session}
use Rattle.session_held.specs.Laid.{session_in_ranges}
use Rattle.session_held.specs.Promise.{Sized}
use Rattle.session_release.specs.Outcome.{handed_of, octets_handed}
use Rattle.session_calls.specs.Receiver.{After, offer_of, release_of}
use Rattle.host_answers.specs.Answers.{told, release_number}
use Rattle.host_answers.specs.declared.answers.Answered.{Answered}
use Rattle.host.specs.declared.receiver.Head.{Head}
use Rattle.host.specs.declared.receiver.AfterRelease.{AfterRelease}

-- base and counts, as C stores them
abbrev pub head_of : ℕ → Counts → Head
head_of base c = record { base = base; received = c.received; spare = c.spare; repaired = c.repaired; lost = c.lost }

-- the session in the caller's memory
abbrev pub counts_in : Head → Counts
counts_in h = record { received = h.received; spare = h.spare; repaired = h.repaired; lost = h.lost }

abbrev pub session_in : Head → List ℕ → List ℕ → List ℕ → Session
session_in h table octets messages = record { base = h.base; counts = counts_in h; table = table; octets = octets; messages = messages }

-- ---- offer (rules 10.1 to 10.10): table, octets and messages are the memory before it, table₂, octets₂ and messages₂ after it
pub record OfferHosted (datagram : List ℕ) (h : Head) (table octets messages table₂ octets₂ messages₂ : List ℕ)
    (r : Answered) : Type 0 where
  pub answer : r ≡ told (offer_of datagram (session_in h table octets messages))
  pub state : After (offer_of datagram (session_in h table octets messages)) (session_in h table octets messages)
      (session_in h table₂ octets₂ messages₂)

-- ---- release, with leave to skip or without (rules 12.1 to 12.12)
pub record ReleaseHosted (leave : Bool) (h : Head) (table octets messages old table₂ octets₂ messages₂ new : List ℕ)
    (r : AfterRelease) : Type 0 where
  pub answer : r.left ≡ release_number (handed_of (release_of leave (length old) (session_in h table octets messages)))
  pub lent : new ≡ over (octets_handed (release_of leave (length old) (session_in h table octets messages))) old
  pub state : After (view_after_release (release_of leave (length old) (session_in h table octets messages)))
      (session_in h table octets messages) (session_in r.head table₂ octets₂ messages₂)

-- ---- the ranges
-- whether the session in the caller's memory is within its ranges (rules 13.1 to 13.11); its arrays have their lengths
pub record RangesHosted (h : Head) (table octets messages : List ℕ) (r : Bool) : Type 0 where
  pub answer : r ≡ session_in_ranges (session_in h table octets messages)
  pub sized : Sized (session_in h table octets messages)
