-- What each public call of the sending session promises (rules 15.1, 15.2, 15.8, 15.11 to 15.13): the session, the answer and the
-- caller's buffer, for a refusal too. One record for each call, which its contract cites. Definitions only.
use Rattle.std.specs.Prelude.{ℕ, ◌≡◌, Bool, true, not, List, ◌∷◌}
use Rattle.std.proofs.Math.Option.{Option}
use Rattle.length.specs.Refusals.{outside_ranges}
use Rattle.length.specs.Answers.{Answer, done, refused, written_outcome, fitted, size_of, over}
use Rattle.length.specs.Tables.{when, unless}
use Rattle.length.specs.declared.Reason.{Reason}
use Rattle.datagram.specs.Write.{datagram_octets}
use Rattle.sender.specs.Sending.{fresh_sending, sent_on}
use Rattle.sender.specs.Send.{carried_next, send_rows}
use Rattle.sender.specs.Sender.{sending_of}
use Rattle.sender.specs.Ranges.{sender_in_ranges}
use Rattle.sender.specs.Inner.Held.{Arrays}
use Rattle.sender.specs.declared.Sender.{Sender}
use Rattle.sender.specs.declared.Sent.{Sent}
use Rattle.sender.specs.declared.Settings.{Settings}

-- a session within its ranges (rule 15.13), whose arrays have their lengths
pub record Proper (s : Sender) : Type 0 where
  pub arrays : Arrays s.sizes s.octets
  pub ranges : sender_in_ranges s ≡ true

-- the promise of `Sender::fresh` (rule 15.1)
pub record SenderMade (s : Sender) : Type 0 where
  pub state : sending_of s ≡ fresh_sending
  pub proper : Proper s

-- the promise of `in_ranges` (rule 15.13)
pub record RangesTold (s : Sender) (r : Bool) : Type 0 where
  pub answer : r ≡ sender_in_ranges s

-- the refusals of a send in order, 17, 16, 15, 4 (rule 15.8), without 13, and what it writes if none of them applies
abbrev pub sender_rows : Sender → Settings → List ℕ → List (Option Reason)
sender_rows s settings packet = when (not (sender_in_ranges s)) outside_ranges ∷ send_rows settings packet (sending_of s)

unfoldable pub to_send : Sender → Settings → List ℕ → Answer (List ℕ)
to_send s settings packet = unless (sender_rows s settings packet) (datagram_octets (carried_next settings packet (sending_of s)))

-- the session t after an accepted send: the packet is the newest of its history (rule 15.12)
pub record SentOn (s : Sender) (packet : List ℕ) (t : Sender) : Type 0 where
  pub state : sending_of t ≡ sent_on packet (sending_of s)
  pub proper : Proper t

-- and after any send: a refusal changes nothing (rule 15.11)
abbrev pub StateAfter : Answer (List ℕ) → Sender → List ℕ → Sender → Type 0
StateAfter (done octets) s packet t = SentOn s packet t
StateAfter (refused r) s packet t = t ≡ s

-- the promise of `send` (rules 2.26, 15.2 and 15.11)
pub record Sends (s : Sender) (settings : Settings) (packet old new : List ℕ) (r : Sent) : Type 0 where
  pub answer : written_outcome r.answer ≡ size_of (fitted (to_send s settings packet) old)
  pub lent : new ≡ over (fitted (to_send s settings packet) old) old
  pub state : StateAfter (fitted (to_send s settings packet) old) s packet r.sender
