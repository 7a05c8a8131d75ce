-- What the send from a session within its ranges promises (rules 15.2, 15.11 and 15.12). Definitions only.
use Rattle.std.specs.Prelude.{ℕ, ◌%◌, ◌≡◌, List, Result, Ok, Err}
use Rattle.length.specs.Promise.{Puts}
use Rattle.length.specs.declared.Refusal.{Refusal}
use Rattle.session.specs.View.{numbers}
use Rattle.sender.specs.Send.{datagram_to_send}
use Rattle.sender.specs.Sender.{sending_in}
use Rattle.sender.specs.Inner.Held.{Joins}
use Rattle.sender.specs.declared.Sender.{Sender}
use Rattle.sender.specs.declared.Sent.{Sent}
use Rattle.sender.specs.declared.Settings.{Settings}

-- the history after it: with the packet, or unchanged after a refusal
abbrev pub HistoryAfter : Result ℕ Refusal → ℕ → List ℕ → List ℕ → List ℕ → List ℕ → List ℕ → Type 0
HistoryAfter (Ok n) number packet sizes octets sizes' octets' = Joins number packet sizes octets sizes' octets'
HistoryAfter (Err r) number packet sizes octets sizes' octets' = (sizes' ≡ sizes) × (octets' ≡ octets)

pub record SendsHeld (sent : ℕ) (settings : Settings) (packet sizes octets old sizes' octets' new : List ℕ) (r : Result ℕ Refusal) : Type 0 where
  pub puts : Puts (datagram_to_send settings packet (sending_in sent sizes octets)) old new r
  pub history : HistoryAfter r (sent % numbers) packet sizes octets sizes' octets'

-- what a refused send returns: the session unchanged, and the refusal (rule 15.11)
pub record RefusedSend (s : Sender) (why : Refusal) (r : Sent) : Type 0 where
  pub whole : r ≡ record { sender = s; answer = Err why }
