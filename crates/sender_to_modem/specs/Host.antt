-- A transfer as a host makes it, whatever the calls return (rules 23.1 and 23.2): packets within the sizes, each sent with a buffer large
-- enough for any datagram; the datagram is lost, or it is offered and then release is called k + 2 times. It is the transfer that is
-- sold: no send and no offer is refused, and k + 2 releases drain the receiver. Definitions and a statement.
use Rattle.std.specs.Prelude.{ℕ, zero, suc, ◌+◌, ◌≤◌, ◌≡◌, true, false, List, [], ◌∷◌, ◌++◌, length, take, Result, Ok, Err}
use Rattle.session_release.specs.declared.Released.{Released}
use Rattle.length.specs.declared.Refusal.{Refusal}
use Rattle.datagram.specs.Sizes.{packet_limit, datagram_limit, spares_limit}
use Rattle.session.specs.View.{session_limit}
use Rattle.session_held.specs.Promise.{Fresh}
use Rattle.session_held.specs.declared.Session.{Session}
use Rattle.sender.specs.Send.{packet_inside}
use Rattle.sender.specs.Promise.{SenderMade, Sends}
use Rattle.sender.specs.declared.Sender.{Sender}
use Rattle.sender.specs.declared.Sent.{Sent}
use Rattle.sender.specs.declared.Settings.TheVariants as settings
use Rattle.session_calls.specs.Receiver.{OfferOwes, ReleaseOwes}
use Rattle.session_calls.specs.declared.Returned.{Returned}
use Rattle.sender_to_modem.specs.Marks.{Mark, arrives, lost, NeverMoreInARow}
use Rattle.sender_to_modem.specs.Transfer.{Delivered, AfterArrival, Ran}

-- this many releases one after the other, without leave to skip, each with a buffer large enough for any packet
pub data ReleasesCalled : ℕ → Session → Session → Type 0 where
  none : {s : Session} → ReleasesCalled zero s s
  one : {n : ℕ} {s t : Session} {old new : List ℕ} {r : Returned Released} → packet_limit ≤ length old → ReleaseOwes s false old new r
      → ReleasesCalled n r.session t
      → ReleasesCalled (suc n) s t

-- the datagram at the front of the buffer
abbrev pub datagram_written : Result ℕ Refusal → List ℕ → List ℕ
datagram_written (Ok n) buffer = take n buffer
datagram_written (Err why) buffer = []

-- with k spares, from fresh sessions on: these marks and packets lead to these two sessions
pub data Hosted (k : ℕ) : List Mark → List (List ℕ) → Sender → Session → Type 0 where
  begins : {s : Sender} {t : Session} → SenderMade s → Fresh t → Hosted k [] [] s t
  loses : {line : List Mark} {packets : List (List ℕ)} {s : Sender} {t : Session} {packet old new : List ℕ} {r : Sent}
      → Hosted k line packets s t → packet_inside packet ≡ true → datagram_limit ≤ length old
      → Sends s (settings.Spares k) packet old new r
      → Hosted k (line ++ (lost ∷ [])) (packets ++ (packet ∷ [])) r.sender t
  brings : {line : List Mark} {packets : List (List ℕ)} {s : Sender} {t u : Session} {packet old new : List ℕ} {r : Sent} {o : Returned (Unit {0})}
      → Hosted k line packets s t → packet_inside packet ≡ true → datagram_limit ≤ length old
      → Sends s (settings.Spares k) packet old new r
      → OfferOwes t (datagram_written r.answer new) o → ReleasesCalled (k + 2) o.session u
      → Hosted k (line ++ (arrives ∷ [])) (packets ++ (packet ∷ [])) r.sender u

-- the transfer that it is: what the modem has and the arrivals follow from what the calls returned
pub record Transferred (k : ℕ) (line : List Mark) (packets : List (List ℕ)) (s : Sender) (t : Session) : Type 0 where
  pub modem : List Delivered
  pub arrivals : List AfterArrival
  pub ran : Ran k (record { line = line; packets = packets; sender = s; receiver = t; modem = modem; arrivals = arrivals })

-- it is one, if never more than k are lost in a row and at most 1,000,000 packets are sent (rule 23.1)
abbrev pub HostedTransfers : Type 0
HostedTransfers = (k : ℕ) → k ≤ spares_limit → (line : List Mark) (packets : List (List ℕ)) (s : Sender) (t : Session)
    → Hosted k line packets s t → NeverMoreInARow k line → length line ≤ session_limit
    → Transferred k line packets s t
