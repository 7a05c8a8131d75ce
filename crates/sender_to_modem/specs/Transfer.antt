-- A transfer over the line (rules 23.1 and 23.2): one fresh sending session with the same k throughout, one fresh receiving session,
-- datagrams in order, the receiver drained after each arrival, and nobody gives up a number. Each public call is made on the session that
-- the call before returned, with any packet and any buffer, and may return anything that its promise allows. Definitions only.
use Rattle.std.specs.Prelude.{ℕ, ◌≤◌, ◌≡◌, false, List, [], ◌∷◌, ◌++◌, length, take, Result, Ok, Err}
use Rattle.session_release.specs.declared.Released.{Released}
use Rattle.length.specs.declared.Refusal.{Refusal}
use Rattle.datagram.specs.Sizes.{packet_limit}
use Rattle.session.specs.Cells.{State}
use Rattle.session_held.specs.Table.{state_of}
use Rattle.session_held.specs.Promise.{Fresh}
use Rattle.session_held.specs.declared.ReleaseKind.{ReleaseKind}
use Rattle.session_held.specs.declared.Session.{Session}
use Rattle.sender.specs.Promise.{SenderMade, Sends}
use Rattle.sender.specs.declared.Sender.{Sender}
use Rattle.sender.specs.declared.Sent.{Sent}
use Rattle.sender.specs.declared.Settings.TheVariants as settings
use Rattle.session_calls.specs.Receiver.{OfferOwes, ReleaseOwes}
use Rattle.session_calls.specs.declared.Returned.{Returned}
use Rattle.sender_to_modem.specs.Marks.{Mark, arrives, lost}

-- a number that was released, as the modem has it
pub record Delivered : Type 0 where
  pub kind : State
  pub number : ℕ
  pub octets : List ℕ

abbrev pub delivered_as : State → ℕ → List ℕ → Delivered
delivered_as kind number octets = record { kind = kind; number = number; octets = octets }

-- the receiver is drained (rule 23.2): releases without leave to skip, each with a buffer large enough for any packet, until one is
-- refused. What they release goes to the modem, from the front of the buffer
pub data Drained : Session → List Delivered → Session → Type 0 where
  ends : {s : Session} {old new : List ℕ} {r : Returned Released} {why : Refusal} → packet_limit ≤ length old → ReleaseOwes s false old new r
      → r.answer ≡ Err why
      → Drained s [] r.session
  releases : {s t : Session} {old new : List ℕ} {r : Returned Released} {kind : ReleaseKind} {number note size : ℕ} {more : List Delivered}
      → packet_limit ≤ length old → ReleaseOwes s false old new r → r.answer ≡ Ok (record { kind = kind; number = number; note = note; size = size })
      → Drained r.session more t
      → Drained s (delivered_as (state_of kind) number (take size new) ∷ more) t

-- an arrival: how many packets were sent by then, what offer returned, and after the draining all that the modem had by then and the
-- receiver
pub record AfterArrival : Type 0 where
  pub sent : ℕ
  pub answer : Result (Unit {0}) Refusal
  pub modem : List Delivered
  pub receiver : Session

-- the state of a transfer: a mark for each datagram, the packets that were sent in them, both sessions, all that the modem has, and the
-- arrivals so far
pub record Transfer : Type 0 where
  pub line : List Mark
  pub packets : List (List ℕ)
  pub sender : Sender
  pub receiver : Session
  pub modem : List Delivered
  pub arrivals : List AfterArrival

-- a transfer with k spares throughout, from fresh sessions on
pub data Ran (k : ℕ) : Transfer → Type 0 where
  begins : {s : Sender} {t : Session} → SenderMade s → Fresh t
      → Ran k (record { line = []; packets = []; sender = s; receiver = t; modem = []; arrivals = [] })
  -- a send that is refused sends nothing and is no loss (rule 23.9)
  refuses : {x : Transfer} {packet old new : List ℕ} {r : Sent} {why : Refusal} → Ran k x
      → Sends x.sender (settings.Spares k) packet old new r → r.answer ≡ Err why
      → Ran k
      (record {
        line = x.line;
        packets = x.packets;
        sender = r.sender;
        receiver = x.receiver;
        modem = x.modem;
        arrivals = x.arrivals;
      })
  -- a datagram that is lost
  loses : {x : Transfer} {packet old new : List ℕ} {r : Sent} {n : ℕ} → Ran k x
      → Sends x.sender (settings.Spares k) packet old new r → r.answer ≡ Ok n
      → Ran k
      (record {
        line = x.line ++ (lost ∷ []);
        packets = x.packets ++ (packet ∷ []);
        sender = r.sender;
        receiver = x.receiver;
        modem = x.modem;
        arrivals = x.arrivals;
      })
  -- one that arrives: what was written is offered, and then the receiver is drained
  brings : {x : Transfer} {packet old new : List ℕ} {r : Sent} {n : ℕ} {o : Returned (Unit {0})} {more : List Delivered} {t : Session} → Ran k x
      → Sends x.sender (settings.Spares k) packet old new r → r.answer ≡ Ok n
      → OfferOwes x.receiver (take n new) o → Drained o.session more t
      → Ran k
      (record {
        line = x.line ++ (arrives ∷ []);
        packets = x.packets ++ (packet ∷ []);
        sender = r.sender;
        receiver = t;
        modem = x.modem ++ more;
        arrivals =
            x.arrivals
            ++ (record { sent = length (x.packets ++ (packet ∷ [])); answer = o.answer; modem = x.modem ++ more; receiver = t } ∷ []);
      })
