-- The claims about a sending session (rules 4.20, 15.15 and 28.14). Statements only.
use Rattle.std.specs.Prelude.{ℕ, ◌%◌, ◌≡◌, Bool, length, take, Ok}
use mathlib.Core.List.{List, map, flatten}
use Rattle.length.specs.Answers.{done}
use Rattle.datagram.specs.Write.{datagram_to_write}
use Rattle.datagram.specs.Claims.{ReadsAs}
use Rattle.session.specs.View.{numbers}
use Rattle.sender.specs.Send.{carried_next}
use Rattle.sender.specs.Sender.{sending_of}
use Rattle.sender.specs.Inner.Held.{Arrays}
use Rattle.sender.specs.Inner.Next.{kind_asked, items_next}
use Rattle.sender.specs.Promise.{Proper, SenderMade, RangesTold, Sends}
use Rattle.sender.specs.Honest.{HonestSender}
use Rattle.sender.specs.Run.{Run}
use Rattle.sender.specs.Cases.{DatagramCases, RefusalCases, HistoryCases, RangesCases}
use Rattle.sender.specs.declared.Sender.{Sender}
use Rattle.sender.specs.declared.Sent.{Sent}
use Rattle.sender.specs.declared.Settings.{Settings}

-- ---- what is written

-- of a session whose arrays have their lengths, as in every session that the code holds
pub record WrittenRight : Type 0 where
  -- a send writes to the front of the buffer what the datagram writer writes for that number, packet, and spares or messages
  -- (rule 15.2)
  pub writer : {s : Sender} {settings : Settings} {packet old new : List ℕ} {r : Sent} {n : ℕ} → Arrays s.sizes s.octets
      → Sends s settings packet old new r → r.answer ≡ Ok n
      → datagram_to_write (s.sent % numbers) packet (kind_asked settings) (map length (items_next settings (sending_of s)))
      (flatten (items_next settings (sending_of s)))
      ≡ done (take n new)
  -- and it reads back as a datagram that carries them (rule 4.20)
  pub reads : {s : Sender} {settings : Settings} {packet old new : List ℕ} {r : Sent} {n : ℕ} → Arrays s.sizes s.octets
      → Sends s settings packet old new r → r.answer ≡ Ok n → ReadsAs (take n new) (carried_next settings packet (sending_of s))

-- ---- chains of sends from a fresh session, with settings free at each

pub record Chains : Type 0 where
  -- such a chain is an honest sender (rule 15.15)
  pub honest : {s : Sender} {row datagrams : List (List ℕ)} → Run s row datagrams → HonestSender row datagrams
  -- its session has sent as many packets as were accepted, and is within its ranges
  pub counted : {s : Sender} {row datagrams : List (List ℕ)} → Run s row datagrams → s.sent ≡ length row
  pub proper : {s : Sender} {row datagrams : List (List ℕ)} → Run s row datagrams → Proper s

-- ---- one outcome

-- two outcomes that a promise allows are equal (rule 28.14)
pub record OneOutcome : Type 0 where
  -- within the ranges the abstraction loses nothing
  pub faithful : {s t : Sender} → Proper s → Proper t → sending_of s ≡ sending_of t → s ≡ t
  pub fresh : {s t : Sender} → SenderMade s → SenderMade t → s ≡ t
  pub ranges : {s : Sender} {r q : Bool} → RangesTold s r → RangesTold s q → r ≡ q
  pub sent : {s : Sender} {settings : Settings} {packet old new other : List ℕ} {r q : Sent} → Sends s settings packet old new r
      → Sends s settings packet old other q → (r ≡ q) × (new ≡ other)

pub record Claims : Type 0 where
  pub written_right : WrittenRight
  pub chains : Chains
  pub one_outcome : OneOutcome
  -- the octets of a send, its refusals and their order, the history and the ranges, in numbers
  pub datagrams : DatagramCases
  pub refusals : RefusalCases
  pub history : HistoryCases
  pub ranges : RangesCases
