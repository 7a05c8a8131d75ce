-- The datagram calls, offer and send do not read inside a packet: with other octets of the same lengths they do the same, or refuse alike
-- (rule 4.22). Octets that are refused are covered too: up to the item that is wrong they may differ inside packets. Statements only.
use Rattle.std.specs.Prelude.{ℕ, ◌<◌, ◌≡◌, ◌↔◌, true, List, ◌++◌, map, length, Result}
use Rattle.length.specs.declared.Refusal.{Refusal}
use Rattle.length.specs.Answers.{done}
use Rattle.length.specs.Length.{within}
use Rattle.datagram.specs.Sizes.{packet_least, packet_limit}
use Rattle.datagram.specs.Write.{number_octets, item_octets, items_octets, count_inside, items_inside, datagram_to_write}
use Rattle.datagram.specs.Inner.Heads.{kind_head}
use Rattle.datagram.specs.Promise.{DatagramReads}
use Rattle.datagram.specs.declared.kind.Kind.{Kind}
use Rattle.datagram.specs.declared.reader.DatagramRead.{DatagramRead}
use Rattle.datagram_writer.specs.Promise.{DatagramWritten}
use Rattle.session.specs.Cells.{kept_numbers}
use Rattle.session.specs.Reached.{Known}
use Rattle.session_held.specs.Table.{view_of}
use Rattle.session_held.specs.Promise.{Fresh}
use Rattle.session_held.specs.declared.Session.{Session}
use Rattle.session_calls.specs.Receiver.{OfferOwes}
use Rattle.session_calls.specs.declared.Returned.{Returned}
use Rattle.sender.specs.Promise.{Sends}
use Rattle.sender.specs.declared.Sender.{Sender}
use Rattle.sender.specs.declared.Sent.{Sent}
use Rattle.sender.specs.declared.Settings.{Settings}
use Rattle.demands.specs.Common.Calls.{Calls, Called}

-- two packets of one length, which is inside the sizes
pub record SamePacket (packet other_packet : List ℕ) : Type 0 where
  pub one_length : length packet ≡ length other_packet
  pub sized : within packet_least packet_limit (length packet) ≡ true

-- Two runs of octets that differ only inside the packet, or inside it and some spares or messages, all of the same lengths. Behind the
-- last of these both have the same octets: the rest of a datagram, or something that is refused
pub data AlikeButOctets (octets other_octets : List ℕ) : Type 0 where
  in_packet : (number : ℕ) (packet other_packet rest : List ℕ) → SamePacket packet other_packet
      → octets ≡ number_octets number ++ (item_octets packet ++ rest)
      → other_octets ≡ number_octets number ++ (item_octets other_packet ++ rest)
      → AlikeButOctets octets other_octets
  in_items : (number : ℕ) (packet other_packet : List ℕ) (kind : Kind) (count : ℕ) (items other_items : List (List ℕ)) (rest : List ℕ)
      → SamePacket packet other_packet → count_inside kind count ≡ true
      → map length items ≡ map length other_items → items_inside kind (map length items) ≡ true
      → octets ≡ number_octets number ++ (item_octets packet ++ (kind_head kind count ++ (items_octets items ++ rest)))
      → other_octets ≡ number_octets number ++ (item_octets other_packet ++ (kind_head kind count ++ (items_octets other_items ++ rest)))
      → AlikeButOctets octets other_octets

pub record NotInside : Type 0 where
  -- the datagram writer: the same refusal, or the same count of octets written
  pub write : (number : ℕ) (kind : Kind) (lengths packet other_packet run other_run : List ℕ)
      → length packet ≡ length other_packet → length run ≡ length other_run
      → {old new other_old other_new : List ℕ} {r q : Result ℕ Refusal} → length old ≡ length other_old
      → DatagramWritten number packet kind lengths run old new r
      → DatagramWritten number other_packet kind lengths other_run other_old other_new q
      → r ≡ q
  -- what the writer writes for them is alike
  pub alike : (number : ℕ) (kind : Kind) (lengths packet other_packet run other_run octets other_octets : List ℕ)
      → length packet ≡ length other_packet
      → datagram_to_write number packet kind lengths run ≡ done octets
      → datagram_to_write number other_packet kind lengths other_run ≡ done other_octets
      → AlikeButOctets octets other_octets
  -- the datagram reader: the same number and kind, and parts at the same places; or the same refusal at the same place
  pub read : {octets other_octets : List ℕ} → AlikeButOctets octets other_octets → {r q : Result DatagramRead Refusal}
      → DatagramReads octets r
      → DatagramReads other_octets q → r ≡ q
  -- offer: both accepted, or both refused with the same number
  pub offer : {session : Session} {octets other_octets : List ℕ} → AlikeButOctets octets other_octets → {r q : Returned (Unit {0})}
      → OfferOwes session octets r → OfferOwes session other_octets q
      → r.answer ≡ q.answer
  -- and then the same numbers are known: offered to a session that came by calls from a fresh one (rule 28.5)
  pub offer_known : {first session : Session} {calls : Calls} → Fresh first → Called first calls session
      → {octets other_octets : List ℕ} → AlikeButOctets octets other_octets → {r q : Returned (Unit {0})}
      → OfferOwes session octets r → OfferOwes session other_octets q
      → (p : ℕ) → p < kept_numbers → Known (view_of r.session).cells p ↔ Known (view_of q.session).cells p
  -- send: the same refusal, or the same count of octets written
  pub send : {s : Sender} {settings : Settings} {packet other_packet : List ℕ} → length packet ≡ length other_packet
      → {old new other_old other_new : List ℕ} {r q : Sent} → length old ≡ length other_old
      → Sends s settings packet old new r → Sends s settings other_packet other_old other_new q
      → r.answer ≡ q.answer
