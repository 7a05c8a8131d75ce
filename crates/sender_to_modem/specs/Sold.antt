-- What is sold, for customers who ask what k spares buy. The line is that of rule 23.1, and the receiver is drained after each arrival
-- (rule 23.2). Then every packet is released once, in order, octet for octet (rule 23.3), none is lost (rule 23.4), after each arrival
-- nothing that was sent up to it is still waiting (rule 23.5), and the two sides' totals agree (rule 23.6). Statements only.
use Rattle.std.specs.Prelude.{ℕ, ◌+◌, ◌%◌, ◌≤◌, ◌<◌, ◌≡◌, true, length, take, Ok}
use mathlib.Core.List.{List, map, Memᴰ as Among}
use Rattle.octets.specs.Place.{tab}
use Rattle.datagram.specs.Sizes.{spares_limit, datagram_limit}
use Rattle.session.specs.Cells.{kept_before, kept_numbers}
use Rattle.session.specs.Reached.{Unknown}
use Rattle.session.specs.View.{numbers, session_limit}
use Rattle.session_held.specs.Table.{view_of}
use Rattle.sender.specs.Send.{packet_inside}
use Rattle.sender.specs.Promise.{Sends}
use Rattle.sender.specs.declared.Sent.{Sent}
use Rattle.sender.specs.declared.Settings.TheVariants as settings
use Rattle.sender_to_modem.specs.Marks.{NeverMoreInARow, LastArrives, how_many_arrive, how_many_lost, kind_by}
use Rattle.sender_to_modem.specs.Transfer.{Delivered, AfterArrival, Transfer, Ran}

-- after each arrival nothing that was sent up to it is still waiting (rule 23.5)
pub record NothingWaits (packets : List (List ℕ)) (a : AfterArrival) : Type 0 where
  -- its datagram was accepted
  pub accepted : a.answer ≡ Ok tt
  -- the modem has all that was sent up to it
  pub sent_by_then : a.sent ≤ length packets
  pub released : map (λ (d : Delivered). d.octets) a.modem ≡ take a.sent packets
  -- the base is one past it, and from there on nothing is known
  pub base : (view_of a.receiver).base ≡ a.sent % numbers
  pub none_known : (p : ℕ) → kept_before ≤ p → p < kept_numbers → Unknown (view_of a.receiver).cells p

-- what is promised of a transfer
pub record Sold (x : Transfer) : Type 0 where
  -- every packet is released once, octet for octet: the modem has the packets that were sent, in order, with their numbers (rule 23.3)
  pub octets : map (λ (d : Delivered). d.octets) x.modem ≡ x.packets
  pub in_order : map (λ (d : Delivered). d.number) x.modem ≡ tab (length x.packets) (λ j. j % numbers)
  -- each as received where its datagram arrived, and from a spare where that was lost (rule 23.7)
  pub kinds : map (λ (d : Delivered). d.kind) x.modem ≡ map kind_by x.line
  -- none is lost, and none is repaired (rule 23.4)
  pub none_lost : (view_of x.receiver).counts.lost ≡ 0
  pub none_repaired : (view_of x.receiver).counts.repaired ≡ 0
  -- the totals agree: what was sent, and what was released as received and as spare (rule 23.6)
  pub received : (view_of x.receiver).counts.received ≡ how_many_arrive x.line
  pub spare : (view_of x.receiver).counts.spare ≡ how_many_lost x.line
  pub sent : x.sender.sent ≡ length x.packets
  pub totals : (view_of x.receiver).counts.received + (view_of x.receiver).counts.spare ≡ x.sender.sent
  -- after each arrival nothing that was sent up to it is still waiting (rule 23.5); and there are as many arrivals as the line has
  pub each : (a : AfterArrival) → Among a x.arrivals → NothingWaits x.packets a
  pub all : length x.arrivals ≡ how_many_arrive x.line

pub record LineSold : Type 0 where
  -- for k from 1 to 8, on a line that never loses more than k in a row and whose last datagram arrives (rule 23.1)
  pub sold : (k : ℕ) → 1 ≤ k → k ≤ spares_limit → (x : Transfer) → Ran k x → NeverMoreInARow k x.line
      → LastArrives x.line
      → Sold x
  -- at least one packet, since the last one arrives, and at most 1,000,000, since send takes no more (rules 15.10 and 23.1)
  pub least : (k : ℕ) (x : Transfer) → Ran k x → LastArrives x.line → 1 ≤ length x.packets
  pub most : (k : ℕ) (x : Transfer) → Ran k x → length x.packets ≤ session_limit
  -- up to that limit send takes every packet within the sizes, with a buffer large enough for any datagram, whatever the line loses
  pub takes : (k : ℕ) → k ≤ spares_limit → (x : Transfer) → Ran k x → length x.packets < session_limit
      → {packet old new : List ℕ} {r : Sent} → packet_inside packet ≡ true → datagram_limit ≤ length old
      → Sends x.sender (settings.Spares k) packet old new r
      → (n : ℕ) × (r.answer ≡ Ok n)
