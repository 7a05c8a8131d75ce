-- The claims about the whole library, a field for each: what is proved of it. They are stated of the public calls, by what those promise
-- (rules 28.1 to 28.16). Definitions only.
use Rattle.packet.specs.Claims as packets
use Rattle.sender.specs.Claims as sending
use Rattle.frame.specs.Claims as frames
use Rattle.frame_feed.specs.Claims as frame_feed
use Rattle.trace_replay.specs.Claims as replays
use Rattle.trace_compare.specs.Claims as comparisons
use Rattle.sender_to_modem.specs.Claims as sold_line
use Rattle.host.specs.Claims as host
use Rattle.demands.specs.CallContracts.LibraryContracts.{LibraryContracts}
use Rattle.demands.specs.CallContracts.HostContracts.{HostContracts}
use Rattle.demands.specs.Demand1.Demand1.{Demand1}
use Rattle.demands.specs.Demand1.CutShortExample.{CutShortExample}
use Rattle.demands.specs.Demand2.Demand2.{Demand2}
use Rattle.demands.specs.Demand3.Demand3.{Demand3}
use Rattle.demands.specs.Demand3.Example.{Example}
use Rattle.demands.specs.Demand3.Burst.{Burst}
use Rattle.demands.specs.Demand3.SolvedExample.{SolvedExample}
use Rattle.demands.specs.NotInside.{NotInside}
use Rattle.demands.specs.OneOutcome.OneOutcome.{OneOutcome}
use Rattle.demands.specs.Sheet.{TwelveCases, MendedExample}
use Rattle.demands.specs.Program.{Program}
use Rattle.demands.specs.PromiseCases.{PromiseCases}
use Rattle.demands.specs.Requests.SecondReader.{SecondReader}
use Rattle.demands.specs.Requests.OneCall.{OneCall}
use Rattle.demands.specs.Requests.Handover.{Handover}
use Rattle.demands.specs.Requests.Editions.{Editions}
use Rattle.demands.specs.Requests.Fits.{Fits}
use Rattle.demands.specs.Requests.Losses.{Losses}
use Rattle.demands.specs.Sharp.{Sharp}
use Rattle.demands.specs.RunInstances.{RunInstances}

pub record Claims : Type 0 where
  -- the contract of each public call, in Rattle and in C, is the promise that these theorems are stated of
  pub contracts : LibraryContracts
  pub host_contracts : HostContracts
  -- demand 1: each call refuses exactly what the rules say, and a refused call changes nothing (rules 28.1 and 28.2)
  pub demand1 : Demand1
  -- a worked refusal of solve with 23 (rules 26.18 and 26.35)
  pub cut_short_example : CutShortExample
  -- demand 2: what is written reads back, and what a session knows, releases and counts follows from the calls (rules 28.3 to 28.7)
  pub demand2 : Demand2
  -- demand 3, of an honest sender: more datagrams never leave fewer packets known, each known packet is the sender's, and a burst comes
  -- back (rules 28.8 to 28.10)
  pub demand3 : Demand3
  -- whoever sends only by this library's send, from a fresh session on, is an honest sender as demand 3 requires (rule 15.15)
  pub sends_honest : sending.Chains
  -- demand 3's hypotheses can be met: two lists of datagrams, a burst of two numbers, and a number that only a solve brings back (rules
  -- 14.2 and 28.8 to 28.10)
  pub example : Example
  pub burst : Burst
  pub solved_example : SolvedExample
  -- the datagram calls, offer and send do not read inside a packet (rule 4.22)
  pub not_inside : NotInside
  -- for every input, each call has one outcome (rule 28.14)
  pub one_outcome : OneOutcome
  -- the hypotheses of the theorems on reading and writing can be met: octets for each promise
  pub promise_cases : PromiseCases
  -- the twelve worked cases, as one table (rules 26.1 to 26.12 and 28.16)
  pub twelve_cases : TwelveCases
  -- a packet with packed field headers, and the same fields with each header on an octet of its own (rules 26.16 and 26.34)
  pub mended_example : MendedExample
  -- the program: its whole case, and what it writes for any input, however that is cut into blocks (rules 18.12 and 26.17)
  pub program : Program
  -- whole frames: which frames a joiner returns, and that it is never refused with 17; then frames from what left a session (rules 16.17,
  -- 16.18 and 17.1)
  pub whole_frames : frames.Claims
  pub frames_from_session : frame_feed.Claims
  -- the second packet reader agrees with the packet reader (rule 8.2)
  pub second_reader : SecondReader
  -- a trace replayed with chosen losses (rules 21.1 to 21.6); of what it releases demand 3 is not claimed (rule 21.7)
  pub replay : replays.Claims
  -- release: a number that is known is never lost (rules 12.2 to 12.4)
  pub one_call : OneCall
  -- a session written as an image and read back, and what demands 2 and 3 then say (rules 20.10 to 20.13 and 20.17 to 20.22)
  pub handover : Handover
  -- four conditions of these claims and of demand 3 are needed: without each its claim is false (rules 15.14, 20.11, 20.21 and 20.22)
  pub sharp : Sharp
  -- what the claims about the program and about images require can be met, in characters (rules 18.12, 20.11 and 20.22)
  pub run_instances : RunInstances
  -- images in two versions (rules 20.8 to 20.10), and what fits in a datagram (rule 1.17)
  pub editions : Editions
  pub fits : Fits
  -- a packet without fields and without an added value reads alike in both editions (rule 7.13). What each edition refuses is in demand
  -- 1, and what reads back in demand 2
  pub both_editions : packets.PlainAlike
  -- two traces compared: what is listed of each number, when nothing is listed, both traces exchanged, and each refusal (rules 22.1 to
  -- 22.18)
  pub comparison : comparisons.Claims
  -- solving: losses that no single message mends (rules 14.2, 14.6, 14.9 and 28.11)
  pub losses : Losses
  -- what k spares buy on a line that loses datagrams (rules 23.3 to 23.8)
  pub line_sold : sold_line.Claims
  -- the calls for C programs, over the caller's memory (rules 24.11, 24.12 and 28.14)
  pub host_calls : host.Claims
