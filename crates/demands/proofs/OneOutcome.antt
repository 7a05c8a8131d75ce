-- Two outcomes of a public call are one: each crate's claim, those that only tell, and those inside. Assumes nothing.
use Prim.Native.Nat.{ℕ}
use mathlib.Core.List.{List}
use Rattle.length.specs.Answers.{Answer}
use Rattle.length.specs.Length.{length_to_write}
use Rattle.length.specs.Promise.{Puts}
use Rattle.datagram.specs.Write.{datagram_to_write}
use Rattle.session_held.specs.Table.{lent_by}
use Rattle.image.specs.Layout.{version_written}
use Rattle.image.specs.Image.{image_to_write}
use Rattle.length.proofs.Claims as lengths
use Rattle.datagram.proofs.Claims as datagrams
use Rattle.packet.proofs.Claims as packets
use Rattle.session_calls.proofs.Claims as sessions
use Rattle.session_calls.proofs.SolverClaims as solver
use Rattle.sender.proofs.Claims as sending
use Rattle.line.proofs.Claims as lines
use Rattle.frame.proofs.Claims as frames
use Rattle.frame_feed.proofs.Claims as frame_feed
use Rattle.trace_replay.proofs.Claims as replays
use Rattle.trace_compare.proofs.Claims as comparisons
use Rattle.packet.specs.Promise.{packet_by}
use Rattle.demands.specs.OneOutcome.OneOutcome.{OneWrite, OneOutcome}
use Rattle.demands.proofs.OneTold.{one_told}
use Rattle.demands.proofs.OneInside.{one_inside}
use Rattle.demands.proofs.ImageCalls.{read_one}

one-write : (w : Answer (List ℕ)) → OneWrite (Puts w)
one-write w old new other r q a b = (lengths.claims).one_outcome.written a b

pub one-outcome : OneOutcome
one-outcome =
    record {
      lengths = (lengths.claims).one_outcome;
      datagrams = (datagrams.claims).one_outcome;
      packets = (packets.claims).one_outcome;
      second_reader = λ octet ending s r q a b. (packets.claims).one_outcome.read a b;
      writers =
          record {
            length = λ n. one-write (length_to_write n);
            datagram = λ number packet kind lengths run. one-write (datagram_to_write number packet kind lengths run);
            packet = λ octet kind value types lengths octets. one-write (packet_by octet kind value types lengths octets);
            image = λ s. one-write (image_to_write version_written (lent_by s));
            image_core = λ session. one-write (image_to_write version_written session);
          };
      receiver = (sessions.claims).one_outcome;
      solver = (solver.claims).one_outcome;
      sender = (sending.claims).one_outcome;
      program = (lines.claims).one_outcome;
      joiner = (frames.claims).one_outcome;
      frame_feed = (frame_feed.claims).one_outcome;
      replay = (replays.claims).one_outcome;
      comparison = (comparisons.claims).one_outcome;
      image_reader = λ text r q. read_one r.session q.session r.answer q.answer;
      told = one_told;
      inside = one_inside;
    }
