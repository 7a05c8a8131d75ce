-- The contract of each public call of the library is the promise that the theorems are stated of. `Learnt` is what the toolchain makes of
-- a contract's `ensures` for a caller: a claim about the arguments, the result r, and the arguments after the call. A contract that says
-- less than the promise is refused here. Statements only.
use Rattle.length.specs.Length.{length_to_write}
use Rattle.length.specs.Promise.{LengthRead, WithinRead, Puts}
use Rattle.datagram.specs.Promise.{DatagramReads}
use Rattle.datagram_writer.specs.Promise.{DatagramWritten}
use Rattle.packet.specs.Promise.{ReadBy, PacketWritten}
use Rattle.session_held.specs.Promise.{Fresh}
use Rattle.session_held.specs.Table.{state_of}
use Rattle.session_calls.specs.Receiver.{OfferOwes, ReleaseOwes}
use Rattle.session_calls.specs.Solver.{SolveOwes}
use Rattle.sender.specs.Promise.{SenderMade, RangesTold, Sends}
use Rattle.frame.specs.Promise.{FreshMade, FieldOwes, LossOwes}
use Rattle.frame_feed.specs.Promise.{TurnsTold, FeedOwes}
use Rattle.line.specs.Hex.{line_octets}
use Rattle.image.specs.Promise.{ImageWritten, ImageRead}
use Rattle.trace_replay.specs.Promise.{Replays}
use Rattle.trace_compare.specs.Promise.{Compares}
use Rattle.length_code.proofs.read.Reads as read_length
use Rattle.length_code.proofs.read_within.Reads as read_within
use Rattle.length_code.proofs.write.Reads as write_length
use Rattle.datagram_reader.proofs.read.Reads as read_datagram
use Rattle.datagram_writer.proofs.write.Reads as write_datagram
use Rattle.packet_reader.proofs.read.Reads as read_packet
use Rattle.packet_pencil.proofs.read.Reads as second_read
use Rattle.packet_writer.proofs.write.Reads as write_packet
use Rattle.session_held.proofs.Session.fresh.Reads as fresh_session
use Rattle.session_calls.proofs.offer.Reads as offer
use Rattle.session_calls.proofs.release.Reads as release
use Rattle.session_calls.proofs.solve.Reads as solve
use Rattle.sender.proofs.Sender.fresh.Reads as fresh_sender
use Rattle.sender_calls.proofs.in_ranges.Reads as sender_in_ranges
use Rattle.sender_calls.proofs.send.Reads as send
use Rattle.frame.proofs.Joiner.fresh.Reads as fresh_joiner
use Rattle.frame_joiner.proofs.field.Reads as field
use Rattle.frame_joiner.proofs.lost.Reads as lost
use Rattle.frame_feed.proofs.turns.Reads as turns
use Rattle.frame_feed.proofs.feed.Reads as feed
use Rattle.image_writer.proofs.write.Reads as write_image
use Rattle.image_reader.proofs.read.Reads as read_image
use Rattle.trace_replay_code.proofs.replay.Reads as replay
use Rattle.trace_compare_code.proofs.compare.Reads as compare
use Rattle.line_hex.proofs.hex_to_octets.Reads as hex_to_octets

pub record LibraryContracts : Type 0 where
  pub read_length : (κs octets r end : _)
      → read_length.Learnt κs (octets, tt) r end
      → LengthRead octets.now r
  pub read_within : (κs octets least most r end : _)
      → read_within.Learnt κs (octets, (least, (most, tt))) r end
      → WithinRead least most octets.now r
  pub write_length : (κs n out r a new : _)
      → write_length.Learnt κs (n, (out, tt)) r (a, (new, tt))
      → Puts (length_to_write n) out.now new.now r
  pub read_datagram : (κs octets r end : _)
      → read_datagram.Learnt κs (octets, tt) r end
      → DatagramReads octets.now r
  pub write_datagram : (κs number packet kind lengths run out r a b c d e new : _)
      → write_datagram.Learnt κs (number, (packet, (kind, (lengths, (run, (out, tt)))))) r (a, (b, (c, (d, (e, (new, tt))))))
      → DatagramWritten number packet.now kind lengths.now run.now out.now new.now r
  pub read_packet : (κs edition octets ending r end : _)
      → read_packet.Learnt κs (edition, (octets, (ending, tt))) r end
      → ReadBy edition ending octets.now r
  pub second_read : (κs edition octets ending r end : _)
      → second_read.Learnt κs (edition, (octets, (ending, tt))) r end
      → ReadBy edition ending octets.now r
  pub write_packet : (κs edition kind value types lengths octets out r a b c d e h new : _)
      → write_packet.Learnt κs (edition, (kind, (value, (types, (lengths, (octets, (out, tt))))))) r
      (a, (b, (c, (d, (e, (h, (new, tt)))))))
      → PacketWritten edition kind value types.now lengths.now octets.now out.now new.now r
  pub fresh_session : (κs r end : _)
      → fresh_session.Learnt κs tt r end
      → Fresh r
  pub offer : (κs s datagram r end : _)
      → offer.Learnt κs (s, (datagram, tt)) r end
      → OfferOwes s datagram.now r
  pub release : (κs s leave out r a b new : _)
      → release.Learnt κs (s, (leave, (out, tt))) r (a, (b, (new, tt)))
      → ReleaseOwes s leave out.now new.now r
  pub solve : (κs s r end : _)
      → solve.Learnt κs (s, tt) r end
      → SolveOwes s r
  pub fresh_sender : (κs r end : _)
      → fresh_sender.Learnt κs tt r end
      → SenderMade r
  pub sender_in_ranges : (κs s r end : _)
      → sender_in_ranges.Learnt κs (s, tt) r end
      → RangesTold s r
  pub send : (κs s packet settings out r a b c new : _)
      → send.Learnt κs (s, (packet, (settings, (out, tt)))) r (a, (b, (c, (new, tt))))
      → Sends s settings packet.now out.now new.now r
  pub fresh_joiner : (κs r end : _)
      → fresh_joiner.Learnt κs tt r end
      → FreshMade r
  pub field : (κs j type octets out r a b c new : _)
      → field.Learnt κs (j, (type, (octets, (out, tt)))) r (a, (b, (c, (new, tt))))
      → FieldOwes j type octets.now out.now new.now r
  pub lost : (κs j r end : _)
      → lost.Learnt κs (j, tt) r end
      → LossOwes j r
  pub turns : (κs edition kind packet r end : _)
      → turns.Learnt κs (edition, (kind, (packet, tt))) r end
      → TurnsTold edition (state_of kind) packet.now r
  pub feed : (κs j edition kind packet turn out r a b c d e new : _)
      → feed.Learnt κs (j, (edition, (kind, (packet, (turn, (out, tt)))))) r (a, (b, (c, (d, (e, (new, tt))))))
      → FeedOwes j edition (state_of kind) packet.now turn out.now new.now r
  pub write_image : (κs s out r a new : _)
      → write_image.Learnt κs (s, (out, tt)) r (a, (new, tt))
      → ImageWritten s out.now new.now r
  pub read_image : (κs text r end : _)
      → read_image.Learnt κs (text, tt) r end
      → ImageRead text.now r
  pub replay : (κs trace numbers out r a b new : _)
      → replay.Learnt κs (trace, (numbers, (out, tt))) r (a, (b, (new, tt)))
      → Replays trace.now numbers.now out.now new.now r
  pub compare : (κs one two list r a b new : _)
      → compare.Learnt κs (one, (two, (list, tt))) r (a, (b, (new, tt)))
      → Compares one.now two.now list.now new.now r
  pub hex_to_octets : (κs line out r a new : _)
      → hex_to_octets.Learnt κs (line, (out, tt)) r (a, (new, tt))
      → Puts (line_octets line.now) out.now new.now r
