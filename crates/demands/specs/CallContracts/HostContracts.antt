-- The contract of each call for C programs is the promise that the claims of `host` are stated of, as LibraryContracts says it of the
-- library's own calls. Statements only.
use Rattle.session_held.specs.Promise.{Fresh}
use Rattle.sender.specs.Promise.{SenderMade}
use Rattle.host.specs.Receiver.{session_in, RangesHosted, OfferHosted, ReleaseHosted}
use Rattle.host.specs.Solver.{SolveHosted}
use Rattle.host.specs.Sender.{sender_in, SenderRanges, SendHosted}
use Rattle.host.specs.Joiner.{memory_of, JoinerMade, FieldHosted, LossHosted}
use Rattle.host.specs.Packet.{PacketHosted, WriteHosted}
use Rattle.host.specs.Image.{ImageHosted, RestoreHosted}
use Rattle.host.proofs.tbx_core_fresh.Reads as fresh
use Rattle.host.proofs.tbx_core_in_ranges.Reads as in_ranges
use Rattle.host.proofs.tbx_core_offer.Reads as offer
use Rattle.host.proofs.tbx_core_offer_checked.Reads as offer_checked
use Rattle.host.proofs.tbx_core_release.Reads as release
use Rattle.host.proofs.tbx_core_release_checked.Reads as release_checked
use Rattle.host.proofs.tbx_core_solve.Reads as solve
use Rattle.host.proofs.tbx_core_solve_checked.Reads as solve_checked
use Rattle.host.proofs.tbx_core_sender_fresh.Reads as sender_fresh
use Rattle.host.proofs.tbx_core_sender_in_ranges.Reads as sender_in_ranges
use Rattle.host.proofs.tbx_core_send.Reads as send
use Rattle.host.proofs.tbx_core_send_checked.Reads as send_checked
use Rattle.host.proofs.tbx_core_joiner_fresh.Reads as joiner_fresh
use Rattle.host.proofs.tbx_core_joiner_field.Reads as joiner_field
use Rattle.host.proofs.tbx_core_joiner_lost.Reads as joiner_lost
use Rattle.host.proofs.tbx_core_packet_read.Reads as packet_read
use Rattle.host.proofs.tbx_core_packet_write.Reads as packet_write
use Rattle.host.proofs.tbx_core_image_write.Reads as image_write
use Rattle.host.proofs.tbx_core_image_read.Reads as image_read

pub record HostContracts : Type 0 where
  pub fresh : (κs table octets messages r t o g : _)
      → fresh.Learnt κs (table, (octets, (messages, tt))) r (t, (o, (g, tt)))
      → Fresh (session_in r t.now o.now g.now)
  pub in_ranges : (κs head table octets messages r end : _)
      → in_ranges.Learnt κs (head, (table, (octets, (messages, tt)))) r end
      → RangesHosted head table.now octets.now messages.now r
  pub offer : (κs head table octets messages datagram r a t o g b : _)
      → offer.Learnt κs (head, (table, (octets, (messages, (datagram, tt))))) r (a, (t, (o, (g, (b, tt)))))
      → OfferHosted datagram.now head table.now octets.now messages.now t.now o.now g.now r
  pub offer_checked : (κs head table octets messages datagram r a t o g b : _)
      → offer_checked.Learnt κs (head, (table, (octets, (messages, (datagram, tt))))) r (a, (t, (o, (g, (b, tt)))))
      → OfferHosted datagram.now head table.now octets.now messages.now t.now o.now g.now r
  pub release : (κs head table octets messages leave out r a t o g b new : _)
      → release.Learnt κs (head, (table, (octets, (messages, (leave, (out, tt)))))) r (a, (t, (o, (g, (b, (new, tt))))))
      → ReleaseHosted leave head table.now octets.now messages.now out.now t.now o.now g.now new.now r
  pub release_checked : (κs head table octets messages leave out r a t o g b new : _)
      → release_checked.Learnt κs (head, (table, (octets, (messages, (leave, (out, tt)))))) r (a, (t, (o, (g, (b, (new, tt))))))
      → ReleaseHosted leave head table.now octets.now messages.now out.now t.now o.now g.now new.now r
  pub solve : (κs head table octets messages r a t o b : _)
      → solve.Learnt κs (head, (table, (octets, (messages, tt)))) r (a, (t, (o, (b, tt))))
      → SolveHosted head table.now octets.now messages.now t.now o.now r
  pub solve_checked : (κs head table octets messages r a t o b : _)
      → solve_checked.Learnt κs (head, (table, (octets, (messages, tt)))) r (a, (t, (o, (b, tt))))
      → SolveHosted head table.now octets.now messages.now t.now o.now r
  pub sender_fresh : (κs sizes octets r n o : _)
      → sender_fresh.Learnt κs (sizes, (octets, tt)) r (n, (o, tt))
      → SenderMade (sender_in r n.now o.now)
  pub sender_in_ranges : (κs sent sizes octets r end : _)
      → sender_in_ranges.Learnt κs (sent, (sizes, (octets, tt))) r end
      → SenderRanges sent sizes.now octets.now r
  pub send : (κs sent sizes octets packet parity count n out r a ns o b c d e new : _)
      → send.Learnt κs (sent, (sizes, (octets, (packet, (parity, (count, (n, (out, tt)))))))) r
      (a, (ns, (o, (b, (c, (d, (e, (new, tt))))))))
      → SendHosted parity count n packet.now sent sizes.now octets.now out.now ns.now o.now new.now r
  pub send_checked : (κs sent sizes octets packet parity count n out r a ns o b c d e new : _)
      → send_checked.Learnt κs (sent, (sizes, (octets, (packet, (parity, (count, (n, (out, tt)))))))) r
      (a, (ns, (o, (b, (c, (d, (e, (new, tt))))))))
      → SendHosted parity count n packet.now sent sizes.now octets.now out.now ns.now o.now new.now r
  pub joiner_fresh : (κs frame r f : _)
      → joiner_fresh.Learnt κs (frame, tt) r (f, tt)
      → JoinerMade f.now r
  pub joiner_field : (κs tainted size frame type octets out r a b f c d new : _)
      → joiner_field.Learnt κs (tainted, (size, (frame, (type, (octets, (out, tt)))))) r (a, (b, (f, (c, (d, (new, tt))))))
      → FieldHosted type octets.now (memory_of tainted size frame.now) out.now f.now new.now r
  pub joiner_lost : (κs tainted size frame r a b f : _)
      → joiner_lost.Learnt κs (tainted, (size, (frame, tt))) r (a, (b, (f, tt)))
      → LossHosted (memory_of tainted size frame.now) f.now r
  pub packet_read : (κs octets edition repaired r end : _)
      → packet_read.Learnt κs (octets, (edition, (repaired, tt))) r end
      → PacketHosted edition repaired octets.now r
  pub packet_write : (κs edition kind value types lengths octets out r a b c d e h new : _)
      → packet_write.Learnt κs (edition, (kind, (value, (types, (lengths, (octets, (out, tt))))))) r
      (a, (b, (c, (d, (e, (h, (new, tt)))))))
      → WriteHosted edition kind value types.now lengths.now octets.now out.now new.now r
  pub image_write : (κs head table octets messages out r a b c d new : _)
      → image_write.Learnt κs (head, (table, (octets, (messages, (out, tt))))) r (a, (b, (c, (d, (new, tt)))))
      → ImageHosted head table.now octets.now messages.now out.now new.now r
  pub image_read : (κs head table octets messages text r a t o g b : _)
      → image_read.Learnt κs (head, (table, (octets, (messages, (text, tt))))) r (a, (t, (o, (g, (b, tt)))))
      → RestoreHosted text.now head table.now octets.now messages.now t.now o.now g.now r
