-- The laws of the packet reader that others use; each is proved in the file that it is passed on from. Assumes nothing.

-- ---- fields in the places that there are
pub use Rattle.packet_reader.proofs.FieldsTurn.{set-padded}
-- ---- an octet that names no edition
pub use Rattle.packet_reader.proofs.ReadPacket.{packet-other}
