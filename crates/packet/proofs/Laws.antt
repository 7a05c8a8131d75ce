-- The laws of packets that others use; each is proved in the file that it is passed on from. Assumes nothing.

-- ---- both editions' values can be told apart
pub use Rattle.packet.proofs.Fitting.{sound98, sound02}
-- ---- fields that lie inside the octets, one more
pub use Rattle.packet.proofs.Inside.{parts-cons}
-- ---- a packet that is written by an edition, as the description says
pub use Rattle.packet.proofs.Written.{each-sum, each-length, WriteForm, write-form}
-- ---- whole octets go on from the next octet edge
pub use Rattle.packet.proofs.Fitting.{edge-wide}
