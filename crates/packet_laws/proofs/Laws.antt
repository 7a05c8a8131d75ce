-- The laws of a packet octet by octet that others use; each is proved in the file that it is passed on from. Assumes nothing.

-- ---- loops over each element
pub use Rattle.packet_laws.proofs.Every.{all-every, drop-next, EveryLeft, evers, Summing, sum-next, sums, Passing, passes}
pub use Rattle.packet_laws.proofs.Rest.{rest, rest-is}
-- ---- both editions
pub use Rattle.packet_laws.proofs.Editions.{narrow}
-- ---- a packet that is read, in any edition, octet by octet
pub use Rattle.packet_laws.proofs.AtValue.{bit_past}
pub use Rattle.packet_laws.proofs.AtOnce.{parted-at, plain_at}
pub use Rattle.packet_laws.proofs.ReadLaws.{value-ends, first_ends, header-ends, size-form, edge-inside}
pub use Rattle.packet_laws.proofs.ReadEnds.{read-outcome, field-inside, fields-inside, count-limit, count-within}
-- ---- what the description reads is that
pub use Rattle.packet_laws.proofs.AtFirst.{start-at}
pub use Rattle.packet_laws.proofs.AtOctets.{header-at}
pub use Rattle.packet_laws.proofs.ReadAt.{read_at}
-- ---- a packet that is written by an edition, octet by octet
pub use Rattle.packet_laws.proofs.ValueLaid.{flag_small, value-few, value-small, lead-small, lead-waits}
pub use Rattle.packet_laws.proofs.FieldLaid.{flag-waits, header-waits, after-waits}
pub use Rattle.packet_laws.proofs.Laid.{type-known}
pub use Rattle.packet_laws.proofs.WriteLaws.{packet-size, field-bare, after-bare, field-full, after-full, packet-bare}
pub use Rattle.packet_laws.proofs.WriteLaws.{packet-full, write-laid}
