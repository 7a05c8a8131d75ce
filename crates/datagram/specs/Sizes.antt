-- The sizes of `datagram_sizes` (rules 1.1 to 1.7), exported again for all that use datagrams.
pub use Rattle.datagram_sizes.specs.Sizes.{packet_least, packet_limit, message_least, message_limit, datagram_limit, spares_least, spares_limit}
pub use Rattle.datagram_sizes.specs.Sizes.{covered_least, covered_limit, messages_least, messages_limit, reach_limit}
