-- The sizes of packets, datagrams, spares and messages (rules 1.1 to 1.7), each written once (rule 1.18). Definitions only.
use Rattle.std.specs.Prelude.{ℕ, ◌*◌}

-- the octets of a packet: from packet_least to packet_limit (rule 1.1)
abbrev pub packet_least : ℕ
packet_least = 1

abbrev pub packet_limit : ℕ
packet_limit = 256

-- the octets of a message: from message_least to message_limit (rule 1.7)
abbrev pub message_least : ℕ
message_least = 0

abbrev pub message_limit : ℕ
message_limit = packet_limit

-- the octets of a datagram: at most datagram_limit (rule 1.2)
abbrev pub datagram_limit : ℕ
datagram_limit = 2400

-- the spares of a datagram: from spares_least to spares_limit (rule 1.3)
abbrev pub spares_least : ℕ
spares_least = 0

abbrev pub spares_limit : ℕ
spares_limit = 8

-- n, the packets that a message covers: from covered_least to covered_limit (rule 1.5)
abbrev pub covered_least : ℕ
covered_least = 1

abbrev pub covered_limit : ℕ
covered_limit = 8

-- m, the messages of a datagram: from messages_least to messages_limit (rule 1.4)
abbrev pub messages_least : ℕ
messages_least = 1

abbrev pub messages_limit : ℕ
messages_limit = 4

-- n·m, how many numbers back the messages of a datagram reach (rule 1.6)
abbrev pub reach_limit : ℕ
reach_limit = covered_limit * messages_limit
