-- Each size as the rules give it, as a number. Definitions only.
use Rattle.std.specs.Prelude.{◌≡◌}
use Rattle.datagram_sizes.specs.Sizes.{packet_least, packet_limit, message_least, message_limit, datagram_limit}
use Rattle.datagram_sizes.specs.Sizes.{spares_least, spares_limit, covered_least, covered_limit, messages_least, messages_limit, reach_limit}

pub record Cases : Type 0 where
  -- rule 1.1
  pub packet-least : packet_least ≡ 1
  pub packet-most : packet_limit ≡ 256
  -- rule 1.2
  pub datagram-most : datagram_limit ≡ 2400
  -- rule 1.3
  pub spares-least : spares_least ≡ 0
  pub spares-most : spares_limit ≡ 8
  -- rule 1.4: m
  pub messages-least : messages_least ≡ 1
  pub messages-most : messages_limit ≡ 4
  -- rule 1.5: n
  pub covered-least : covered_least ≡ 1
  pub covered-most : covered_limit ≡ 8
  -- rule 1.6
  pub reach-most : reach_limit ≡ 32
  -- rule 1.7
  pub message-least : message_least ≡ 0
  pub message-most : message_limit ≡ 256
