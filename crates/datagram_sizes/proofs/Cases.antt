-- The sizes, each computed. Assumes nothing.
use mathlib.Core.Path.{refl}
use Rattle.datagram_sizes.specs.Cases.{Cases}

pub cases : Cases
cases =
    record {
      packet-least = refl;
      packet-most = refl;
      datagram-most = refl;
      spares-least = refl;
      spares-most = refl;
      messages-least = refl;
      messages-most = refl;
      covered-least = refl;
      covered-most = refl;
      reach-most = refl;
      message-least = refl;
      message-most = refl;
    }
