-- The cases, each computed. Assumes nothing.
use mathlib.Core.Path.{refl}
use Rattle.packet.specs.Promise.{padded_fields}
use Rattle.host_answers.specs.Cases.{Cases}

pub cases : Cases
unfolding padded_fields
cases =
    record {
      accepted = refl;
      not-accepted = refl;
      kinds = refl;
      stays = refl;
      wrote = refl;
      unwritten = refl;
      frames = refl;
      flags = refl;
      no-joiner = refl;
      told-kinds = refl;
      named-kinds = refl;
      endings = refl;
      packet = refl;
      no-packet = refl;
      parity = refl;
      spares = refl;
    }
