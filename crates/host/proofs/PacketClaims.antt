-- Two outcomes of the host's calls on packets are equal: from the promises. Assumes nothing.
use mathlib.Core.Path.{sym, ◌∙◌}
use Rattle.host.specs.PacketClaims.{OnePacket}

pub one-packet : OnePacket
one-packet =
    record {
      read = λ a b. a.answer ∙ sym b.answer;
      write = λ a b. (a.answer ∙ sym b.answer, a.lent ∙ sym b.lent);
    }
