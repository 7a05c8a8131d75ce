-- The claims of this crate, each proved by a law. Assumes nothing.
use mathlib.Core.Path.{refl, sym, ◌∙◌}
use Rattle.length.specs.Length.{length_at, allowed, length_within}
use Rattle.datagram.specs.Read.{octet_at, item_at, items_at, end_of, spares_at, parity_at, extra_at, number_of, whole_of, read_datagram}
use Rattle.datagram.specs.Claims.{OneOutcome, Cases, Claims}
use Rattle.datagram.proofs.ReadLaws.{accepted-inside}
use Rattle.datagram.proofs.ReadBack.{written_back}
use Rattle.datagram.proofs.WriteBack.{read_back}

one-outcome : OneOutcome
one-outcome =
    record { read = λ p q. p.whole ∙ sym q.whole }

cases : Cases
unfolding read_datagram number_of whole_of extra_at spares_at parity_at items_at item_at length_within octet_at allowed end_of length_at
cases =
    record {
      last-c0 = refl;
      last-80 = refl;
      low-bits = refl;
      left_over_case = refl;
    }

pub claims : Claims
claims =
    record {
      written_reads = written_back;
      read_writes = read_back;
      accepted_inside = λ s r d reads is. accepted-inside reads is;
      one_outcome = one-outcome;
      cases = cases;
    }
