-- The claims of this crate, each proved by a law. Two outcomes are equal because the promise gives the whole answer.
-- Assumes nothing.
use mathlib.Core.Path.{sym, ◌∙◌}
use Rattle.packet.specs.Claims.{Claims, OneOutcome}
use Rattle.packet.proofs.RoundTrips.{packet-written-reads, packet-repaired-reads}
use Rattle.packet.proofs.ReadBack.{packet-read-writes}
use Rattle.packet.proofs.Follow.{parts_within, zeros-follow, zeros-alike}
use Rattle.packet.proofs.Fitting.{sound98, sound02}
use Rattle.packet.proofs.Alike.{plain-alike}
use Rattle.packet.proofs.Cases.{read-cases, write-cases, new-read-cases, new-write-cases, table-cases}

pub one-outcome : OneOutcome
one-outcome =
    record { read = λ p t. p.whole ∙ sym t.whole }

pub claims : Claims
claims =
    record {
      sound98 = sound98;
      sound02 = sound02;
      written_reads = packet-written-reads;
      repaired_reads = packet-repaired-reads;
      read_writes = packet-read-writes;
      parts_within = parts_within;
      zeros_follow = zeros-follow;
      zeros_alike = zeros-alike;
      plain_alike = plain-alike;
      one_outcome = one-outcome;
      read_cases = read-cases;
      write_cases = write-cases;
      new_read_cases = new-read-cases;
      new_write_cases = new-write-cases;
      table_cases = table-cases;
    }
