-- The claims of this crate, each proved by a law. Assumes nothing.
use Rattle.line.specs.Claims.{Claims}
use Rattle.line.proofs.Cases.{whole-case, cases}
use Rattle.line.proofs.Feeding.{program-fed, fed-append}
use Rattle.line.proofs.HexBack.{written-reads}
use Rattle.line.proofs.ResultBack.{results-read}
use Rattle.line.proofs.ReleaseAll.{releases-all}
use Rattle.line.proofs.InTurn.{in-turn}
use Rattle.line.proofs.OneOutcome.{one-outcome}

pub claims : Claims
claims =
    record {
      whole_case = whole-case;
      cases = cases;
      releases_all = releases-all;
      written_reads = written-reads;
      results_read = results-read;
      cut_anyhow = record { whole = program-fed; cut = fed-append };
      in_turn = in-turn;
      one_outcome = one-outcome;
    }
