-- `tbx_core_release` meets its contract. Assumes nothing.
use Rattle.std.proofs.Common.{rules}
use Rattle.host.proofs.Receiving.{release-hosted}
use Rattle.host.proofs.receiver.tbx_core_release.Goals as goal

pub returns : goal.returns
returns c =
    rw c.new.ensures
    (release-hosted (search rules) (rw c.counts-counts.ensures at c.release_core-done.ensures) c.number_told.ensures)
