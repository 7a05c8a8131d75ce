-- `tbx_core_release_checked` meets its contract. Assumes nothing.
use Rattle.host.proofs.Receiving.{within-hosted, refusing}
use Rattle.host.proofs.receiver.tbx_core_release_checked.Goals as goal

pub tbx_core_release-requires : goal.tbx_core_release-requires
tbx_core_release-requires c = within-hosted c.tbx_core_in_ranges.ensures c.if-tbx_core_in_ranges.true

pub returns : goal.returns
returns c = search refusing
