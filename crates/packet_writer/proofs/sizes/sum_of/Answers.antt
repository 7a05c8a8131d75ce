-- `packet_writer::sum_of` meets its contract: the library's sum is the definition's. Assumes nothing.
use Rattle.std.proofs.Common.{◌≡◌, ◌∙◌, sum, rules}
use Rattle.packet_writer.proofs.Sizing.{sum-lengths}
use Rattle.packet_writer.proofs.sizes.sum_of.Goals as goal

pub returns : goal.returns
returns c =
    let all : c.sum.result ≡ sum c.args.lengths.now = search rules in
    all ∙ sum-lengths c.args.lengths.now
