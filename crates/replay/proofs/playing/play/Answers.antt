-- `replay::playing::play` is safe and ends: between two blocks a line may come. Assumes nothing.
use Rattle.std.proofs.Common.{ℕ, sym, rules}
use lib.ListN.{length-replicate}
use Rattle.replay.proofs.Turning.{between_start, between-on}
use Rattle.replay.proofs.playing.play.Goals as goal

pub loop-init : goal.loop-init
loop-init c = between_start c.requires (sym (length-replicate {A = ℕ} _ 0)) (sym (length-replicate {A = ℕ} _ 0))

pub take_block-next-requires : goal.take_block-next-requires
take_block-next-requires c = c.loop.invariant.ready

pub loop-preserved : goal.loop-preserved
loop-preserved c = between-on c.loop.invariant (search rules) c.take_block-next.ensures

pub finish-requires : goal.finish-requires
finish-requires c = c.loop.invariant.ready
