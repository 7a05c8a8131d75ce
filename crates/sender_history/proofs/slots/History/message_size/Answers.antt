-- `sender_history::message_size` meets its contract. Assumes nothing.
use Rattle.std.proofs.Common.{◌∙◌}
use native.Mathlib.Nat.{max_comm}
use Rattle.sender_history.proofs.Walk.{stepped-back}
use Rattle.sender_history.proofs.MessageSteps.{sizing-turn, sizings}
use Rattle.sender_history.proofs.slots.History.message_size.Goals as goal

pub loop-init : goal.loop-init
loop-init c = search sizings

pub loop-preserved : goal.loop-preserved
loop-preserved c =
    sizing-turn c.loop.invariant c.requires.0 c.requires.1 c.loop-test.true (stepped-back _ _ c.requires.1 c.loop.auto.at-fits.fits) c.slot_of.ensures
    c.size_in.ensures (c.max-size.ensures ∙ max_comm _ _)

pub returns : goal.returns
returns c = search sizings
