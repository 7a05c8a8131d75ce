-- `sender_history::message_sum` meets its contract. Assumes nothing.
use Rattle.sender_history.proofs.Walk.{stepped-back}
use Rattle.sender_history.proofs.MessageSteps.{summing-turn, summings}
use Rattle.sender_history.proofs.slots.History.message_sum.Goals as goal

pub loop-init : goal.loop-init
loop-init c = search summings

pub loop-preserved : goal.loop-preserved
loop-preserved c =
    summing-turn c.loop.invariant c.requires.size_le_packet_limit c.requires.octets_len.1 c.loop-test.true
    (stepped-back _ _ c.requires.octets_len.1 c.loop.auto.member-fits.fits) c.slot_of.ensures c.add.ensures

pub returns : goal.returns
returns c = search summings
