-- `octets::add_words` meets its contract. The loop's invariant: k words are added, what comes after is as it was. Assumes
-- nothing.
use Rattle.octets.proofs.Turns.{wording-start, wording-turn, wording-done}
use Rattle.octets.proofs.add_words.Goals as goal

pub loop-k-init : goal.loop-k-init
loop-k-init c = search wording-start

pub loop-k-preserved : goal.loop-k-preserved
loop-k-preserved c = search wording-turn

pub returns : goal.returns
returns c = search wording-done
