-- `octets::add_words` meets its contract. The loop's invariant: k words are added, what comes after is as it was. Assumes
-- nothing.
use Rattle.octets.proofs.Turns.{Wording}
use Rattle.octets.proofs.add_words.Given as goal

abbrev pub invariant-loop-k : goal.invariant-loop-k
invariant-loop-k l = Wording l.src l.initial.sum l.sum l.k
