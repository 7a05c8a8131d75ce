-- `image_reader::read` meets its contract: the version that the text names gives each answer. Assumes nothing.
use Rattle.std.proofs.Common.{rules}
use Rattle.image_reader.proofs.Restoring.{readings}
use Rattle.image_reader.proofs.read.Goals as goal

pub returns-in-None : goal.returns-in-None
returns-in-None c = search (readings, rules)

pub returns-in-Some-eq1 : goal.returns-in-Some-eq1
returns-in-Some-eq1 c = search (readings, rules)

pub returns-in-Some-eq2 : goal.returns-in-Some-eq2
returns-in-Some-eq2 c = search (readings, rules)

pub returns-in-Some : goal.returns-in-Some
returns-in-Some c = search (readings, rules)
