-- `length_code::read_within` meets its contract: the length reader's answer, then the test, give each answer. Assumes nothing.
use Rattle.std.proofs.Common.{rules}
use Rattle.length_code.proofs.ReaderSteps.{withins}
use Rattle.length_code.proofs.reader.read_within.Goals as goal

pub returns-in_err-found : goal.returns-in_err-found
returns-in_err-found c = search (rules, withins)

pub returns-then-within : goal.returns-then-within
returns-then-within c = search (rules, withins)

pub returns : goal.returns
returns c = search (rules, withins)
