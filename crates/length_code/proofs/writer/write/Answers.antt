-- `length_code::write` meets its contract. Assumes nothing.
use Rattle.length_code.proofs.WriterSteps.{writings}
use Rattle.length_code.proofs.writer.write.Goals as goal

pub returns-then-n-gt-LIMIT : goal.returns-then-n-gt-LIMIT
returns-then-n-gt-LIMIT c = search writings

pub returns-then-out-lt1 : goal.returns-then-out-lt1
returns-then-out-lt1 c = search writings

pub returns-then-n-lt-TWO_FROM : goal.returns-then-n-lt-TWO_FROM
returns-then-n-lt-TWO_FROM c = search writings

pub returns-then-out-lt2 : goal.returns-then-out-lt2
returns-then-out-lt2 c = search writings

pub returns : goal.returns
returns c = search writings
