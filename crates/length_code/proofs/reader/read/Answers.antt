-- `length_code::read` meets its contract. Assumes nothing.
use Rattle.length_code.proofs.ReaderSteps.{readings}
use Rattle.length_code.proofs.reader.read.Goals as goal

pub returns-then-octets-lt1 : goal.returns-then-octets-lt1
returns-then-octets-lt1 c = search readings

pub returns-then-first-lt-TWO_FROM : goal.returns-then-first-lt-TWO_FROM
returns-then-first-lt-TWO_FROM c = search readings

pub returns-then-first-ge192 : goal.returns-then-first-ge192
returns-then-first-ge192 c = search readings

pub returns-then-octets-lt2 : goal.returns-then-octets-lt2
returns-then-octets-lt2 c = search readings

pub returns-then-value-lt-TWO_FROM : goal.returns-then-value-lt-TWO_FROM
returns-then-value-lt-TWO_FROM c = search readings

pub returns : goal.returns
returns c = search readings
