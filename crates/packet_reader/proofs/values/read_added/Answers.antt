-- `packet_reader::read_added` meets its contract. Each answer is a law of `ReadValues`: the tests that led there are those
-- of `added_at`, in its order. Assumes nothing.
use Rattle.packet_reader.proofs.ReadValues.{values, added_none, added-one}
use Rattle.packet_reader.proofs.values.read_added.Goals as goal
use Rattle.packet_reader.proofs.values.read_added.Goals.{then-e-lt1-via-then-e-lt1, then-e-lt1-via-else-e-lt1+then-bit}

pub returns-then-e-lt1 : goal.returns-then-e-lt1
returns-then-e-lt1 c =
    elim c.then-e-lt1.branch [
      | then-e-lt1-via-then-e-lt1 w ↦ added_none c.at.ensures w.if-e-lt1.true
      | then-e-lt1-via-else-e-lt1+then-bit w ↦ added-one w.if-e-lt1.false w.bit.ensures c.at.ensures w.if-bit.true
    ]

pub returns-then-all-next : goal.returns-then-all-next
returns-then-all-next c = search values

pub returns-then-index-e : goal.returns-then-index-e
returns-then-index-e c = search values

pub returns-else-index-e : goal.returns-else-index-e
returns-else-index-e c = search values
