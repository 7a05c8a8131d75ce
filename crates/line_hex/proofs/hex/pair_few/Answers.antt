-- `line_hex::pair_few` meets its contract: the octets so far stand at the front, one more each turn. Assumes nothing.
use Rattle.std.proofs.Common.{◌+◌, ◌-◌, ◌*◌, arith, rules}
use Rattle.line_hex.proofs.HexSteps.{paired-start, paired-turn, paired-done, digit-small}
use Rattle.line_hex.proofs.hex.pair_few.Goals as goal

pub loop-i-init : goal.loop-i-init
loop-i-init c = search paired-start

pub value-high-requires : goal.value-high-requires
value-high-requires c = digit-small c.args.line.now (2 * c.loop-i.i) c.requires.line_value (omega (arith, c.loop-i-test.true))

pub value-low-requires : goal.value-low-requires
value-low-requires c = digit-small c.args.line.now (2 * c.loop-i.i + 1) c.requires.line_value (omega (arith, c.loop-i-test.true))

pub loop-i-preserved : goal.loop-i-preserved
loop-i-preserved c = search (paired-turn, rules)

pub returns : goal.returns
returns c = search paired-done
