-- `line_hex::near` meets its contract: the octets so far are in the chunk, one more each turn. Assumes nothing.
use Rattle.std.proofs.Common.{◌+◌, ◌-◌, ◌*◌, arith, rules}
use Rattle.line_hex.proofs.HexSteps.{digit-small}
use Rattle.line_hex.proofs.NearSteps.{nearing-start, nearing-turn, nearing-done}
use Rattle.line_hex.proofs.hex.near.Goals as goal

pub loop-j-init : goal.loop-j-init
loop-j-init c = search (nearing-start, rules)

pub value-high-requires : goal.value-high-requires
value-high-requires c =
    digit-small c.args.line.now (2 * (c.args.from + c.loop-j.j)) c.requires.line_value
    (omega (arith, c.requires.together_in_bounds, c.loop-j-test.true))

pub value-low-requires : goal.value-low-requires
value-low-requires c =
    digit-small c.args.line.now (2 * (c.args.from + c.loop-j.j) + 1) c.requires.line_value
    (omega (arith, c.requires.together_in_bounds, c.loop-j-test.true))

pub loop-j-preserved : goal.loop-j-preserved
loop-j-preserved c = search (nearing-turn, rules)

pub returns : goal.returns
returns c = search (nearing-done, rules)
