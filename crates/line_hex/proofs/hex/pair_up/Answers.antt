-- `line_hex::pair_up` meets its contract: the octets so far stand at the front, sixteen more each turn. Then the last sixteen
-- are made, some of them perhaps again. Assumes nothing.
use Rattle.std.proofs.Common.{◌-◌, arith}
use Rattle.line_hex.proofs.NearSteps.{pairings, pairing-turn, pairing-done, near-put}
use Rattle.line_hex.proofs.hex.pair_up.Goals as goal

pub loop-i-init : goal.loop-i-init
loop-i-init c = search pairings

pub loop-i-preserved : goal.loop-i-preserved
loop-i-preserved c =
    let copied = c.copy_from_slice.ensures in
    pairing-turn c.loop-i.invariant (omega (arith, c.loop-i-test.true)) c.near.ensures
    (near-put copied.after (omega arith) (omega (arith, c.loop-i-test.true, c.requires.line_in_bounds)) copied.len)

pub returns : goal.returns
returns c =
    let copied = c.copy_from_slice-2.ensures in
    pairing-done c.loop-i.invariant c.loop-i-test.false (omega arith) c.requires.line_in_bounds c.near-2.ensures
    (near-put copied.after (omega arith) (omega (arith, c.requires.line_in_bounds)) copied.len)
