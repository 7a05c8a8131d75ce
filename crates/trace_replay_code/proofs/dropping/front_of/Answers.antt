-- `trace_replay_code::dropping::front_of` meets its contract: four digits, or characters that tell no number. Assumes nothing.
use Rattle.std.proofs.Common.{◌≡◌, ◌+◌, ◌*◌, get_or, arith}
use Rattle.trace_replay_code.proofs.Fronts.{front-short, front-others, front-number}
use Rattle.trace_replay_code.proofs.dropping.front_of.Goals as goal

pub returns-then-line-lt-DIGITS : goal.returns-then-line-lt-DIGITS
returns-then-line-lt-DIGITS c = front-short _ c.if-line-lt-DIGITS.true

pub returns-then-not-all_digits : goal.returns-then-not-all_digits
returns-then-not-all_digits c = front-others _ c.all_digits.ensures c.if-not-all_digits.true

pub returns : goal.returns
returns c =
    let octets = c.pair_up.new.out in
    let number : c.from_be_bytes.result ≡ get_or octets 0 0 * 256 + get_or octets 1 0 = omega (arith, c.from_be_bytes.ensures) in
    front-number _ _ c.if-line-lt-DIGITS.false c.pair_up.ensures number
