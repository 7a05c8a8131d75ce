-- `line_hex::digit_for` meets its contract: the two ranges of digits. Assumes nothing.
use Rattle.line_hex.proofs.Digits.{digit_for-low, digit_for-high}
use Rattle.line_hex.proofs.hex.digit_for.Goals as goal

pub returns-then-n-lt10 : goal.returns-then-n-lt10
returns-then-n-lt10 c = digit_for-low c.if-n-lt10.true

pub returns-else-n-lt10 : goal.returns-else-n-lt10
returns-else-n-lt10 c = digit_for-high c.if-n-lt10.false
