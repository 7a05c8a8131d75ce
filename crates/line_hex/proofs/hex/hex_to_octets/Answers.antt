-- `line_hex::hex_to_octets` meets its contract: one law for each answer, at the tests that led to it. Assumes nothing.
use Rattle.line_hex.proofs.HexSteps.{linings, digits-told}
use borrow.Author.Tests.{not-true, not-false}
use Rattle.std.proofs.Common.{rules}
use Rattle.line_hex.proofs.hex.hex_to_octets.Goals as goal

pub returns-then-size-gt-LIMIT : goal.returns-then-size-gt-LIMIT
returns-then-size-gt-LIMIT c = search linings

pub returns-then-odd-ne0 : goal.returns-then-odd-ne0
returns-then-odd-ne0 c = search linings

pub returns-then-not-all_digits : goal.returns-then-not-all_digits
returns-then-not-all_digits c = search (linings, not-true)

pub returns-then-out-count : goal.returns-then-out-count
returns-then-out-count c = search (linings, not-false)

pub pair_up-requires : goal.pair_up-requires
pair_up-requires c = record { line_value = digits-told _ c.all_digits.ensures (not-false _ c.if-not-all_digits.false-raw); line_in_bounds = search rules }

pub returns : goal.returns
returns c = search (linings, not-false)
