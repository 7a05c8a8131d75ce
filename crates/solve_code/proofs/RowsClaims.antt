-- The claims of this crate. Two tables are equal since the promise is an equation. Assumes nothing.
use Rattle.std.proofs.Common.{[], sym, ◌∙◌}
use Rattle.solve_code.specs.RowsClaims.{Claims}

pub claims : Claims
claims = record { one_outcome = λ base t r q p s. p.answer [] [] ∙ sym (s.answer [] []) }
