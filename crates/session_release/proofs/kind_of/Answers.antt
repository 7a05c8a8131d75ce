-- `session_release::kind_of` meets its contract. Assumes nothing.
use Rattle.std.proofs.Common.{◌≡◌, ℕ, ◌<◌, arith, eq-eqb, ne_eqb}
use Rattle.session_held.specs.Table.{last_state, state_numbered}
use Rattle.session_held.specs.declared.ReleaseKind.TheVariants.{Repaired}
use Rattle.session_release.specs.Steps.{Named}
use Rattle.session_release.proofs.kind_of.Goals as goal

-- what is left of those that are not blank
the_last : (n : ℕ) → (n ≡ 0 → ⊥) → (n ≡ 1 → ⊥) → (n ≡ 2 → ⊥) → n < last_state → Named n Repaired
unfolding state_numbered
the_last n unknown received spare low =
    record { same = rw (ne_eqb n 0 unknown, ne_eqb n 1 received, ne_eqb n 2 spare, eq-eqb n 3 (omega arith)) }

pub returns-in-0 : goal.returns-in-0
unfolding state_numbered
returns-in-0 c = record { same = rw c.in-0.is }

pub returns-in-1 : goal.returns-in-1
unfolding state_numbered
returns-in-1 c = record { same = rw c.in-1.is }

pub returns-in-2 : goal.returns-in-2
unfolding state_numbered
returns-in-2 c = record { same = rw c.in-2.is }

pub returns-in_default : goal.returns-in_default
returns-in_default c = search the_last
