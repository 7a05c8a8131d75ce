-- `frame_joiner::inside::in_ranges` meets its contract. Assumes nothing.
use mathlib.Core.Path.{sym, ap, ◌∙◌}
use native.Mathlib.Omega.{arith}
use Rattle.session_slots.specs.Store.{mask_over}
use Rattle.frame_joiner.proofs.Storage.{over-ranges, ranges-checked}
use Rattle.frame_joiner.proofs.inside.in_ranges.Goals as goal

pub returns-then-size-gt-LIMIT : goal.returns-then-size-gt-LIMIT
returns-then-size-gt-LIMIT c = search over-ranges

pub zeros_in_run-clean-requires : goal.zeros_in_run-clean-requires
zeros_in_run-clean-requires c = record { n_in_bounds = omega arith; table_value = c.passing-table.ensures ∙ ap mask_over (sym c.requires) }

pub returns : goal.returns
returns c = search ranges-checked
