-- `image_reader::edition_named` meets its contract: how many digits are at the front gives each answer. Assumes nothing.
use Rattle.image_reader.proofs.Naming.{namings, two_digits}
use Rattle.image_reader.proofs.text.edition_named.Goals as goal

pub returns-then-upper_run-lt2 : goal.returns-then-upper_run-lt2
returns-then-upper_run-lt2 c = search namings

pub pair_up-requires-clause-line_value : goal.pair_up-requires-clause-line_value
pair_up-requires-clause-line_value c = two_digits _ c.upper_run.ensures c.if-upper_run-lt2.false (λ k. (c.type_inv.text k).fits)

pub returns : goal.returns
returns c = search namings
