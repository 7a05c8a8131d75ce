-- `session_offer::keep_spares` meets its contract: after j turns j spares are kept. Assumes nothing.
use Rattle.std.proofs.Common.{rules}
use Rattle.session_offer.proofs.Keeping.{fills, spare-noted}
use Rattle.session_offer.proofs.Sparing.{sparing-start, sparing-long, sparing-octets, sparing-may, sparing-part}
use Rattle.session_offer.proofs.Sparing.{sparing-turn}
use Rattle.session_offer.proofs.Sparing.{sparing-done}
use Rattle.session_offer.proofs.kept.keep_spares.Goals as goal

pub loop-j-init : goal.loop-j-init
loop-j-init c = search sparing-start

pub keep-requires-clause-table_len : goal.keep-requires-clause-table_len
keep-requires-clause-table_len c = search sparing-long

pub keep-requires-clause-octets_len : goal.keep-requires-clause-octets_len
keep-requires-clause-octets_len c = search sparing-octets

pub keep-requires-clause-may_keep : goal.keep-requires-clause-may_keep
keep-requires-clause-may_keep c = search sparing-may

pub keep-requires-clause-state_value : goal.keep-requires-clause-state_value
keep-requires-clause-state_value c = fills _ (search rules) (search rules)

pub keep-requires-clause-number_value : goal.keep-requires-clause-number_value
keep-requires-clause-number_value c = spare-noted _ _

pub keep-requires-clause-part_inside : goal.keep-requires-clause-part_inside
keep-requires-clause-part_inside c = search sparing-part

pub loop-j-preserved : goal.loop-j-preserved
loop-j-preserved c = search sparing-turn

pub returns : goal.returns
returns c = search sparing-done
