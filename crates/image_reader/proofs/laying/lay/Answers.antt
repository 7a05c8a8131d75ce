-- `image_reader::lay` meets its contract: the kept number and, from the base on, its messages and marks are laid in slots that were empty.
-- Assumes nothing.
use Rattle.std.proofs.Common.{refl, rules}
use Rattle.image_reader.proofs.Rows.{packet-inside, messages-fit, lay-before, lay-ahead}
use Rattle.image_reader.proofs.laying.lay.Goals as goal

pub lay_kept-requires-clause-part_inside : goal.lay_kept-requires-clause-part_inside
lay_kept-requires-clause-part_inside c = packet-inside c.requires.line_fits

pub lay_messages-requires-clause-messages_fit : goal.lay_messages-requires-clause-messages_fit
lay_messages-requires-clause-messages_fit c = messages-fit c.requires.line_fits (search rules)

pub returns-then-ahead : goal.returns-then-ahead
returns-then-ahead c =
    let pre = c.requires in
    lay-ahead c.args.base pre.k_lt_kept_ahead pre.line_fits pre.lengths c.place_of-place.ensures refl c.lay_kept.ensures
    c.if-ahead.true refl (search rules) c.lay_messages.ensures c.set_held.ensures

pub returns-else-ahead : goal.returns-else-ahead
returns-else-ahead c =
    let pre = c.requires in
    lay-before c.args.base pre.k_lt_kept_ahead pre.line_fits pre.lengths c.place_of-place.ensures refl c.lay_kept.ensures
    c.if-ahead.false
