-- `sender_calls::write_held` meets its contract. Assumes nothing.
use Rattle.sender_calls.proofs.SendSteps.{held-asked, helds}
use Rattle.sender_calls.proofs.inner.write_held.Goals as goal

pub returns-then-sent-ge-LIMIT : goal.returns-then-sent-ge-LIMIT
returns-then-sent-ge-LIMIT c = search helds

pub returns-then-not-settings_inside : goal.returns-then-not-settings_inside
returns-then-not-settings_inside c = search helds

pub returns-then-not-packet_inside : goal.returns-then-not-packet_inside
returns-then-not-packet_inside c = search helds

pub write_next-requires : goal.write_next-requires
write_next-requires c =
    held-asked c.args.settings c.args.sent c.args.packet.now c.args.sizes.now c.args.octets.now
    c.requires c.settings_inside.ensures c.if-not-settings_inside.false-raw c.packet_inside.ensures
    c.if-not-packet_inside.false-raw c.kind_of.ensures c.count_of.ensures

pub returns : goal.returns
returns c = search helds
