-- `session_offer::accept` meets its contract: packet, spares, mark and messages, repair, one after the other. Assumes nothing.
use Rattle.session_offer.proofs.Accepting.{received-fills, own-note, carries-spares, carries, may-keep, within_first, may-spare}
use Rattle.session_offer.proofs.Accepting.{may-hold}
use Rattle.session_offer.proofs.Accepting.{may-mend, accepted}
use Rattle.session_offer.proofs.accept.Goals as goal

pub keep-requires : goal.keep-requires
keep-requires c = let laid = c.requires.in_ranges.laid in record { table_len = laid.long; octets_len = laid.octets; may_keep = may-keep c.requires.in_ranges c.requires.may_be_accepted; state_value = received-fills; number_value = own-note _; part_inside = c.requires.may_be_accepted.inside.newest }

pub keep_spares-requires : goal.keep_spares-requires
keep_spares-requires c =
    let may = c.requires.may_be_accepted in
    let told = c.spares_of-spares.ensures in
    let first = c.keep.ensures in
    let laid = (within_first c.requires.in_ranges may first).laid in record { table_len = laid.long; octets_len = laid.octets; may_keep = may-spare c.requires.in_ranges may first told; carries_spares = carries-spares may told }

pub hold-requires : goal.hold-requires
hold-requires c = let may = c.requires.may_be_accepted in record { may_hold = may-hold c.requires.in_ranges may c.keep.ensures c.spares_of-spares.ensures c.keep_spares.ensures; carries_messages = carries may c.covered_of-n.ensures c.messages_of-m.ensures }

pub mend-requires : goal.mend-requires
mend-requires c =
    may-mend c.requires.in_ranges c.requires.may_be_accepted c.keep.ensures c.spares_of-spares.ensures c.keep_spares.ensures
    c.covered_of-n.ensures c.messages_of-m.ensures c.hold.ensures

pub returns : goal.returns
returns c =
    accepted c.requires.in_ranges c.requires.may_be_accepted c.keep.ensures c.spares_of-spares.ensures c.keep_spares.ensures
    c.covered_of-n.ensures c.messages_of-m.ensures c.hold.ensures c.mend.ensures
