-- `sender_calls::send` meets its contract. Assumes nothing.
use Rattle.std.proofs.Common.{rules}
use native.Mathlib.Omega.{arith}
use Rattle.sender.specs.Inner.Held.{Arrays}
use Rattle.sender_calls.proofs.SenderSteps.{within-told, sent-few, sends-outside, sends-kept, sends-refused}
use Rattle.sender_calls.proofs.send.Goals as goal

pub returns-then-not-in_ranges : goal.returns-then-not-in_ranges
returns-then-not-in_ranges c = search sends-outside

pub send_held-answer-requires : goal.send_held-answer-requires
send_held-answer-requires c =
    let arrays : Arrays c.args.s.sizes c.args.s.octets = search rules in
    let within = within-told c.args.s.sent c.args.s.sizes c.args.s.octets arrays
    c.in_ranges.ensures
    c.if-not-in_ranges.false-raw in
    within

pub overflow_add-next : goal.overflow_add-next
overflow_add-next c =
    let arrays : Arrays c.args.s.sizes c.args.s.octets = search rules in
    let within = within-told c.args.s.sent c.args.s.sizes c.args.s.octets arrays
    c.in_ranges.ensures
    c.if-not-in_ranges.false-raw in
    let few = sent-few c.args.s.sent c.args.s.sizes c.args.s.octets within in
    omega arith

pub returns-in-Ok : goal.returns-in-Ok
returns-in-Ok c =
    let arrays : Arrays c.args.s.sizes c.args.s.octets = search rules in
    let within = within-told c.args.s.sent c.args.s.sizes c.args.s.octets arrays
    c.in_ranges.ensures
    c.if-not-in_ranges.false-raw in
    sends-kept c.args.s c.args.settings c.args.packet.now c.args.out.now within
    c.send_held-answer.ensures
    (search rules)

pub returns-in-Err : goal.returns-in-Err
returns-in-Err c =
    let arrays : Arrays c.args.s.sizes c.args.s.octets = search rules in
    let within = within-told c.args.s.sent c.args.s.sizes c.args.s.octets arrays
    c.in_ranges.ensures
    c.if-not-in_ranges.false-raw in
    sends-refused c.args.s c.args.settings c.args.packet.now c.args.out.now within
    c.send_held-answer.ensures c.unchanged-in-Err.ensures (search rules)
