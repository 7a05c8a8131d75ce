-- `frame_feed::turn::turn_of` meets its contract. Assumes nothing.
use mathlib.Core.Path.{◌≡◌}
use lib.ListN.{length}
use Rattle.packet.specs.Packet.{fields_limit}
use Rattle.session_held.specs.Table.{state_of}
use native.Mathlib.Omega.{arith}
use Rattle.frame_feed.proofs.Turning.{turnings, turn-there, mapped-long}
use Rattle.frame_feed.proofs.turn.turn_of.Goals as goal

pub offset_bounds-fields-turn : goal.offset_bounds-fields-turn
offset_bounds-fields-turn c =
    let long : length c.in-Ok.read.fields ≡ fields_limit = search mapped-long in
    let there =
    turn-there c.args.edition (state_of c.args.kind) _ c.ending_of-ending.ensures c.read.ensures
    c.in-Ok.is
    c.if-turn-read.true long in
    omega arith

pub bounds-fields-turn : goal.bounds-fields-turn
bounds-fields-turn c =
    let long : length c.in-Ok.read.fields ≡ fields_limit = search mapped-long in
    let there =
    turn-there c.args.edition (state_of c.args.kind) _ c.ending_of-ending.ensures c.read.ensures
    c.in-Ok.is
    c.if-turn-read.true long in
    omega arith

pub returns-then-turn-read : goal.returns-then-turn-read
returns-then-turn-read c = search turnings

pub returns-then-turn-eq0 : goal.returns-then-turn-eq0
returns-then-turn-eq0 c = search turnings

pub returns-else-turn-read : goal.returns-else-turn-read
returns-else-turn-read c = search turnings

pub returns-else-turn-eq0 : goal.returns-else-turn-eq0
returns-else-turn-eq0 c = search turnings
