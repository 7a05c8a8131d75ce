-- `session_repair::searching::lowest_among` meets its contract: none of the messages so far is usable. Assumes nothing.
use Rattle.std.proofs.Common.{refl}
use Rattle.session_repair.proofs.Search.{small_n, there}
use Rattle.session_repair.proofs.Below.{below-start, below-turn, lowest-hit, lowest-none}
use Rattle.session_repair.proofs.searching.lowest_among.Goals as goal

pub loop-i-init : goal.loop-i-init
loop-i-init c = search below-start

pub message_size_at-size-requires : goal.message_size_at-size-requires
message_size_at-size-requires c = let seen = c.requires in record { table_len = seen.table.long; slot_lt_slots_messages = there seen c.loop-i-test.true c.from-index.ensures }

pub missing-requires : goal.missing-requires
missing-requires c = let seen = c.requires in record { table_len = seen.table.long; n_le_covered_limit = small_n seen }

pub find_back-requires : goal.find_back-requires
find_back-requires c = c.requires.table.long

pub returns-then-missing-eq1 : goal.returns-then-missing-eq1
returns-then-missing-eq1 c =
    lowest-hit c.requires c.loop-i.invariant c.loop-i-test.true c.from-index.ensures refl c.message_size_at-size.ensures
    refl c.missing.ensures c.if-missing-eq1.true c.find_back.ensures

pub loop-i-preserved : goal.loop-i-preserved
loop-i-preserved c =
    below-turn c.requires c.loop-i.invariant c.loop-i-test.true c.from-index.ensures refl c.message_size_at-size.ensures
    refl c.missing.ensures c.if-missing-eq1.false

pub returns : goal.returns
returns c = lowest-none c.requires c.loop-i.invariant c.loop-i-test.false
