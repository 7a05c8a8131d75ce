-- `sender_history::place_right` meets its contract. Assumes nothing.
use Rattle.sender_history.proofs.RangeSteps.{slot-there, size-told, placings}
use Rattle.sender_history.proofs.slots.place_right.Goals as goal

pub zeros_past-requires-clause-has_slot : goal.zeros_past-requires-clause-has_slot
zeros_past-requires-clause-has_slot c = search slot-there

pub zeros_past-requires-clause-n_le_packet_limit : goal.zeros_past-requires-clause-n_le_packet_limit
zeros_past-requires-clause-n_le_packet_limit c = search size-told

pub returns-then-size_right : goal.returns-then-size_right
returns-then-size_right c = search placings

pub returns-else-size_right : goal.returns-else-size_right
returns-else-size_right c = search placings
