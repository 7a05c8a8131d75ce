-- `trace_compare_code::octets_of` meets its contract: a line that holds a datagram has octets. Assumes nothing.
use Rattle.trace_compare_code.proofs.Rereading.{octets-done, octets-never}
use Rattle.trace_compare_code.proofs.texts.octets_of.Goals as goal

pub returns-in-Ok : goal.returns-in-Ok
returns-in-Ok c = octets-done _ c.requires.datagram_limit_in_bounds c.hex_to_octets-read.ensures c.in-Ok.is

pub returns-in-Err : goal.returns-in-Err
returns-in-Err c = octets-never _ c.requires.datagram_limit_in_bounds c.hex_to_octets-read.ensures c.in-Err.is c.requires.line_value
