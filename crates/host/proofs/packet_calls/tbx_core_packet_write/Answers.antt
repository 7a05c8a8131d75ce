-- `tbx_core_packet_write` meets its contract. Assumes nothing.
use Rattle.host.proofs.PacketLaws.{write-neither, write-hosted}
use Rattle.host.proofs.packet_calls.tbx_core_packet_write.Goals as goal

pub returns-then-no_kind : goal.returns-then-no_kind
returns-then-no_kind c = search write-neither

pub returns : goal.returns
returns c = search write-hosted
