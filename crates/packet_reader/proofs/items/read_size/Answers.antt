-- `packet_reader::read_size` meets its contract. Each answer is a law of `ReadItems`: the tests that led there are
-- those of `size_at`, in its order. Assumes nothing.
use Rattle.packet_reader.proofs.ReadItems.{sizes}
use Rattle.packet_reader.proofs.items.read_size.Goals as goal

pub returns-then-octets-lt2 : goal.returns-then-octets-lt2
returns-then-octets-lt2 c = search sizes

pub returns-then-size-gt-LIMIT : goal.returns-then-size-gt-LIMIT
returns-then-size-gt-LIMIT c = search sizes

pub returns-then-left-size : goal.returns-then-left-size
returns-then-left-size c = search sizes

pub returns : goal.returns
returns c = search sizes
