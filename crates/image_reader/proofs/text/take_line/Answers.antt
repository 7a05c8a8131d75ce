-- `image_reader::take_line` meets its contract: where the digits end, what ends them and how many they are give each answer. Assumes
-- nothing.
use Rattle.image_reader.proofs.Taking.{takings, run-digits}
use Rattle.image_reader.proofs.text.take_line.Goals as goal

pub returns-then-text-stop : goal.returns-then-text-stop
returns-then-text-stop c = search takings

pub returns-then-text-stop-ne-FEED : goal.returns-then-text-stop-ne-FEED
returns-then-text-stop-ne-FEED c = search takings

pub returns-then-odd-ne0 : goal.returns-then-odd-ne0
returns-then-odd-ne0 c = search takings

pub returns-then-out-count : goal.returns-then-out-count
returns-then-out-count c = search takings

pub pair_up-requires-clause-line_value : goal.pair_up-requires-clause-line_value
pair_up-requires-clause-line_value c =
    run-digits c.upper_run-stop.ensures c.if-text-stop.false c.if-text-stop-ne-FEED.false (λ k. (c.type_inv.text k).fits)

pub returns : goal.returns
returns c = search takings
