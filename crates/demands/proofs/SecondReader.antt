-- Both readers of packets answer what the description reads. Assumes nothing.
use mathlib.Core.Path.{sym, ◌∙◌}
use Rattle.demands.specs.Requests.SecondReader.{SecondReader}

pub second-reader : SecondReader
second-reader octet ending s quick second a b = record { answer = a.answer ∙ sym b.answer; whole = a.whole ∙ sym b.whole }
