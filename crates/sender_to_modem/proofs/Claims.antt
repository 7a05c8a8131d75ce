-- The claims of this crate, each proved by a law. Assumes nothing.
use Rattle.sender_to_modem.specs.Claims.{Claims}
use Rattle.sender_to_modem.proofs.Sold.{line-sold}
use Rattle.sender_to_modem.proofs.Sharp.{sharp, last-matters}
use Rattle.sender_to_modem.proofs.Host.{hosted-transfers}
use Rattle.sender_to_modem.proofs.Instance.{worked}

pub claims : Claims
claims = record { line_sold = line-sold; sharp = sharp; last_matters = last-matters; hosted = hosted-transfers; worked = worked }
