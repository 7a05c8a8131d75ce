-- The claims of this crate (rules 23.3 to 23.8). Definitions only.
use Rattle.sender_to_modem.specs.Sold.{LineSold}
use Rattle.sender_to_modem.specs.Sharp.{Sharp, LastMatters}
use Rattle.sender_to_modem.specs.Host.{HostedTransfers}
use Rattle.sender_to_modem.specs.Instance.{Instance}

pub record Claims : Type 0 where
  -- what k spares buy (rules 23.3 to 23.7)
  pub line_sold : LineSold
  -- and no more: with k + 1 lost in a row something stays waiting (rule 23.8)
  pub sharp : Sharp
  -- and if the last one is lost, its packet stays out (rule 23.1)
  pub last_matters : LastMatters
  -- a host that makes the calls makes such a transfer, whatever they return (rules 23.1 and 23.2)
  pub hosted : HostedTransfers
  -- a worked case: k = 2, and two lost in a row (rule 23.3)
  pub worked : Instance
