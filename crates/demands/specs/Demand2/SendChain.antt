-- A chain of sends: each on the sending session that the send before returned, with any settings, packet and buffer, and each may return
-- anything that its promise allows. Definitions only.
use Rattle.std.specs.Prelude.{ℕ, List}
use Rattle.sender.specs.Promise.{Proper, SenderMade, Sends}
use Rattle.sender.specs.declared.Sender.{Sender}
use Rattle.sender.specs.declared.Sent.{Sent}
use Rattle.sender.specs.declared.Settings.{Settings}

-- a sending session fresh at its start (rule 15.1), or one saved within its ranges (rule 15.13)
pub data SenderBegins (s : Sender) : Type 0 where
  fresh : SenderMade s → SenderBegins s
  saved : Proper s → SenderBegins s

-- some sends lead from session s to session t
pub data SentFrom (s : Sender) : Sender → Type 0 where
  at_start : SentFrom s s
  sent : {t : Sender} {settings : Settings} {packet old new : List ℕ} {r : Sent} → SentFrom s t → Sends t settings packet old new r
      → SentFrom s r.sender
