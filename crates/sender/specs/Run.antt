-- A chain of sends (rule 15.15): the first takes a fresh session, each other one the session that the send before it returned,
-- with any packet, settings and buffer. Definitions only.
use Rattle.std.specs.Prelude.{ℕ, ◌≡◌, List, [], ◌∷◌, ◌++◌, take, Ok, Err}
use Rattle.length.specs.declared.Refusal.{Refusal}
use Rattle.sender.specs.Promise.{SenderMade, Sends}
use Rattle.sender.specs.declared.Sender.{Sender}
use Rattle.sender.specs.declared.Sent.{Sent}
use Rattle.sender.specs.declared.Settings.{Settings}

-- the session after a chain, the packets that were accepted, and the datagrams that were written to the front of the callers' buffers
pub data Run : Sender → List (List ℕ) → List (List ℕ) → Type 0 where
  fresh : {s : Sender} → SenderMade s → Run s [] []
  sent : {s : Sender} {row datagrams : List (List ℕ)} {settings : Settings} {packet old new : List ℕ} {r : Sent} {n : ℕ}
      → Run s row datagrams → Sends s settings packet old new r → r.answer ≡ Ok n
      → Run r.sender (row ++ (packet ∷ [])) (datagrams ++ (take n new ∷ []))
  refused : {s : Sender} {row datagrams : List (List ℕ)} {settings : Settings} {packet old new : List ℕ} {r : Sent} {why : Refusal}
      → Run s row datagrams → Sends s settings packet old new r → r.answer ≡ Err why → Run r.sender row datagrams
