-- The sending session (rules 1.14, 15.1, 15.12 and 15.16): how many packets were sent, and the last 32 of them. Definitions only.
use Rattle.std.specs.Prelude.{ℕ, ◌+◌, ◌-◌, List, [], ◌∷◌, ◌++◌, drop, replicate}

-- how many packets are kept (rule 1.14)
abbrev pub history_kept : ℕ
history_kept = 32

-- the place of the packet that was sent last
abbrev pub newest_place : ℕ
newest_place = history_kept - 1

-- the session: place p of the history has the packet of number sent − history_kept + p, empty for a number before the first.
-- So the oldest packet is first and the newest is last. The packet that is sent next follows the newest, and the members of its
-- messages are counted back from there.
pub record Sending : Type 0 where
  pub sent : ℕ
  pub history : List (List ℕ)

-- nothing sent, and the history empty (rule 15.1)
unfoldable pub fresh_sending : Sending
fresh_sending = record { sent = 0; history = replicate history_kept [] }

-- a packet was sent: it is the newest of the history, and the oldest drops out (rule 15.12)
unfoldable pub sent_on : List ℕ → Sending → Sending
sent_on packet s = record { sent = s.sent + 1; history = drop 1 s.history ++ (packet ∷ []) }
