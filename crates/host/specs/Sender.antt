-- What the calls from C on a sending session promise: what the library's own calls promise, for the session in the caller's memory (rules
-- 24.3, 24.4, 24.10 and 24.11). Definitions only.
use Rattle.std.specs.Prelude.{ℕ, ◌≡◌, Bool, List}
use Rattle.length.specs.Answers.{fitted, size_of, over}
use Rattle.sender.specs.Ranges.{sender_in_ranges}
use Rattle.sender.specs.Promise.{to_send, StateAfter}
use Rattle.sender.specs.declared.Sender.{Sender}
use Rattle.sender.specs.Inner.Held.{Arrays}
use Rattle.host_answers.specs.Answers.{wrote_told}
use Rattle.host_answers.specs.Settings.{settings_of}
use Rattle.host.specs.declared.send_calls.AfterSend.{AfterSend}

-- the session in the caller's memory
abbrev pub sender_in : ℕ → List ℕ → List ℕ → Sender
sender_in sent sizes octets = record { sent = sent; sizes = sizes; octets = octets }

-- whether the session in the caller's memory is within its ranges (rule 15.13)
pub record SenderRanges (sent : ℕ) (sizes octets : List ℕ) (r : Bool) : Type 0 where
  pub answer : r ≡ sender_in_ranges (sender_in sent sizes octets)
  pub arrays : Arrays sizes octets

-- ---- send (rules 15.2 to 15.12): sizes and octets are the history before it, sizes₂ and octets₂ after it
pub record SendHosted (parity : Bool) (count n : ℕ) (packet : List ℕ) (sent : ℕ) (sizes octets old sizes₂ octets₂ new : List ℕ)
    (r : AfterSend) : Type 0 where
  pub answer : r.wrote ≡ wrote_told (size_of (fitted (to_send (sender_in sent sizes octets) (settings_of parity count n) packet) old))
  pub lent : new ≡ over (fitted (to_send (sender_in sent sizes octets) (settings_of parity count n) packet) old) old
  pub state : StateAfter (fitted (to_send (sender_in sent sizes octets) (settings_of parity count n) packet) old)
      (sender_in sent sizes octets) packet (sender_in r.sent sizes₂ octets₂)
