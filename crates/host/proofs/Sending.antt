-- The host's calls on a sending session, on plain values: what the library's call promises, encoded as numbers. Assumes nothing.
use Rattle.std.proofs.Common.{Result, Ok, Err}
use Prim.Native.Nat.{ℕ, ◌+◌, ◌≤◌}
use mathlib.Core.Path.{◌≡◌, refl, sym, ap, subst, ◌∙◌}
use mathlib.Core.Bool.{Bool, true, false, not}
use mathlib.Core.List.{List}
use Rattle.length.specs.Refusals.{outside_ranges, refusal, number_of}
use Rattle.length.specs.declared.Refusal.{Refusal}
use Rattle.session.specs.View.{session_limit}
use Rattle.sender.specs.Ranges.{sender_in_ranges}
use Rattle.sender.specs.Inner.Held.{Arrays, Within}
use Rattle.sender.specs.declared.Settings.{Settings}
use Rattle.sender_calls.specs.Inner.{SendsHeld}
use Rattle.sender_calls.proofs.Laws.{sent-few, sends-outside, sends-refused, sends-kept}
use Rattle.host_answers.specs.Answers.{wrote_told}
use Rattle.host_answers.specs.Settings.{settings_of, SettingsTold}
use Rattle.host.specs.Sender.{sender_in, SenderRanges, SendHosted}

-- ---- the ranges
pub ranges-hosted : {sent : ℕ} {sizes o : List ℕ} {r : Bool} → r ≡ sender_in_ranges (sender_in sent sizes o) → Arrays sizes o
    → SenderRanges sent sizes o r
ranges-hosted e arrays = record { answer = e; arrays = arrays }

pub sender-within : {sent : ℕ} {sizes o : List ℕ} {ok : Bool} → SenderRanges sent sizes o ok → ok ≡ true → Within sent sizes o
sender-within e inside = record { arrays = e.arrays; ranges = sym e.answer ∙ inside }

pub room-left : {sent : ℕ} {sizes o : List ℕ} → Within sent sizes o → sent ≤ session_limit
room-left {sent} {sizes} {o} within = sent-few sent sizes o within

-- ---- a send
module _ {parity : Bool} {count n : ℕ} {packet : List ℕ} {sent : ℕ} {sizes o old sizes₂ o₂ new : List ℕ} {to : Settings} {answer : Result ℕ Refusal}
    (within : Within sent sizes o) (e : SettingsTold parity count n to)
    (sends : SendsHeld sent to packet sizes o old sizes₂ o₂ new answer) where
  asked : SendsHeld sent (settings_of parity count n) packet sizes o old sizes₂ o₂ new answer
  asked = subst (λ (x : Settings). SendsHeld sent x packet sizes o old sizes₂ o₂ new answer) e.is sends

  pub send-written : {size next : ℕ} → answer ≡ Ok size → next ≡ sent + 1
      → SendHosted parity count n packet sent sizes o old sizes₂ o₂ new
      (record { sent = next; wrote = record { refusal = 0; place = 0; size = size } })
  send-written told next-is =
      let s = sends-kept (sender_in sent sizes o) (settings_of parity count n) packet old within asked told in
      rw next-is (record { answer = ap wrote_told s.answer; lent = s.lent; state = s.state })

  pub send-kept : {why : Refusal} {number : ℕ} → answer ≡ Err why → number ≡ number_of why.reason
      → SendHosted parity count n packet sent sizes o old sizes₂ o₂ new
      (record { sent = sent; wrote = record { refusal = number; place = why.place; size = 0 } })
  send-kept {why} told is =
      let stays = rw told at asked.history in
      let s =
      sends-refused (sender_in sent sizes o) (settings_of parity count n) packet old within asked {why = why} (record { whole = refl })
      told in
      rw (stays.0, stays.1, is) (record { answer = ap wrote_told s.answer; lent = s.lent; state = s.state })

pub send-outside : {parity : Bool} {count n : ℕ} {packet : List ℕ} {sent : ℕ} {sizes o old : List ℕ} {ok : Bool}
    {number : ℕ} → SenderRanges sent sizes o ok → ok ≡ false → number ≡ number_of outside_ranges
    → SendHosted parity count n packet sent sizes o old sizes o old
    (record { sent = sent; wrote = record { refusal = number; place = 0; size = 0 } })
send-outside {parity} {count} {n} {packet} {sent} {sizes} {o} {old} {ok} e out is =
    let s =
    sends-outside (sender_in sent sizes o) (settings_of parity count n) packet old {why = refusal outside_ranges} (record { answer = refl })
    e.answer (ap not out) (record { whole = refl }) in
    rw is (record { answer = ap wrote_told s.answer; lent = s.lent; state = s.state })
