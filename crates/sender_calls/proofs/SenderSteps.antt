-- The public call, in the words of the code: one law for each answer of a send. Assumes nothing.
use Rattle.std.proofs.Common.{Result, Ok, Err}
use Prim.Native.Nat.{ℕ, ◌+◌, ◌%◌, ◌≤◌}
use mathlib.Core.Path.{◌≡◌, refl, sym, ap, ◌∙◌}
use mathlib.Core.Bool.{Bool, true, false, not}
use mathlib.Core.List.{List}
use borrow.Author.Tests.{leb-true, not-true, not-false}
use Rattle.length.specs.Refusals.{outside_ranges}
use Rattle.length.specs.Answers.{fitted}
use Rattle.length.specs.Tables.{unless}
use Rattle.length.specs.Promise.{RefusalMade}
use Rattle.length.specs.declared.Refusal.{Refusal}
use Rattle.session.specs.View.{numbers, session_limit}
use Rattle.sender.specs.Sending.{sent_on}
use Rattle.sender.specs.Send.{datagram_to_send}
use Rattle.sender.specs.Sender.{sending_of}
use Rattle.sender.specs.Ranges.{history_in_ranges, sender_in_ranges}
use Rattle.sender.specs.Inner.Held.{Arrays, Within, Joins}
use Rattle.sender_calls.specs.Inner.{SendsHeld, RefusedSend}
use Rattle.sender.specs.Promise.{to_send, SentOn, Sends}
use Rattle.sender.specs.declared.Sender.{Sender}
use Rattle.sender.specs.declared.Sent.{Sent}
use Rattle.sender.specs.declared.Settings.{Settings}
use Rattle.sender.proofs.Laws.{sent-limit, arrays-kept, history-kept, ranges-kept, size-done, size-refused, accepted}

pub within-told : (sent : ℕ) (sizes o : List ℕ) {b : Bool} → Arrays sizes o → b ≡ history_in_ranges sent sizes o → not b ≡ false
    → Within sent sizes o
within-told sent sizes o {b} arrays found in' = record { arrays = arrays; ranges = sym found ∙ not-false b in' }

pub sent-few : (sent : ℕ) (sizes o : List ℕ) → Within sent sizes o → sent ≤ session_limit
sent-few sent sizes o within = leb-true sent session_limit (sent-limit within)

module _ (s : Sender) (settings : Settings) (packet old : List ℕ) where
  pub sends-outside : {b : Bool} {why : Refusal} {r : Sent} → RefusalMade outside_ranges why
      → b ≡ history_in_ranges s.sent s.sizes s.octets
      → not b ≡ true → RefusedSend s why r → Sends s settings packet old old r
  unfolding to_send unless
  sends-outside {b} made found out same =
      let e : sender_in_ranges s ≡ false = sym found ∙ not-true b out in
      rw same.whole (record { answer = rw (e, made.answer); lent = rw e; state = rw e refl })

  inside : Within s.sent s.sizes s.octets → to_send s settings packet ≡ datagram_to_send settings packet (sending_of s)
  unfolding to_send datagram_to_send unless
  inside within = rw within.ranges

  module _ {sizes o new : List ℕ} {answer : Result ℕ Refusal} (within : Within s.sent s.sizes s.octets)
      (sends : SendsHeld s.sent settings packet s.sizes s.octets old sizes o new answer) where
    pub sends-refused : {why : Refusal} {r : Sent} → RefusedSend s why r → answer ≡ Err why → Sends s settings packet old new r
    sends-refused {why} {r} same e =
        let puts = rw e at sends.puts in
        let none = size-refused (fitted (datagram_to_send settings packet (sending_of s)) old) puts.answer in
        rw same.whole (record {
          answer = rw (inside within) puts.answer;
          lent = rw (inside within) puts.lent;
          state = rw (inside within, none) refl;
        })

    joined : (n : ℕ) → answer ≡ Ok n → Joins (s.sent % numbers) packet s.sizes s.octets sizes o
    joined n e = rw e at sends.history

    pub sends-kept : {n : ℕ} → answer ≡ Ok n
        → Sends s settings packet old new (record {
          sender = record
              { sent = s.sent + 1; sizes = sizes; octets = o };
          answer = Ok n;
        })
    unfolding sent_on
    sends-kept {n} e =
        let puts = rw e at sends.puts in
        let t = size-done (fitted (datagram_to_send settings packet (sending_of s)) old) puts.answer in
        let a = accepted settings packet (sending_of s) old t.0 t.1 in
        let keeps = joined n e in
        let on : SentOn s packet (record { sent = s.sent + 1; sizes = sizes; octets = o }) =
        rw (keeps.size, keeps.octets)
        (record {
          state = ap (λ (h : List (List ℕ)). record { sent = s.sent + 1; history = h }) (history-kept within packet a.newest);
          proper = record { arrays = arrays-kept within packet a.newest; ranges = ranges-kept within packet a.newest a.free };
        }) in
        record {
          answer = rw (inside within) puts.answer;
          lent = rw (inside within) puts.lent;
          state = rw (inside within, t.1) on;
        }
