-- A send, in the words of the code: one law for each answer. Assumes nothing.
use Rattle.std.proofs.Common.{Result, Ok, Err}
use Prim.Native.Nat.{ℕ, ◌%◌, ◌≤◌, ◌<◌}
use mathlib.Core.Path.{◌≡◌, refl, sym, ap, ◌∙◌}
use mathlib.Core.Bool.{Bool, true, false, not}
use mathlib.Core.List.{List}
use lib.ListN.{length}
use borrow.Author.Tests.{le-leb, lt-leb, not-true, not-false}
use Rattle.length.specs.Refusals.{outside_sizes, wrong_settings, all_passed}
use Rattle.length.specs.Answers.{done, fitted, size_of}
use Rattle.length.specs.Tables.{unless}
use Rattle.length.specs.Promise.{Puts, RefusalMade}
use Rattle.length.specs.declared.Refusal.{Refusal}
use Rattle.datagram.specs.Sizes.{packet_limit}
use Rattle.datagram.specs.Write.{datagram_octets}
use Rattle.datagram.specs.declared.kind.Kind.{Kind}
use Rattle.session.specs.View.{numbers, session_limit}
use Rattle.sender.specs.Sending.{history_kept}
use Rattle.sender.specs.Carries.{settings_inside, carried_from}
use Rattle.sender.specs.Send.{packet_of, packet_inside, carried_next, datagram_to_send}
use Rattle.sender.specs.Sender.{sending_in}
use Rattle.sender.specs.Inner.Held.{Within, Joins}
use Rattle.sender.specs.Inner.Next.{kind_asked, count_of, carried_in, NextAsked}
use Rattle.sender_calls.specs.Inner.{SendsHeld}
use Rattle.sender.specs.declared.Settings.{Settings}
use Rattle.sender.specs.declared.Settings.TheVariants as settings
use Rattle.sender.proofs.Laws.{history-number, count-inside, stored_of, packet-fits, size-done, accepted}

-- ---- write_held
-- what the next datagram carries, in the words of the rules and in those of the code
carried_same : (s : Settings) (sent : ℕ) (packet sizes o : List ℕ)
    → carried_in (sent % numbers) sizes o packet (kind_asked s) (count_of s sent) ≡ carried_next s packet (sending_in sent sizes o)
carried_same (settings.Spares k) sent packet sizes o =
    ap (λ (h : List (List ℕ)). carried_from (settings.Spares k) sent packet (packet_of h) history_kept) (history-number sent sizes o)
carried_same (settings.Parity n m) sent packet sizes o =
    ap (λ (h : List (List ℕ)). carried_from (settings.Parity n m) sent packet (packet_of h) history_kept) (history-number sent sizes o)

module _ (s : Settings) (sent : ℕ) (packet sizes o old : List ℕ) where
  pub held_all : {r : Refusal} → RefusalMade all_passed r → session_limit ≤ sent
      → Puts (datagram_to_send s packet (sending_in sent sizes o)) old old (Err r)
  unfolding datagram_to_send unless
  held_all made all = let e = le-leb session_limit sent all in record { answer = rw (e, made.answer); lent = rw e }

  pub held-settings : {b : Bool} {r : Refusal} → RefusalMade wrong_settings r → sent < session_limit → b ≡ settings_inside s → not b ≡ true
      → Puts (datagram_to_send s packet (sending_in sent sizes o)) old old (Err r)
  unfolding datagram_to_send unless
  held-settings {b} made free found out =
      let e = lt-leb session_limit sent free in
      let wrong : settings_inside s ≡ false = sym found ∙ not-true b out in
      record { answer = rw (e, wrong, made.answer); lent = rw (e, wrong) }

  pub held-packet : {b d : Bool} {r : Refusal} → RefusalMade outside_sizes r → sent < session_limit → b ≡ settings_inside s → not b ≡ false
      → d ≡ packet_inside packet → not d ≡ true → Puts (datagram_to_send s packet (sending_in sent sizes o)) old old (Err r)
  unfolding datagram_to_send unless
  held-packet {b} {d} made free found in' told out =
      let e = lt-leb session_limit sent free in
      let right : settings_inside s ≡ true = sym found ∙ not-false b in' in
      let wrong : packet_inside packet ≡ false = sym told ∙ not-true d out in
      record { answer = rw (e, right, wrong, made.answer); lent = rw (e, right, wrong) }

  pub held-written : {b d : Bool} {number : ℕ} {k : Kind} {count : ℕ} {new : List ℕ} {r : Result ℕ Refusal} → sent < session_limit
      → b ≡ settings_inside s
      → not b ≡ false → d ≡ packet_inside packet → not d ≡ false → number ≡ sent % numbers → k ≡ kind_asked s → count ≡ count_of s sent
      → Puts (done (datagram_octets (carried_in number sizes o packet k count))) old new r
      → Puts (datagram_to_send s packet (sending_in sent sizes o)) old new r
  unfolding datagram_to_send unless
  held-written {b} {d} free found in' told in'' number_is kind-is count-is p =
      let e = lt-leb session_limit sent free in
      let right : settings_inside s ≡ true = sym found ∙ not-false b in' in
      let fits : packet_inside packet ≡ true = sym told ∙ not-false d in'' in
      rw (e, right, fits) (rw (number_is, kind-is, count-is, carried_same s sent packet sizes o) at p)

pub held-asked : (s : Settings) (sent : ℕ) (packet sizes o : List ℕ) {b d : Bool} {k : Kind} {count : ℕ} → Within sent sizes o
    → b ≡ settings_inside s → not b ≡ false
    → d ≡ packet_inside packet → not d ≡ false → k ≡ kind_asked s → count ≡ count_of s sent → NextAsked sizes o packet k count
held-asked s sent packet sizes o {b} {d} within found in' told in'' kind-is count-is =
    rw (kind-is, count-is)
    (record {
      stored = stored_of within;
      newest = sym told ∙ not-false d in'';
      counted = count-inside s sent (sym found ∙ not-false b in');
    })

pub ruleset helds = (held_all, held-settings, held-packet, held-written)

-- ---- send_held
module _ (s : Settings) (sent : ℕ) (packet sizes o old : List ℕ) {new : List ℕ} {answer : Result ℕ Refusal} where
  pub packet-kept : {n : ℕ} → answer ≡ Ok n → Puts (datagram_to_send s packet (sending_in sent sizes o)) old new answer
      → length packet ≤ packet_limit
  packet-kept {n} e p =
      let told : done n ≡ size_of (fitted (datagram_to_send s packet (sending_in sent sizes o)) old) = rw e at p.answer in
      let t = size-done (fitted (datagram_to_send s packet (sending_in sent sizes o)) old) told in
      packet-fits packet (accepted s packet (sending_in sent sizes o) old t.0 t.1).newest

  pub held_kept : {n number : ℕ} {sizes' o' : List ℕ} → answer ≡ Ok n
      → Puts (datagram_to_send s packet (sending_in sent sizes o)) old new answer → number ≡ sent % numbers
      → Joins number packet sizes o sizes' o' → SendsHeld sent s packet sizes o old sizes' o' new (Ok n)
  held_kept e p number_is keeps = record { puts = rw e at p; history = rw number_is at keeps }

  pub held-refused : {r : Refusal} → answer ≡ Err r → Puts (datagram_to_send s packet (sending_in sent sizes o)) old new answer
      → SendsHeld sent s packet sizes o old sizes o new (Err r)
  held-refused e p = record { puts = rw e at p; history = (refl, refl) }

pub ruleset keepings = (held_kept, held-refused)
