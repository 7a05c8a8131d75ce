-- Two outcomes of the host's calls are equal: from the promises. Assumes nothing.
use Prim.Native.Nat.{ℕ}
use mathlib.Core.Path.{◌≡◌, sym, ap, ap₂, ◌∙◌}
use mathlib.Core.List.{List}
use lib.ListN.{length}
use Rattle.session.specs.Release.{view_after_release}
use Rattle.session_held.proofs.Laws.{fresh-same}
use Rattle.session_calls.specs.Receiver.{offer_of, release_of}
use Rattle.session_calls.proofs.Laws.{after_same}
use Rattle.length.specs.Answers.{Answer, done, refused, fitted}
use Rattle.sender.specs.Promise.{to_send, StateAfter}
use Rattle.sender.specs.declared.Sender.{Sender}
use Rattle.sender.proofs.Claims as sending
use Rattle.host.specs.Receiver.{session_in}
use Rattle.host_answers.specs.Settings.{settings_of}
use Rattle.host.specs.Sender.{sender_in}
use Rattle.host.proofs.JoinerClaims.{joiner-claims}
use Rattle.host.specs.Claims.{OneOutcome, OneSent, Claims}
use Rattle.host.proofs.PacketClaims.{one-packet}
use Rattle.host_answers.specs.declared.answers.Number.{Number}
use Rattle.host_answers.specs.declared.answers.Wrote.{Wrote}
use Rattle.host.specs.declared.receiver.Head.{Head}
use Rattle.host.proofs.Memory.{same_memory}
use Rattle.host.proofs.ImageClaims.{one-restored}
use Rattle.host.proofs.HandedOver.{handed-over}
use Rattle.host.proofs.Solving.{one-solved}

one-outcome : OneOutcome
one-outcome =
    record {
      fresh = λ {r} {q} {table} {octets} {messages} {table₂} {octets₂} {messages₂} a b.
          same_memory r q (fresh-same (session_in r table octets messages) (session_in q table₂ octets₂ messages₂) a b);
      ranges = λ a b. a.answer ∙ sym b.answer;
      offer =
          λ {datagram} {h} {table} {octets} {messages} a b.
          let s = session_in h table octets messages in
          let one = same_memory h h (after_same (offer_of datagram s) s a.state b.state) in
          (a.answer ∙ sym b.answer, one.1, one.2, one.3);
      release =
          λ {leave} {h} {table} {octets} {messages} {old} {r = r} {q} a b.
          let s = session_in h table octets messages in
          let one =
          same_memory r.head q.head
          (after_same (view_after_release (release_of leave (length old) s)) s a.state b.state) in (
            ap₂ (λ (k : Head) (n : Number). record { head = k; left = n }) one.0 (a.answer ∙ sym b.answer),
            one.1,
            one.2,
            one.3,
            a.lent ∙ sym b.lent,
          );
    }

-- ---- the sending session
same-sender : (r q : ℕ) {sizes o sizes₂ o₂ : List ℕ} → sender_in r sizes o ≡ sender_in q sizes₂ o₂ → (r ≡ q) × (sizes ≡ sizes₂) × (o ≡ o₂)
same-sender r q e = (ap (λ (s : Sender). s.sent) e, ap (λ (s : Sender). s.sizes) e, ap (λ (s : Sender). s.octets) e)

state-one : (a : Answer (List ℕ)) (s : Sender) (packet : List ℕ) (t u : Sender) → StateAfter a s packet t → StateAfter a s packet u → t ≡ u
state-one (done octets) s packet t u p q = (sending.one-outcome).faithful p.proper q.proper (p.state ∙ sym q.state)
state-one (refused why) s packet t u p q = p ∙ sym q

one-sent : OneSent
one-sent =
    record {
      fresh = λ {r} {q} a b. same-sender r q ((sending.one-outcome).fresh a b);
      ranges = λ a b. a.answer ∙ sym b.answer;
      send =
          λ {parity} {count} {n} {packet} {sent} {sizes} {octets} {old} {sizes₂} {octets₂} {new₂} {sizes₃} {octets₃} {new₃} {r} {q} a b.
          let one =
          same-sender r.sent q.sent
          (state-one (fitted (to_send (sender_in sent sizes octets) (settings_of parity count n) packet) old)
          (sender_in sent sizes octets) packet
          (sender_in r.sent sizes₂ octets₂) (sender_in q.sent sizes₃ octets₃) a.state b.state) in (
            ap₂ (λ (k : ℕ) (w : Wrote). record { sent = k; wrote = w }) one.0 (a.answer ∙ sym b.answer),
            one.1,
            one.2,
            a.lent ∙ sym b.lent,
          );
    }

pub claims : Claims
claims =
    record {
      one_outcome = one-outcome;
      one_sent = one-sent;
      joiner = joiner-claims;
      one_packet = one-packet;
      one_restored = one-restored;
      handed_over = handed-over;
      one_solved = one-solved;
    }
