-- The claims of this crate, each proved by a law. Two outcomes of a send are equal because an answer's case is its number and
-- values, and within the ranges a session is what the rules see of it. Assumes nothing.
use Rattle.std.proofs.Common.{Result}
use Prim.Native.Nat.{ℕ}
use mathlib.Core.Path.{◌≡◌, sym, ap, ap₂, ◌∙◌}
use mathlib.Core.List.{List}
use Rattle.length.specs.declared.Refusal.{Refusal}
use Rattle.length.specs.Answers.{Answer, done, refused, fitted}
use Rattle.length.proofs.Claims.{written-told}
use Rattle.sender.specs.Sending.{Sending}
use Rattle.sender.specs.Promise.{StateAfter, to_send, Sends}
use Rattle.sender.specs.Claims.{WrittenRight, Chains, OneOutcome, Claims}
use Rattle.sender.specs.declared.Sender.{Sender}
use Rattle.sender.specs.declared.Sent.{Sent}
use Rattle.sender.specs.declared.Settings.{Settings}
use Rattle.sender.proofs.Cases.{datagram-cases, refusal-cases, history-cases, ranges-cases}
use Rattle.sender.proofs.Chain.{run_holds}
use Rattle.sender.proofs.Faithful.{faithful}
use Rattle.sender.proofs.SentBack.{writer-writes, sent-reads}

-- one session after a send
state-one : (a : Answer (List ℕ)) (s : Sender) (packet : List ℕ) (t u : Sender) → StateAfter a s packet t → StateAfter a s packet u → t ≡ u
state-one (done octets) s packet t u p q = faithful p.proper q.proper (p.state ∙ sym q.state)
state-one (refused r) s packet t u p q = p ∙ sym q

sent-one : {s : Sender} {settings : Settings} {packet old new other : List ℕ} {r q : Sent} → Sends s settings packet old new r
    → Sends s settings packet old other q → (r ≡ q) × (new ≡ other)
sent-one {s} {settings} {packet} {old} {new} {other} {r} {q} p t = (
  ap₂ (λ (x : Sender) (y : Result ℕ Refusal). record { sender = x; answer = y })
      (state-one (fitted (to_send s settings packet) old) s packet r.sender q.sender p.state t.state)
      (written-told r.answer q.answer (p.answer ∙ sym t.answer)),
  p.lent ∙ sym t.lent,
)

pub one-outcome : OneOutcome
one-outcome =
    record {
      faithful = faithful;
      fresh = λ {s} {t} p q. faithful p.proper q.proper (p.state ∙ sym q.state);
      ranges = λ {s} {r} {q} p t. p.answer ∙ sym t.answer;
      sent = sent-one;
    }

pub written-right : WrittenRight
written-right = record { writer = writer-writes; reads = sent-reads }

pub chains : Chains
chains =
    record {
      honest = λ {s} {row} {datagrams} run. (run_holds run).honest;
      counted = λ {s} {row} {datagrams} run. ap (λ (x : Sending). x.sent) (run_holds run).state;
      proper = λ {s} {row} {datagrams} run. (run_holds run).proper;
    }

pub claims : Claims
claims =
    record {
      written_right = written-right;
      chains = chains;
      one_outcome = one-outcome;
      datagrams = datagram-cases;
      refusals = refusal-cases;
      history = history-cases;
      ranges = ranges-cases;
    }
