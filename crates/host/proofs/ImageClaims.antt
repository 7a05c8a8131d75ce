-- Two outcomes of the host's calls on images are equal: from the promises. Assumes nothing.
use mathlib.Core.Path.{◌≡◌, sym, ap₂, ◌∙◌}
use Rattle.image.specs.Image.{read_text}
use Rattle.session_calls.proofs.Laws.{after_same}
use Rattle.host.specs.Receiver.{session_in}
use Rattle.host.specs.ImageClaims.{OneRestored}
use Rattle.host_answers.specs.declared.answers.Answered.{Answered}
use Rattle.host.specs.declared.receiver.Head.{Head}
use Rattle.host.proofs.Memory.{same_memory}

pub one-restored : OneRestored
one-restored =
    record {
      write = λ a b. (a.answer ∙ sym b.answer, a.lent ∙ sym b.lent);
      read =
          λ {text} {h} {table} {octets} {messages} {r = r} {q} a b.
          let s = session_in h table octets messages in
          let one = same_memory r.head q.head (after_same (read_text text) s a.state b.state) in
          let told : r ≡ q = ap₂ (λ (k : Head) (x : Answered). record { head = k; answer = x }) one.0 (a.answer ∙ sym b.answer) in
          (told, one.1, one.2, one.3);
    }
