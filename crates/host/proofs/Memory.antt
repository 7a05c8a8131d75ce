-- What is in the caller's memory: one session, one memory. Assumes nothing.
use Prim.Native.Nat.{ℕ}
use mathlib.Core.Path.{◌≡◌, ap}
use mathlib.Core.List.{List}
use Rattle.session_held.specs.declared.Session.{Session}
use Rattle.host.specs.Receiver.{head_of, session_in}
use Rattle.host.specs.declared.receiver.Head.{Head}

pub same_memory : (r q : Head) {t o g t₂ o₂ g₂ : List ℕ} → session_in r t o g ≡ session_in q t₂ o₂ g₂
    → (r ≡ q) × (t ≡ t₂) × (o ≡ o₂) × (g ≡ g₂)
same_memory r q e =
    (ap (λ (s : Session). head_of s.base s.counts) e, ap (λ (s : Session). s.table) e, ap (λ (s : Session). s.octets) e, ap (λ (s : Session). s.messages) e)
