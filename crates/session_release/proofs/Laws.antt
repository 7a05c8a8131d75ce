-- Laws for callers: what left, and where its packet is; the rules' number and values determine the case of an answer, so two answers that
-- say the same are the same. Assumes nothing.
use Rattle.std.proofs.Common.{◌≡◌, ℕ, ap, arith, Result, Ok, Err}
use Rattle.length.specs.declared.Refusal.{Refusal}
use Rattle.session_held.specs.Table.{state_of}
use Rattle.session_held.specs.declared.ReleaseKind.{ReleaseKind}
use Rattle.session_held.proofs.Laws.{kind-same}
use Rattle.session_release.specs.Outcome.{Handed, released_outcome}
use Rattle.session_release.specs.declared.Released.{Released}
-- ---- what the answer says of the number that left, and where its packet is
pub use Rattle.session_release.proofs.Copying.{Gone, gone, not-gone, gone-there, gone-short, gone-octets}

-- ---- an answer told by number and values
released-same : {k l : ReleaseKind} {n m x y s t : ℕ} → k ≡ l → n ≡ m → x ≡ y → s ≡ t
    → ◌≡◌ {A = Released} (record { kind = k; number = n; note = x; size = s }) (record { kind = l; number = m; note = y; size = t })
released-same kind number note size = rw (kind, number, note, size)

pub released-told : (r q : Result Released Refusal) → released_outcome r ≡ released_outcome q → r ≡ q
released-told (Ok a) (Ok b) e =
    let same : ◌≡◌ {A = Handed} (record { kind = state_of a.kind; number = a.number; note = a.note; size = a.size })
    (record { kind = state_of b.kind; number = b.number; note = b.note; size = b.size }) = cc in
    let kind : a.kind ≡ b.kind = kind-same a.kind b.kind (ap (λ (x : Handed). x.kind) same) in
    let number = ap (λ (x : Handed). x.number) same in
    let note = ap (λ (x : Handed). x.note) same in
    let size = ap (λ (x : Handed). x.size) same in
    ap Ok (released-same kind number note size)
released-told (Ok a) (Err y) e = let z : ◌≡◌ {A = ℕ} 0 1 = cc in absurd (omega arith)
released-told (Err x) (Ok b) e = let z : ◌≡◌ {A = ℕ} 0 1 = cc in absurd (omega arith)
released-told (Err x) (Err y) e = cc
