-- The claims of this crate, each proved by a law. Two outcomes are equal because an answer's case is its number and values,
-- and no two cases have the same. Assumes nothing.
use Rattle.std.proofs.Common.{Result, Ok, Err}
use mathlib.Core.Path.{◌≡◌, sym, ap, ap₂, ◌∙◌}
use Prim.Native.Nat.{ℕ}
use native.Mathlib.Omega.{arith}
use Rattle.length.specs.declared.Refusal.{Refusal}
use Rattle.length.specs.Answers.{length_outcome, written_outcome, LengthAnswer}
use Rattle.length.specs.Claims.{Claims, OneOutcome}
use Rattle.length.specs.declared.Length.{Length}
use Rattle.length.proofs.LengthRule.{written-reads, read-writes}

-- an answer's case is told by its number and values
pub length-told : (r q : Result Length Refusal) → length_outcome r ≡ length_outcome q → r ≡ q
length-told (Ok l) (Ok k) e =
    let same : ◌≡◌ {A = LengthAnswer} (record { value = l.value; size = l.size }) (record { value = k.value; size = k.size }) = cc in
    ap₂ (λ (x y : ℕ). Ok (record { value = x; size = y })) (ap (λ (a : LengthAnswer). a.value) same) (ap (λ (a : LengthAnswer). a.size) same)
length-told (Ok l) (Err x) e = let z : ◌≡◌ {A = ℕ} 0 1 = cc in absurd (omega arith)
length-told (Err x) (Ok l) e = let z : ◌≡◌ {A = ℕ} 0 1 = cc in absurd (omega arith)
length-told (Err x) (Err y) e = cc

pub written-told : (r q : Result ℕ Refusal) → written_outcome r ≡ written_outcome q → r ≡ q
written-told (Ok v) (Ok w) e = cc
written-told (Ok v) (Err x) e = let z : ◌≡◌ {A = ℕ} 0 1 = cc in absurd (omega arith)
written-told (Err x) (Ok v) e = let z : ◌≡◌ {A = ℕ} 0 1 = cc in absurd (omega arith)
written-told (Err x) (Err y) e = cc

pub one-outcome : OneOutcome
one-outcome =
    record {
      read = λ {octets = s} {r} {q} p t. length-told r q (p.answer ∙ sym t.answer);
      read_within = λ {least} {most} {octets = s} {r} {q} p t. length-told r q (p.answer ∙ sym t.answer);
      written = λ {w} {old} {new} {other} {r} {q} p t. (written-told r q (p.answer ∙ sym t.answer), p.lent ∙ sym t.lent);
    }

pub claims : Claims
claims = record { written_reads = written-reads; read_writes = read-writes; one_outcome = one-outcome }
