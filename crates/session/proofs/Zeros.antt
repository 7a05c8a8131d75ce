-- Equal except for zeros at the end: a list is another with zeros after it exactly if it is at least as long and the same at each place,
-- past the end too, where there are zeros. Assumes nothing.
use Prim.Native.Nat.{ℕ, ◌+◌, ◌-◌}
use mathlib.Core.Path.{◌≡◌, refl, sym, ap, ◌∙◌}
use mathlib.Core.Logic.{⊎_elim}
use mathlib.Core.List.{List, ◌++◌}
use lib.ListN.{length, get_or, replicate, length-append, length-replicate, get_or-replicate, get_or-append, get_or-eq_default}
use lib.Seq.{ext_get_or, get_or-append-add}
use native.Mathlib.Omega.{arith}
use Rattle.octets.proofs.Laws.{below_or_not}
use Rattle.session.specs.Honest.{UpToZeros}

zeros-at : (n j : ℕ) → ◌≡◌ {A = ℕ} (get_or (replicate n 0) j 0) 0
zeros-at n j =
    ⊎_elim (λ inside. get_or-replicate n j 0 0 inside)
    (λ past. get_or-eq_default (replicate n 0) 0 {n = j} (omega (arith, length-replicate {A = ℕ} n 0)))
    (below_or_not j n)

-- zeros after a list change nothing at any place
pub append-zeros-at : (y : List ℕ) (n k : ℕ) → get_or (y ++ replicate n 0) k 0 ≡ get_or y k 0
append-zeros-at y n k =
    ⊎_elim (λ inside. get_or-append y (replicate n 0) 0 k inside)
    (λ past.
    let place : k ≡ length y + (k - length y) = omega arith in
    ap (λ (j : ℕ). get_or (y ++ replicate n 0) j 0) place
    ∙ get_or-append-add y (replicate n 0) (k - length y) 0
    ∙ zeros-at n (k - length y)
    ∙ sym (get_or-eq_default y 0 {n = k} past))
    (below_or_not k (length y))

pub up-to-zeros-same : (x : List ℕ) → UpToZeros x x
up-to-zeros-same x = record { long = omega arith; same = λ k. refl }

pub up-to-zeros-append : (y : List ℕ) (n : ℕ) → UpToZeros (y ++ replicate n 0) y
up-to-zeros-append y n =
    record { long = omega (arith, length-append y (replicate n 0)); same = append-zeros-at y n }

-- the zeros are as many as the length differs
pub zeros-after : (x y : List ℕ) → UpToZeros x y → x ≡ y ++ replicate (length x - length y) 0
zeros-after x y up =
    ext_get_or 0 x (y ++ replicate (length x - length y) 0)
    (let fits = up.long in
    omega (arith, length-append y (replicate (length x - length y) 0), length-replicate {A = ℕ} (length x - length y) 0))
    (λ k inside. up.same k ∙ sym (append-zeros-at y (length x - length y) k))
