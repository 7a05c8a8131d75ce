-- The claims of this crate. Assumes nothing.
use Prim.Native.Nat.{ℕ, ◌+◌, ◌-◌, ◌≤◌, ◌<◌}
use mathlib.Core.Path.{◌≡◌, sym, ap, ◌∙◌}
use mathlib.Core.List.{List}
use mathlib.Core.Logic.{⊎_elim}
use lib.ListN.{length, take, drop}
use lib.Seq.{take-add, take_all}
use native.Mathlib.Omega.{arith}
use Rattle.octets.proofs.Laws.{below_or_not}
use Rattle.trace_compare_code.specs.Numbers.{often, KthPlace}
use Rattle.trace_compare_code.specs.DifferencesClaims.{Claims}
use Rattle.trace_compare_code.proofs.Often.{often-append, next-hit}

-- the more of a list, the more often
often-grows : (number : ℕ) (numbers : List ℕ) (i j : ℕ) → i ≤ j → often number (take i numbers) ≤ often number (take j numbers)
often-grows number numbers i j more =
    let place : i + (j - i) ≡ j = omega arith in
    let parts : often number (take j numbers) ≡ often number (take i numbers) + often number (take (j - i) (drop i numbers)) =
    ap (λ (n : ℕ). often number (take n numbers)) (sym place)
    ∙ ap (often number) (take-add i (j - i) numbers)
    ∙ often-append number (take i numbers) (take (j - i) (drop i numbers)) in
    omega arith

-- behind the place of the k-th there are more than k
past-kth : {numbers : List ℕ} {number k r : ℕ} → KthPlace numbers number k r → r < length numbers → (j : ℕ) → r < j
    → k < often number (take j numbers)
past-kth {numbers} {number} {k} {r} p there j behind =
    let found = p.found there in
    let hit = next-hit number numbers r there found.0 in
    let grows = often-grows number numbers (r + 1) j (omega arith) in
    omega (arith, found.1)

not-before : {numbers : List ℕ} {number k r q : ℕ} → KthPlace numbers number k r → KthPlace numbers number k q → r < q → ⊥
not-before {numbers} {number} {k} {r} {q} a b before =
    let there : r < length numbers = omega (arith, b.inside) in
    let more = past-kth a there q before in
    ⊎_elim (λ inside. omega (arith, (b.found inside).1))
    (λ past.
    let few = b.missing past in
    let all : often number (take q numbers) ≡ often number numbers = ap (often number) (take_all q numbers past) in
    omega arith)
    (below_or_not q (length numbers))

one_place : {numbers : List ℕ} {number k r q : ℕ} → KthPlace numbers number k r → KthPlace numbers number k q → r ≡ q
one_place {numbers} {number} {k} {r} {q} a b =
    ⊎_elim (λ before. absurd (not-before a b before))
    (λ not.
    ⊎_elim (λ before. absurd (not-before b a before)) (λ neither. omega arith) (below_or_not q r))
    (below_or_not r q)

pub claims : Claims
claims =
    record {
      one_outcome =
          record {
            count_of = λ numbers number a b. a ∙ sym b;
            find_kth = one_place;
            is_same = λ a b x y. x ∙ sym y;
            put = λ a b. (a.after ∙ sym b.after, a.lent ∙ sym b.lent);
          };
    }
