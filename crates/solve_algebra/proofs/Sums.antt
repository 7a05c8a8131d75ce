-- Laws of sums over the columns of a row. Assumes nothing.
use Prim.Native.Nat.{ℕ, zero, suc, ◌^◌, ◌<◌}
use mathlib.Core.Path.{◌≡◌, refl, sym, ap, ap₂, ◌∙◌}
use mathlib.Core.Logic.{⊎_elim}
use mathlib.Core.Bool.{Bool, true, false, not, cond, xor, and-true, and-false, false≢true}
use lib.Bits.{bit_xor, xor_comm, xor_self, xor_zero_r, xor_lt}
use lib.Dec.{eqb}
use borrow.Author.Tests.{eq-eqb, ne_eqb}
use native.Mathlib.Nat.{not-suc-le-zero}
use native.Mathlib.Omega.{arith}
use Rattle.octets.proofs.Laws.{same_or_not, and_left, xor_assoc, xor-left-comm}
use Rattle.solve_algebra.specs.Sums.{sum_over, without, one_at}
use Rattle.solve_algebra.specs.Systems.{Empty, Alone}

-- ---- without a column
pub without_other : (row : ℕ → Bool) (c k : ℕ) → (k ≡ c → ⊥) → without row c k ≡ row k
without_other row c k other = rw (ne_eqb k c other) (and-true (row k))

pub without-same : (row : ℕ → Bool) (c : ℕ) → without row c c ≡ false
without-same row c = rw (eq-eqb c c refl) (and-false (row c))

pub without-has : (row : ℕ → Bool) (c k : ℕ) → without row c k ≡ true → row k ≡ true
without-has row c k e = and_left (row k) (not (eqb k c)) e

-- a column that is left is not the one taken out
pub without-apart : (row : ℕ → Bool) (c k : ℕ) → without row c k ≡ true → k ≡ c → ⊥
without-apart row c k e same = false≢true (sym (ap (without row c) same ∙ without-same row c) ∙ e)

-- ---- rows that agree, with values that agree where they have a column
pub sum_same : (n : ℕ) (row other : ℕ → Bool) (values others : ℕ → ℕ)
    → ((c : ℕ) → c < n → row c ≡ other c) → ((c : ℕ) → c < n → row c ≡ true → values c ≡ others c)
    → sum_over n row values ≡ sum_over n other others
unfolding sum_over
sum_same zero row other values others rows same = refl
sum_same (suc n) row other values others rows same =
    ap₂ bit_xor (sum_same n row other values others (λ c below. rows c (omega arith)) (λ c below. same c (omega arith)))
    (last (row n) refl ∙ ap (λ (t : Bool). cond t (others n) 0) (rows n (omega arith)))
  where
    last : (t : Bool) → row n ≡ t → cond (row n) (values n) 0 ≡ cond (row n) (others n) 0
    last true e = rw e (same n (omega arith) e)
    last false e = rw e refl

-- ---- a row without columns, and values that are zero
pub sum-none : (n : ℕ) (row : ℕ → Bool) (values : ℕ → ℕ) → Empty n row → sum_over n row values ≡ 0
unfolding sum_over
sum-none zero row values none = refl
sum-none (suc n) row values none =
    ap₂ bit_xor (sum-none n row values (λ c below. none c (omega arith))) (ap (λ (t : Bool). cond t (values n) 0) (none n (omega arith)))

pub sum_zeros : (n : ℕ) (row : ℕ → Bool) → sum_over n row (λ c. 0) ≡ 0
unfolding sum_over
sum_zeros zero row = refl
sum_zeros (suc n) row = ap₂ bit_xor (sum_zeros n row) (either (row n))
  where
    either : (t : Bool) → ◌≡◌ {A = ℕ} (cond t 0 0) 0
    either true = refl
    either false = refl

-- ---- two rows combined: a column that both have is gone
pub xor-false : (t : Bool) → xor t false ≡ t
unfolding xor
xor-false true = refl
xor-false false = refl

one-column : (a b : Bool) (v : ℕ) → cond (xor a b) v 0 ≡ bit_xor (cond a v 0) (cond b v 0)
unfolding xor
one-column true true v = sym (xor_self v)
one-column true false v = sym (xor_zero_r v)
one-column false true v = refl
one-column false false v = refl

pub sum-combined : (n : ℕ) (row other : ℕ → Bool) (values : ℕ → ℕ)
    → sum_over n (λ c. xor (row c) (other c)) values ≡ bit_xor (sum_over n row values) (sum_over n other values)
unfolding sum_over
sum-combined zero row other values = refl
sum-combined (suc n) row other values =
    ap₂ bit_xor (sum-combined n row other values) (one-column (row n) (other n) (values n))
    ∙ crossed (sum_over n row values) (sum_over n other values) (cond (row n) (values n) 0) (cond (other n) (values n) 0)
  where
    crossed : (a b c d : ℕ) → bit_xor (bit_xor a b) (bit_xor c d) ≡ bit_xor (bit_xor a c) (bit_xor b d)
    crossed a b c d =
        xor_assoc a b (bit_xor c d) ∙ ap (bit_xor a) (xor-left-comm b c d) ∙ sym (xor_assoc a c (bit_xor b d))

-- ---- one column apart from the others
pub sum-parted : (n : ℕ) (row : ℕ → Bool) (values : ℕ → ℕ) (c : ℕ) → c < n → row c ≡ true
    → sum_over n row values ≡ bit_xor (values c) (sum_over n (without row c) values)
unfolding sum_over
sum-parted zero row values c below has = absurd (not-suc-le-zero below)
sum-parted (suc n) row values c below has =
    ⊎_elim
    (λ same.
    let rest : sum_over n row values ≡ sum_over n (without row c) values =
    sum_same n row (without row c) values values (λ k inside. sym (without_other row c k (omega arith))) (λ k inside e. refl) in
    ap (λ (j : ℕ). bit_xor (sum_over n row values) (cond (row j) (values j) 0)) (sym same)
    ∙ ap₂ (λ (x : ℕ) (t : Bool). bit_xor x (cond t (values c) 0)) rest has
    ∙ xor_comm (sum_over n (without row c) values) (values c)
    ∙ ap (bit_xor (values c))
    (sym (xor_zero_r (sum_over n (without row c) values))
    ∙ ap (λ (t : Bool). bit_xor (sum_over n (without row c) values) (cond t (values n) 0))
    (sym (ap (without row c) (sym same) ∙ without-same row c))))
    (λ other.
    ap₂ bit_xor (sum-parted n row values c (omega arith) has)
    (ap (λ (t : Bool). cond t (values n) 0) (sym (without_other row c n (λ e. other (sym e)))))
    ∙ xor_assoc (values c) (sum_over n (without row c) values) (cond (without row c n) (values n) 0))
    (same_or_not c n)

-- a row that has one column alone
pub sum-alone : (n : ℕ) (row : ℕ → Bool) (values : ℕ → ℕ) (p : ℕ) → p < n → Alone n row p → sum_over n row values ≡ values p
sum-alone n row values p below alone =
    sum-parted n row values p below alone.has
    ∙ ap (bit_xor (values p)) (sum-none n (without row p) values (λ c inside. none c inside))
    ∙ xor_zero_r (values p)
  where
    none : (c : ℕ) → c < n → without row p c ≡ false
    none c inside =
        ⊎_elim (λ same. ap (without row p) same ∙ without-same row p)
        (λ other. without_other row p c other ∙ alone.others c inside other)
        (same_or_not c p)

-- one in column q, zero in all others
pub sum_one : (n : ℕ) (row : ℕ → Bool) (q : ℕ) → q < n → row q ≡ true → sum_over n row (one_at q) ≡ 1
sum_one n row q below has =
    sum-parted n row (one_at q) q below has
    ∙ ap₂ bit_xor (ap (λ (t : Bool). cond t 1 0) (eq-eqb q q refl))
    (sum_same n (without row q) (without row q) (one_at q) (λ c. 0) (λ c inside. refl)
    (λ c inside e. ap (λ (t : Bool). cond t 1 0) (ne_eqb c q (without-apart row q c e)))
    ∙ sum_zeros n (without row q))

-- ---- of numbers of k bits
pub sum-small : (k n : ℕ) (row : ℕ → Bool) (values : ℕ → ℕ) → 0 < 2 ^ k → ((c : ℕ) → values c < 2 ^ k) → sum_over n row values < 2 ^ k
unfolding sum_over
sum-small k zero row values some small = some
sum-small k (suc n) row values some small =
    xor_lt k (sum_over n row values) (cond (row n) (values n) 0) (sum-small k n row values some small) (either (row n))
  where
    either : (t : Bool) → cond t (values n) 0 < 2 ^ k
    either true = small n
    either false = some
