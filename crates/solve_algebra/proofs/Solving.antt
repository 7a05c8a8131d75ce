-- What a reduced table tells: if nothing but zero is asked of an empty row, then for any values in the columns that are no row's own
-- there are values that satisfy all rows; and a column that no row has alone takes two values. Assumes nothing.
use Prim.Native.Nat.{ℕ, ◌^◌, ◌≤◌, ◌<◌}
use mathlib.Core.Path.{◌≡◌, refl, sym, ap, ap₂, ◌∙◌}
use mathlib.Core.Logic.{⊎_elim}
use mathlib.Core.Bool.{Bool, true, false, cond}
use lib.Bits.{bit_xor, xor_comm, xor_lt}
use lib.Dec.{ltb}
use borrow.Author.Tests.{eq-eqb, lt-ltb, le-ltb}
use native.Mathlib.Omega.{arith}
use Rattle.octets.proofs.Laws.{below_or_not, true-or-false, xor-cancel-right}
use Rattle.solve_algebra.specs.First.{first_passing}
use Rattle.solve_algebra.specs.Sums.{sum_over, without, one_at}
use Rattle.solve_algebra.specs.Systems.{Satisfies, Determined, Alone, HasAlone, Reduced, Consistent}
use Rattle.solve_algebra.proofs.First.{first_passes, first-least}
use Rattle.solve_algebra.proofs.Sums.{sum_same, sum-none, sum_zeros, sum-parted, sum-alone, sum_one, sum-small}
use Rattle.solve_algebra.proofs.Sums.{without_other, without-has, without-apart}
use Rattle.solve_algebra.proofs.Owners.{own, owner, own-owns, own_below, owner_owns, owner_of, no-owner}

-- values that satisfy the rows: as given where a column is no row's own, and as the row asks where it is
unfoldable pub solved : ℕ → ℕ → (ℕ → ℕ → Bool) → (ℕ → ℕ) → (ℕ → ℕ) → ℕ → ℕ
solved n m rows asked given c =
    cond (ltb (owner n m rows c) m)
    (bit_xor (asked (owner n m rows c)) (sum_over n (without (rows (owner n m rows c)) c) given))
    (given c)

-- the given column on which the value in column p hangs, whatever is asked
pub record Hangs (n m : ℕ) (rows : ℕ → ℕ → Bool) (p : ℕ) : Type 0 where
  pub on : ℕ
  pub apart : (asked : ℕ → ℕ) → solved n m rows asked (λ c. 0) p ≡ solved n m rows asked (one_at on) p → ⊥

-- what is added to both sides may be left out
xor-left-out : (a x y : ℕ) → bit_xor a x ≡ bit_xor a y → x ≡ y
xor-left-out a x y e =
    sym (xor-cancel-right x a) ∙ ap (λ (z : ℕ). bit_xor z a) (xor_comm x a ∙ e ∙ xor_comm a y) ∙ xor-cancel-right y a

zero_one : ◌≡◌ {A = ℕ} 0 1 → ⊥
zero_one e = omega arith

module _ (n m : ℕ) (rows : ℕ → ℕ → Bool) where
  module _ (asked : ℕ → ℕ) (given : ℕ → ℕ) where
    -- values where a column has no owner, and where it has
    solved-free : (c : ℕ) → m ≤ owner n m rows c → solved n m rows asked given c ≡ given c
    unfolding solved
    solved-free c late =
        ap (λ (t : Bool). cond t (bit_xor (asked (owner n m rows c)) (sum_over n (without (rows (owner n m rows c)) c) given)) (given c))
        (le-ltb (owner n m rows c) m late)

    solved-owned : (i : ℕ) → i < m → own n m rows i < n
        → solved n m rows asked given (own n m rows i) ≡ bit_xor (asked i) (sum_over n (without (rows i) (own n m rows i)) given)
    unfolding solved
    solved-owned i below has =
        ap (λ (j : ℕ). cond (ltb j m) (bit_xor (asked j) (sum_over n (without (rows j) (own n m rows i)) given)) (given (own n m rows i)))
        (owner_of n m rows i below has)
        ∙ ap (λ (t : Bool). cond t (bit_xor (asked i) (sum_over n (without (rows i) (own n m rows i)) given)) (given (own n m rows i)))
        (lt-ltb i m below)

    -- a row with a column of its own is satisfied
    satisfied : (i : ℕ) → i < m → own n m rows i < n → sum_over n (rows i) (solved n m rows asked given) ≡ asked i
    satisfied i below has =
        let c : ℕ = own n m rows i in
        sum-parted n (rows i) (solved n m rows asked given) c has (own-owns n m rows i has).alone.has
        ∙ ap₂ bit_xor (solved-owned i below has)
        (sum_same n (without (rows i) c) (without (rows i) c) (solved n m rows asked given) given (λ k inside. refl)
        (λ k inside e. solved-free k (no-owner n m rows i k below (without-has (rows i) c k e) (without-apart (rows i) c k e) inside)))
        ∙ xor-cancel-right (asked i) (sum_over n (without (rows i) c) given)

    pub solved-satisfies : Reduced n m rows → Consistent n m rows asked → Satisfies n m rows asked (solved n m rows asked given)
    solved-satisfies reduced consistent i below =
        ⊎_elim (λ empty. sum-none n (rows i) (solved n m rows asked given) empty ∙ sym (consistent i below empty))
        (λ t. satisfied i below (own_below n m rows i t.0 t.1))
        (reduced i below)

    -- of numbers of k bits
    pub solved-small : (k : ℕ) → 0 < 2 ^ k → ((i : ℕ) → asked i < 2 ^ k) → ((c : ℕ) → given c < 2 ^ k)
        → (c : ℕ) → solved n m rows asked given c < 2 ^ k
    unfolding solved
    solved-small k some small each c = pick (ltb (owner n m rows c) m)
      where
        pick : (t : Bool)
            → cond t (bit_xor (asked (owner n m rows c)) (sum_over n (without (rows (owner n m rows c)) c) given)) (given c) < 2 ^ k
        pick true =
            xor_lt k (asked (owner n m rows c)) (sum_over n (without (rows (owner n m rows c)) c) given) (small (owner n m rows c))
            (sum-small k n (without (rows (owner n m rows c)) c) given some each)
        pick false = each c

  -- ---- a column that no row has alone takes two values
  -- where its owner has another column q: all zero and one at q give it two
  owner-hangs : (p q : ℕ) → p < n → q < n → owner n m rows p < m → without (rows (owner n m rows p)) p q ≡ true → Hangs n m rows p
  owner-hangs p q inside small early has = record { on = q; apart = apart }
    where
      there : (asked given : ℕ → ℕ)
          → solved n m rows asked given p ≡ bit_xor (asked (owner n m rows p)) (sum_over n (without (rows (owner n m rows p)) p) given)
      there asked given =
          let same = owner_owns n m rows p early in
          rw same at (solved-owned asked given (owner n m rows p) early (rw same inside))

      apart : (asked : ℕ → ℕ) → solved n m rows asked (λ c. 0) p ≡ solved n m rows asked (one_at q) p → ⊥
      apart asked e =
          let row : ℕ → Bool = without (rows (owner n m rows p)) p in
          zero_one
          (sym (sum_zeros n row)
          ∙ xor-left-out (asked (owner n m rows p)) (sum_over n row (λ c. 0)) (sum_over n row (one_at q))
          (sym (there asked (λ c. 0)) ∙ e ∙ there asked (one_at q))
          ∙ sum_one n row q small has)

  -- where it has no owner, its own value is free
  free-hangs : (p : ℕ) → m ≤ owner n m rows p → Hangs n m rows p
  free-hangs p late =
      record {
        on = p;
        apart = λ asked e.
            zero_one
            (sym (solved-free asked (λ c. 0) p late)
            ∙ e
            ∙ solved-free asked (one_at p) p late
            ∙ ap (λ (t : Bool). cond t 1 0) (eq-eqb p p refl));
      }

  pub hangs : (p : ℕ) → p < n → (HasAlone n m rows p → ⊥) → Hangs n m rows p
  hangs p inside none =
      ⊎_elim
      (λ early.
      let q : ℕ = first_passing n (without (rows (owner n m rows p)) p) in
      ⊎_elim
      (λ below. owner-hangs p q inside below early (first_passes n (without (rows (owner n m rows p)) p) below))
      (λ past. absurd (none (record { row = owner n m rows p; inside = early; alone = no_other early past })))
      (below_or_not q n))
      (λ late. free-hangs p late)
      (below_or_not (owner n m rows p) m)
    where
      no_other : owner n m rows p < m → n ≤ first_passing n (without (rows (owner n m rows p)) p) → Alone n (rows (owner n m rows p)) p
      no_other early past =
          let same = owner_owns n m rows p early in
          record {
            has = rw same at (own-owns n m rows (owner n m rows p) (rw same inside)).alone.has;
            others = λ c small other.
                ⊎_elim
                (λ has.
                absurd
                (omega (
                  arith,
                  first-least n (without (rows (owner n m rows p)) p) c (without_other (rows (owner n m rows p)) p c other ∙ has),
                )))
                (λ has-not. has-not)
                (true-or-false (rows (owner n m rows p) c));
          }

  -- ---- one system
  -- what a row asks is the value of the column that it has alone
  pub alone-value : (asked values : ℕ → ℕ) → Satisfies n m rows asked values → (p : ℕ) → p < n → (found : HasAlone n m rows p)
      → values p ≡ asked found.row
  alone-value asked values satisfies p inside found =
      sym (sum-alone n (rows found.row) values p inside found.alone) ∙ satisfies found.row found.inside

  -- a column that no row has alone has no one value
  pub undetermined : (asked : ℕ → ℕ) → Reduced n m rows → Consistent n m rows asked → (p : ℕ) → p < n
      → (HasAlone n m rows p → ⊥) → Determined n m rows asked p → ⊥
  undetermined asked reduced consistent p inside none one =
      let hang = hangs p inside none in
      hang.apart asked
      (one (solved n m rows asked (λ c. 0)) (solved n m rows asked (one_at hang.on))
      (solved-satisfies asked (λ c. 0) reduced consistent)
      (solved-satisfies asked (one_at hang.on) reduced consistent))

  -- where something is asked of an empty row, nothing satisfies the rows
  pub satisfied-consistent : (asked values : ℕ → ℕ) → Satisfies n m rows asked values → Consistent n m rows asked
  satisfied-consistent asked values satisfies i below empty = sym (satisfies i below) ∙ sum-none n (rows i) values empty
