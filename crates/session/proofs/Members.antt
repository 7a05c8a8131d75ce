-- Laws of the members of a message: no number is in it twice, all are in the reach n·m before S, two of them are at least m
-- apart, and each number of the reach is in exactly one message. Assumes nothing.
use Prim.Native.Nat.{ℕ, zero, suc, ◌+◌, ◌-◌, ◌*◌, ◌/◌, ◌%◌, ◌≤◌, ◌<◌, zero-le, suc-le-suc}
use mathlib.Core.Path.{◌≡◌, sym, ap, ◌∙◌}
use mathlib.Core.Logic.{◌⊎◌, ◌↔◌, inl, inr, ⊎_elim}
use mathlib.Core.List.Memᴰ
use mathlib.Core.List.{Memᴰ as Among}
use native.Mathlib.Nat.{suc-mul, mul-le-mul_right, div-add-mod', div-lt_iff_lt-mul}
use native.Mathlib.Omega.{arith}
use lib.Arith.{digits_mod}
use Rattle.octets.specs.Place.{tab}
use Rattle.octets.proofs.Laws.{tab-among, among-tab, below_or_not, same_or_not}
use Rattle.session.specs.Members.{member_at, members_of, InReach}
use Rattle.session.specs.Reached.{Distinct, nothing, fresh}

-- a list given by place has no element twice if its places' elements differ
pub distinct-tab : (n : ℕ) (f : ℕ → ℕ) → ((j k : ℕ) → j < k → k < n → f j ≡ f k → ⊥) → Distinct (tab n f)
unfolding tab
distinct-tab zero f differ = nothing
distinct-tab (suc n) f differ =
    fresh (λ m. again (among-tab n (λ k. f (suc k)) m))
    (distinct-tab n (λ k. f (suc k)) (λ j k less below. differ (suc j) (suc k) (suc-le-suc less) (suc-le-suc below)))
  where
    again : (k : ℕ) × (k < n) × (f zero ≡ f (suc k)) → ⊥
    again t = differ zero (suc t.0) (suc-le-suc zero-le) (suc-le-suc t.1) t.2

module _ (S n m i : ℕ) (reach : n * m ≤ S) (low : i < m) where
  -- member t, by a sum: nothing is below zero
  member-sum : (t : ℕ) → t < n → member_at S m i t + (t * m + m) ≡ S + i
  member-sum t below = omega (arith, mul-le-mul_right m below, suc-mul t m)

  -- a member is one of n, each m before the last
  pub record Member (p : ℕ) : Type 0 where
    pub t : ℕ
    pub below : t < n
    pub place : p ≡ member_at S m i t
    pub sum : p + (t * m + m) ≡ S + i
    pub within : t * m + m ≤ n * m

  pub member-says : {p : ℕ} → Among p (members_of S n m i) → Member p
  unfolding members_of
  member-says {p} at = told (among-tab n (member_at S m i) at)
    where
      told : (t : ℕ) × (t < n) × (p ≡ member_at S m i t) → Member p
      told x =
          record {
            t = x.0;
            below = x.1;
            place = x.2;
            sum = rw x.2 (member-sum x.0 x.1);
            within = omega (arith, mul-le-mul_right m x.1, suc-mul x.0 m);
          }

  -- S itself is in none, and all are in the reach
  pub member-in-reach : {p : ℕ} → Among p (members_of S n m i) → InReach S n m p
  member-in-reach at = let says = member-says at in omega arith

  -- two members that differ are at least m apart
  apart : (t u : ℕ) → t < u → t * m + m ≤ u * m
  apart t u less = omega (arith, mul-le-mul_right m less, suc-mul t m)

  pub members-apart : {p q : ℕ} → Among p (members_of S n m i) → Among q (members_of S n m i) → (q ≡ p → ⊥)
      → (p + m ≤ q) ⊎ (q + m ≤ p)
  members-apart {p} {q} at other_at other = pick (below_or_not P.t Q.t)
    where
      P : Member p
      P = member-says at

      Q : Member q
      Q = member-says other_at

      pick : (P.t < Q.t) ⊎ (Q.t ≤ P.t) → (p + m ≤ q) ⊎ (q + m ≤ p)
      pick (inl less) = inr (omega (arith, apart P.t Q.t less, P.sum, Q.sum))
      pick (inr not-less) =
          ⊎_elim (λ same. absurd (other (Q.place ∙ ap (member_at S m i) same ∙ sym P.place)))
          (λ differ. inl (omega (arith, apart Q.t P.t (omega arith), P.sum, Q.sum)))
          (same_or_not Q.t P.t)

  -- no number is in a message twice
  pub members-distinct : Distinct (members_of S n m i)
  unfolding members_of
  members-distinct =
      distinct-tab n (member_at S m i)
      (λ t u less below same. omega (arith, apart t u less, member-sum u below, member-sum t (omega arith)))

  -- the members of message i are exactly the numbers of the reach whose distance to S leaves m - 1 - i
  pub members-exact : (p : ℕ) → Among p (members_of S n m i) ↔ (InReach S n m p × (((S - 1) - p) % m ≡ (m - 1) - i))
  unfolding members_of
  members-exact p = (λ at. (member-in-reach at, left at), λ x. back x.0 x.1)
    where
      left : Among p (members_of S n m i) → ((S - 1) - p) % m ≡ (m - 1) - i
      left at =
          let says = member-says at in
          let distance : (S - 1) - p ≡ says.t * m + ((m - 1) - i) = omega arith in
          ap (λ (d : ℕ). d % m) distance ∙ digits_mod says.t (omega arith)

      back : InReach S n m p → ((S - 1) - p) % m ≡ (m - 1) - i → Among p (members_of S n m i)
      back inside rest =
          let t : ℕ = ((S - 1) - p) / m in
          let whole = div-add-mod' ((S - 1) - p) m in
          let below : t < n = (div-lt_iff_lt-mul {k = m} {x = (S - 1) - p} {y = n} (omega arith)).1 (omega arith) in
          Memᴰ.cast (omega (arith, member-sum t below)) (tab-among n (member_at S m i) t below)
