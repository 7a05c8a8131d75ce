-- The claims about masks. Statements alone.
use Rattle.std.specs.Prelude.{ℕ, ◌<◌, ◌≡◌, ◌↔◌, Bool, get_or}
use mathlib.Core.List.{List, map, Memᴰ as Among}
use Rattle.octets.specs.ExclusiveOr.{xor_at}
use Rattle.solve_algebra.specs.Sums.{sum_over}
use Rattle.solve_algebra.specs.Systems.{Alone}
use Rattle.solve_algebra.specs.Masks.{mask_places, has_place, mask_of, lone_place}
use Rattle.solve_algebra.specs.MasksPromise.{HasTold, OneMade, FirstFound, LoneFound, BackMade}

-- the lone place is p exactly if p is the only place that the mask has
abbrev pub LoneExact : Type 0
LoneExact = (mask p : ℕ) → p < mask_places → Alone mask_places (has_place mask) p ↔ (lone_place mask ≡ p)

-- over the mask of some places, the sum of octet k at each place is octet k of the exclusive or of their octets (rule 4.13)
abbrev pub SumsUp : Type 0
SumsUp = (x : ℕ → List ℕ) (k : ℕ) (ps : List ℕ) → ((p : ℕ) → Among p ps → p < mask_places)
    → sum_over mask_places (has_place (mask_of ps)) (λ p. get_or (x p) k 0) ≡ xor_at (map x ps) k

-- two answers that a promise allows are equal (rule 28.14)
pub record OneOutcome : Type 0 where
  pub has : {mask place : ℕ} {r q : Bool} → HasTold mask place r → HasTold mask place q → r ≡ q
  pub one : {place r q : ℕ} → OneMade place r → OneMade place q → r ≡ q
  pub first : {mask r q : ℕ} → FirstFound mask r → FirstFound mask q → r ≡ q
  pub lone : {mask r q : ℕ} → LoneFound mask r → LoneFound mask q → r ≡ q
  pub back : {at n m r q : ℕ} → BackMade at n m r → BackMade at n m q → r ≡ q

pub record Claims : Type 0 where
  pub lone_exact : LoneExact
  pub sums_up : SumsUp
  pub one_outcome : OneOutcome
