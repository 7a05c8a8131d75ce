-- Laws for callers: two outcomes of an offer that the promise allows have one answer and one view. Assumes nothing.
use Rattle.std.proofs.Common.{◌≡◌, ℕ, List, sym, refl, ◌∙◌, arith, Result, Ok, Err}
use Rattle.length.specs.declared.Refusal.{Refusal}
use Rattle.session_held.specs.Table.{Lent, view_in}
use Rattle.session_offer.specs.Outcome.{offered_outcome}
use Rattle.session_offer.specs.Promise.{Offers}

-- an answer's case is told by its number
pub offered-told : (r q : Result (Unit {0}) Refusal) → offered_outcome r ≡ offered_outcome q → r ≡ q
offered-told (Ok x) (Ok y) e = refl
offered-told (Ok y) (Err x) e = let z : ◌≡◌ {A = ℕ} 0 1 = cc in absurd (omega arith)
offered-told (Err x) (Ok y) e = let z : ◌≡◌ {A = ℕ} 0 1 = cc in absurd (omega arith)
offered-told (Err x) (Err y) e = cc

module _ {octets : List ℕ} {before after other : Lent} {r q : Result (Unit {0}) Refusal} (a : Offers octets before after r)
    (b : Offers octets before other q) where
  pub offer-answer : r ≡ q
  offer-answer = offered-told r q (a.told ∙ sym b.told)

  pub offer-view : view_in after ≡ view_in other
  offer-view = a.state ∙ sym b.state
