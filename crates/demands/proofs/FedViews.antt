-- The view of a session that an honest sender alone feeds: demand 3 is proved of these views. Definitions only.
use Prim.Native.Nat.{ℕ, ◌<◌}
use mathlib.Core.Path.{◌≡◌}
use mathlib.Core.Bool.{Bool}
use mathlib.Core.List.{List, [], ◌∷◌}
use lib.ListN.{length}
use Rattle.length.specs.Refusals as refusals
use Rattle.length.specs.Answers.{done, refuse}
use Rattle.session.specs.View.{View, fresh_view}
use Rattle.session.specs.Offer as offers
use Rattle.solve.specs.Solved.{Solves}
use Rattle.solve.specs.Solve as solutions
use Rattle.demands.specs.Common.History.{after_move, offer, release, solve}
use Rattle.demands.specs.Demand3.Feeding.{Near, datagram_at}

module _ (row datagrams : List (List ℕ)) where
  pub data FedView : View → Type 0 where
    fresh : FedView fresh_view
    arrives : {view : View} → FedView view → (S : ℕ) → S < length row → Near S view
        → FedView (after_move (offer (datagram_at datagrams S)) view)
    releases : {view : View} → FedView view → (leave : Bool) (room : ℕ) → FedView (after_move (release leave room) view)
    solves : {view : View} → FedView view → Solves view (solutions.solve view) → FedView (after_move solve view)

  -- a list of accepted or repeated datagrams
  pub data TakesViews : List ℕ → View → View → Type 0 where
    none : {view : View} → TakesViews [] view view
    accepted : {S : ℕ} {places : List ℕ} {view mid last : View} → S < length row → Near S view
        → offers.offer (datagram_at datagrams S) view ≡ done mid
        → TakesViews places mid last → TakesViews (S ∷ places) view last
    repeated : {S : ℕ} {places : List ℕ} {view last : View} → S < length row → Near S view
        → offers.offer (datagram_at datagrams S) view ≡ refuse refusals.repeated
        → TakesViews places view last → TakesViews (S ∷ places) view last
