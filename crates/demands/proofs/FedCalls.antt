-- The calls of a session that an honest sender feeds are a chain of demand 2's, call by call. Assumes nothing.
use Prim.Native.Nat.{ℕ}
use mathlib.Core.Path.{refl, subst, ◌∙◌}
use mathlib.Core.List.{List, ◌∷◌, append-nil}
use Rattle.session_held.specs.Promise.{Fresh}
use Rattle.session_held.specs.declared.Session.{Session}
use Rattle.session_calls.specs.Receiver.{OfferOwes}
use Rattle.session_calls.specs.declared.Returned.{Returned}
use Rattle.demands.specs.Common.Calls as chain
use Rattle.demands.specs.Common.Calls.{Calls, start, ◌then◌, Called, offer, left_by}
use Rattle.demands.specs.Demand3.Feeding.{datagram_at, Offers, Fed, fresh, offered, released, solved, Takes, none, accepted}
use Rattle.demands.specs.Demand3.Feeding.{repeated}
use Rattle.demands.specs.Demand3.FedCalls as fed
use Rattle.demands.specs.Demand3.FedCalls.{CameBy, Offering, CameOn}
use Rattle.demands.proofs.Calling.{fresh-seen, called_on}
use Rattle.demands.proofs.KnownReached.{known-reached-by}

came-by : {first s : Session} {calls : Calls} → Fresh first → Called first calls s → CameBy calls s
came-by {first} f called =
    record { first = first; fresh = f; called = called; known = known-reached-by (called_on (fresh-seen first f) called) }

module _ {row datagrams : List (List ℕ)} where
  pub call-of : {S : ℕ} {s : Session} {r : Returned (Unit {0})} → Offers row datagrams S s r → OfferOwes s (datagram_at datagrams S) r
  call-of {s = s} {r = r} o = subst (λ (octets : List ℕ). OfferOwes s octets r) o.one o.call

  -- one call more
  pub fed-calls : {s : Session} → Fed row datagrams s → (calls : Calls) × CameBy calls s
  fed-calls (fresh f) = (start, came-by f chain.at_start)
  fed-calls (offered f o) = let c = fed-calls f in (_, came-by c.1.fresh (chain.offered c.1.called (call-of o)))
  fed-calls (released f owes) = let c = fed-calls f in (_, came-by c.1.fresh (chain.released c.1.called owes))
  fed-calls (solved f owes) = let c = fed-calls f in (_, came-by c.1.fresh (chain.solved c.1.called owes))

  -- ---- a list of accepted or repeated datagrams
  came-on : {calls : Calls} {S : ℕ} {places : List ℕ} {s t : Session} {r : Returned (Unit {0})} → CameBy calls s
      → Offers row datagrams S s r
      → (CameBy (calls then offer (datagram_at datagrams S) r.answer) r.session
      → CameOn datagrams (calls then offer (datagram_at datagrams S) r.answer) places t)
      → CameOn datagrams calls (S ∷ places) t
  unfolding left_by
  came-on {calls} {r = r} came o rest =
      let on = rest (came-by came.fresh (chain.offered came.called (call-of o))) in
      record {
        last = on.last;
        offers = fed.next r.answer on.offers;
        came_by = on.came_by;
        none_left = on.none_left ∙ append-nil (left_by calls);
      }

  pub takes-calls : {calls : Calls} {places : List ℕ} {s t : Session} → CameBy calls s → Takes row datagrams places s t
      → CameOn datagrams calls places t
  takes-calls {calls} came none = record { last = calls; offers = fed.none; came_by = came; none_left = refl }
  takes-calls {calls = calls} came (accepted {S = S} {r = r} o is rest) =
      came-on came o (λ on. takes-calls {calls = calls then offer (datagram_at datagrams S) r.answer} on rest)
  takes-calls {calls = calls} came (repeated {S = S} {r = r} o is rest) =
      came-on came o (λ on. takes-calls {calls = calls then offer (datagram_at datagrams S) r.answer} on rest)
