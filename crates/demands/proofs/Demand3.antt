-- Demand 3: a session that the sender alone feeds is seen as a view that it alone feeds, and a list of offers that are accepted
-- or refused as repeated leads from view to view; so what holds of views holds of sessions. Assumes nothing.
use Prim.Native.Nat.{ℕ}
use mathlib.Core.Path.{◌≡◌, refl, sym, ap, subst, ◌∙◌}
use mathlib.Core.List.{List, Memᴰ as Among}
use lib.ListN.{length}
use native.Mathlib.Omega.{arith}
use Rattle.length.specs.Refusals as refusals
use Rattle.length.specs.Answers.{Answer, done, refused, refuse, afterwards}
use Rattle.session.specs.Honest.{TrueCells}
use Rattle.session.specs.View.{View, fresh_view}
use Rattle.session.specs.Offer as offers
use Rattle.session_held.specs.Table.{view_of}
use Rattle.session_held.specs.declared.Session.{Session}
use Rattle.session_offer.specs.Outcome.{offered_outcome, accepted_of}
use Rattle.session_calls.specs.Receiver.{SeenAs}
use Rattle.session_calls.specs.declared.Returned.{Returned}
use Rattle.sender.specs.Honest.{HonestSender}
use Rattle.demands.specs.Common.History.{after_move, offer}
use Rattle.demands.specs.Demand3.Feeding.{Near, sent_at, datagram_at, Offers, Fed, fresh, offered, released, solved}
use Rattle.demands.specs.Demand3.Feeding.{Takes, none, accepted, repeated}
use Rattle.demands.specs.Demand3.Demand3.{TwoLists, BurstBack, Demand3}
use Rattle.demands.proofs.Calling.{fresh-seen, offer-is, offered-seen, released-seen, solved-seen, seen-solves}
use Rattle.demands.proofs.FedViews as views
use Rattle.demands.proofs.FedViews.{FedView, TakesViews, arrives, releases, solves}
use Rattle.demands.proofs.Sent.{one-origin}
use Rattle.demands.proofs.Fed.{fed-sound}
use Rattle.demands.proofs.FedCalls.{call-of, fed-calls, takes-calls}
use Rattle.demands.proofs.Lists.{views-no-less}
use Rattle.demands.proofs.ListBurst.{view-burst}

-- ---- what an offer came to
done-of : (a : Answer View) → accepted_of a ≡ done tt → (mid : View) × (a ≡ done mid)
done-of (done mid) e = (mid, refl)
done-of (refused why) e = let z : ◌≡◌ {A = ℕ} 0 1 = cc in absurd (omega arith)

repeated-of : (a : Answer View) → accepted_of a ≡ refuse refusals.repeated → a ≡ refuse refusals.repeated
repeated-of (done mid) e = let z : ◌≡◌ {A = ℕ} 0 1 = cc in absurd (omega arith)
repeated-of (refused why) e = cc

-- ---- sessions and views
pub record SeenFed (row datagrams : List (List ℕ)) (s : Session) : Type 0 where
  pub view : View
  pub seen : SeenAs view s
  pub fed : FedView row datagrams view

pub record SeenTaken (row datagrams : List (List ℕ)) (places : List ℕ) (view : View) (t : Session) : Type 0 where
  pub last : View
  pub seen : SeenAs last t
  pub takes : TakesViews row datagrams places view last

module _ {row datagrams : List (List ℕ)} where
  -- a session that the sender feeds
  pub fed-seen : {s : Session} → Fed row datagrams s → SeenFed row datagrams s
  fed-seen (fresh {s} f) = record { view = fresh_view; seen = fresh-seen s f; fed = views.fresh }
  fed-seen (offered {S = S} f o) =
      let b = fed-seen f in
      record {
        view = after_move (offer (datagram_at datagrams S)) b.view;
        seen = offered-seen b.seen (call-of o);
        fed = arrives b.fed S o.sent (subst (Near S) b.seen.view o.near);
      }
  fed-seen (released {leave = leave} {old = old} f owes) =
      let b = fed-seen f in
      record { view = _; seen = released-seen b.seen owes; fed = releases b.fed leave (length old) }
  fed-seen (solved f owes) =
      let b = fed-seen f in
      record { view = _; seen = solved-seen b.seen owes; fed = solves b.fed (seen-solves b.seen) }

  -- a list of accepted or repeated datagrams
  module _ {view : View} {s : Session} (seen : SeenAs view s) {S : ℕ} {r : Returned (Unit {0})} (o : Offers row datagrams S s r) where
    near-seen : Near S view
    near-seen = subst (Near S) seen.view o.near

    -- the view that the offer came to
    came-to : (a : Answer View) → offers.offer (datagram_at datagrams S) view ≡ a → SeenAs (afterwards a view) r.session
    unfolding after_move
    came-to a is = subst (λ (x : Answer View). SeenAs (afterwards x view) r.session) is (offered-seen seen (call-of o))

    answer-is : accepted_of (offers.offer (datagram_at datagrams S) view) ≡ offered_outcome r.answer
    answer-is = sym ((call-of o).answer ∙ ap accepted_of (offer-is seen (datagram_at datagrams S)))

  pub takes-seen : {places : List ℕ} {view : View} {s t : Session} → SeenAs view s → Takes row datagrams places s t
      → SeenTaken row datagrams places view t
  takes-seen {view = view} seen none = record { last = view; seen = seen; takes = views.none }
  takes-seen {view = view} seen (accepted {S = S} o is rest) =
      let mid = done-of (offers.offer (datagram_at datagrams S) view) (answer-is seen o ∙ ap offered_outcome is) in
      let b = takes-seen (came-to seen o (done mid.0) mid.1) rest in
      record { last = b.last; seen = b.seen; takes = views.accepted o.sent (near-seen seen o) mid.1 b.takes }
  takes-seen {view = view} seen (repeated {S = S} o is rest) =
      let again = repeated-of (offers.offer (datagram_at datagrams S) view) (answer-is seen o ∙ ap offered_outcome is) in
      let b = takes-seen (came-to seen o (refuse refusals.repeated) again) rest in
      record { last = b.last; seen = b.seen; takes = views.repeated o.sent (near-seen seen o) again b.takes }

  pub takes-fed : {places : List ℕ} {s t : Session} → Fed row datagrams s → Takes row datagrams places s t → Fed row datagrams t
  takes-fed f none = f
  takes-fed f (accepted o is rest) = takes-fed (offered f o) rest
  takes-fed f (repeated o is rest) = takes-fed (offered f o) rest

  -- ---- the demand
  module _ (honest : HonestSender row datagrams) {s : Session} (f : Fed row datagrams s) where
    no-less-known : {first second : List ℕ} {one two : Session} → Takes row datagrams first s one → Takes row datagrams second s two
        → ((S : ℕ) → Among S first → Among S second) → TwoLists row (view_of one) (view_of two)
    no-less-known takes_one takes_two all =
        let b = fed-seen f in
        let one = takes-seen b.seen takes_one in
        let two = takes-seen b.seen takes_two in
        rw (one.seen.view, two.seen.view) (views-no-less honest b.fed one.takes two.takes all)

    known-right : TrueCells (sent_at row (view_of s)) (view_of s).cells
    known-right =
        let b = fed-seen f in
        rw b.seen.view (fed-sound honest b.fed).right

    burst-back : BurstBack (view_of s)
    burst-back =
        let b = fed-seen f in
        subst BurstBack (sym b.seen.view) (view-burst honest b.fed)

pub demand-3 : Demand3
demand-3 =
    record {
      one_origin = one-origin;
      no_less_known = λ row datagrams honest s f first second one two takes_one takes_two all. no-less-known honest f takes_one takes_two all;
      known_right = λ row datagrams honest s f. known-right honest f;
      burst_back = λ row datagrams honest s f. burst-back honest f;
      takes_fed = λ row datagrams places s t f takes. takes-fed f takes;
      fed_calls = λ row datagrams s f. fed-calls f;
      takes_calls = λ row datagrams places s t takes calls came. takes-calls came takes;
    }
