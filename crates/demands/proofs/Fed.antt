-- Views of sessions that an honest sender alone feeds: every offer of its datagrams is refused, or accepted at its own place; so all of
-- them are sound. Assumes nothing.
use Prim.Native.Nat.{ℕ, ◌+◌, ◌%◌, ◌≤◌, ◌<◌}
use mathlib.Core.Path.{◌≡◌, refl, sym, ap, ap₂, subst, ◌∙◌}
use mathlib.Core.Bool.{Bool, true, false, cond}
use mathlib.Core.List.{List}
use lib.ListN.{length}
use lib.Dec.{ltb}
use native.Mathlib.Omega.{arith}
use borrow.Author.Tests.{ltb-true}
use Rattle.length.specs.Refusals as refusals
use Rattle.length.specs.Answers.{Answer, done, refused, refuse, afterwards}
use Rattle.length.proofs.Laws.{done-same}
use Rattle.length.specs.Refusals.{number_of}
use Rattle.datagram.specs.Carried.{Carried}
use Rattle.datagram.specs.Read.{carried_by}
use Rattle.session.specs.Cells.{kept_ahead}
use Rattle.session.specs.Held.{held_at}
use Rattle.session.specs.View.{View, numbers, distance}
use Rattle.session.specs.Offer as offers
use Rattle.session.specs.Offer.{accept, accepted_at, offered, late_from}
use Rattle.session.specs.Release.{Release, release, view_after_release}
use Rattle.session.proofs.Laws.{release-leaves}
use Rattle.solve.specs.Solved.{Solves}
use Rattle.solve.specs.Solve as solutions
use Rattle.sender.specs.Honest.{HonestSender}
use Rattle.demands.specs.Common.History as moves
use Rattle.demands.specs.Common.History.{after_move, offer}
use Rattle.demands.specs.Demand3.Feeding.{place_of, Near, datagram_at}
use Rattle.demands.proofs.Ranges.{ViewInRanges}
use Rattle.demands.proofs.FedViews.{FedView, fresh, arrives, releases, solves}
use Rattle.demands.proofs.Taken.{offer-done}
use Rattle.demands.proofs.Steps.{moved_sum}
use Rattle.demands.proofs.Sent.{Follows, follows_of}
use Rattle.demands.proofs.Sound.{Sound, fresh-sound, accept-sound}
use Rattle.demands.proofs.SoundOn.{on-sound}
use Rattle.demands.proofs.SolveDone.{solve-done}
use Rattle.demands.proofs.SolvedSound.{solved-to-sound}

-- ---- places and numbers: within 32,000 places a number tells its place
place-of : (B S : ℕ) → S ≤ B + 32000 → B ≤ S + 32000 → distance (B % numbers) (S % numbers) < kept_ahead
    → S ≡ B + distance (B % numbers) (S % numbers)
place-of B S ahead behind low = omega arith

-- an honest datagram at its own place
pub record Took (row datagrams : List (List ℕ)) (view : View) (S : ℕ) (last : View) : Type 0 where
  pub d : ℕ
  pub low : d < kept_ahead
  pub place : S ≡ place_of view + d
  pub carried : Carried
  pub follows : Follows row datagrams (place_of view + d) carried
  pub is : accept d carried view ≡ last

pub record Again (view : View) (S : ℕ) : Type 0 where
  pub d : ℕ
  pub low : d < kept_ahead
  pub place : S ≡ place_of view + d
  pub marked : (held_at view.held d).accepted ≡ true

abbrev number_in : {A : Type 0} → Answer A → ℕ
number_in (done a) = 0
number_in (refused why) = number_of why.reason

-- refused as repeated: near, and accepted before
offered-again : (c : Carried) (view : View) → offered c view ≡ refuse refusals.repeated
    → (distance view.base c.number < kept_ahead) × (accepted_at view (distance view.base c.number) ≡ true)
unfolding offered
offered-again c view e =
    pick (ltb (distance view.base c.number) kept_ahead) (accepted_at view (distance view.base c.number))
    (ltb (distance view.base c.number) late_from)
    refl
    refl
    (ap number_in e)
  where
    pick : (b again : Bool) (far : Bool) → ltb (distance view.base c.number) kept_ahead ≡ b
        → accepted_at view (distance view.base c.number) ≡ again
        → number_in
        (cond b (cond again (refuse refusals.repeated) (done (accept (distance view.base c.number) c view)))
        (cond far (refuse refusals.too_far) (refuse refusals.late)))
        ≡ 7
        → (distance view.base c.number < kept_ahead) × (accepted_at view (distance view.base c.number) ≡ true)
    pick true true far near marked n = (ltb-true (distance view.base c.number) kept_ahead near, marked)
    pick true false far near marked n = absurd (omega arith)
    pick false again true near marked n = absurd (omega arith)
    pick false again false near marked n = absurd (omega arith)

module _ {row datagrams : List (List ℕ)} (honest : HonestSender row datagrams) {view : View} (r : ViewInRanges view) (S : ℕ)
    (low : S < length row) (near : Near S view) where
  abbrev octets : List ℕ
  octets = datagram_at datagrams S

  abbrev here : Carried
  here = (follows_of honest S low).0

  fits : Follows row datagrams S here
  fits = (follows_of honest S low).1

  -- its number is that of its place
  number-here : here.number ≡ S % numbers
  number-here = ap (λ (c : Carried). c.number) fits.is

  distance-here : distance view.base here.number ≡ distance (place_of view % numbers) (S % numbers)
  distance-here = ap₂ distance r.base number-here

  at_place : distance view.base here.number < kept_ahead → S ≡ place_of view + distance view.base here.number
  at_place small =
      rw distance-here (place-of (place_of view) S near.ahead near.behind (rw distance-here at small))

  pub took : (last : View) → offers.offer octets view ≡ done last → Took row datagrams view S last
  unfolding carried_by
  took last e =
      let o = offer-done octets view last e in
      let parts : fits.reads.parts ≡ o.parts = done-same (sym fits.reads.read ∙ o.read) in
      let same : carried_by octets o.parts ≡ here = ap (carried_by octets) (sym parts) ∙ fits.reads.carried in
      let d-is : distance view.base o.parts.number ≡ distance view.base here.number =
      ap (λ (c : Carried). distance view.base c.number) same in
      let small : distance view.base here.number < kept_ahead = rw d-is at o.near in
      let place = at_place small in
      record {
        d = distance view.base here.number;
        low = small;
        place = place;
        carried = here;
        follows = subst (λ (x : ℕ). Follows row datagrams x here) place fits;
        is = ap₂ (λ (d : ℕ) (c : Carried). accept d c view) (sym d-is) (sym same) ∙ o.is;
      }

  offer-here : offers.offer octets view ≡ offered here view
  unfolding offers.offer
  offer-here = rw (fits.reads.read, fits.reads.carried)

  pub again : offers.offer octets view ≡ refuse refusals.repeated → Again view S
  again e = pick (offered-again here view (sym offer-here ∙ e))
    where
      pick : (distance view.base here.number < kept_ahead) × (accepted_at view (distance view.base here.number) ≡ true)
          → Again view S
      pick t = record { d = distance view.base here.number; low = t.0; place = at_place t.0; marked = t.1 }

-- ---- every such session is sound
pub took-sound : {row datagrams : List (List ℕ)} {view last : View} {S : ℕ} → S < length row → Sound row datagrams view
    → Took row datagrams view S last → Sound row datagrams last
took-sound {row} {datagrams} low s t =
    subst (Sound row datagrams) t.is (accept-sound s t.d t.low t.carried (subst (λ (x : ℕ). x < length row) t.place low)
    t.follows)

module _ {row datagrams : List (List ℕ)} (honest : HonestSender row datagrams) {view : View} (s : Sound row datagrams view) where
  arrives-sound : (S : ℕ) → S < length row → Near S view → Sound row datagrams (after_move (offer (datagram_at datagrams S)) view)
  unfolding after_move
  arrives-sound S low near = pick (offers.offer (datagram_at datagrams S) view) refl where
    pick : (a : Answer View) → offers.offer (datagram_at datagrams S) view ≡ a → Sound row datagrams (afterwards a view)
    pick (done last) e = took-sound low s (took honest s.ranges S low near last e)
    pick (refused why) e = s

  releases-sound : (leave : Bool) (room : ℕ) → Sound row datagrams (after_move (moves.release leave room) view)
  unfolding after_move
  releases-sound leave room = pick (release leave room view) refl where
    pick : (a : Answer Release) → release leave room view ≡ a → Sound row datagrams (afterwards (view_after_release a) view)
    pick (done a) e =
        let o = release-leaves leave room view a e in
        subst (Sound row datagrams) (sym o.after) (on-sound s _ (moved_sum view s.ranges))
    pick (refused why) e = s

  solves-sound : Solves view (solutions.solve view) → Sound row datagrams (after_move moves.solve view)
  unfolding after_move
  solves-sound means = pick (solutions.solve view) refl means where
    pick : (a : Answer View) → solutions.solve view ≡ a → Solves view a → Sound row datagrams (afterwards a view)
    pick (done last) e t = solved-to-sound honest s (solve-done view last e) t
    pick (refused why) e t = s

pub fed-sound : {row datagrams : List (List ℕ)} → HonestSender row datagrams → {view : View} → FedView row datagrams view
    → Sound row datagrams view
fed-sound {row} {datagrams} honest fresh = fresh-sound row datagrams
fed-sound honest (arrives f S low near) = arrives-sound honest (fed-sound honest f) S low near
fed-sound honest (releases f leave room) = releases-sound honest (fed-sound honest f) leave room
fed-sound honest (solves f means) = solves-sound honest (fed-sound honest f) means
