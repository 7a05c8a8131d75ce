-- An offer, taken apart: what it comes to where it is not refused. Assumes nothing.
use Prim.Native.Nat.{ℕ, ◌<◌}
use mathlib.Core.Path.{◌≡◌, refl}
use mathlib.Core.Bool.{Bool, true, false, cond}
use mathlib.Core.List.{List}
use lib.Dec.{ltb}
use borrow.Author.Tests.{ltb-true}
use Rattle.length.specs.Refusals.{repeated, too_far, late}
use Rattle.length.specs.Answers.{done, refuse}
use Rattle.datagram.specs.Carried.{Carried}
use Rattle.datagram.specs.Read.{DatagramParts, read_datagram, carried_by}
use Rattle.length.proofs.Laws.{not_done, bind_done, cond-done, done-same}
use Rattle.session.specs.Cells.{kept_ahead}
use Rattle.session.specs.View.{View, distance}
use Rattle.session.specs.Offer as offers
use Rattle.session.specs.Offer.{accept, accepted_at, offered, late_from}

pub record OfferDone (octets : List ℕ) (view after : View) : Type 0 where
  pub parts : DatagramParts
  pub read : read_datagram octets ≡ done parts
  pub near : distance view.base parts.number < kept_ahead
  pub unmarked : accepted_at view (distance view.base parts.number) ≡ false
  pub is : accept (distance view.base parts.number) (carried_by octets parts) view ≡ after

offered-done : (datagram : Carried) (view after : View) → offered datagram view ≡ done after
    → (distance view.base datagram.number < kept_ahead)
    × (accepted_at view (distance view.base datagram.number) ≡ false)
    × (accept (distance view.base datagram.number) datagram view ≡ after)
unfolding offered
offered-done datagram view after e =
    pick (ltb (distance view.base datagram.number) kept_ahead) refl
    (ltb (distance view.base datagram.number) late_from)
    e
  where
    pick : (b : Bool) → ltb (distance view.base datagram.number) kept_ahead ≡ b → (c : Bool)
        → cond b
        (cond (accepted_at view (distance view.base datagram.number)) (refuse repeated)
        (done (accept (distance view.base datagram.number) datagram view)))
        (cond c (refuse too_far) (refuse late))
        ≡ done after
        → (distance view.base datagram.number < kept_ahead)
        × (accepted_at view (distance view.base datagram.number) ≡ false)
        × (accept (distance view.base datagram.number) datagram view ≡ after)
    pick true is c t =
        let new = cond-done (accepted_at view (distance view.base datagram.number)) repeated _ after t in
        (ltb-true (distance view.base datagram.number) kept_ahead is, new.0, done-same new.1)
    pick false is true t = absurd (not_done t)
    pick false is false t = absurd (not_done t)

pub offer-done : (octets : List ℕ) (view after : View) → offers.offer octets view ≡ done after → OfferDone octets view after
unfolding offers.offer carried_by
offer-done octets view after e =
    let read = bind_done (read_datagram octets) _ after e in
    let taken = offered-done (carried_by octets read.0) view after read.2 in
    record { parts = read.0; read = read.1; near = taken.0; unmarked = taken.1; is = taken.2 }
