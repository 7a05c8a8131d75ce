-- An accepted offer, as the calls tell it and as the view shows it: one datagram at one place, and what is held after it. The
-- place is the one within reach of the base that has the datagram's number. Assumes nothing.
use Prim.Native.Nat.{ℕ, ◌+◌, ◌%◌, ◌≤◌, ◌<◌}
use mathlib.Core.Path.{◌≡◌, refl, sym, ap, ap₂, subst, ◌∙◌}
use mathlib.Core.Logic.{⊎_elim}
use mathlib.Core.Bool.{true, true≢false}
use mathlib.Core.List.{List, [], ◌++◌, append-nil}
use mathlib.Core.Option.{some, some-injective}
use lib.ListN.{length}
use native.Mathlib.Omega.{arith}
use Rattle.octets.proofs.Laws.{same_or_not}
use Rattle.datagram.specs.Sizes.{spares_limit}
use Rattle.datagram.specs.Carried.{Carried}
use Rattle.datagram.specs.Read.{read_datagram, carried_by}
use Rattle.length.proofs.Laws.{done-same}
use Rattle.session.specs.Cells.{kept_before, kept_ahead}
use Rattle.session.specs.Held.{Held, held_at}
use Rattle.session.specs.View.{View, numbers, distance}
use Rattle.session.specs.Offer.{held_by, accept}
use Rattle.demands.specs.Common.History.{Left}
use Rattle.demands.specs.Common.Calls.{Call, Calls, ◌then◌, accepted_in, fills_in, left_in, left_by}
use Rattle.demands.specs.Demand2.ReachedBy.{gone, place_number, spares_in, Accepts, Arrived, now, before}
use Rattle.demands.proofs.Ranges.{ViewInRanges}
use Rattle.demands.proofs.InRanges.{read_held, accept-in-ranges, held-accepted, held-beside}
use Rattle.demands.proofs.Taken.{OfferDone}
use Rattle.demands.proofs.Places.{number-there, place-there, few-spares, marked-true, number_of}
use Rattle.demands.proofs.Reaching.{Brought, Knows}

-- ---- what an accepted offer does, g numbers having left: it brings the datagram c at distance d
pub record Took (calls : Calls) (call : Call) (g d : ℕ) (c : Carried) (view : View) : Type 0 where
  pub so_far : Knows calls g view
  pub near : d < kept_ahead
  pub few : spares_in c.extra ≤ spares_limit
  pub left : gone (calls then call) ≡ g
  pub unfilled : fills_in call ≡ true → ⊥
  -- the call accepts this datagram at this place, and no other
  pub here : Accepts calls call (g + (kept_before + d)) c
  pub one : {S : ℕ} {x : Carried} → Accepts calls call S x → (S ≡ g + (kept_before + d)) × (x ≡ c)
  pub ranges : ViewInRanges (accept d c view)
  -- what is held after it, by the view and by the calls
  pub marked : (e : ℕ) → e < kept_ahead → (i : ℕ) → i < length (held_at (accept d c view).held e).messages
      → Brought (calls then call) g e (held_at (accept d c view).held e)
  pub holds : (S : ℕ) (x : Carried) → Arrived (calls then call) S x → (e : ℕ) → S ≡ g + (kept_before + e)
      → (e < kept_ahead) × (held_at (accept d c view).held e ≡ held_by x.extra)

module _ {calls : Calls} {g : ℕ} {view last : View} (k : Knows calls g view) {octets : List ℕ} (o : OfferDone octets view last)
    (call : Call) (taken : accepted_in call ≡ some octets) (unfilled : fills_in call ≡ true → ⊥) (stays : left_in call ≡ []) where
  abbrev d : ℕ
  d = distance view.base o.parts.number

  abbrev c : Carried
  c = carried_by octets o.parts

  abbrev mid : View
  mid = accept d c view

  left_is : gone (calls then call) ≡ g
  unfolding left_by
  left_is = ap (λ (l : List Left). length (left_by calls ++ l)) stays ∙ ap length (append-nil (left_by calls)) ∙ k.left

  base-is : view.base ≡ g % numbers
  base-is = k.ranges.base ∙ ap (λ (n : ℕ). n % numbers) k.counted

  here : Accepts calls call (g + (kept_before + d)) c
  here =
      record {
        octets = octets;
        accepted = taken;
        reads = record { parts = o.parts; read = o.read; carried = refl };
        from = let so_far = k.left in omega arith;
        near = let so_far = k.left in let low = o.near in omega arith;
        number =
            ap (λ (n : ℕ). n % numbers) (number_of octets o.parts)
            ∙ number-there o.parts.number view.base d g base-is refl o.near;
      }

  -- the call accepts this datagram at this place, and no other
  one : {S : ℕ} {x : Carried} → Accepts calls call S x → (S ≡ g + (kept_before + d)) × (x ≡ c)
  one {S} {x} a =
      let same : a.octets ≡ octets = some-injective a.octets octets (sym a.accepted ∙ taken) in
      let parts : a.reads.parts ≡ o.parts = done-same (sym a.reads.read ∙ ap read_datagram same ∙ o.read) in
      let is : x ≡ c = sym a.reads.carried ∙ ap₂ carried_by same parts in
      let number : o.parts.number % numbers ≡ place_number S =
      ap (λ (n : ℕ). n % numbers) (sym (number_of octets o.parts)) ∙ ap (λ (y : Carried). y.number % numbers) (sym is) ∙ a.number in
      let so_far = k.left in
      let from = a.from in
      let near = a.near in
      (place-there o.parts.number view.base d g S base-is refl (omega arith) (omega arith) number, is)

  mid-ranges : ViewInRanges mid
  mid-ranges = accept-in-ranges d c view k.ranges o.near (read_held octets o.parts o.read)

  mid-marked : (e : ℕ) → e < kept_ahead → (i : ℕ) → i < length (held_at mid.held e).messages
      → Brought (calls then call) g e (held_at mid.held e)
  mid-marked e low i few =
      ⊎_elim
      (λ same.
      record {
        datagram = c;
        arrived = subst (λ (x : ℕ). Arrived (calls then call) (g + (kept_before + x)) c) (sym same) (now here);
        is = ap (held_at mid.held) same ∙ held-accepted d c view (rw k.ranges.heard o.near);
      })
      (λ other.
      let beside = held-beside d c view e other in
      let b = k.marked e low i (subst (λ (h : Held). i < length h.messages) beside few) in
      record { datagram = b.datagram; arrived = before b.arrived; is = beside ∙ b.is })
      (same_or_not e d)

  mid-holds : (S : ℕ) (x : Carried) → Arrived (calls then call) S x → (e : ℕ) → S ≡ g + (kept_before + e)
      → (e < kept_ahead) × (held_at mid.held e ≡ held_by x.extra)
  mid-holds S x (now a) e place =
      let only = one a in
      let at = only.0 in
      let same : e ≡ d = omega arith in (
        rw same o.near,
        ap (held_at mid.held) same
            ∙ held-accepted d c view (rw k.ranges.heard o.near)
            ∙ ap (λ (y : Carried). held_by y.extra) (sym only.1),
      )
  mid-holds S x (before a) e place =
      let was = k.holds S x a e place in (
        was.0,
        held-beside d c view e
            (λ same.
            true≢false
            (sym (marked-true x.extra)
            ∙ ap (λ (h : Held). h.accepted) (sym was.1)
            ∙ ap (λ (n : ℕ). (held_at view.held n).accepted) same
            ∙ o.unmarked))
            ∙ was.1,
      )

  pub took_of : Took calls call g d c view
  took_of =
      record {
        so_far = k;
        near = o.near;
        few = few-spares octets o.parts o.read;
        left = left_is;
        unfilled = unfilled;
        here = here;
        one = one;
        ranges = mid-ranges;
        marked = mid-marked;
        holds = mid-holds;
      }
