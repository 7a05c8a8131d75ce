-- Places of the view and of the session, which are g further on where g numbers have left: members of messages, and the place
-- that a datagram's number tells. And what a datagram that was read carries. Assumes nothing.
use Prim.Native.Nat.{ℕ, suc, ◌+◌, ◌*◌, ◌%◌, ◌≤◌, ◌<◌}
use mathlib.Core.Path.{◌≡◌, refl, sym, subst, ◌∙◌}
use mathlib.Core.Bool.{true}
use mathlib.Core.List.{List, map, Memᴰ as Among}
use lib.ListN.{length, length-map}
use native.Mathlib.Nat.{suc-mul, mul-le-mul_right}
use native.Mathlib.Omega.{arith}
use borrow.Author.Tests.{leb-true}
use Rattle.octets.specs.Place.{tab}
use Rattle.octets.proofs.Laws.{tab-among, tab-ext, map-tab}
use Rattle.length.specs.Answers.{done}
use Rattle.datagram.specs.Sizes.{spares_limit}
use Rattle.datagram.specs.Carried.{Extra, spares, parity}
use Rattle.datagram.specs.Write.{count_inside, extra_of}
use Rattle.datagram.specs.Read.{DatagramParts, octets_of, read_datagram, carried_by}
use Rattle.datagram.specs.declared.kind.Kind.{Kind}
use Rattle.datagram.specs.declared.kind.Kind.TheVariants as kind
use Rattle.datagram.proofs.Laws.{read-inside}
use Rattle.session.specs.Cells.{kept_before, kept_ahead}
use Rattle.session.specs.Members.{member_at, members_of}
use Rattle.session.proofs.Laws.{member-says}
use Rattle.session.specs.View.{numbers, distance}
use Rattle.session.specs.Offer.{held_by}
use Rattle.demands.specs.Demand2.ReachedBy.{place_number, spares_in}

-- ---- members, g places further on
pub members-up : (g S n m i q : ℕ) → n * m ≤ S → i < m → Among q (members_of S n m i) → Among (g + q) (members_of (g + S) n m i)
unfolding members_of
members-up g S n m i q reach low among =
    let at = member-says S n m i reach low among in
    let place : g + q ≡ member_at (g + S) m i at.t = up at.t at.place at.within in
    subst (λ (x : ℕ). Among x (tab n (member_at (g + S) m i))) (sym place) (tab-among n (member_at (g + S) m i) at.t at.below)
  where
    up : (t : ℕ) → q ≡ member_at S m i t → t * m + m ≤ n * m → g + q ≡ member_at (g + S) m i t
    up t is few = let step = suc-mul t m in omega arith

pub members-down : (g S n m i P : ℕ) → n * m ≤ S → i < m → Among P (members_of (g + S) n m i)
    → (q : ℕ) × (P ≡ g + q) × Among q (members_of S n m i)
unfolding members_of
members-down g S n m i P reach low among =
    let at = member-says (g + S) n m i (omega arith) low among in
    (member_at S m i at.t, down at.t at.place at.within, tab-among n (member_at S m i) at.t at.below)
  where
    down : (t : ℕ) → P ≡ member_at (g + S) m i t → t * m + m ≤ n * m → P ≡ g + member_at S m i t
    down t is few = let step = suc-mul t m in omega arith

pub members-on : (g S n m i : ℕ) → n * m ≤ S → members_of (g + S) n m i ≡ map (λ (q : ℕ). g + q) (members_of S n m i)
unfolding members_of
members-on g S n m i reach =
    tab-ext n (member_at (g + S) m i) (λ t. g + member_at S m i t) (λ t below. on t (mul-le-mul_right m below))
    ∙ sym (map-tab (λ (q : ℕ). g + q) n (member_at S m i))
  where
    on : (t : ℕ) → suc t * m ≤ n * m → member_at (g + S) m i t ≡ g + member_at S m i t
    on t few = let step = suc-mul t m in omega arith

-- ---- a number within reach of the base tells its place, and a place its number
pub number-there : (n base d g : ℕ) → base ≡ g % numbers → d ≡ distance base n → d < kept_ahead
    → n % numbers ≡ place_number (g + (kept_before + d))
number-there n base d g at is low = omega arith

pub place-there : (n base d g S : ℕ) → base ≡ g % numbers → d ≡ distance base n → kept_before + g ≤ S → S < kept_before + g + kept_ahead
    → n % numbers ≡ place_number S
    → S ≡ g + (kept_before + d)
place-there n base d g S at is low high same = omega arith

-- ---- a datagram that was read carries few spares
few-items : (k : Kind) (items : List (List ℕ)) → count_inside k (length items) ≡ true → spares_in (extra_of k items) ≤ spares_limit
few-items kind.Spares items e = leb-true (length items) spares_limit e
few-items (kind.Parity n) items e = omega arith

pub few-spares : (octets : List ℕ) (parts : DatagramParts) → read_datagram octets ≡ done parts
    → spares_in (carried_by octets parts).extra ≤ spares_limit
unfolding carried_by
few-spares octets parts e =
    few-items parts.kind (map (octets_of octets) parts.items)
    (rw (length-map parts.items (octets_of octets)) (read-inside octets parts e).counted)

-- what is held of it is marked
pub marked-true : (extra : Extra) → (held_by extra).accepted ≡ true
marked-true (spares copies) = refl
marked-true (parity n messages) = refl

-- its number
pub number_of : (octets : List ℕ) (parts : DatagramParts) → (carried_by octets parts).number ≡ parts.number
unfolding carried_by
number_of octets parts = refl
