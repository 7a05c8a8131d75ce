-- What a write to the table leaves: its length, and every place but those written. Assumes nothing.
use Prim.Native.Nat.{ℕ, zero, suc, ◌+◌, ◌*◌, ◌≤◌, ◌<◌}
use mathlib.Core.Path.{◌≡◌, refl, ap, ◌∙◌}
use mathlib.Core.Bool.{Bool, true, false, not, cond}
use mathlib.Core.List.{List, [], ◌∷◌}
use mathlib.Core.Logic.{⊎_elim}
use lib.ListN.{length, get_or, set, length-set}
use lib.Seq.{get_or-set_other}
use lib.Dec.{eqb}
use native.Mathlib.Omega.{arith}
use Rattle.octets.proofs.Laws.{same_or_not}
use Rattle.datagram.specs.Sizes.{messages_limit}
use Rattle.session.specs.Cells.{unknown, received, spare, repaired, blank, is_unknown}
use Rattle.session_held.specs.Slots.{slots_kept, slots_heard, message_slot}
use Rattle.session_held.specs.Table.{places, state_place, size_place, note_place, mark_place, n_place, m_place, message_place, state_numbered}
use Rattle.session_held.specs.Table.{kept_set, sizes_freed, heard_dropped}

-- ---- the length, and that a place is there after writes
long-set : (t : List ℕ) (i v : ℕ) → length t ≡ places → length (set t i v) ≡ places
long-set t i v long = length-set t i v ∙ long

pub long_kept : (t : List ℕ) (i a b c : ℕ) → length t ≡ places → length (kept_set t i a b c) ≡ places
long_kept t i a b c long = simp length-set long

pub long-dropped : (t : List ℕ) (j : ℕ) → length t ≡ places → length (heard_dropped t j) ≡ places
long-dropped t j long = simp length-set long

pub size-there : (t : List ℕ) (i v slot : ℕ) → length t ≡ places → slot < slots_kept → size_place slot < length (set t i v)
size-there t i v slot long small = omega (arith, length-set t i v)

pub note-there : (t : List ℕ) (i v k w slot : ℕ) → length t ≡ places → slot < slots_kept → note_place slot < length (set (set t i v) k w)
note-there t i v k w slot long small = omega (arith, length-set t i v, length-set (set t i v) k w)

pub n-there : (t : List ℕ) (i v slot : ℕ) → length t ≡ places → slot < slots_heard → n_place slot < length (set t i v)
n-there t i v slot long small = omega (arith, length-set t i v)

pub m-there : (t : List ℕ) (i v k w slot : ℕ) → length t ≡ places → slot < slots_heard → m_place slot < length (set (set t i v) k w)
m-there t i v k w slot long small = omega (arith, length-set t i v, length-set (set t i v) k w)

pub sizes-there : (t : List ℕ) (i v k w e u slot : ℕ) → length t ≡ places → slot < slots_heard
    → message_place (slot * messages_limit) + 4 ≤ length (set (set (set t i v) k w) e u)
sizes-there t i v k w e u slot long small =
    omega (arith, length-set t i v, length-set (set t i v) k w, length-set (set (set t i v) k w) e u)

pub same-places : (t new : List ℕ) (i v k w e u at : ℕ) → new ≡ sizes_freed (set (set (set t i v) k w) e u) at
    → length new ≡ length t
same-places t new i v k w e u at told = rw told (simp length-set refl)

pub one-there : (t : List ℕ) (i v at : ℕ) → at + 4 ≤ length t → at + 1 < length (set t i v)
one-there t i v at room = omega (arith, length-set t i v)

pub two-there : (t : List ℕ) (i v k w at : ℕ) → at + 4 ≤ length t → at + 2 < length (set (set t i v) k w)
two-there t i v k w at room = omega (arith, length-set t i v, length-set (set t i v) k w)

pub three-there : (t : List ℕ) (i v k w e u at : ℕ) → at + 4 ≤ length t → at + 3 < length (set (set (set t i v) k w) e u)
three-there t i v k w e u at room =
    omega (arith, length-set t i v, length-set (set t i v) k w, length-set (set (set t i v) k w) e u)

-- ---- a zero stored leaves a zero, and stands where it was stored
pub zero-stays : (l : List ℕ) (i k : ℕ) → get_or l k 0 ≡ 0 → get_or (set l i 0) k 0 ≡ 0
zero-stays [] i k e = e
zero-stays (x ∷ l) zero zero e = refl
zero-stays (x ∷ l) zero (suc k) e = e
zero-stays (x ∷ l) (suc i) zero e = e
zero-stays (x ∷ l) (suc i) (suc k) e = zero-stays l i k e

pub zero-stored : (l : List ℕ) (i k : ℕ) → k ≡ i → get_or (set l i 0) k 0 ≡ 0
zero-stored l i k e = rw e (here l i) where
  here : (s : List ℕ) (n : ℕ) → get_or (set s n 0) n 0 ≡ 0
  here [] n = refl
  here (x ∷ s) zero = refl
  here (x ∷ s) (suc n) = here s n

-- ---- a kept number written: unknown, and every other place as it was
pub kept-zero : (t : List ℕ) (i : ℕ) → (get_or (kept_set t i 0 0 0) (state_place i) 0 ≡ 0) × (get_or (kept_set t i 0 0 0) (size_place i) 0 ≡ 0)
    × (get_or (kept_set t i 0 0 0) (note_place i) 0 ≡ 0)
kept-zero t i =
    let one = set t (state_place i) 0 in
    let two = set one (size_place i) 0 in (
      zero-stays two (note_place i) (state_place i)
          (zero-stays one (size_place i) (state_place i) (zero-stored t (state_place i) (state_place i) refl)),
      zero-stays two (note_place i) (size_place i) (zero-stored one (size_place i) (size_place i) refl),
      zero-stored two (note_place i) (note_place i) refl,
    )

pub kept-elsewhere : (t : List ℕ) (i a b c k : ℕ) → (k ≡ state_place i → ⊥) → (k ≡ size_place i → ⊥) → (k ≡ note_place i → ⊥)
    → get_or (kept_set t i a b c) k 0 ≡ get_or t k 0
kept-elsewhere t i a b c k state size note =
    get_or-set_other (set (set t (state_place i) a) (size_place i) b) (note_place i) k c 0 note
    ∙ get_or-set_other (set t (state_place i) a) (size_place i) k b 0 size
    ∙ get_or-set_other t (state_place i) k a 0 state

-- ---- sizes of messages
pub sizes-stay : (t : List ℕ) (at k : ℕ) → get_or t k 0 ≡ 0 → get_or (sizes_freed t at) k 0 ≡ 0
sizes-stay t at k e =
    let one = set t at 0 in
    let two = set one (at + 1) 0 in
    let three = set two (at + 2) 0 in
    zero-stays three (at + 3) k (zero-stays two (at + 2) k (zero-stays one (at + 1) k (zero-stays t at k e)))

pub sizes-zero : (t : List ℕ) (at i : ℕ) → i < messages_limit → get_or (sizes_freed t at) (at + i) 0 ≡ 0
sizes-zero t at i below =
    let one = set t at 0 in
    let two = set one (at + 1) 0 in
    let three = set two (at + 2) 0 in
    ⊎_elim (λ (e : i ≡ 3). zero-stored three (at + 3) (at + i) (omega arith))
    (λ no3.
    zero-stays three (at + 3) (at + i)
    (⊎_elim (λ (e : i ≡ 2). zero-stored two (at + 2) (at + i) (omega arith))
    (λ no2.
    zero-stays two (at + 2) (at + i)
    (⊎_elim (λ (e : i ≡ 1). zero-stored one (at + 1) (at + i) (omega arith))
    (λ no1. zero-stays one (at + 1) (at + i) (zero-stored t at (at + i) (omega arith)))
    (same_or_not i 1)))
    (same_or_not i 2)))
    (same_or_not i 3)

sizes-elsewhere : (t : List ℕ) (at k : ℕ) → ((i : ℕ) → i < messages_limit → k ≡ at + i → ⊥) → get_or (sizes_freed t at) k 0 ≡ get_or t k 0
sizes-elsewhere t at k far =
    get_or-set_other (set (set (set t at 0) (at + 1) 0) (at + 2) 0) (at + 3) k 0 0 (far 3 (omega arith))
    ∙ get_or-set_other (set (set t at 0) (at + 1) 0) (at + 2) k 0 0 (far 2 (omega arith))
    ∙ get_or-set_other (set t at 0) (at + 1) k 0 0 (far 1 (omega arith))
    ∙ get_or-set_other t at k 0 0 (λ same. far 0 (omega arith) (omega arith))

-- ---- nothing heard of a slot: zeros there, and every other place as it was
pub dropped-stays : (t : List ℕ) (j k : ℕ) → get_or t k 0 ≡ 0 → get_or (heard_dropped t j) k 0 ≡ 0
dropped-stays t j k e =
    let one = set t (mark_place j) 0 in
    let two = set one (n_place j) 0 in
    sizes-stay (set two (m_place j) 0) (message_place (j * messages_limit)) k
    (zero-stays two (m_place j) k (zero-stays one (n_place j) k (zero-stays t (mark_place j) k e)))

pub record Dropped (t : List ℕ) (j : ℕ) : Type 0 where
  pub mark : get_or (heard_dropped t j) (mark_place j) 0 ≡ 0
  pub n : get_or (heard_dropped t j) (n_place j) 0 ≡ 0
  pub m : get_or (heard_dropped t j) (m_place j) 0 ≡ 0
  pub sizes : (i : ℕ) → i < messages_limit → get_or (heard_dropped t j) (message_place (message_slot j i)) 0 ≡ 0

pub dropped : (t : List ℕ) (j : ℕ) → Dropped t j
dropped t j =
    let one = set t (mark_place j) 0 in
    let two = set one (n_place j) 0 in
    let three = set two (m_place j) 0 in
    let at = message_place (j * messages_limit) in
    record {
      mark =
          sizes-stay three at (mark_place j)
          (zero-stays two (m_place j) (mark_place j) (zero-stays one (n_place j) (mark_place j)
          (zero-stored t (mark_place j) (mark_place j) refl)));
      n = sizes-stay three at (n_place j) (zero-stays two (m_place j) (n_place j) (zero-stored one (n_place j) (n_place j) refl));
      m = sizes-stay three at (m_place j) (zero-stored two (m_place j) (m_place j) refl);
      sizes = λ i below.
          let e : message_place (message_slot j i) ≡ message_place (j * messages_limit) + i = omega arith in
          ap (λ (k : ℕ). get_or (heard_dropped t j) k 0) e ∙ sizes-zero three at i below;
    }

pub dropped-elsewhere : (t : List ℕ) (j k : ℕ) → (k ≡ mark_place j → ⊥) → (k ≡ n_place j → ⊥) → (k ≡ m_place j → ⊥)
    → ((i : ℕ) → i < messages_limit → k ≡ message_place (j * messages_limit) + i → ⊥) → get_or (heard_dropped t j) k 0 ≡ get_or t k 0
dropped-elsewhere t j k mark n m far =
    let one = set t (mark_place j) 0 in
    let two = set one (n_place j) 0 in
    sizes-elsewhere (set two (m_place j) 0) (message_place (j * messages_limit)) k far
    ∙ get_or-set_other two (m_place j) k 0 0 m
    ∙ get_or-set_other one (n_place j) k 0 0 n
    ∙ get_or-set_other t (mark_place j) k 0 0 mark

-- ---- the numbers that stand for states
pub unknown-number : (n : ℕ) → eqb n 0 ≡ is_unknown (state_numbered n)
unfolding state_numbered
unknown-number n = by (eqb n 0) (eqb n 1) (eqb n 2) (eqb n 3) where
  by : (a b c d : Bool) → a ≡ is_unknown (cond a unknown (cond b received (cond c spare (cond d repaired blank))))
  by true b c d = refl
  by false true c d = refl
  by false false true d = refl
  by false false false true = refl
  by false false false false = refl

-- ---- a kept number is known exactly if its number in the table is not 0
pub known-told : (n : ℕ) → not (eqb n 0) ≡ not (is_unknown (state_numbered n))
known-told n = ap not (unknown-number n)
