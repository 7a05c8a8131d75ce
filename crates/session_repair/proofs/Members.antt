-- The numbers that go back by m are the members of a message: what is counted, found and summed over their slots is what the definitions of
-- `session` say of the members' places in the view. Assumes nothing.
use Rattle.std.proofs.Common.{◌≡◌, ℕ, zero, suc, ◌+◌, ◌-◌, ◌*◌, ◌<◌, ◌≤◌, Bool, true, false, cond, not, eqb, List, [], ◌∷◌, map, length, get_or, sym, refl, ap, ◌∙◌, ap₂, suc-mul, zero-add, arith}
use lib.Bits.{bit_xor, xor_zero_l}
use Rattle.octets.specs.Place.{tab}
use Rattle.octets.specs.ExclusiveOr.{xor_at}
use Rattle.octets.proofs.Laws.{tab-ext, xor_at-cons}
use Rattle.datagram.specs.Sizes.{packet_limit}
use Rattle.session.specs.Cells.{Cell, cell_at, unknown_at, kept_numbers}
use Rattle.session.specs.Repair.{passing}
use Rattle.session.proofs.Laws.{passing-yes, passing-no}
use Rattle.session.specs.View.{distance, numbers, number_at}
use Rattle.session_held.specs.Slots.{slot_at}
use Rattle.session_held.specs.Table.{Lent, cells_of}
use Rattle.session_held.specs.Laid.{InRanges}
use Rattle.session_held.proofs.Laws.{cell-at, unknown-at, octet-at, unknown-empty, slot_small}
use Rattle.session_repair.specs.Back.{unknown_one, slot_of, count_back, find_back, xor_back}

-- the members, from place P back by m
abbrev pub members_back : ℕ → ℕ → ℕ → List ℕ
members_back P n m = tab n (λ k. P - suc k * m)

members_back-suc : (P n m : ℕ) → members_back P (suc n) m ≡ (P - m) ∷ members_back (P - m) n m
unfolding tab
members_back-suc P n m =
    ap₂ (λ (p : ℕ) (l : List ℕ). p ∷ l) (ap (λ (k : ℕ). P - k) {y = m} (omega arith))
    (tab-ext n _ _ (λ k below. sub-step k))
  where
    sub-step : (k : ℕ) → P - suc (suc k) * m ≡ (P - m) - suc k * m
    sub-step k =
        let e : suc (suc k) * m ≡ suc k * m + m = suc-mul (suc k) m in
        omega (arith, e)

none-back : (test : ℕ → Bool) (P m : ℕ) → passing test (members_back P 0 m) ≡ []
unfolding tab passing
none-back test P m = refl

slot-number : (base p : ℕ) → slot_of (number_at base p) ≡ slot_at base p
slot-number base p = omega arith

number-back : (base p m : ℕ) → m ≤ p → m ≤ numbers → distance m (number_at base p) ≡ number_at base (p - m)
number-back base p m low few = omega arith

-- whether the number at a place of the view is unknown, and its octets
abbrev pub unseen : ℕ → List ℕ → List ℕ → ℕ → Bool
unseen base t o p = unknown_at (cells_of base t o) p

abbrev pub seen_octets : ℕ → List ℕ → List ℕ → ℕ → List ℕ
seen_octets base t o p = (cell_at (cells_of base t o) p).octets

module _ (base : ℕ) (t o : List ℕ) where
  -- ---- counted
  one_at : (p : ℕ) → p < kept_numbers → unknown_one t (slot_of (number_at base p)) ≡ cond (unseen base t o p) 1 0
  one_at p below =
      ap (λ (i : ℕ). unknown_one t i) (slot-number base p) ∙ ap (λ (b : Bool). cond b 1 0) (sym (unknown-at base t o p below))

  count-cons : (b : Bool) (p : ℕ) (l : List ℕ) → unseen base t o p ≡ b
      → cond b 1 0 + length (passing (unseen base t o) l) ≡ length (passing (unseen base t o) (p ∷ l))
  count-cons true p l e = rw (passing-yes (unseen base t o) p l e) (omega arith)
  count-cons false p l e = rw (passing-no (unseen base t o) p l e) (zero-add (length (passing (unseen base t o) l)))

  pub counted : (n P m : ℕ) → n * m ≤ P → P < kept_numbers + m → m ≤ numbers
      → count_back t (number_at base P) n m ≡ length (passing (unseen base t o) (members_back P n m))
  unfolding count_back
  counted zero P m reach near few = ap (λ (l : List ℕ). length l) (sym (none-back (unseen base t o) P m))
  counted (suc n) P m reach near few =
      let more : suc n * m ≡ n * m + m = suc-mul n m in
      let low : m ≤ P = omega arith in
      let here : P - m < kept_numbers = omega arith in
      let number : distance m (number_at base P) ≡ number_at base (P - m) = number-back base P m low few in
      let rest = counted n (P - m) m (omega arith) (omega arith) few in
      rw (number, one_at (P - m) here, rest)
      (count-cons (unseen base t o (P - m)) (P - m) (members_back (P - m) n m) refl
      ∙ ap (λ (l : List ℕ). length (passing (unseen base t o) l)) (sym (members_back-suc P n m)))

  -- ---- found
  find-cons : (b : Bool) (p : ℕ) (l : List ℕ) (rest : ℕ) → unseen base t o p ≡ b
      → (1 ≤ length (passing (unseen base t o) l) → rest ≡ slot_at base (get_or (passing (unseen base t o) l) 0 0))
      → 1 ≤ length (passing (unseen base t o) (p ∷ l))
      → cond (eqb (cond b 1 0) 1) (slot_of (number_at base p)) rest ≡ slot_at base (get_or (passing (unseen base t o) (p ∷ l)) 0 0)
  find-cons true p l rest e so some = rw (passing-yes (unseen base t o) p l e) (slot-number base p)
  find-cons false p l rest e so some = rw (passing-no (unseen base t o) p l e) (so (rw (passing-no (unseen base t o) p l e) at some))

  pub found-slot : (n P m : ℕ) → n * m ≤ P → P < kept_numbers + m → m ≤ numbers
      → 1 ≤ length (passing (unseen base t o) (members_back P n m))
      → find_back t (number_at base P) n m ≡ slot_at base (get_or (passing (unseen base t o) (members_back P n m)) 0 0)
  unfolding find_back
  found-slot zero P m reach near few some = absurd (omega (arith, ap (λ (l : List ℕ). length l) (none-back (unseen base t o) P m)))
  found-slot (suc n) P m reach near few some =
      let more : suc n * m ≡ n * m + m = suc-mul n m in
      let low : m ≤ P = omega arith in
      let here : P - m < kept_numbers = omega arith in
      let number : distance m (number_at base P) ≡ number_at base (P - m) = number-back base P m low few in
      rw (number, one_at (P - m) here, members_back-suc P n m)
      (find-cons (unseen base t o (P - m)) (P - m) (members_back (P - m) n m) _ refl
      (found-slot n (P - m) m (omega arith) (omega arith) few)
      (rw (members_back-suc P n m) at some))

-- ---- summed: the octets of all slots are those of the members, and an unknown member has none
module _ {l : Lent} (w : InRanges l) where
  absent : ℕ → Bool
  absent p = unseen l.base l.table l.octets p

  octets_of : ℕ → List ℕ
  octets_of p = seen_octets l.base l.table l.octets p

  slot-octet : (p : ℕ) → p < kept_numbers → (j : ℕ) → j < packet_limit
      → get_or l.octets (slot_of (number_at l.base p) * packet_limit + j) 0 ≡ get_or (octets_of p) j 0
  unfolding octets_of
  slot-octet p below j small =
      ap (λ (i : ℕ). get_or l.octets (i * packet_limit + j) 0) (slot-number l.base p)
      ∙ sym (octet-at w.laid (slot_at l.base p) (slot_small l.base p) j small)
      ∙ ap (λ (c : Cell). get_or c.octets j 0) (sym (cell-at l.base l.table l.octets p below))

  unknown-zero : (p : ℕ) → p < kept_numbers → absent p ≡ true → (j : ℕ) → get_or (octets_of p) j 0 ≡ 0
  unfolding octets_of absent
  unknown-zero p below e j = ap (λ (x : List ℕ). get_or x j 0) (unknown-empty w p below e)

  xor-cons : (b : Bool) (p : ℕ) (ps : List ℕ) (j : ℕ) → p < kept_numbers → absent p ≡ b
      → bit_xor (get_or (octets_of p) j 0) (xor_at (map octets_of (passing (λ q. not (absent q)) ps)) j)
      ≡ xor_at (map octets_of (passing (λ q. not (absent q)) (p ∷ ps))) j
  xor-cons true p ps j below e =
      rw (passing-no (λ q. not (absent q)) p ps (ap not e), unknown-zero p below e j) (xor_zero_l _)
  xor-cons false p ps j below e =
      rw (passing-yes (λ q. not (absent q)) p ps (ap not e)) (sym (xor_at-cons _ _ j))

  summing : (n P m j : ℕ) → n * m ≤ P → P < kept_numbers + m → m ≤ numbers → j < packet_limit
      → xor_back l.octets (number_at l.base P) n m j
      ≡ xor_at (map octets_of (passing (λ q. not (absent q)) (members_back P n m))) j
  unfolding xor_back xor_at
  summing zero P m j reach near few small =
      ap (λ (ps : List ℕ). xor_at (map octets_of ps) j) (sym (none-back (λ q. not (absent q)) P m))
  summing (suc n) P m j reach near few small =
      let more : suc n * m ≡ n * m + m = suc-mul n m in
      let low : m ≤ P = omega arith in
      let here : P - m < kept_numbers = omega arith in
      let number : distance m (number_at l.base P) ≡ number_at l.base (P - m) = number-back l.base P m low few in
      let rest = summing n (P - m) m j (omega arith) (omega arith) few small in
      rw (number, slot-octet (P - m) here j small, rest, members_back-suc P n m)
      (xor-cons (absent (P - m)) (P - m) (members_back (P - m) n m) j here refl)

  pub summed : (n P m j : ℕ) → n * m ≤ P → P < kept_numbers + m → m ≤ numbers → j < packet_limit
      → xor_back l.octets (number_at l.base P) n m j
      ≡ xor_at
      (map (seen_octets l.base l.table l.octets)
      (passing (λ q. not (unseen l.base l.table l.octets q)) (members_back P n m)))
      j
  unfolding absent octets_of
  summed = summing
