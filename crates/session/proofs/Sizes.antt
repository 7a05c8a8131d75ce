-- What the ranges say of lengths and notes: an unknown number has no octets and note 0 and is not blank, no packet is over the limit, and
-- n and m are within the sizes. Each is read off the test that the ranges make. Assumes nothing.
use Prim.Native.Nat.{ℕ, ◌*◌, ◌≤◌}
use mathlib.Core.Path.{◌≡◌, refl}
use mathlib.Core.Bool.{Bool, true, false, not, cond, ◌&&◌, false≢true}
use lib.ListN.{length}
use lib.Dec.{leb, eqb}
use native.Mathlib.Nat.{mul-le-mul, le_trans}
use native.Mathlib.Omega.{arith}
use borrow.Author.Tests.{leb-true, eqb-true}
use Rattle.octets.proofs.Laws.{and_left, and_right}
use Rattle.datagram.specs.Sizes.{covered_limit, messages_limit, reach_limit, covered_least}
use Rattle.session.specs.Cells.{State, unknown, received, spare, repaired, blank, is_unknown, kept_before}
use Rattle.session.specs.Held.{Held}
use Rattle.session.specs.Ranges.{size_right, note_right, mark_right, held_right}

-- ---- a kept number
pub unknown-size : (state : State) (size : ℕ) (must_be_blank : Bool) → is_unknown state ≡ true → size_right state size must_be_blank ≡ true
    → (size ≡ 0) × (not must_be_blank ≡ true)
unfolding size_right
unknown-size unknown size b u e = (eqb-true size 0 (and_left (eqb size 0) (not b) e), and_right (eqb size 0) (not b) e)
unknown-size received size b u e = absurd (false≢true u)
unknown-size spare size b u e = absurd (false≢true u)
unknown-size repaired size b u e = absurd (false≢true u)
unknown-size blank size b u e = absurd (false≢true u)

-- ---- what is held
settings-sizes : (b : Bool) (n m : ℕ) → eqb m 0 ≡ b
    → cond b (eqb n 0) ((leb covered_least n && leb n covered_limit) && leb m messages_limit) ≡ true
    → (n ≤ covered_limit) × (m ≤ messages_limit)
settings-sizes true n m e t =
    let none : m ≡ 0 = eqb-true m 0 e in
    let no : n ≡ 0 = eqb-true n 0 t in
    (omega arith, omega arith)
settings-sizes false n m e t = (
  leb-true n covered_limit (and_right (leb covered_least n) _ (and_left _ (leb m messages_limit) t)),
  leb-true m messages_limit
      (and_right (leb covered_least n && leb n covered_limit) _ t),
)

pub mark-sizes : (accepted known : Bool) (n m : ℕ) → mark_right accepted known n m ≡ true → (n ≤ covered_limit) × (m ≤ messages_limit)
unfolding mark_right
mark-sizes accepted known n m e = settings-sizes (eqb m 0) n m refl (and_right (cond accepted known (eqb m 0)) _ e)

pub held-sizes : (h : Held) (known : Bool) → held_right h known ≡ true → (h.n ≤ covered_limit) × (length h.messages ≤ messages_limit)
unfolding held_right
held-sizes h known e =
    mark-sizes h.accepted known h.n (length h.messages)
    (and_left (mark_right h.accepted known h.n (length h.messages)) _ e)

-- before the base as many numbers are kept as a message may reach back, 32 (rules 1.6 and 1.13)
pub reach-before : reach_limit ≤ kept_before
reach-before = omega arith

pub reach-kept : {n m : ℕ} → n ≤ covered_limit → m ≤ messages_limit → n * m ≤ kept_before
reach-kept covered messages = le_trans (mul-le-mul covered messages) reach-before
