-- What the view shows of a slot determines the slot's numbers: the number that encodes a state follows from the state, a mark from whether
-- a datagram was accepted, the count of messages from how many there are. Assumes nothing.
use Prim.Native.Nat.{ℕ, ◌≤◌}
use mathlib.Core.Path.{◌≡◌, sym, ap, ◌∙◌}
use mathlib.Core.List.{List}
use mathlib.Core.Logic.{⊎_elim}
use lib.ListN.{length}
use lib.Dec.{eqb}
use native.Mathlib.Omega.{arith}
use borrow.Author.Tests.{eqb-true, eq-eqb}
use Rattle.octets.proofs.Laws.{length-tab, same_or_not}
use Rattle.session.specs.Cells as cells
use Rattle.session.specs.Cells.{Cell}
use Rattle.session.specs.Held.{Held}
use Rattle.session_held.specs.Table.{last_state, state_in, note_in, mark_in, n_in, m_in, state_numbered, cell_in, held_in}

-- ---- the number that encodes a state, from the state
abbrev number_of : cells.State → ℕ
number_of cells.unknown = 0
number_of cells.received = 1
number_of cells.spare = 2
number_of cells.repaired = 3
number_of cells.blank = 4

number-back : (n : ℕ) → n ≤ last_state → number_of (state_numbered n) ≡ n
unfolding state_numbered
number-back n few =
    ⊎_elim (λ (e : n ≡ 0). rw e)
    (λ no0.
    ⊎_elim (λ (e : n ≡ 1). rw e)
    (λ no1.
    ⊎_elim (λ (e : n ≡ 2). rw e)
    (λ no2.
    ⊎_elim (λ (e : n ≡ 3). rw e)
    (λ no3. let e : n ≡ 4 = omega arith in rw e)
    (same_or_not n 3))
    (same_or_not n 2))
    (same_or_not n 1))
    (same_or_not n 0)

number_same : (a b : ℕ) → a ≤ last_state → b ≤ last_state → state_numbered a ≡ state_numbered b → a ≡ b
number_same a b low few e = sym (number-back a low) ∙ ap number_of e ∙ number-back b few

mark-same : (a b : ℕ) → a ≤ 1 → b ≤ 1 → eqb a 1 ≡ eqb b 1 → a ≡ b
mark-same a b low few e =
    ⊎_elim (λ (one : a ≡ 1). let other : b ≡ 1 = eqb-true b 1 (sym e ∙ eq-eqb a 1 one) in omega arith)
    (λ no.
    ⊎_elim (λ (one : b ≡ 1). absurd (no (eqb-true a 1 (e ∙ eq-eqb b 1 one)))) (λ none. omega arith) (same_or_not b 1))
    (same_or_not a 1)

-- ---- a slot from what the view shows of it
pub state-in-same : (t s o q : List ℕ) (i : ℕ) → state_in t i ≤ last_state → state_in s i ≤ last_state → cell_in t o i ≡ cell_in s q i
    → state_in t i ≡ state_in s i
unfolding cell_in
state-in-same t s o q i low few e = number_same (state_in t i) (state_in s i) low few (ap (λ (c : Cell). c.state) e)

pub note-in-same : (t s o q : List ℕ) (i : ℕ) → cell_in t o i ≡ cell_in s q i → note_in t i ≡ note_in s i
unfolding cell_in
note-in-same t s o q i e = ap (λ (c : Cell). c.note) e

module _ (t s g e : List ℕ) (j : ℕ) (same : held_in t g j ≡ held_in s e j) where
  pub mark-in-same : mark_in t j ≤ 1 → mark_in s j ≤ 1 → mark_in t j ≡ mark_in s j
  unfolding held_in
  mark-in-same low few = mark-same (mark_in t j) (mark_in s j) low few (ap (λ (h : Held). h.accepted) same)

  pub n-in-same : n_in t j ≡ n_in s j
  unfolding held_in
  n-in-same = ap (λ (h : Held). h.n) same

  pub m-in-same : m_in t j ≡ m_in s j
  unfolding held_in
  m-in-same = sym (length-tab (m_in t j) _) ∙ ap (λ (h : Held). length h.messages) same ∙ length-tab (m_in s j) _
