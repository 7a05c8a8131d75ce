-- The members of an equation, on plain values: the places that go back by m from the message's own. Assumes nothing.
use Rattle.std.proofs.Common.{◌≡◌, ℕ, ◌+◌, ◌*◌, ◌/◌, ◌%◌, ◌<◌, ◌≤◌, List, sym, refl, ap, ◌∙◌, ap₂, arith}
use lib.Bits.{bit_and, and_zero_l}
use Rattle.datagram.specs.Sizes.{messages_limit}
use Rattle.solve_algebra.specs.Masks as masks
use Rattle.solve_algebra.specs.Masks.{mask_of, places_back}
use Rattle.solve_algebra.specs.MasksPromise.{BackMade}
use Rattle.solve_algebra.specs.Rows.{table_rows}
use Rattle.session.specs.Cells.{kept_before, kept_ahead}
use Rattle.session.specs.Members.{members_of}
use Rattle.session.specs.Repair.{Message}
use Rattle.session.specs.View.{numbers}
use Rattle.session_held.specs.Slots.{heard_slot_at, slots_heard}
use Rattle.session_held.specs.Table.{n_in, m_in, held_of}
use Rattle.session_repair.specs.Promise.{Searchable, n_at, m_at, message_held}
use Rattle.session_repair.proofs.Laws.{m-near, reach_near}
use Rattle.solve.specs.Table.{message_or, equation_at}
use Rattle.solve_code.specs.RowsPromise.{EquationMade}
use Rattle.solve_code.proofs.Held.{equation-there, equation-none}

module _ (base : ℕ) {e distance index near at slot count : ℕ} {t : List ℕ} (s : Searchable t) (inside : e < table_rows)
    (ed : distance ≡ e / messages_limit) (ei : index ≡ e % messages_limit) (en : near ≡ distance) (ea : at ≡ (base + near) % numbers)
    (es : slot ≡ at % slots_heard) (ec : count ≡ m_in t slot) where
  close : distance < kept_ahead
  close = omega arith

  slot_is : slot ≡ heard_slot_at base distance
  slot_is = omega arith

  count-is : count ≡ m_at base t distance
  count-is = ec ∙ ap (λ (j : ℕ). m_in t j) slot_is

  -- ---- a message that is there
  module _ (low : index < count) {covered behind after from n m : ℕ} (ev : covered ≡ n_in t slot) (eb : behind ≡ distance + kept_before)
      (ef : after ≡ behind + index) (ew : from ≡ after) (ep : n ≡ covered) (eq : m ≡ count) where
    n-is : n ≡ n_at base t distance
    n-is = ep ∙ ev ∙ ap (λ (j : ℕ). n_in t j) slot_is

    m-is : m ≡ m_at base t distance
    m-is = eq ∙ count-is

    from_is : from ≡ kept_before + distance + index
    from_is = omega arith

    pub back_fits : (n * m ≤ from) × (from < masks.mask_places + m)
    back_fits =
        (rw (n-is, m-is) (omega (arith, reach_near s base distance, from_is)), omega (arith, from_is, close, low))

    pub equation-made : {unknown members : ℕ} → BackMade from n m members → EquationMade base t unknown e (bit_and members unknown)
    unfolding message_held members_of places_back
    equation-made {unknown} {members} made =
        record {
          answer = λ g.
              ap (λ (x : ℕ). bit_and x unknown)
              (made.answer
              ∙ ap (λ (x : ℕ). mask_of (places_back x n m)) from_is
              ∙ ap₂ (λ (x y : ℕ). mask_of (places_back (kept_before + distance + index) x y)) n-is m-is
              ∙ sym (ap (λ (x : Message). mask_of x.members) (equation-there base t g distance close index (rw count-is at low)))
              ∙ ap₂ (λ (x y : ℕ). mask_of (message_or (held_of base t g) x y).members) ed ei);
        }

  -- ---- none
  pub equation-empty : {unknown : ℕ} → count ≤ index → EquationMade base t unknown e 0
  unfolding mask_of
  equation-empty {unknown} past =
      record {
        answer = λ g.
            sym (and_zero_l unknown)
            ∙ sym
            (ap (λ (x : Message). bit_and (mask_of x.members) unknown)
            (ap₂ (λ (x y : ℕ). message_or (held_of base t g) x y) (sym ed) (sym ei)
            ∙ equation-none base t g distance close index (rw count-is at past)));
      }
