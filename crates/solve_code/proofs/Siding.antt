-- What the equations ask for, one after the other, on plain values. Assumes nothing.
use Rattle.std.proofs.Common.{◌≡◌, ℕ, ◌+◌, ◌*◌, ◌/◌, ◌%◌, ◌<◌, ◌≤◌, List, length, get_or, sym, refl, ap, ◌∙◌, ap₂, ⊎_elim, arith}
use Rattle.octets.specs.ExclusiveOr.{xor_at}
use Rattle.octets.proofs.Laws.{same_or_not}
use Rattle.datagram.specs.Sizes.{packet_limit, messages_limit}
use Rattle.solve_algebra.specs.Rows.{table_rows}
use Rattle.session_slots.specs.Store.{HasSlot, pasted, zeros}
use Rattle.session_slots.proofs.Laws.{length-zeros, zeros-at, length-pasted, pasted-in, pasted-other}
use Rattle.session.specs.Cells.{kept_ahead}
use Rattle.session.specs.Repair.{Message, passing}
use Rattle.session.specs.View.{numbers}
use Rattle.session_held.specs.Slots.{heard_slot_at, slots_heard, message_octets}
use Rattle.session_held.specs.Table.{m_in, cells_of, held_of}
use Rattle.session_repair.specs.Promise.{m_at, message_held, AskedOctets}
use Rattle.solve_code.proofs.RowsLaws.{equation-there, equation-none}
use Rattle.solve.specs.Table.{message_or, equation_at, side_at}
use Rattle.solve_code.specs.Steps.{SideTold, SidesLaid}

-- ---- one equation
module _ (base : ℕ) (t : List ℕ) {e distance index near at slot count : ℕ} (inside : e < table_rows) (ed : distance ≡ e / messages_limit)
    (ei : index ≡ e % messages_limit) (en : near ≡ distance) (ea : at ≡ (base + near) % numbers) (es : slot ≡ at % slots_heard)
    (ec : count ≡ m_in t slot) where
  close : distance < kept_ahead
  close = omega arith

  slot_is : slot ≡ heard_slot_at base distance
  slot_is = omega arith

  count-is : count ≡ m_at base t distance
  count-is = ec ∙ ap (λ (j : ℕ). m_in t j) slot_is

  -- what `asked` requires
  pub index-there : index < count → index < m_at base t near
  index-there low = rw en (rw count-is at low)

  again : (g : List ℕ) → message_or (held_of base t g) distance index ≡ equation_at (held_of base t g) e
  again g = ap₂ (λ (x y : ℕ). message_or (held_of base t g) x y) ed ei

  pub side-there : {o g r : List ℕ} → index < count → AskedOctets base t o g near index packet_limit r → SideTold base t o g e r
  unfolding side_at
  side-there {o} {g} {r} low asked =
      record {
        long = asked.long;
        each = λ k below.
            asked.each k below
            ∙ ap (λ (m : Message). side_at (cells_of base t o) m k)
            (ap (λ (d : ℕ). message_held base t g d index) en
            ∙ sym (equation-there base t g distance close index (rw count-is at low))
            ∙ again g);
      }

  pub side-none : (o g : List ℕ) → count ≤ index → SideTold base t o g e (zeros packet_limit)
  unfolding side_at xor_at passing
  side-none o g past =
      record {
        long = length-zeros packet_limit;
        each = λ k below.
            zeros-at packet_limit k
            ∙ sym
            (ap (λ (m : Message). side_at (cells_of base t o) m k)
            (sym (again g) ∙ equation-none base t g distance close index (rw count-is at past)));
      }

-- ---- the first e of them
pub record SidesTo (base : ℕ) (t o g all : List ℕ) (e : ℕ) : Type 0 where
  pub long : length all ≡ message_octets
  pub few : e ≤ table_rows
  pub each : (f k : ℕ) → f < e → k < packet_limit
      → get_or all (f * packet_limit + k) 0 ≡ side_at (cells_of base t o) (equation_at (held_of base t g) f) k

pub sides-start : (base : ℕ) (t o g : List ℕ) {all : List ℕ} → length all ≡ message_octets → SidesTo base t o g all 0
sides-start base t o g long = record { long = long; few = omega arith; each = λ f k low small. absurd (omega arith) }

pub slot-there : {base e : ℕ} {t o g all : List ℕ} → SidesTo base t o g all e → e < table_rows → HasSlot e all
slot-there s below = omega (arith, s.long)

pub sides-turn : {base e : ℕ} {t o g all one next : List ℕ} → SidesTo base t o g all e → e < table_rows → SideTold base t o g e one
    → next ≡ pasted all e one → SidesTo base t o g next (e + 1)
sides-turn {base} {e} {t} {o} {g} {all} {one} {next} s below told laid =
    rw laid
    (record {
      long = length-pasted all e one (slot-there s below) fits ∙ s.long;
      few = omega arith;
      each = each;
    })
  where
    fits : length one ≤ packet_limit
    fits = omega (arith, told.long)

    each : (f k : ℕ) → f < e + 1 → k < packet_limit
        → get_or (pasted all e one) (f * packet_limit + k) 0 ≡ side_at (cells_of base t o) (equation_at (held_of base t g) f) k
    each f k low small =
        ⊎_elim
        (λ (same : f ≡ e).
        ap (λ (j : ℕ). get_or (pasted all e one) (j * packet_limit + k) 0) same
        ∙ pasted-in all e one (slot-there s below) fits k (rw told.long small)
        ∙ told.each k small
        ∙ ap (λ (j : ℕ). side_at (cells_of base t o) (equation_at (held_of base t g) j) k) (sym same))
        (λ other. pasted-other all e one (slot-there s below) fits f k other small ∙ s.each f k (omega arith) small)
        (same_or_not f e)

pub sides-done : {base e : ℕ} {t o g all : List ℕ} → SidesTo base t o g all e → table_rows ≤ e → SidesLaid base t o g all
sides-done s done = record { long = s.long; each = λ f k low small. s.each f k (omega (arith, s.few)) small }
