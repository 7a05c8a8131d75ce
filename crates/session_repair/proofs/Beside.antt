-- Tables that differ in their kept numbers alone: one after the other, and what is held by them. Assumes nothing.
use Rattle.std.proofs.Common.{◌≡◌, ℕ, List, refl, ap, ◌∙◌, arith}
use Rattle.octets.proofs.Laws.{tab-ext}
use Rattle.session.specs.Cells.{kept_ahead}
use Rattle.session_slots.specs.Store.{part}
use Rattle.session_held.specs.Slots.{heard_slot_at, message_slot}
use Rattle.session_held.specs.Table.{mark_place, n_place, m_place, message_place, m_in, message_in, held_in, held_of}
use Rattle.session_repair.specs.Promise.{SameBeside}

pub same_beside : (t : List ℕ) → SameBeside t t
same_beside t = record { stays = λ k past. refl }

pub beside-twice : {t q r : List ℕ} → SameBeside t q → SameBeside q r → SameBeside t r
beside-twice a b = record { stays = λ k past. b.stays k past ∙ a.stays k past }

-- what is held goes by the marks, n, m and the messages alone
module _ {t r : List ℕ} (s : SameBeside t r) (g : List ℕ) where
  message-beside : (j i : ℕ) → message_in r g j i ≡ message_in t g j i
  unfolding message_in
  message-beside j i = ap (λ (n : ℕ). part g (message_slot j i) n) (s.stays (message_place (message_slot j i)) (omega arith))

  slot-beside : (j : ℕ) → held_in r g j ≡ held_in t g j
  unfolding held_in
  slot-beside j =
      rw (
        s.stays (mark_place j) (omega arith),
        s.stays (n_place j) (omega arith),
        s.stays (m_place j) (omega arith),
        tab-ext (m_in t j) (message_in r g j) (message_in t g j) (λ i low. message-beside j i),
      )

  pub held-beside : (base : ℕ) → held_of base r g ≡ held_of base t g
  unfolding held_of
  held-beside base = tab-ext kept_ahead _ (λ d. held_in t g (heard_slot_at base d)) (λ d below. slot-beside (heard_slot_at base d))
