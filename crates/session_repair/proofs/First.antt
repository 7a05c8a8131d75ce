-- The loop over the numbers from the base on: what is left to search holds the whole answer, and once all messages are seen the
-- numbers left have none. Assumes nothing.
use Rattle.std.proofs.Common.{◌≡◌, ℕ, zero, suc, ◌+◌, ◌-◌, ◌*◌, ◌%◌, ◌<◌, ◌≤◌, List, ◌++◌, length, Option, Some, None, sym, refl, ap, ◌∙◌, ap₂, add-one, arith}
use Rattle.datagram.specs.Sizes.{messages_limit}
use Rattle.session.specs.Cells.{kept_before, kept_ahead}
use Rattle.session.specs.Repair.{first_usable}
use Rattle.session.specs.Held.{Held, messages_of, held_messages}
use Rattle.session.proofs.Laws.{first_usable-front, first_usable-rest, held_from, held_from-start, held_from-turn, held_from-end}
use Rattle.session.specs.View.{numbers}
use Rattle.session_held.specs.Slots.{heard_slot_at, slots_heard, message_octets}
use Rattle.session_held.specs.Table.{m_in, held_in, cells_of, held_of}
use Rattle.session_held.proofs.Laws.{length-held, held-at}
use Rattle.session_repair.specs.Back.{sum_to, MessageCount, count_all}
use Rattle.session_repair.specs.Promise.{m_at, message_held, LowestFound, LowestSeen, UsableFound}
use Rattle.session_repair.specs.declared.searching.Lowest.{Lowest}
use Rattle.session_repair.proofs.Below.{lowest-empty}
use Rattle.session_repair.proofs.Totals.{sum_more, none_left}

pub record Searched (base : ℕ) (t : List ℕ) (d : ℕ) : Type 0 where
  pub few : d ≤ kept_ahead
  pub left : (o g : List ℕ) → length g ≡ message_octets
      → first_usable (cells_of base t o) (held_messages (held_of base t g)) ≡ first_usable (cells_of base t o) (held_from (held_of base t g) d)

pub searched-start : (base : ℕ) (t : List ℕ) → Searched base t 0
searched-start base t =
    record { few = omega arith; left = λ o g long. ap (first_usable (cells_of base t o)) (sym (held_from-start (held_of base t g))) }

module _ {base : ℕ} {t : List ℕ} {d : ℕ} (s : Searched base t d) (more : d < kept_ahead) where
  -- what is left is this number's messages, then those of the numbers after it
  parted : (g : List ℕ) → held_from (held_of base t g) d
      ≡ messages_of (kept_before + d) (held_in t g (heard_slot_at base d)) ++ held_from (held_of base t g) (suc d)
  parted g =
      held_from-turn (held_of base t g) d (rw (length-held base t g) more)
      ∙ ap (λ (x : Held). messages_of (kept_before + d) x ++ held_from (held_of base t g) (suc d)) (held-at base t g d more)

  pub searched-turn : {at : ℕ} {r : Option Lowest} → at ≡ (base + d) % numbers → LowestSeen t at r → r ≡ None → Searched base t (d + 1)
  searched-turn e-at seen e =
      let f : LowestFound base t d None = rw e at (seen.found base d more e-at) in
      record {
        few = omega arith;
        left =
            λ o g long.
            s.left o g long
            ∙ ap (first_usable (cells_of base t o)) (parted g)
            ∙ first_usable-rest (cells_of base t o) _ _ (f.answer o g long)
            ∙ ap (λ (k : ℕ). first_usable (cells_of base t o) (held_from (held_of base t g) k)) (sym (add-one d));
      }

  pub searched-hit : {at : ℕ} {r : Option Lowest} {low : Lowest} → at ≡ (base + d) % numbers → LowestSeen t at r → r ≡ Some low
      → UsableFound base t (Some (record { distance = d; index = low.index; slot = low.slot }))
  searched-hit {at} {r} {low} e-at seen e =
      let f : LowestFound base t d (Some low) = rw e at (seen.found base d more e-at) in
      record {
        answer =
            λ o g long.
            s.left o g long
            ∙ ap (first_usable (cells_of base t o)) (parted g)
            ∙ first_usable-front (cells_of base t o) _ _ (message_held base t g d low.index) (f.answer o g long);
        points = f.points;
      }

-- a number without messages
searched-empty : {base : ℕ} {t : List ℕ} {d : ℕ} → Searched base t d → d < kept_ahead → m_at base t d ≡ 0 → Searched base t (d + 1)
searched-empty {base} {t} {d} s more e =
    searched-turn s more refl (lowest-empty {slot = heard_slot_at base d} (omega arith) refl e) refl

searched-rest : (n : ℕ) {base : ℕ} {t : List ℕ} {d : ℕ} → Searched base t d → d + n ≡ kept_ahead
    → ((k : ℕ) → d ≤ k → k < kept_ahead → m_at base t k ≡ 0) → Searched base t kept_ahead
searched-rest zero {base} {t} {d} s e none =
    let whole : d ≡ kept_ahead = omega arith in
    rw whole at s
searched-rest (suc n) {base} {t} {d} s e none =
    searched-rest n (searched-empty s (omega arith) (none d (omega arith) (omega arith))) (omega arith)
    (λ k past low. none k (omega arith) low)

searched-all : {base : ℕ} {t : List ℕ} → Searched base t kept_ahead → UsableFound base t None
unfolding first_usable
searched-all {base} {t} s =
    record {
      answer =
          λ o g long.
          s.left o g long
          ∙ ap (first_usable (cells_of base t o)) (held_from-end (held_of base t g) kept_ahead (omega (arith, length-held base t g)));
      points = tt;
    }

-- ---- the loop: the numbers before d are searched, and the messages seen are theirs
pub record Seen (base : ℕ) (t : List ℕ) (seen d : ℕ) : Type 0 where
  pub searched : Searched base t d
  pub same : seen ≡ sum_to d (m_at base t)
  pub small : seen ≤ d * messages_limit

pub seen_start : (base : ℕ) (t : List ℕ) → Seen base t 0 0
unfolding sum_to
seen_start base t = record { searched = searched-start base t; same = refl; small = omega arith }

module _ {base : ℕ} {t : List ℕ} {seen d : ℕ} (s : Seen base t seen d) where
  pub seen-hit : {at : ℕ} {r : Option Lowest} {low : Lowest} → d < kept_ahead → at ≡ (base + d) % numbers → LowestSeen t at r
      → r ≡ Some low
      → UsableFound base t (Some (record { distance = d; index = low.index; slot = low.slot }))
  seen-hit more = searched-hit s.searched more

  pub seen-turn : {at place m : ℕ} {r : Option Lowest} → d < kept_ahead → at ≡ (base + d) % numbers → LowestSeen t at r → r ≡ None
      → place ≡ at % slots_heard → MessageCount t place m → Seen base t (seen + m) (d + 1)
  seen-turn {at} {place} {m} more e-at low e e-place c =
      let here : place ≡ heard_slot_at base d = omega arith in
      record {
        searched = searched-turn s.searched more e-at low e;
        same = ap₂ (λ (a b : ℕ). a + b) s.same (c.same ∙ ap (m_in t) here) ∙ sym (sum_more d (m_at base t));
        small = omega (arith, s.small, c.small);
      }

  -- all messages are seen
  pub seen_done : {total : ℕ} → total ≡ count_all t → seen ≡ total → UsableFound base t None
  seen_done {total} e-total all =
      let few = s.searched.few in
      searched-all
      (searched-rest (kept_ahead - d) s.searched (omega arith)
      (none_left base t d few (omega (arith, all, e-total, s.same))))

  -- all numbers are searched
  pub seen-last : kept_ahead ≤ d → UsableFound base t None
  seen-last past =
      let whole : d ≡ kept_ahead = omega (arith, s.searched.few) in
      searched-all (rw whole at s.searched)
