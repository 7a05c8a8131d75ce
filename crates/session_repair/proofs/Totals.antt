-- How many messages are held, counted slot by slot and counted from the base on: the slots of the numbers from the base on are all
-- slots, turned by the base. So once as many are seen as there are, the numbers left have none. Assumes nothing.
use Rattle.std.proofs.Common.{◌≡◌, ℕ, zero, suc, ◌+◌, ◌-◌, ◌*◌, ◌%◌, ◌<◌, ◌≤◌, List, sym, refl, ap, ◌∙◌, ap₂, ⊎_elim, add_assoc, add_comm, add-one, arith}
use Rattle.octets.proofs.Laws.{same_or_not}
use Rattle.datagram.specs.Sizes.{messages_limit}
use Rattle.session.specs.Cells.{kept_ahead}
use Rattle.session_held.specs.Slots.{slots_heard}
use Rattle.session_held.specs.Table.{m_in}
use Rattle.session_repair.specs.Back.{sum_to, MessageCount, count_all}
use Rattle.session_repair.specs.Promise.{Searchable, m_at}

-- ---- sums
sum_same : (n : ℕ) (f g : ℕ → ℕ) → ((k : ℕ) → k < n → f k ≡ g k) → sum_to n f ≡ sum_to n g
unfolding sum_to
sum_same zero f g same = refl
sum_same (suc n) f g same = ap₂ (λ (a b : ℕ). a + b) (sum_same n f g (λ k low. same k (omega arith))) (same n (omega arith))

-- the first a, then the next b
sum-parts : (a b : ℕ) (f : ℕ → ℕ) → sum_to (a + b) f ≡ sum_to a f + sum_to b (λ k. f (a + k))
unfolding sum_to
sum-parts a zero f =
    let e : a + 0 ≡ a = omega arith in
    ap (λ (n : ℕ). sum_to n f) e ∙ omega arith
sum-parts a (suc b) f =
    let e : a + suc b ≡ suc (a + b) = omega arith in
    ap (λ (n : ℕ). sum_to n f) e ∙ ap (λ (x : ℕ). x + f (a + b)) (sum-parts a b f) ∙ add_assoc (sum_to a f) _ _

sum-none : (n : ℕ) (f : ℕ → ℕ) → sum_to n f ≡ 0 → (k : ℕ) → k < n → f k ≡ 0
unfolding sum_to
sum-none zero f none k low = absurd (omega arith)
sum-none (suc n) f none k low =
    ⊎_elim (λ (e : k ≡ n). ap f e ∙ omega arith) (λ other. sum-none n f (omega arith) k (omega arith)) (same_or_not k n)

pub sum_more : (n : ℕ) (f : ℕ → ℕ) → sum_to (n + 1) f ≡ sum_to n f + f n
unfolding sum_to
sum_more n f = rw add-one

-- ---- all slots, from the base on
module _ (base : ℕ) (t : List ℕ) where
  turned : sum_to slots_heard (m_at base t) ≡ count_all t
  turned =
      let r = base % slots_heard in
      let s = slots_heard - r in
      let whole : s + r ≡ slots_heard = omega arith in
      let back : r + s ≡ slots_heard = omega arith in
      let first : sum_to s (m_at base t) ≡ sum_to s (λ k. m_in t (r + k)) =
      sum_same s (m_at base t) (λ k. m_in t (r + k)) (λ k low. ap (m_in t) (omega arith)) in
      let second : sum_to r (λ k. m_at base t (s + k)) ≡ sum_to r (m_in t) =
      sum_same r (λ k. m_at base t (s + k)) (m_in t) (λ k low. ap (m_in t) (omega arith)) in
      ap (λ (n : ℕ). sum_to n (m_at base t)) (sym whole)
      ∙ sum-parts s r (m_at base t)
      ∙ ap₂ (λ (a b : ℕ). a + b) first second
      ∙ add_comm (sum_to s (λ k. m_in t (r + k))) (sum_to r (m_in t))
      ∙ sym (sum-parts r s (m_in t))
      ∙ ap (λ (n : ℕ). sum_to n (m_in t)) back

  -- all are seen: the numbers left have none
  pub none_left : (d : ℕ) → d ≤ kept_ahead → count_all t ≤ sum_to d (m_at base t) → (k : ℕ) → d ≤ k → k < kept_ahead → m_at base t k ≡ 0
  none_left d few all k past low =
      let whole : d + (kept_ahead - d) ≡ kept_ahead = omega arith in
      let parts = sum-parts d (kept_ahead - d) (m_at base t) in
      let same = ap (λ (n : ℕ). sum_to n (m_at base t)) whole in
      let rest : sum_to (kept_ahead - d) (λ i. m_at base t (d + i)) ≡ 0 = omega (arith, parts, same, turned) in
      let here : d + (k - d) ≡ k = omega arith in
      ap (λ (n : ℕ). m_at base t n) (sym here) ∙ sum-none (kept_ahead - d) (λ i. m_at base t (d + i)) rest (k - d) (omega arith)

-- ---- the loop over the slots
pub record Totalling (t : List ℕ) (total j : ℕ) : Type 0 where
  pub same : total ≡ sum_to j (m_in t)
  pub small : total ≤ j * messages_limit
  pub few : j ≤ slots_heard

pub totalling-start : (t : List ℕ) → Totalling t 0 0
unfolding sum_to
totalling-start t = record { same = refl; small = omega arith; few = omega arith }

pub totalling-turn : {t : List ℕ} {total j m : ℕ} → Totalling t total j → j < slots_heard → MessageCount t j m
    → Totalling t (total + m) (j + 1)
totalling-turn {t} {total} {j} {m} s more c =
    record {
      same = ap₂ (λ (a b : ℕ). a + b) s.same c.same ∙ sym (sum_more j (m_in t));
      small = omega (arith, s.small, c.small);
      few = omega arith;
    }

pub totalling-done : {t : List ℕ} {total j : ℕ} → Totalling t total j → slots_heard ≤ j → total ≡ count_all t
totalling-done {t} {total} {j} s all =
    let whole : j ≡ slots_heard = omega (arith, s.few) in
    s.same ∙ ap (λ (n : ℕ). sum_to n (m_in t)) whole

pub count-read : {t : List ℕ} {slot m n : ℕ} → Searchable t → slot < slots_heard → m ≡ m_in t slot → n ≡ m → MessageCount t slot n
count-read {t} {slot} {m} {n} s small e-m e-n =
    record { same = e-n ∙ e-m; small = omega (arith, s.few slot small) }
