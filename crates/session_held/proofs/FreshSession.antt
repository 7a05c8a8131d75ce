-- A fresh session: its table as the code makes it, its view, and that it is within the ranges. Every number of the table is 0 except the
-- states of the numbers before the first. Assumes nothing.
use Prim.Native.Nat.{ℕ, zero, suc, ◌+◌, ◌-◌, ◌≤◌, ◌<◌}
use mathlib.Core.Path.{◌≡◌, refl, sym, ap, ap₂, ◌∙◌}
use mathlib.Core.Bool.{true, cond}
use mathlib.Core.List.{List, [], ◌∷◌, ◌++◌}
use mathlib.Core.Logic.{⊎_elim}
use lib.ListN.{length, get_or, set, drop, replicate, length-replicate, replicate-append-replicate, get_or-replicate, get_or-eq_default}
use lib.Seq.{drop_at}
use lib.Dec.{ltb, eqb}
use native.Mathlib.Omega.{arith}
use borrow.Author.Fill.{fill_more}
use borrow.Author.Tests.{lt-ltb, le-ltb}
use Rattle.octets.specs.Place.{tab}
use Rattle.octets.proofs.Laws.{tab-ext, below_or_not, and_both}
use Rattle.session.specs.Cells.{blank_cell, unknown_cell, kept_before, kept_ahead, kept_numbers}
use Rattle.session.specs.Held.{nothing_held}
use Rattle.session_slots.specs.Store.{part}
use Rattle.session_slots.proofs.Laws.{zeros_past-zeros}
use Rattle.session.specs.View.{fresh_view}
use Rattle.session.specs.Ranges.{in_ranges}
use Rattle.session.proofs.Laws.{fresh-sound, in_ranges-of}
use Rattle.session_held.specs.Slots.{slots_kept, slot_at, heard_slot_at, message_slot, kept_octets, message_octets}
use Rattle.session_held.specs.Table.{Lent, lent_by, places, last_state, note_place, mark_place, n_place, m_place, message_place, state_in}
use Rattle.session_held.specs.Table.{size_in}
use Rattle.session_held.specs.Table.{n_in, m_in, state_numbered, cell_in, message_in, held_in, cells_of, held_of, view_in}
use Rattle.session_held.specs.Laid.{lent_in_ranges, Laid}
use Rattle.session_held.specs.Promise.{fresh_table, Fresh}
use Rattle.session_held.specs.declared.Counts.{Counts}
use Rattle.session_held.specs.declared.Session.{Session}
use Rattle.session_held.proofs.Ranges.{laid-true}
use Rattle.session_held.proofs.Seen.{cell_parts}

-- ---- a list that begins with so many equal numbers: those, what follows them, and a number stored there
front : (n v : ℕ) (b : List ℕ) (i : ℕ) → i < n → get_or (replicate n v ++ b) i 0 ≡ v
front zero v b i low = absurd (omega arith)
front (suc n) v b zero low = refl
front (suc n) v b (suc i) low = front n v b i (omega arith)

after : (n v : ℕ) (b : List ℕ) (i k : ℕ) → i ≡ n + k → get_or (replicate n v ++ b) i 0 ≡ get_or b k 0
after zero v b i k e = let same : i ≡ k = omega arith in ap (λ (x : ℕ). get_or b x 0) same
after (suc n) v b zero k e = absurd (omega arith)
after (suc n) v b (suc i) k e = after n v b i k (omega arith)

stored : (n v : ℕ) (b : List ℕ) (i k w : ℕ) → i ≡ n + k → set (replicate n v ++ b) i w ≡ replicate n v ++ set b k w
stored zero v b i k w e = let same : i ≡ k = omega arith in ap (λ (x : ℕ). set b x w) same
stored (suc n) v b zero k w e = absurd (omega arith)
stored (suc n) v b (suc i) k w e = ap (λ (l : List ℕ). v ∷ l) (stored n v b i k w (omega arith))

-- at every place of a list of one value, and past it
pub replicate-at : {A : Type 0} (n : ℕ) (a : A) (k : ℕ) → get_or (replicate n a) k a ≡ a
replicate-at n a k =
    ⊎_elim (λ below. get_or-replicate n k a a below) (λ past. get_or-eq_default (replicate n a) a (rw (length-replicate n a) past))
    (below_or_not k n)

-- ---- the table as the code makes it: after the states of numbers from the base on, blank ones are laid over zeros
unfoldable pub rest : List ℕ
rest = replicate (places - kept_ahead) 0

length_rest : length rest ≡ places - kept_ahead
unfolding rest
length_rest = length-replicate {A = ℕ} (places - kept_ahead) 0

-- the states of numbers from the base on, and then b
unfoldable pub unknowns : List ℕ → List ℕ
unknowns b = replicate kept_ahead 0 ++ b

unknowns-stored : (b : List ℕ) (i k w : ℕ) → i ≡ kept_ahead + k → set (unknowns b) i w ≡ unknowns (set b k w)
unfolding unknowns
unknowns-stored b i k w e = stored kept_ahead 0 b i k w e

pub record Starting (table : List ℕ) (i : ℕ) : Type 0 where
  pub so : table ≡ unknowns (replicate (i - kept_ahead) last_state ++ drop (i - kept_ahead) rest)
  pub many : kept_ahead ≤ i
  pub few : i ≤ slots_kept

pub starting-start : Starting (replicate places 0) kept_ahead
unfolding rest unknowns
starting-start =
    record { so = sym (replicate-append-replicate {A = ℕ} kept_ahead (places - kept_ahead) 0); many = omega arith; few = omega arith }

pub starting-turn : {table : List ℕ} {i : ℕ} → Starting table i → i < slots_kept → Starting (set table i last_state) (i + 1)
starting-turn {table} {i} s more =
    let next : (i - kept_ahead) + 1 ≡ i + 1 - kept_ahead = omega (arith, s.many) in
    let at : i ≡ kept_ahead + (i - kept_ahead) = omega (arith, s.many) in
    record {
      so =
          ap (λ (l : List ℕ). set l i last_state) s.so
          ∙ unknowns-stored (replicate (i - kept_ahead) last_state ++ drop (i - kept_ahead) rest) i (i - kept_ahead) last_state at
          ∙ ap unknowns (fill_more (i - kept_ahead) last_state rest (rw length_rest (omega arith)))
          ∙ ap (λ (n : ℕ). unknowns (replicate n last_state ++ drop n rest)) next;
      many = omega (arith, s.many);
      few = omega arith;
    }

drop-replicate : (n k a : ℕ) → drop n (replicate (n + k) a) ≡ replicate k a
drop-replicate n k a =
    rw (← replicate-append-replicate n k a) (drop_at (replicate n a) (replicate k a) n (length-replicate n a))

pub starting-done : {table : List ℕ} {i : ℕ} → Starting table i → slots_kept ≤ i → table ≡ fresh_table
unfolding rest fresh_table unknowns
starting-done {table} {i} s done =
    let all : i - kept_ahead ≡ kept_before = omega (arith, s.few) in
    s.so
    ∙ ap (λ (n : ℕ). unknowns (replicate n last_state ++ drop n rest)) all
    ∙ ap (λ (l : List ℕ). replicate kept_ahead 0 ++ (replicate kept_before last_state ++ l))
    (drop-replicate kept_before (places - slots_kept) 0)

-- ---- what stands in it
pub length-fresh : {t : List ℕ} → t ≡ fresh_table → length t ≡ places
unfolding fresh_table
length-fresh e = rw e

low-zero : (i : ℕ) → i < kept_ahead → get_or fresh_table i 0 ≡ 0
unfolding fresh_table
low-zero i low = front kept_ahead 0 (replicate kept_before last_state ++ replicate (places - slots_kept) 0) i low

blank-there : (i : ℕ) → kept_ahead ≤ i → i < slots_kept → get_or fresh_table i 0 ≡ last_state
unfolding fresh_table
blank-there i past low =
    after kept_ahead 0 (replicate kept_before last_state ++ replicate (places - slots_kept) 0) i (i - kept_ahead) (omega arith)
    ∙ front kept_before last_state (replicate (places - slots_kept) 0) (i - kept_ahead) (omega arith)

high_zero : (i : ℕ) → slots_kept ≤ i → get_or fresh_table i 0 ≡ 0
unfolding fresh_table
high_zero i past =
    after kept_ahead 0 (replicate kept_before last_state ++ replicate (places - slots_kept) 0) i (i - kept_ahead) (omega arith)
    ∙ after kept_before last_state (replicate (places - slots_kept) 0) (i - kept_ahead) (i - slots_kept) (omega arith)
    ∙ replicate-at (places - slots_kept) 0 (i - slots_kept)

-- ---- all that a fresh session lends
abbrev pub no_moves : Counts
no_moves = record { received = 0; spare = 0; repaired = 0; lost = 0 }

pub record FreshParts (l : Lent) : Type 0 where
  pub base : l.base ≡ 0
  pub counts : l.counts ≡ no_moves
  pub table : l.table ≡ fresh_table
  pub octets : (k : ℕ) → get_or l.octets k 0 ≡ 0
  pub messages : (k : ℕ) → get_or l.messages k 0 ≡ 0
  pub packets_long : length l.octets ≡ kept_octets
  pub messages_long : length l.messages ≡ message_octets

module _ {l : Lent} (f : FreshParts l) where
  zero-at : (k : ℕ) → slots_kept ≤ k → get_or l.table k 0 ≡ 0
  zero-at k past = ap (λ (t : List ℕ). get_or t k 0) f.table ∙ high_zero k past

  size-zero : (i : ℕ) → size_in l.table i ≡ 0
  size-zero i = zero-at (slots_kept + i) (omega arith)

  -- ---- the view
  state-before : (p : ℕ) → p < kept_before → state_in l.table (slot_at l.base p) ≡ last_state
  state-before p low =
      let slot : slot_at l.base p ≡ kept_ahead + p = omega (arith, f.base) in
      rw (f.table, slot) (blank-there (kept_ahead + p) (omega arith) (omega arith))

  state-after : (p : ℕ) → kept_before ≤ p → p < kept_numbers → state_in l.table (slot_at l.base p) ≡ 0
  state-after p past small =
      let slot : slot_at l.base p ≡ p - kept_before = omega (arith, f.base) in
      rw (f.table, slot) (low-zero (p - kept_before) (omega arith))

  cell-of : (i n : ℕ) → state_in l.table i ≡ n
      → cell_in l.table l.octets i ≡ record { state = state_numbered n; octets = []; note = 0 }
  unfolding cell_in part
  cell-of i n e =
      cell_parts (ap state_numbered e) (ap (part l.octets i) (size-zero i)) (zero-at (note_place i) (omega arith))

  cell-fresh : (p : ℕ) → p < kept_numbers
      → cell_in l.table l.octets (slot_at l.base p) ≡ cond (ltb p kept_before) blank_cell unknown_cell
  unfolding state_numbered
  cell-fresh p small =
      ⊎_elim (λ low. rw (lt-ltb p kept_before low) (cell-of (slot_at l.base p) last_state (state-before p low)))
      (λ past. rw (le-ltb p kept_before past) (cell-of (slot_at l.base p) 0 (state-after p past small)))
      (below_or_not p kept_before)

  fresh_cells : cells_of l.base l.table l.octets ≡ replicate kept_before blank_cell ++ replicate kept_ahead unknown_cell
  unfolding cells_of tab
  fresh_cells = tab-ext kept_numbers _ (λ p. cond (ltb p kept_before) blank_cell unknown_cell) cell-fresh

  held-fresh : (j : ℕ) → held_in l.table l.messages j ≡ nothing_held
  unfolding held_in tab
  held-fresh j =
      ap (λ (x : ℕ).
      record { accepted = eqb x 1; n = n_in l.table j; messages = tab (m_in l.table j) (message_in l.table l.messages j) })
      (zero-at (mark_place j) (omega arith))
      ∙ ap₂ (λ (n m : ℕ). record { accepted = eqb 0 1; n = n; messages = tab m (message_in l.table l.messages j) })
      (zero-at (n_place j) (omega arith)) (zero-at (m_place j) (omega arith))

  fresh-held : held_of l.base l.table l.messages ≡ replicate kept_ahead nothing_held
  unfolding held_of tab
  fresh-held = tab-ext kept_ahead _ (λ d. nothing_held) (λ d small. held-fresh (heard_slot_at l.base d))

  fresh-view : view_in l ≡ fresh_view
  unfolding view_in fresh_view
  fresh-view = rw (fresh_cells, fresh-held, f.base, f.counts)

  -- ---- the ranges
  state-laid : (i : ℕ) → i < slots_kept → state_in l.table i ≤ last_state
  state-laid i small =
      rw f.table
      (⊎_elim (λ low. rw (low-zero i low) (omega arith)) (λ past. rw (blank-there i past small) (omega arith))
      (below_or_not i kept_ahead))

  fresh-laid : Laid l.table l.octets l.messages
  fresh-laid =
      record {
        long = length-fresh f.table;
        octets = f.packets_long;
        messages = f.messages_long;
        state = state-laid;
        size = λ i small. omega (arith, size-zero i);
        packet = λ i small. zeros_past-zeros l.octets i _ f.octets;
        mark = λ j small. omega (arith, zero-at (mark_place j) (omega arith));
        few = λ j small. omega (arith, zero-at (m_place j) (omega arith));
        part = λ j i small low. omega (arith, zero-at (message_place (message_slot j i)) (omega arith));
        past = λ j i small low past. zero-at (message_place (message_slot j i)) (omega arith);
        message = λ j i small low. zeros_past-zeros l.messages (message_slot j i) _ f.messages;
      }

fresh-ranges : {l : Lent} → FreshParts l → lent_in_ranges l ≡ true
unfolding lent_in_ranges
fresh-ranges {l} f = and_both (laid-true l (fresh-laid f)) (ap in_ranges (fresh-view f) ∙ in_ranges-of fresh-sound)

pub fresh-made : {r : Session} → FreshParts (lent_by r) → Fresh r
fresh-made f =
    record {
      view = fresh-view f;
      ranges = fresh-ranges f;
      sized = record { table = length-fresh f.table; octets = f.packets_long; messages = f.messages_long };
    }
