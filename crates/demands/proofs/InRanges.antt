-- The ranges as the view shows them: a fresh session has them, every call keeps them, and a session within its own ranges has
-- them. Assumes nothing.
use Prim.Native.Nat.{ℕ, suc, ◌+◌, ◌-◌, ◌%◌, ◌≤◌, ◌<◌}
use mathlib.Core.Path.{◌≡◌, refl, sym, ap, subst, ◌∙◌}
use mathlib.Core.Logic.{⊎_elim}
use mathlib.Core.Bool.{true}
use mathlib.Core.List.{List, ◌++◌, map}
use lib.ListN.{length, get_or, set, replicate, length-set, length-map, length-replicate, get_or-replicate, get_or-append}
use lib.Seq.{get_or-set_same, get_or-set_other, get_or-append-add}
use native.Mathlib.Omega.{arith}
use Rattle.octets.proofs.Laws.{same_or_not, below_or_not, and_left, and_right}
use Rattle.length.specs.Answers.{done}
use Rattle.length.specs.Length.{within}
use Rattle.length.proofs.Laws.{within-true}
use Rattle.datagram.specs.Sizes.{covered_least, covered_limit, messages_least, messages_limit}
use Rattle.datagram.specs.Carried.{Carried}
use Rattle.datagram.specs.Write.{count_inside, extra_of}
use Rattle.datagram.specs.Read.{DatagramParts, octets_of, read_datagram, carried_by}
use Rattle.datagram.specs.declared.kind.Kind.{Kind}
use Rattle.datagram.specs.declared.kind.Kind.TheVariants as kind
use Rattle.datagram.proofs.Laws.{read-inside}
use Rattle.session.specs.Cells.{State, unknown, received, blank, Cell, blank_cell, unknown_cell, cell_at, kept_before, kept_ahead}
use Rattle.session.specs.Cells.{kept_numbers}
use Rattle.session.specs.Held.{Held, nothing_held, held_at, held_messages}
use Rattle.session.specs.Reached.{DistinctMembers}
use Rattle.session.proofs.Laws.{held-distinct, reach-kept}
use Rattle.session.specs.View.{View, Counts, sum, numbers, following, fresh_view, gone_on}
use Rattle.session.specs.Offer.{keep, keep_extra, held_by, accept}
use Rattle.demands.proofs.Ranges.{ViewInRanges}
use Rattle.demands.proofs.Growing.{Fills, as_received, as_spare, as_repaired, Grown, grown-twice, grown-keep, grown-extra, grown-repair}
use Rattle.demands.proofs.Shifted.{length-cells-on, length-held-on, cell-on, cell-last, held_on, held-last}

-- ---- fresh
-- n of one and then m of another
first_of : {A : Type 0} (n m : ℕ) (a b d : A) (p : ℕ) → p < n → get_or (replicate n a ++ replicate m b) p d ≡ a
first_of n m a b d p low =
    get_or-append (replicate n a) (replicate m b) d p (rw (length-replicate n a) low) ∙ get_or-replicate n p a d low

second-of : {A : Type 0} (n m : ℕ) (a b d : A) (p : ℕ) → n ≤ p → p < n + m → get_or (replicate n a ++ replicate m b) p d ≡ b
second-of {A} n m a b d p low high =
    let place : p ≡ length (replicate {A = A} n a) + (p - n) = omega (arith, length-replicate n a) in
    ap (λ (k : ℕ). get_or (replicate n a ++ replicate m b) k d) place
    ∙ get_or-append-add (replicate n a) (replicate m b) (p - n) d
    ∙ get_or-replicate m (p - n) b d (omega arith)

pub fresh-before : (p : ℕ) → p < kept_before → cell_at fresh_view.cells p ≡ blank_cell
unfolding fresh_view
fresh-before p low = first_of kept_before kept_ahead blank_cell unknown_cell blank_cell p low

pub fresh-ahead : (p : ℕ) → kept_before ≤ p → p < kept_numbers → cell_at fresh_view.cells p ≡ unknown_cell
unfolding fresh_view
fresh-ahead p low high = second-of kept_before kept_ahead blank_cell unknown_cell blank_cell p low high

pub fresh-held : (d : ℕ) → d < kept_ahead → held_at fresh_view.held d ≡ nothing_held
unfolding fresh_view
fresh-held d low = get_or-replicate kept_ahead d nothing_held nothing_held low

unknown-not-blank : unknown ≡ blank → ⊥
unknown-not-blank e = let z : ◌≡◌ {A = ℕ} 0 1 = cc in omega arith

pub fresh-in-ranges : ViewInRanges fresh_view
unfolding fresh_view
fresh-in-ranges =
    record {
      kept = refl;
      heard = refl;
      base = refl;
      no_blank = λ p low high e. unknown-not-blank (sym (ap (λ (c : Cell). c.state) (fresh-ahead p low high)) ∙ e);
      covered = λ d low. rw (fresh-held d low) (omega arith);
      messages = λ d low. rw (fresh-held d low) (omega arith);
    }

-- ---- an accepted datagram
-- what is held of a datagram that was read is within the sizes
pub record HeldInside (held : Held) : Type 0 where
  pub covered : held.n ≤ covered_limit
  pub messages : length held.messages ≤ messages_limit

held-inside : (k : Kind) (items : List (List ℕ)) → count_inside k (length items) ≡ true → HeldInside (held_by (extra_of k items))
held-inside kind.Spares items e = record { covered = omega arith; messages = omega arith }
held-inside (kind.Parity n) items e =
    record {
      covered = (within-true covered_least covered_limit n
          (and_left (within covered_least covered_limit n) (within messages_least messages_limit (length items)) e)).1;
      messages =
          (within-true messages_least messages_limit (length items)
          (and_right (within covered_least covered_limit n) (within messages_least messages_limit (length items)) e)).1;
    }

pub read_held : (octets : List ℕ) (parts : DatagramParts) → read_datagram octets ≡ done parts
    → HeldInside (held_by (carried_by octets parts).extra)
unfolding carried_by
read_held octets parts e =
    held-inside parts.kind (map (octets_of octets) parts.items)
    (rw (length-map parts.items (octets_of octets)) (read-inside octets parts e).counted)

-- the numbers in view grow
abbrev pub filled : ℕ → Carried → View → List Cell
filled d datagram view =
    keep_extra datagram.number (kept_before + d) datagram.extra
    (keep datagram.number received (kept_before + d) datagram.packet view.cells)

pub grown-filled : (d : ℕ) (datagram : Carried) (view : View) → Grown datagram.number view.cells (filled d datagram view)
grown-filled d datagram view =
    let S = datagram.number in
    grown-twice (grown-keep S (kept_before + d) datagram.packet view.cells as_received)
    (grown-extra S (kept_before + d) datagram.extra (keep S received (kept_before + d) datagram.packet view.cells))

pub grown-accept : (d : ℕ) (datagram : Carried) (view : View) → Grown datagram.number view.cells (accept d datagram view).cells
unfolding accept
grown-accept d datagram view =
    grown-twice (grown-filled d datagram view)
    (grown-repair datagram.number (filled d datagram view) (held_messages (set view.held d (held_by datagram.extra))))

pub fills-not-blank : {st : State} → Fills st → st ≡ blank → ⊥
fills-not-blank as_received e = let z : ◌≡◌ {A = ℕ} 0 1 = cc in omega arith
fills-not-blank as_spare e = let z : ◌≡◌ {A = ℕ} 0 1 = cc in omega arith
fills-not-blank as_repaired e = let z : ◌≡◌ {A = ℕ} 0 1 = cc in omega arith

-- what is held at each distance
pub held-accepted : (d : ℕ) (datagram : Carried) (view : View) → d < length view.held
    → held_at (accept d datagram view).held d ≡ held_by datagram.extra
unfolding accept
held-accepted d datagram view low = get_or-set_same view.held d (held_by datagram.extra) nothing_held low

pub held-beside : (d : ℕ) (datagram : Carried) (view : View) (e : ℕ) → (e ≡ d → ⊥)
    → held_at (accept d datagram view).held e ≡ held_at view.held e
unfolding accept
held-beside d datagram view e other = get_or-set_other view.held d e (held_by datagram.extra) nothing_held other

module _ (d : ℕ) (datagram : Carried) (view : View) (r : ViewInRanges view) (low : d < kept_ahead)
    (inside : HeldInside (held_by datagram.extra)) where
  held_all : (e : ℕ) → e < kept_ahead → HeldInside (held_at (accept d datagram view).held e)
  held_all e small =
      ⊎_elim
      (λ same. subst HeldInside (sym (ap (held_at (accept d datagram view).held) same ∙ held-accepted d datagram view
      (rw r.heard low))) inside)
      (λ other.
      subst HeldInside (sym (held-beside d datagram view e other))
      (record { covered = r.covered e small; messages = r.messages e small }))
      (same_or_not e d)

  pub accept-in-ranges : ViewInRanges (accept d datagram view)
  unfolding accept
  accept-in-ranges =
      let g = grown-accept d datagram view in
      record {
        kept = g.long ∙ r.kept;
        heard = length-set view.held d (held_by datagram.extra) ∙ r.heard;
        base = r.base;
        no_blank = λ p past small e.
            ⊎_elim (λ same. r.no_blank p past small (sym (ap (λ (c : Cell). c.state) same) ∙ e)) (λ new. fills-not-blank new.1 e)
            (g.each p);
        covered = λ e small. (held_all e small).covered;
        messages = λ e small. (held_all e small).messages;
      }

-- no message that is held has a member twice
pub distinct-held : (view : View) → ViewInRanges view → DistinctMembers (held_messages view.held)
distinct-held view r =
    held-distinct view.held
    (λ d inside.
    let small : d < kept_ahead = rw r.heard at inside in
    reach-kept (r.covered d small) (r.messages d small))

-- ---- a number leaves
pub on-in-ranges : (counts : Counts) (view : View) → ViewInRanges view → sum counts ≡ sum view.counts + 1
    → ViewInRanges (gone_on counts view)
unfolding gone_on
on-in-ranges counts view r more =
    record {
      kept = length-cells-on counts view (rw r.kept (omega arith)) ∙ r.kept;
      heard = length-held-on counts view (rw r.heard (omega arith)) ∙ r.heard;
      base = base_on;
      no_blank = λ p past small e.
          ⊎_elim
          (λ inside.
          r.no_blank (suc p) (omega arith) inside
          (sym (ap (λ (c : Cell). c.state) (cell-on counts view p (rw r.kept inside))) ∙ e))
          (λ last.
          unknown-not-blank
          (sym (ap (λ (c : Cell). c.state) (cell-last counts view p (omega (arith, r.kept)))) ∙ e))
          (below_or_not (suc p) kept_numbers);
      covered = λ d small. (held_all d small).covered;
      messages = λ d small. (held_all d small).messages;
    }
  where
    base_on : following view.base ≡ sum counts % numbers
    base_on = let b = r.base in omega arith

    held_all : (d : ℕ) → d < kept_ahead → HeldInside (held_at (gone_on counts view).held d)
    held_all d small =
        ⊎_elim
        (λ inside.
        subst HeldInside (sym (held_on counts view d (rw r.heard inside)))
        (record { covered = r.covered (suc d) inside; messages = r.messages (suc d) inside }))
        (λ last.
        subst HeldInside (sym (held-last counts view d (omega (arith, r.heard))))
        (record { covered = omega arith; messages = omega arith }))
        (below_or_not (suc d) kept_ahead)
