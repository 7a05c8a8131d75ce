-- What an accepted datagram does to the numbers in view: each is as it was, or it was unknown and is filled, as received, spare
-- or repaired, with the datagram's number as its note. Assumes nothing.
use Prim.Native.Nat.{ℕ, zero, suc, ◌-◌, ◌≤◌, ◌<◌}
use mathlib.Core.Path.{◌≡◌, refl, sym, ap, subst, ◌∙◌}
use mathlib.Core.Logic.{◌⊎◌, inl, inr, ⊎_elim}
use mathlib.Core.Bool.{false}
use mathlib.Core.List.{List, [], ◌∷◌}
use lib.ListN.{length, set, length-set}
use lib.Seq.{get_or-set_same, get_or-set_other}
use native.Mathlib.Omega.{arith}
use Rattle.octets.proofs.Laws.{true-or-false, same_or_not}
use Rattle.datagram.specs.Carried.{Extra, spares, parity}
use Rattle.session.specs.Cells.{State, received, spare, repaired, Cell, filled_cell, cell_at, unknown_at, is_unknown}
use Rattle.session.specs.Repair.{Message, repair}
use Rattle.session.specs.Reached.{Known, Unknown}
use Rattle.session.proofs.Laws.{unknown-inside, known-not-unknown, same-unknown, length-repair, repair-known, repair-made}
use Rattle.session.specs.Offer.{keep, keep_spares, keep_extra}

-- the states that a number is filled with
pub data Fills : State → Type 0 where
  as_received : Fills received
  as_spare : Fills spare
  as_repaired : Fills repaired

pub fills-known : {st : State} → Fills st → is_unknown st ≡ false
fills-known as_received = refl
fills-known as_spare = refl
fills-known as_repaired = refl

-- each number is as it was, or it was unknown and is filled, while datagram S is offered
pub record Grown (S : ℕ) (cells after : List Cell) : Type 0 where
  pub long : length after ≡ length cells
  pub each : (q : ℕ) → (cell_at after q ≡ cell_at cells q)
      ⊎ (Unknown cells q × Fills (cell_at after q).state × ((cell_at after q).note ≡ S))

-- what is known is never written over
pub grown-known : {S : ℕ} {cells after : List Cell} → Grown S cells after → (q : ℕ) → Known cells q → cell_at after q ≡ cell_at cells q
grown-known {cells = cells} g q k = ⊎_elim (λ same. same) (λ new. absurd (known-not-unknown cells q k new.0)) (g.each q)

pub known_grown : {S : ℕ} {cells after : List Cell} → Grown S cells after → (q : ℕ) → Known cells q → Known after q
known_grown {cells = cells} {after} g q k = same-unknown cells after q (grown-known g q k) ∙ k

pub grown-same : (S : ℕ) (cells : List Cell) → Grown S cells cells
grown-same S cells = record { long = refl; each = λ q. inl refl }

pub grown-twice : {S : ℕ} {cells mid after : List Cell} → Grown S cells mid → Grown S mid after → Grown S cells after
grown-twice {S} {cells} {mid} {after} first second =
    record {
      long = second.long ∙ first.long;
      each = λ q.
          ⊎_elim
          (λ same.
          ⊎_elim (λ was. inl (same ∙ was))
          (λ new.
          inr (new.0, subst (λ (c : Cell). Fills c.state) (sym same) new.1, ap (λ (c : Cell). c.note) same ∙ new.2))
          (first.each q))
          (λ new.
          ⊎_elim (λ was. inr (sym (same-unknown cells mid q was) ∙ new.0, new.1, new.2))
          (λ old. absurd (known-not-unknown mid q (fills-known old.1) new.0))
          (first.each q))
          (second.each q);
    }

-- ---- a packet or spare fills only a number that is still unknown (rule 10.7)
pub keep_known : (S : ℕ) (state : State) (p : ℕ) (octets : List ℕ) (cells : List Cell) → Known cells p → keep S state p octets cells ≡ cells
unfolding keep
keep_known S state p octets cells k = rw k

pub keep-unknown : (S : ℕ) (state : State) (p : ℕ) (octets : List ℕ) (cells : List Cell) → Unknown cells p
    → keep S state p octets cells ≡ set cells p (filled_cell S state octets)
unfolding keep
keep-unknown S state p octets cells u = rw u

-- an unknown number is filled
pub grown-set : (cells : List Cell) (p : ℕ) (cell : Cell) → Unknown cells p → Fills cell.state
    → Grown cell.note cells (set cells p cell)
grown-set cells p cell u fills =
    record {
      long = length-set cells p cell;
      each = λ q.
          ⊎_elim
          (λ same.
          let here = ap (cell_at (set cells p cell)) same ∙ get_or-set_same cells p cell _ (unknown-inside cells p u) in
          inr (rw same u, subst (λ (c : Cell). Fills c.state) (sym here) fills, ap (λ (c : Cell). c.note) here))
          (λ other. inl (get_or-set_other cells p q cell _ other))
          (same_or_not q p);
    }

pub grown-keep : (S : ℕ) {state : State} (p : ℕ) (octets : List ℕ) (cells : List Cell) → Fills state
    → Grown S cells (keep S state p octets cells)
grown-keep S {state} p octets cells fills =
    ⊎_elim (λ u. rw (keep-unknown S state p octets cells u) (grown-set cells p (filled_cell S state octets) u fills))
    (λ k. rw (keep_known S state p octets cells k) (grown-same S cells))
    (true-or-false (unknown_at cells p))

pub grown-spares : (S p : ℕ) (copies : List (List ℕ)) (cells : List Cell) → Grown S cells (keep_spares S p copies cells)
unfolding keep_spares
grown-spares S p [] cells = grown-same S cells
grown-spares S p (octets ∷ more) cells =
    grown-twice (grown-keep S (p - 1) octets cells as_spare) (grown-spares S (p - 1) more (keep S spare (p - 1) octets cells))

pub grown-extra : (S p : ℕ) (extra : Extra) (cells : List Cell) → Grown S cells (keep_extra S p extra cells)
grown-extra S p (spares copies) cells = grown-spares S p copies cells
grown-extra S p (parity n messages) cells = grown-same S cells

-- ---- repair
pub grown-repair : (S : ℕ) (cells : List Cell) (messages : List Message) → Grown S cells (repair (filled_cell S repaired) cells messages)
grown-repair S cells messages =
    record {
      long = length-repair (filled_cell S repaired) cells messages;
      each = λ q.
          ⊎_elim
          (λ u.
          ⊎_elim (λ same. inl same)
          (λ new. inr (u, subst (λ (c : Cell). Fills c.state) (sym new.1) as_repaired, ap (λ (c : Cell). c.note) new.1))
          (repair-made (filled_cell S repaired) cells messages q))
          (λ k. inl (repair-known (filled_cell S repaired) cells messages q k))
          (true-or-false (unknown_at cells q));
    }

-- ---- which numbers are known once a packet is kept, and spares
pub known_kept : (S : ℕ) {state : State} (p : ℕ) (octets : List ℕ) (cells : List Cell) → p < length cells → Fills state
    → Known (keep S state p octets cells) p
known_kept S {state} p octets cells inside fills =
    ⊎_elim
    (λ u.
    rw (keep-unknown S state p octets cells u)
    (ap (λ (c : Cell). is_unknown c.state) (get_or-set_same cells p (filled_cell S state octets) _ inside)
    ∙ fills-known fills))
    (λ k. rw (keep_known S state p octets cells k) k)
    (true-or-false (unknown_at cells p))

pub kept-known : (S : ℕ) (state : State) (p : ℕ) (octets : List ℕ) (cells : List Cell) (q : ℕ) → Known (keep S state p octets cells) q
    → Known cells q ⊎ (q ≡ p)
kept-known S state p octets cells q k =
    ⊎_elim
    (λ same. inr same)
    (λ other.
    ⊎_elim
    (λ u.
    inl
    (sym (ap (λ (c : Cell). is_unknown c.state) (get_or-set_other cells p q (filled_cell S state octets) _ other))
    ∙ (rw (keep-unknown S state p octets cells u) at k)))
    (λ was. inl (rw (keep_known S state p octets cells was) at k))
    (true-or-false (unknown_at cells p)))
    (same_or_not q p)

-- the place of spare j, from 0
pub known-spares : (S p : ℕ) (copies : List (List ℕ)) (cells : List Cell) → p ≤ length cells → 1 ≤ length cells
    → (j : ℕ) → j < length copies → Known (keep_spares S p copies cells) (p - suc j)
unfolding keep_spares
known-spares S p [] cells inside some j few = absurd (omega arith)
known-spares S p (octets ∷ more) cells inside some zero few =
    known_grown (grown-spares S (p - 1) more (keep S spare (p - 1) octets cells)) (p - 1)
    (known_kept S (p - 1) octets cells (omega arith) as_spare)
known-spares S p (octets ∷ more) cells inside some (suc j) few =
    let long = (grown-keep S (p - 1) octets cells as_spare).long in
    let place : p - suc (suc j) ≡ (p - 1) - suc j = omega arith in
    rw place (known-spares S (p - 1) more (keep S spare (p - 1) octets cells) (omega arith) (omega arith) j (omega arith))

pub spares-known : (S p : ℕ) (copies : List (List ℕ)) (cells : List Cell) (q : ℕ) → Known (keep_spares S p copies cells) q
    → Known cells q ⊎ ((j : ℕ) × (j < length copies) × (q ≡ p - suc j))
unfolding keep_spares
spares-known S p [] cells q k = inl k
spares-known S p (octets ∷ more) cells q k =
    ⊎_elim
    (λ kept. ⊎_elim (λ was. inl was) (λ same. inr (0, omega arith, same)) (kept-known S spare (p - 1) octets cells q kept))
    (λ later. inr (suc later.0, omega (arith, later.1), later.2 ∙ omega arith))
    (spares-known S (p - 1) more (keep S spare (p - 1) octets cells) q k)
