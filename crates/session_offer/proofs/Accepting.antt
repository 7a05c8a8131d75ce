-- A datagram accepted, on plain values: what `keep`, `keep_spares`, `hold` and `mend` promise, one after the other, is `accept` of
-- `session`. Each step leaves the rest of the view unchanged, so the view after is put together from what each says of its own part.
-- Assumes nothing.
use Rattle.std.proofs.Common.{◌≡◌, ℕ, ◌+◌, ◌<◌, ◌≤◌, true, List, map, length, take, set, refl, ap, ◌∙◌, ap₂, inl, inr, arith, eq-eqb}
use Rattle.datagram.specs.Sizes.{covered_least, covered_limit, messages_least, messages_limit}
use Rattle.length.specs.Length.{within}
use Rattle.length.proofs.Laws.{both, within-true}
use Rattle.datagram.specs.Read.{octets_of, carried_by}
use Rattle.datagram.specs.Claims.{Inside}
use Rattle.datagram.specs.declared.reader.Part.{Part}
use Rattle.datagram.specs.declared.kind.Kind.{Kind}
use Rattle.datagram.specs.declared.kind.Kind.TheVariants as kind
use Rattle.datagram.proofs.Laws.{count-few}
use Rattle.session.specs.Cells.{received, repaired, Cell, filled_cell, unknown_at, kept_before, kept_ahead, kept_numbers}
use Rattle.session.specs.Held.{Held, held_at, held_messages}
use Rattle.session.specs.Reached.{Known}
use Rattle.session.specs.Repair.{repair}
use Rattle.session.specs.Ranges.{is_fill, note_right}
use Rattle.session.specs.Offer as offers
use Rattle.session_held.specs.Table.{Lent, lent, counts_of, state_numbered, cells_of, held_of, view_in}
use Rattle.session_held.specs.Laid.{InRanges}
use Rattle.session_held.specs.declared.Counts.{Counts}
use Rattle.session_held.proofs.Laws.{length-cells}
use Rattle.session_offer.specs.KeepPromise.{CellsNow, MayKeep, Keeps, CarriesSpares, KeepsSpares, CarriesMessages, Unmarked, MayHold}
use Rattle.session_offer.specs.KeepPromise.{HeldNow, Holds}
use Rattle.session_offer.specs.KeepPromise.{held_of_parts}
use Rattle.session_repair.specs.Promise.{MayMend, Mends}
use Rattle.session_offer.specs.Steps.{spare_count, message_count, covered_of, carried_items, MayBeAccepted, AcceptedAt}
use Rattle.session_offer.proofs.Known.{keep-here, spares-stay}

-- ---- what the calls along the way require
-- the packet is kept as received
is-received : state_numbered 1 ≡ received
unfolding state_numbered
is-received = refl

pub received-fills : is_fill (state_numbered 1) ≡ true
received-fills = rw is-received

-- with its own number as its note
pub own-note : (S : ℕ) → note_right (state_numbered 1) S S ≡ true
unfolding state_numbered note_right
own-note S = eq-eqb S S refl

-- the spares: with parity there are none
spares-carried : {s : List ℕ} {packet : Part} (k : Kind) {count : ℕ} {items : List Part} → Inside s packet k count items
    → count ≤ length items → CarriesSpares s items (spare_count k count)
spares-carried kind.Spares {count} inside there =
    record { few = count-few kind.Spares count inside.counted; there = there; each = inside.each }
spares-carried (kind.Parity n) inside there =
    record { few = omega arith; there = omega arith; each = λ i low. absurd (omega arith) }

pub carries-spares : {l : Lent} {s : List ℕ} {number d : ℕ} {packet : Part} {k : Kind} {count : ℕ} {items : List Part}
    → MayBeAccepted l s number d packet k count items → {spares : ℕ} → spares ≡ spare_count k count → CarriesSpares s items spares
carries-spares {k = k} may e = rw e (spares-carried k may.inside may.there)

-- the messages: with spares there are none
messages-carried : {s : List ℕ} {d : ℕ} {packet : Part} (k : Kind) {count : ℕ} {items : List Part} → d < kept_ahead
    → Inside s packet k count items → count ≤ length items → CarriesMessages s d (covered_of k) items (message_count k count)
messages-carried kind.Spares near inside there =
    record { near = near; settings = inl (refl, refl); there = omega arith; each = λ i low. absurd (omega arith) }
messages-carried (kind.Parity n) {count} near inside there =
    let covered = within-true covered_least covered_limit n (both (within covered_least covered_limit n) _ inside.counted).0 in
    let few = within-true messages_least messages_limit count (both (within covered_least covered_limit n) _ inside.counted).1 in
    record {
      near = near;
      settings = inr (record { least = covered.0; covered = covered.1; some = few.0; messages = few.1 });
      there = there;
      each = inside.each;
    }

pub carries : {l : Lent} {s : List ℕ} {number d : ℕ} {packet : Part} {k : Kind} {count : ℕ} {items : List Part}
    → MayBeAccepted l s number d packet k count items → {n m : ℕ} → n ≡ covered_of k → m ≡ message_count k count
    → CarriesMessages s d n items m
carries {k = k} may e-n e-m = rw (e-n, e-m) (messages-carried k may.near may.inside may.there)

pub may-keep : {base : ℕ} {c : Counts} {t o g s : List ℕ} {number d : ℕ} {packet : Part} {k : Kind} {count : ℕ} {items : List Part}
    → InRanges (lent base c t o g) → MayBeAccepted (lent base c t o g) s number d packet k count items → MayKeep number 0 t o
may-keep {base} {c} {g = g} {d = d} w may =
    record {
      base = base;
      counts = c;
      messages = g;
      place = kept_before + d;
      within = w;
      there = omega (arith, may.near);
      low = omega arith;
      stands = may.place;
    }

-- ---- what is kept and held of both kinds, in the definitions of `session`
kept-extra : (s : List ℕ) (number : ℕ) (packet : Part) (k : Kind) (count : ℕ) (items : List Part) (p : ℕ) (cells : List Cell)
    → offers.keep_spares number p (map (octets_of s) (take (spare_count k count) items)) cells
    ≡ offers.keep_extra number p (carried_items s number packet k count items).extra cells
unfolding carried_by offers.keep_spares
kept-extra s number packet kind.Spares count items p cells = refl
kept-extra s number packet (kind.Parity n) count items p cells = refl

held-extra : (s : List ℕ) (number : ℕ) (packet : Part) (k : Kind) (count : ℕ) (items : List Part)
    → held_of_parts s (covered_of k) items (message_count k count) ≡ offers.held_by (carried_items s number packet k count items).extra
unfolding carried_by
held-extra s number packet kind.Spares count items = refl
held-extra s number packet (kind.Parity n) count items = refl

-- ---- from step to step
module _ {base : ℕ} {c : Counts} {t o g s : List ℕ} {number d : ℕ} {packet : Part} {k : Kind} {count : ℕ} {items : List Part}
    (w : InRanges (lent base c t o g)) (may : MayBeAccepted (lent base c t o g) s number d packet k count items)
    {t₁ o₁ : List ℕ} (k₁ : Keeps number 1 number (octets_of s packet) t o t₁ o₁) where
  in-view : kept_before + d < kept_numbers
  in-view = omega (arith, may.near)

  packet-now : CellsNow (lent base c t o g) (lent base c t₁ o₁ g)
      (offers.keep number received (kept_before + d) (octets_of s packet) (cells_of base t o))
  packet-now = rw is-received at (k₁.kept base c g (kept_before + d) w in-view may.place)

  pub within_first : InRanges (lent base c t₁ o₁ g)
  within_first = packet-now.within

  pub may-spare : {spares : ℕ} → spares ≡ spare_count k count → MayKeep number spares t₁ o₁
  may-spare e =
      let few = (spares-carried k may.inside may.there).few in
      record {
        base = base;
        counts = c;
        messages = g;
        place = kept_before + d;
        within = within_first;
        there = in-view;
        low = omega arith;
        stands = may.place;
      }

  known-first : Known (cells_of base t₁ o₁) (kept_before + d)
  known-first =
      ap (λ (x : List Cell). unknown_at x (kept_before + d)) packet-now.cells
      ∙ keep-here number received (kept_before + d) (octets_of s packet) (cells_of base t o) refl (rw (length-cells base t o) in-view)

  module _ {spares : ℕ} (e-spares : spares ≡ spare_count k count) {t₂ o₂ : List ℕ} (k₂ : KeepsSpares number s items spares t₁ o₁ t₂ o₂) where
    spares-now : CellsNow (lent base c t₁ o₁ g) (lent base c t₂ o₂ g)
        (offers.keep_spares number (kept_before + d) (map (octets_of s) (take (spare_count k count) items)) (cells_of base t₁ o₁))
    spares-now =
        let few = (spares-carried k may.inside may.there).few in
        (rw e-spares at k₂).kept base c g (kept_before + d) within_first in-view (omega arith) may.place

    held-second : held_of base t₂ g ≡ held_of base t g
    held-second = spares-now.held ∙ packet-now.held

    unmarked-second : Unmarked (lent base c t₂ o₂ g) d
    unmarked-second =
        record {
          within = spares-now.within;
          known =
              ap (λ (x : List Cell). unknown_at x (kept_before + d)) spares-now.cells
              ∙ spares-stay number (kept_before + d) (map (octets_of s) (take (spare_count k count) items)) (cells_of base t₁ o₁)
              (kept_before + d) known-first;
          unmarked = ap (λ (x : List Held). (held_at x d).accepted) held-second ∙ may.unmarked;
        }

    pub may-hold : MayHold base t₂ g d
    may-hold = record { counts = c; octets = o₂; unmarked = unmarked-second }

    module _ {n m : ℕ} (e-n : n ≡ covered_of k) (e-m : m ≡ message_count k count) {t₃ g₁ : List ℕ} (k₃ : Holds base d s n items m t₂ g t₃ g₁)
      where
        held-now : HeldNow (lent base c t₂ o₂ g) (lent base c t₃ o₂ g₁)
            (set (held_of base t₂ g) d (held_of_parts s (covered_of k) items (message_count k count)))
        held-now = (rw (e-n, e-m) at k₃).holds c o₂ unmarked-second

        within-third : InRanges (lent base c t₃ o₂ g₁)
        within-third = held-now.within

        pub may-mend : MayMend base t₃ o₂ g₁
        may-mend = record { counts = c; within = within-third }

        cells-third : cells_of base t₃ o₂ ≡ offers.keep_extra number (kept_before + d) (carried_items s number packet k count items).extra
            (offers.keep number received (kept_before + d) (octets_of s packet) (cells_of base t o))
        cells-third =
            held-now.cells ∙ spares-now.cells
            ∙ ap (offers.keep_spares number (kept_before + d) (map (octets_of s) (take (spare_count k count) items))) packet-now.cells
            ∙ kept-extra s number packet k count items (kept_before + d)
            (offers.keep number received (kept_before + d) (octets_of s packet) (cells_of base t o))

        held-third : held_of base t₃ g₁ ≡ set (held_of base t g) d (offers.held_by (carried_items s number packet k count items).extra)
        held-third =
            held-now.held ∙ ap₂ (λ (l : List Held) (x : Held). set l d x) held-second (held-extra s number packet k count items)

        pub accepted : {t₄ o₃ : List ℕ} → Mends number base t₃ o₂ g₁ t₄ o₃
            → AcceptedAt (carried_items s number packet k count items) d (lent base c t o g) (lent base c t₄ o₃ g₁)
        unfolding offers.accept view_in carried_by
        accepted k₄ =
            let mended = k₄.mends c within-third in
            record {
              state =
                  mended.state
                  ∙ ap₂ (λ (x : List Cell) (y : List Held).
                  record { base = base; counts = counts_of c; cells = repair (filled_cell number repaired) x (held_messages y); held = y })
                  cells-third
                  held-third;
              within = mended.within;
            }
