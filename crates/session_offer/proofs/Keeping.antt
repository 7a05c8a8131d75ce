-- A packet kept at its number. An unknown number takes it, which is the packet placed in that number's slot; a known one stays as
-- it is, and so do table and store. Assumes nothing.
use Rattle.std.proofs.Common.{◌≡◌, ℕ, zero, suc, ◌%◌, ◌<◌, ◌≤◌, Bool, true, false, not, List, length, sym, refl, ap, ◌∙◌, ⊎_elim, arith, ne_eqb}
use mathlib.Core.Bool.{false≢true}
use Rattle.octets.proofs.Laws.{below_or_not}
use Rattle.datagram.specs.Sizes.{packet_least, packet_limit}
use Rattle.datagram.specs.Claims.{PartInside}
use Rattle.datagram.specs.Read.{octets_of}
use Rattle.datagram.specs.declared.reader.Part.{Part}
use Rattle.session.specs.Cells.{received, spare, blank, is_unknown, unknown_at}
use Rattle.session.specs.Ranges.{is_fill, note_right}
use Rattle.session.specs.Offer as offers
use Rattle.session.specs.View.{number_at}
use Rattle.session_held.specs.Slots.{slot_at, slots_kept}
use Rattle.session_held.specs.Table.{last_state, state_in, state_numbered, cells_of, kept_set}
use Rattle.session_held.proofs.Laws.{slot_small, unknown-at, placed-cells, placed-held, placed-ranges}
use Rattle.session_offer.specs.KeepSteps.{PartPut}
use Rattle.session_offer.specs.KeepPromise.{Keeps}
use Rattle.session_offer.proofs.Laying.{length-octets}

slot_is : (base number slot p : ℕ) → slot ≡ number % slots_kept → number ≡ number_at base p → slot ≡ slot_at base p
slot_is base number slot p e-slot e = omega arith

not_back : (b : Bool) {c : Bool} → c ≡ not b → c ≡ false → b ≡ true
not_back true e no-c = refl
not_back false e no-c = sym no-c ∙ e

not-true : (b : Bool) {c : Bool} → c ≡ not b → c ≡ true → b ≡ false
not-true true e yes-c = sym (sym e ∙ yes-c)
not-true false e yes-c = refl

-- ---- the numbers that stand for states, as the code writes them
pub received-number : state_numbered 1 ≡ received
unfolding state_numbered
received-number = refl

pub spare-number : state_numbered 2 ≡ spare
unfolding state_numbered
spare-number = refl

-- a number that stands for a packet's state is one of those listed
past-listed : (n : ℕ) → last_state < n → state_numbered n ≡ blank
unfolding state_numbered
past-listed n past =
    rw (
      ne_eqb n 0 (λ e. omega arith),
      ne_eqb n 1 (λ e. omega arith),
      ne_eqb n 2 (λ e. omega arith),
      ne_eqb n 3 (λ e. omega arith),
    )

pub fill-listed : (n : ℕ) → is_fill (state_numbered n) ≡ true → n ≤ last_state
fill-listed n fills =
    ⊎_elim (λ past. absurd (false≢true (sym (ap is_fill (past-listed n past)) ∙ fills))) (λ low. low) (below_or_not last_state n)

-- the numbers from 1 to 3 stand for the states of a packet
pub fills : (n : ℕ) → 0 < n → n < last_state → is_fill (state_numbered n) ≡ true
unfolding state_numbered
fills zero low high = absurd (omega arith)
fills (suc zero) low high = refl
fills (suc (suc zero)) low high = refl
fills (suc (suc (suc zero))) low high = refl
fills (suc (suc (suc (suc n)))) low high = absurd (omega arith)

-- a spare may have any note
pub spare-noted : (S number : ℕ) → note_right (state_numbered 2) S number ≡ true
unfolding state_numbered note_right
spare-noted S number = refl

-- ---- in the words of the code
module _ {note state number slot : ℕ} {t o : List ℕ} {was : Bool} (e-slot : slot ≡ number % slots_kept)
    (e-was : was ≡ not (is_unknown (state_numbered (state_in t slot)))) where
  -- an unknown number takes the octets
  pub keeps-unknown : {s : List ℕ} {p : Part} {size : ℕ} {new_t new_o : List ℕ} → is_fill (state_numbered state) ≡ true
      → note_right (state_numbered state) note number ≡ true → PartInside packet_least packet_limit s p → was ≡ false
      → PartPut slot s p o new_o size → new_t ≡ kept_set t slot state size note
      → Keeps note state number (octets_of s p) t o new_t new_o
  unfolding offers.keep
  keeps-unknown {s} {p} {size} {new_t} {new_o} fills noted inside no-was put written =
      let b = octets_of s p in
      let long = length-octets inside in
      let least : packet_least ≤ length b = omega (arith, inside.low) in
      let most : length b ≤ packet_limit = omega (arith, inside.high) in
      let low = fill-listed state fills in
      let free : is_unknown (state_numbered (state_in t slot)) ≡ true = not_back _ e-was no-was in
      record {
        kept = λ base c g q w there e.
            let at = slot_is base number slot q e-slot e in
            let small : slot < slots_kept = rw at (slot_small base q) in
            let unknown : unknown_at (cells_of base t o) q ≡ true =
            unknown-at base t o q there ∙ ap (λ (i : ℕ). is_unknown (state_numbered (state_in t i))) (sym at) ∙ free in
            rw (written, put.octets, put.size)
            (record {
              cells = rw unknown (placed-cells w.laid slot state note b small low most base q there at);
              held = placed-held t slot state (length b) note small base g;
              within = placed-ranges w q unknown note state low fills (rw e at noted) b least most at;
            });
      }

  -- any other stays as it is
  pub keeps-known : {b : List ℕ} → was ≡ true → Keeps note state number b t o t o
  unfolding offers.keep
  keeps-known yes-was =
      let known : is_unknown (state_numbered (state_in t slot)) ≡ false = not-true _ e-was yes-was in
      record {
        kept = λ base c g q w there e.
            let at = slot_is base number slot q e-slot e in
            let stays : unknown_at (cells_of base t o) q ≡ false =
            unknown-at base t o q there ∙ ap (λ (i : ℕ). is_unknown (state_numbered (state_in t i))) (sym at) ∙ known in
            record { cells = rw stays; held = refl; within = w };
      }

pub ruleset keepings = (keeps-unknown, keeps-known)
