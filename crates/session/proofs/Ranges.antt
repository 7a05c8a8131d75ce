-- The ranges of a view as one test and as a record, each from the other: a check decides the test, and the calls inside the
-- session ask for the record. Each test over all places is its test at each place. Assumes nothing.
use Prim.Native.Nat.{ℕ, ◌+◌, ◌%◌, ◌≤◌, ◌<◌}
use mathlib.Core.Path.{◌≡◌}
use mathlib.Core.Bool.{Bool, true, not, ◌&&◌}
use lib.ListN.{length}
use lib.Dec.{leb, eqb}
use native.Mathlib.Omega.{arith}
use borrow.Author.Tests.{leb-true, eqb-true}
use Rattle.octets.proofs.Laws.{and_left, and_right, and_both, all_below-at, all_below-of}
use Rattle.datagram.specs.Sizes.{packet_least, packet_limit}
use Rattle.session.specs.Cells.{State, unknown, received, spare, repaired, blank, cell_at, kept_before, kept_ahead, kept_numbers}
use Rattle.session.specs.Held.{held_at}
use Rattle.session.specs.View.{View, sum, numbers, number_at, session_limit}
use Rattle.session.specs.Ranges.{sum_right, blank_at, size_right, cell_right, cell_noted, held_right, known_at, cells_right, notes_right}
use Rattle.session.specs.Ranges.{all_held_right, in_ranges, Sound}

-- a base that equals a sum modulo 65,536 is a number
pub base-small : (v : View) → sum_right v ≡ true → v.base < numbers
unfolding sum_right
base-small v e =
    let total = sum v.counts in
    let same = eqb-true v.base (total % numbers) (and_left (eqb v.base (total % numbers)) (leb total session_limit) e) in
    omega arith

-- no packet is over the limit
within-sizes : (size : ℕ) (rest : Bool) → ((leb packet_least size && leb size packet_limit) && rest) ≡ true → size ≤ packet_limit
within-sizes size rest e = leb-true size packet_limit (and_right (leb packet_least size) _ (and_left _ rest e))

pub size_fits : (state : State) (size : ℕ) (must_be_blank : Bool) → size_right state size must_be_blank ≡ true → size ≤ packet_limit
unfolding size_right
size_fits unknown size b e = omega (arith, eqb-true size 0 (and_left (eqb size 0) _ e))
size_fits received size b e = within-sizes size (not b) e
size_fits spare size b e = within-sizes size (not b) e
size_fits repaired size b e = within-sizes size (not b) e
size_fits blank size b e = omega (arith, eqb-true size 0 (and_left (eqb size 0) _ e))

-- what passes the test, with the lengths that the lists have, is within the ranges
pub sound-of : (v : View) → in_ranges v ≡ true → length v.cells ≡ kept_numbers → length v.held ≡ kept_ahead → Sound v
unfolding in_ranges cells_right notes_right all_held_right
sound-of v e kept ahead =
    let cells = and_left ((sum_right v && cells_right v) && notes_right v) (all_held_right v) e in
    let first = and_left (sum_right v && cells_right v) (notes_right v) cells in
    let total = and_left (sum_right v) (cells_right v) first in
    record {
      small = base-small v total;
      total = total;
      kept = kept;
      ahead = ahead;
      cell =
          all_below-at kept_numbers (λ p. cell_right (cell_at v.cells p) (blank_at (sum v.counts) p))
          (and_right (sum_right v) (cells_right v) first);
      note =
          all_below-at kept_numbers (λ p. cell_noted (cell_at v.cells p) (number_at v.base p))
          (and_right (sum_right v && cells_right v) (notes_right v) cells);
      held =
          all_below-at kept_ahead (λ d. held_right (held_at v.held d) (known_at v (kept_before + d)))
          (and_right ((sum_right v && cells_right v) && notes_right v) (all_held_right v) e);
    }

-- what is within the ranges passes the test
pub in_ranges-of : {v : View} → Sound v → in_ranges v ≡ true
unfolding in_ranges cells_right notes_right all_held_right
in_ranges-of {v} s =
    and_both (and_both (and_both s.total (all_below-of kept_numbers _ s.cell)) (all_below-of kept_numbers _ s.note))
    (all_below-of kept_ahead _ s.held)
