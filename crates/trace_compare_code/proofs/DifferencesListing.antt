-- Entries behind those that are listed, on plain values. Assumes nothing.
use Prim.Native.Nat.{ℕ, ◌+◌, ◌≤◌}
use mathlib.Core.Path.{◌≡◌}
use mathlib.Core.Bool.{Bool, true, false, not, ◌&&◌, ◌||◌}
use mathlib.Core.List.{List, [], ◌∷◌}
use lib.ListN.{length, set}
use native.Mathlib.Omega.{arith}
use Rattle.line.specs.Promise.{Appends}
use Rattle.line.proofs.Laws.{appends-none, appends-one, appends-then, appends-long}
use Rattle.trace_compare.specs.Entries.{packet_differs, spares_differ, parity_differs}
use Rattle.trace_compare_code.specs.Rows.{entry_room, row_numbers, rows_told}

pub entry-put : (number code : ℕ) {old : List ℕ} {at : ℕ} → at + entry_room ≤ length old
    → Appends (number ∷ code ∷ []) old at (set (set old at number) (at + 1) code) (at + 1 + 1)
entry-put number code {old} {at} room =
    appends-one (appends-one (appends-none (omega arith)) number (omega arith)) code (omega arith)

-- ---- an entry, if it applies
pub row_put : {applies : Bool} (number code : ℕ) {old : List ℕ} {at : ℕ} {new : List ℕ} {end : ℕ} → applies ≡ true
    → Appends (number ∷ code ∷ []) old at new end
    → Appends (row_numbers applies number code) old at new end
unfolding row_numbers
row_put number code is a = rw is a

pub row-none : {applies : Bool} (number code : ℕ) {old : List ℕ} {at : ℕ} → applies ≡ false → at + entry_room ≤ length old
    → Appends (row_numbers applies number code) old at old at
unfolding row_numbers
row-none number code not room = rw not (appends-none (omega arith))

row-few : (applies : Bool) (number code : ℕ) → length (row_numbers applies number code) ≤ entry_room
unfolding row_numbers
row-few true number code = omega arith
row-few false number code = omega arith

-- room for more behind it
pub row_room : (applies : Bool) (number code most : ℕ) {old : List ℕ} {at : ℕ} {new : List ℕ} {end : ℕ}
    → Appends (row_numbers applies number code) old at new end → at + (entry_room + most) ≤ length old
    → end + most ≤ length new
row_room applies number code most a room = omega (arith, row-few applies number code, a.after, appends-long a)

-- ---- three of them
pub rows-put : (number : ℕ) (packets extras first second : Bool) {old : List ℕ} {at : ℕ} {one two new : List ℕ} {three four end : ℕ}
    → Appends (row_numbers (not packets) number packet_differs) old at one three
    → Appends (row_numbers (not extras && (first || second)) number spares_differ) one three two four
    → Appends (row_numbers (not extras && not (first && second)) number parity_differs) two four new end
    → Appends (rows_told number packets extras first second) old at new end
unfolding rows_told
rows-put number packets extras first second a b c = appends-then (appends-then a b) c
