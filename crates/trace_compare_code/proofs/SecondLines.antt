-- What is listed at the lines of the second trace, by their numbers. Assumes nothing.
use Prim.Native.Nat.{ℕ, suc, ◌+◌, ◌*◌, ◌≤◌, ◌<◌}
use mathlib.Core.Path.{◌≡◌, refl, sym, ap, ap₂, ◌∙◌}
use mathlib.Core.Bool.{Bool, cond}
use mathlib.Core.List.{List, [], ◌∷◌, ◌++◌, map, append_assoc, append-nil, map-append}
use mathlib.Core.Logic.{⊎_elim}
use mathlib.Core.Option.{Option}
use lib.ListN.{length, get_or, take, drop, drop_of_length-le}
use lib.Seq.{take-suc, drop-cons}
use native.Mathlib.Numerals.{add-one}
use native.Mathlib.Omega.{arith}
use borrow.Author.Tests.{lt-ltb, le-ltb}
use Rattle.octets.proofs.Laws.{below_or_not}
use Rattle.line.specs.Promise.{Appends}
use Rattle.line.proofs.Laws.{appends-none, appends-then, appends-long}
use Rattle.trace_compare.specs.Pairing.{TraceLine, number_of_line, having, mate}
use Rattle.trace_compare.specs.Entries.{only_second, numbers_of, at_second, line_by_line}
use Rattle.trace_compare_code.specs.Numbers.{often}
use Rattle.trace_compare_code.specs.Rows.{entry_room}
use Rattle.trace_compare_code.specs.Inner.{second_row, second_rows}
use Rattle.trace_compare_code.proofs.Mates.{kth-none, kth-some, often-having}
use Rattle.trace_compare_code.proofs.FirstLines.{numbers-append}

-- ---- one line
abbrev row_by : Bool → ℕ → List ℕ
row_by pairs number = cond pairs [] (number ∷ only_second ∷ [])

module _ (first before : List ℕ) (number : ℕ) where
  row-pairs : often number before < often number first → second_row first before number ≡ []
  row-pairs few = ap (λ (b : Bool). row_by b number) (lt-ltb (often number before) (often number first) few)

  row-only : often number first ≤ often number before → second_row first before number ≡ number ∷ only_second ∷ []
  row-only past = ap (λ (b : Bool). row_by b number) (le-ltb (often number before) (often number first) past)

  row-few : length (second_row first before number) ≤ entry_room
  row-few =
      ⊎_elim (λ few. omega (arith, ap length (row-pairs few))) (λ past. omega (arith, ap length (row-only past)))
      (below_or_not (often number before) (often number first))

  module _ {k all : ℕ} (count : k ≡ often number before) (of-first : all ≡ often number first) where
    pub second-pairs : {old : List ℕ} {at : ℕ} → k < all → at + entry_room ≤ length old
        → Appends (second_row first before number) old at old at
    second-pairs few room = rw (row-pairs (omega (arith, count, of-first))) (appends-none (omega arith))

    pub second-only : {old : List ℕ} {at : ℕ} {new : List ℕ} {r : ℕ} → all ≤ k → Appends (number ∷ only_second ∷ []) old at new r
        → Appends (second_row first before number) old at new r
    second-only past puts = rw (row-only (omega (arith, count, of-first))) puts

-- ---- line after line
rows-one : (a b : List ℕ) (j : ℕ) → j < length b
    → second_rows a (take j b) (drop j b) ≡ second_row a (take j b) (get_or b j 0) ++ second_rows a (take (j + 1) b) (drop (j + 1) b)
unfolding second_rows
rows-one a b j there =
    ap (second_rows a (take j b)) (drop-cons b j 0 there)
    ∙ ap (λ (t : List ℕ). second_row a (take j b) (get_or b j 0) ++ second_rows a t (drop (suc j) b)) (sym (take-suc b j 0 there))
    ∙ ap (λ (n : ℕ). second_row a (take j b) (get_or b j 0) ++ second_rows a (take n b) (drop n b)) (sym (add-one j))

rows_none : (a b : List ℕ) (j : ℕ) → length b ≤ j → second_rows a (take j b) (drop j b) ≡ []
unfolding second_rows
rows_none a b j past = ap (second_rows a (take j b)) (drop_of_length-le b past)

pub record SecondListed (a b old : List ℕ) (from j at : ℕ) (new : List ℕ) : Type 0 where
  pub so_far : List ℕ
  pub on : second_rows a [] b ≡ so_far ++ second_rows a (take j b) (drop j b)
  pub lays : Appends so_far old from new at
  pub few : at ≤ from + entry_room * j

pub second-start : (a b old : List ℕ) (from : ℕ) → from + entry_room * length b ≤ length old → SecondListed a b old from 0 from old
second-start a b old from room =
    record { so_far = []; on = refl; lays = appends-none (omega arith); few = omega arith }

module _ {a b old : List ℕ} {from j at : ℕ} {new : List ℕ} (s : SecondListed a b old from j at new) where
  pub second-long : length new ≡ length old
  second-long = appends-long s.lays

  pub second-turn : {newer : List ℕ} {later : ℕ} → j < length b → Appends (second_row a (take j b) (get_or b j 0)) new at newer later
      → SecondListed a b old from (j + 1) later newer
  second-turn there puts =
      let row = second_row a (take j b) (get_or b j 0) in
      record {
        so_far = s.so_far ++ row;
        on =
            s.on
            ∙ ap (λ (e : List ℕ). s.so_far ++ e) (rows-one a b j there)
            ∙ sym (append_assoc s.so_far row (second_rows a (take (j + 1) b) (drop (j + 1) b)));
        lays = appends-then s.lays puts;
        few = omega (arith, s.few, puts.after, row-few a (take j b) (get_or b j 0));
      }

  pub second-all : length b ≤ j → Appends (second_rows a [] b) old from new at
  second-all past =
      let all : second_rows a [] b ≡ s.so_far =
      s.on ∙ ap (λ (e : List ℕ). s.so_far ++ e) (rows_none a b j past) ∙ append-nil s.so_far in
      rw all s.lays

-- ---- by the numbers is by the lines
row_same : (first before : List TraceLine) (m : TraceLine)
    → second_row (map number_of_line first) (map number_of_line before) (number_of_line m) ≡ numbers_of (at_second m (mate before m first))
unfolding numbers_of
row_same first before m =
    let number = number_of_line m in
    let k = length (having number before) in
    let count : often number (map number_of_line before) ≡ k = often-having number before in
    let all : often number (map number_of_line first) ≡ length (having number first) = often-having number first in
    ⊎_elim
    (λ few.
    let l = kth-some (having number first) k few in
    row-pairs (map number_of_line first) (map number_of_line before) number (omega arith)
    ∙ sym (ap (λ (o : Option TraceLine). numbers_of (at_second m o)) l.1))
    (λ past.
    row-only (map number_of_line first) (map number_of_line before) number (omega arith)
    ∙ sym (ap (λ (o : Option TraceLine). numbers_of (at_second m o)) (kth-none (having number first) k past)))
    (below_or_not k (length (having number first)))

pub rows_same : (first before lines : List TraceLine)
    → second_rows (map number_of_line first) (map number_of_line before) (map number_of_line lines) ≡ numbers_of (line_by_line at_second before lines first)
unfolding second_rows line_by_line numbers_of
rows_same first before [] = refl
rows_same first before (m ∷ lines) =
    let row = at_second m (mate before m first) in
    let rest = line_by_line at_second (before ++ (m ∷ [])) lines first in
    ap₂ (λ (r l : List ℕ). r ++ l) (row_same first before m)
    (ap (λ (t : List ℕ). second_rows (map number_of_line first) t (map number_of_line lines)) (sym (map-append number_of_line before (m ∷ [])))
    ∙ rows_same first (before ++ (m ∷ [])) lines)
    ∙ sym (numbers-append row rest)
