-- What is listed at the lines of the first trace, one after the other. Assumes nothing.
use Prim.Native.Nat.{ℕ, suc, ◌+◌, ◌*◌, ◌≤◌, ◌<◌}
use mathlib.Core.Path.{◌≡◌, refl, sym, ap, ap₂, ◌∙◌}
use mathlib.Core.List.{List, [], ◌∷◌, ◌++◌, map, append_assoc, append-nil}
use mathlib.Core.Option.{Option, none, some}
use lib.ListN.{length, get_or, get_elem?, take, drop, length-append, drop_of_length-le}
use native.Mathlib.Numerals.{add-one}
use native.Mathlib.Omega.{arith}
use Rattle.length.specs.Answers.{done, is_done}
use Rattle.line.specs.Promise.{Appends}
use Rattle.line.proofs.Laws.{appends-none, appends-then, appends-long}
use Rattle.trace_compare.specs.Pairing.{TraceLine, number_of_line, having, mate}
use Rattle.trace_compare.specs.Entries.{Entry, only_first, numbers_of, entries_of, given, differences, at_first, line_by_line}
use Rattle.trace_compare.specs.Traces.{datagram_in}
use Rattle.trace_compare.proofs.Laws.{numbers-twice}
use Rattle.trace_compare_code.specs.Numbers.{often, KthPlace}
use Rattle.trace_compare_code.specs.Rows.{line_room, difference_numbers}
use Rattle.trace_compare_code.specs.Lines.{line_from, KeptTrace}
use Rattle.trace_compare_code.specs.Inner.{HoldsDatagram, PutsFirst}
use Rattle.trace_compare_code.proofs.Mates.{kth-some, kth-drop, kth-take, numbers-long, numbers-take, number_at, often-having}
use Rattle.trace_compare_code.proofs.Mates.{mate-none, mate-some}

-- ---- entries as numbers
pub numbers-append : (es more : List Entry) → numbers_of (es ++ more) ≡ numbers_of es ++ numbers_of more
unfolding numbers_of
numbers-append [] more = refl
numbers-append (e ∷ es) more = ap (λ (l : List ℕ). e.number ∷ e.code ∷ l) (numbers-append es more)

rows_few : (rows : List (Option ℕ)) → length (given rows) ≤ length rows
unfolding given
rows_few [] = omega arith
rows_few (none ∷ rows) = let more = rows_few rows in omega arith
rows_few (some code ∷ rows) = let more = rows_few rows in omega arith

entries-long : (number : ℕ) (codes : List ℕ) → length (entries_of number codes) ≡ length codes
entries-long number [] = refl
entries-long number (c ∷ codes) = ap suc (entries-long number codes)

-- three at most at a line
first-few : (l : TraceLine) (m : Option TraceLine) → length (numbers_of (at_first l m)) ≤ line_room
first-few l none = omega (arith, numbers-twice (at_first l none))
first-few l (some m) =
    let rows = differences l.datagram m.datagram in
    let few = rows_few rows in
    let long = entries-long (number_of_line l) (given rows) in
    omega (arith, numbers-twice (at_first l (some m)))

-- ---- a line of a kept trace
module _ {trace : List ℕ} {lines : List TraceLine} {numbers starts : List ℕ} (x : KeptTrace trace lines numbers starts) where
  pub kept-long : length numbers ≡ length lines
  kept-long = ap length x.each ∙ numbers-long lines

  pub start-there : {i : ℕ} → i < length numbers → i < length starts
  start-there inside = omega (arith, kept-long, x.room)

  pub kept_at : (i : ℕ) → i < length numbers → (l : TraceLine) × (get_elem? lines i ≡ some l)
  kept_at i inside = kth-some lines i (omega (arith, kept-long))

  pub kept-number : (i : ℕ) (l : TraceLine) → get_elem? lines i ≡ some l → get_or numbers i 0 ≡ number_of_line l
  kept-number i l is = ap (λ (n : List ℕ). get_or n i 0) x.each ∙ number_at lines i l is

  pub kept-before : (number i : ℕ) → often number (take i numbers) ≡ length (having number (take i lines))
  kept-before number i =
      ap (λ (n : List ℕ). often number (take i n)) x.each
      ∙ ap (often number) (numbers-take i lines)
      ∙ often-having number (take i lines)

  pub kept-holds : (i : ℕ) → i < length numbers → HoldsDatagram trace (get_or starts i 0)
  kept-holds i inside =
      let l = kept_at i inside in
      let stands = x.places i l.0 l.1 in
      record { inside = stands.inside; reads = ap is_done stands.read }

-- ---- what is listed at it
module _ {first second : List ℕ} {lines others : List TraceLine} {a from b to : List ℕ} (x : KeptTrace first lines a from)
    (y : KeptTrace second others b to) (i : ℕ) {k j : ℕ} (count : k ≡ often (get_or a i 0) (take i a)) (p : KthPlace b (get_or a i 0) k j) where
  place : KthPlace (map number_of_line others) (get_or a i 0) k j
  place = rw y.each at p

  -- the line that it pairs with
  same-mate : (l : TraceLine) → get_elem? lines i ≡ some l → mate (take i lines) l others ≡ get_elem? (having (get_or a i 0) others) k
  same-mate l is =
      let number = kept-number x i l is in
      ap (λ (n : ℕ). get_elem? (having n others) (length (having n (take i lines)))) (sym number)
      ∙ ap (get_elem? (having (get_or a i 0) others)) (sym (count ∙ kept-before x (get_or a i 0) i))

  pub puts-only : {old : List ℕ} {at : ℕ} {new : List ℕ} {r : ℕ} → length b ≤ j → Appends (get_or a i 0 ∷ only_first ∷ []) old at new r
      → PutsFirst lines others i old at new r
  unfolding numbers_of
  puts-only past puts =
      record {
        puts = λ l is.
            let alone : mate (take i lines) l others ≡ none =
            same-mate l is ∙ mate-none others (get_or a i 0) place (rw y.each at past) in
            rw alone (rw (kept-number x i l is) at puts);
      }

  pub puts-pair : {old : List ℕ} {at : ℕ} {new : List ℕ} {r : ℕ} → j < length b
      → Appends (difference_numbers (get_or a i 0) (datagram_in (line_from first (get_or from i 0))) (datagram_in (line_from second (get_or to j 0))))
      old at new r
      → PutsFirst lines others i old at new r
  unfolding difference_numbers
  puts-pair {old} {at} {new} {r} there puts =
      record {
        puts = λ l is.
            let m = mate-some others (get_or a i 0) place (rw y.each at there) in
            let found : mate (take i lines) l others ≡ some m.0 = same-mate l is ∙ m.2 in
            let left = (x.places i l is).read in
            let right = (y.places j m.0 m.1).read in
            let told : difference_numbers (get_or a i 0) (datagram_in (line_from first (get_or from i 0)))
            (datagram_in (line_from second (get_or to j 0)))
            ≡ numbers_of (at_first l (some m.0)) =
            ap₂ (difference_numbers (get_or a i 0)) left right
            ∙ ap (λ (n : ℕ). difference_numbers n (done l.datagram) (done m.0.datagram)) (kept-number x i l is) in
            rw found (rw told at puts);
      }

-- ---- line after line
-- one line is listed, and what is left
pub listed-one : (at : TraceLine → Option TraceLine → List Entry) (lines other : List TraceLine) (i : ℕ) (l : TraceLine)
    → get_elem? lines i ≡ some l
    → line_by_line at (take i lines) (drop i lines) other
    ≡ at l (mate (take i lines) l other) ++ line_by_line at (take (i + 1) lines) (drop (i + 1) lines) other
unfolding line_by_line
listed-one at lines other i l is =
    ap (λ (d : List TraceLine). line_by_line at (take i lines) d other) (kth-drop lines i l is)
    ∙ ap (λ (t : List TraceLine). at l (mate (take i lines) l other) ++ line_by_line at t (drop (suc i) lines) other)
    (sym (kth-take lines i l is))
    ∙ ap (λ (n : ℕ). at l (mate (take i lines) l other) ++ line_by_line at (take n lines) (drop n lines) other) (sym (add-one i))

listed-none : (at : TraceLine → Option TraceLine → List Entry) (lines other : List TraceLine) (i : ℕ) → length lines ≤ i
    → line_by_line at (take i lines) (drop i lines) other ≡ []
unfolding line_by_line
listed-none at lines other i past =
    ap (λ (d : List TraceLine). line_by_line at (take i lines) d other) (drop_of_length-le lines past)

-- the entries of the lines before a place
pub record FirstListed (lines others : List TraceLine) (old : List ℕ) (i at : ℕ) (new : List ℕ) : Type 0 where
  pub so_far : List Entry
  pub on : line_by_line at_first [] lines others ≡ so_far ++ line_by_line at_first (take i lines) (drop i lines) others
  pub lays : Appends (numbers_of so_far) old 0 new at
  pub few : at ≤ line_room * i

pub first-start : (lines others : List TraceLine) (old : List ℕ) → FirstListed lines others old 0 0 old
unfolding numbers_of
first-start lines others old = record { so_far = []; on = refl; lays = appends-none (omega arith); few = omega arith }

module _ {lines others : List TraceLine} {old : List ℕ} {i at : ℕ} {new : List ℕ} (f : FirstListed lines others old i at new) where
  pub first-long : length new ≡ length old
  first-long = appends-long f.lays

  pub first-turn : {newer : List ℕ} {later : ℕ} (l : TraceLine) → get_elem? lines i ≡ some l → PutsFirst lines others i new at newer later
      → FirstListed lines others old (i + 1) later newer
  first-turn l is p =
      let row = at_first l (mate (take i lines) l others) in
      let puts = p.puts l is in
      let more : numbers_of f.so_far ++ numbers_of row ≡ numbers_of (f.so_far ++ row) = sym (numbers-append f.so_far row) in
      record {
        so_far = f.so_far ++ row;
        on =
            f.on
            ∙ ap (λ (e : List Entry). f.so_far ++ e) (listed-one at_first lines others i l is)
            ∙ sym (append_assoc f.so_far row (line_by_line at_first (take (i + 1) lines) (drop (i + 1) lines) others));
        lays = rw more at (appends-then f.lays puts);
        few = omega (arith, f.few, puts.after, first-few l (mate (take i lines) l others));
      }

  pub first-all : length lines ≤ i → Appends (numbers_of (line_by_line at_first [] lines others)) old 0 new at
  first-all past =
      let all : line_by_line at_first [] lines others ≡ f.so_far =
      f.on
      ∙ ap (λ (e : List Entry). f.so_far ++ e) (listed-none at_first lines others i past)
      ∙ append-nil f.so_far in
      rw all f.lays

-- so many in all
pub first-most : (lines others : List TraceLine) (before : List TraceLine)
    → length (numbers_of (line_by_line at_first before lines others)) ≤ line_room * length lines
unfolding line_by_line numbers_of
first-most [] others before = omega arith
first-most (l ∷ lines) others before =
    let row = at_first l (mate before l others) in
    let rest = line_by_line at_first (before ++ (l ∷ [])) lines others in
    let more = first-most lines others (before ++ (l ∷ [])) in
    omega (
      arith,
      ap length (numbers-append row rest),
      length-append (numbers_of row) (numbers_of rest),
      first-few l (mate before l others),
    )
