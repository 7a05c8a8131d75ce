-- What the eliminated table tells of the equations: some octets satisfy them exactly if no empty row asks for anything; a number has one
-- value exactly if a row has it alone, and that is what the row asks for. Assumes nothing.
use Prim.Native.Nat.{ℕ, ◌<◌}
use mathlib.Core.Path.{◌≡◌, sym, ap, ◌∙◌}
use mathlib.Core.List.{List}
use lib.ListN.{length, get_or}
use native.Mathlib.Omega.{arith}
use Rattle.octets.specs.Place.{tab}
use Rattle.octets.proofs.Laws.{tab-ext, tab-get_d}
use Rattle.datagram.specs.Sizes.{packet_limit}
use Rattle.solve_algebra.specs.Sums.{one_at}
use Rattle.solve_algebra.specs.Systems.{HasAlone, Empty}
use Rattle.solve_algebra.proofs.LinearLaws.{solved, solved-satisfies, hangs, alone-value, satisfied-consistent}
use Rattle.solve_algebra.specs.Rows.{table_rows, columns, row_at, columns_of, AllHold, asked_by}
use Rattle.solve_algebra.specs.Eliminated.{eliminated}
use Rattle.solve_algebra.specs.declared.Row.{Row}
use Rattle.solve_algebra.proofs.Laws.{Done, eliminated-done}
use Rattle.session.specs.Cells.{Cell}
use Rattle.session.specs.Held.{Held}
use Rattle.session.specs.Repair.{Message}
use Rattle.session.specs.Reached.{Unknown}
use Rattle.solve.specs.Equations.{Solution, Solvable, OneValue}
use Rattle.solve.specs.Table.{equation_at, start_rows, row_asks, row_octets}
use Rattle.solve.proofs.Numbers.{Numbered}
use Rattle.solve.proofs.Rows.{length-rows, asked, filled_in, filled_in-unknown, solution-holds, holds-solution}

module _ (cells : List Cell) (messages : List Message) (held : List Held) (n : Numbered messages (equation_at held)) where
  abbrev pub table : List Row
  table = eliminated (start_rows cells held)

  pub done-table : Done (start_rows cells held) table
  done-table = eliminated-done (start_rows cells held) (length-rows cells held)

  -- what row i asks for at octet k
  abbrev pub asks : ℕ → ℕ → ℕ
  asks k i = row_asks cells held (row_at table i) k

  -- no empty row asks for anything
  abbrev pub NothingAsked : Type 0
  NothingAsked = (i : ℕ) → i < table_rows → Empty columns (columns_of table i) → (k : ℕ) → k < packet_limit → asks k i ≡ 0

  -- a solution for any given values
  abbrev pub values : (ℕ → ℕ) → ℕ → ℕ → ℕ
  values g k = solved columns table_rows (columns_of table) (asks k) g

  abbrev pub given : (ℕ → ℕ) → ℕ → List ℕ
  given g = filled_in cells (values g)

  pub given-solution : NothingAsked → (g : ℕ → ℕ) → Solution cells messages (given g)
  unfolding row_asks
  given-solution nothing g =
      holds-solution cells messages held n (values g)
      (λ k inside.
      (done-table.same (asked cells messages held n k) (values g k)).1
      (solved-satisfies columns table_rows (columns_of table) (asks k) g done-table.reduced
      (λ i below empty. nothing i below empty k inside)))

  pub solvable : NothingAsked → Solvable cells messages
  solvable nothing = (given (λ c. 0), given-solution nothing (λ c. 0))

  -- a solution satisfies the eliminated table
  solution-after : (x : ℕ → List ℕ) → Solution cells messages x → (k : ℕ) → k < packet_limit
      → AllHold (asked cells messages held n k) (λ p. get_or (x p) k 0) table
  solution-after x s k inside =
      (done-table.same (asked cells messages held n k) (λ p. get_or (x p) k 0)).0 (solution-holds cells messages held n x s k inside)

  pub solution-nothing : (x : ℕ → List ℕ) → Solution cells messages x → NothingAsked
  unfolding row_asks
  solution-nothing x s i below empty k inside =
      satisfied-consistent columns table_rows (columns_of table) (asks k) (λ p. get_or (x p) k 0) (solution-after x s k inside) i below empty

  -- the octets of a row that has a place alone are every solution's there
  pub alone-octets : (p : ℕ) → p < columns → (found : HasAlone columns table_rows (columns_of table) p) → (x : ℕ → List ℕ)
      → Solution cells messages x → x p ≡ row_octets cells held (row_at table found.row)
  unfolding row_octets row_asks
  alone-octets p small found x s =
      sym (tab-get_d (x p) 0)
      ∙ ap (λ (size : ℕ). tab size (λ k. get_or (x p) k 0)) (s.long p)
      ∙ tab-ext packet_limit (λ k. get_or (x p) k 0) (λ k. asks k found.row)
      (λ k inside.
      alone-value columns table_rows (columns_of table) (asks k) (λ q. get_or (x q) k 0) (solution-after x s k inside) p small found)

  -- a place that no row has alone takes two values
  pub not-one-value : NothingAsked → (p : ℕ) → p < columns → Unknown cells p → (HasAlone columns table_rows (columns_of table) p → ⊥)
      → OneValue cells messages p → ⊥
  not-one-value nothing p small unknown none one =
      let hang = hangs columns table_rows (columns_of table) p small none in
      let zero : ℕ → ℕ = λ c. 0 in
      hang.apart (asks 0)
      (sym (value zero)
      ∙ ap (λ (l : List ℕ). get_or l 0 0)
      (one (given zero) (given (one_at hang.on)) (given-solution nothing zero) (given-solution nothing (one_at hang.on)))
      ∙ value (one_at hang.on))
    where
      value : (g : ℕ → ℕ) → get_or (given g p) 0 0 ≡ values g 0 p
      value g = filled_in-unknown cells messages held n (values g) p 0 (omega arith) unknown
