-- Where all octets of a session are below 256, the solutions that the table gives are octets too; so octets alone tell whether there is a
-- solution, and which numbers have one value. Assumes nothing.
use Prim.Native.Nat.{ℕ, zero, suc, ◌^◌, ◌≤◌, ◌<◌}
use mathlib.Core.Path.{◌≡◌, refl, sym, ap, ◌∙◌, subst}
use mathlib.Core.Logic.{◌↔◌, ⊎_elim}
use mathlib.Core.Bool.{Bool, true, false, cond}
use mathlib.Core.List.{List, [], ◌∷◌, map}
use lib.ListN.{length, get_or, get_or-eq_default}
use lib.Bits.{bit_xor, xor_lt}
use lib.Dec.{eqb}
use native.Mathlib.Omega.{arith}
use Rattle.octets.specs.ExclusiveOr.{xor_at}
use Rattle.octets.proofs.Laws.{below_or_not, true-or-false}
use Rattle.length.specs.Claims.{Octets}
use Rattle.datagram.specs.Sizes.{packet_limit}
use Rattle.solve_algebra.specs.Sums.{sum_over, one_at}
use Rattle.solve_algebra.specs.Systems.{HasAlone}
use Rattle.solve_algebra.proofs.LinearLaws.{solved-small, hangs}
use Rattle.solve_algebra.specs.Rows.{table_rows, columns, row_at, columns_of, source_in, asked_by}
use Rattle.session.specs.Cells.{Cell, cell_at, unknown_at, kept_numbers}
use Rattle.session.specs.Held.{Held, held_messages}
use Rattle.session.specs.Repair.{Message, other_members}
use Rattle.session.specs.Reached.{Unknown}
use Rattle.session.specs.View.{View}
use Rattle.session.specs.Ranges.{Sound}
use Rattle.solve.specs.Equations.{Solution, OneValue, Unsolvable, OfOctets, OctetSolution, NoOctets, OneOctets}
use Rattle.solve.specs.Table.{no_message, equation_at, side_at, row_asks}
use Rattle.solve.specs.Solve.{all_fit, reduced_rows}
use Rattle.solve.proofs.Numbers.{Numbered, numbered, sound-few}
use Rattle.solve.proofs.Rows.{length-filled_in, filled_in-at, filled_in-unknown}
use Rattle.solve.proofs.Told.{table, asks, NothingAsked, values, given, given-solution, alone-octets}
use Rattle.solve.proofs.Solve.{fit-says, misfit-unsolvable, lonely, inside-view, found_of, not_found}

-- ---- sums of octets
xor-octet : (a b : ℕ) → a < 256 → b < 256 → bit_xor a b < 256
xor-octet a b small low = xor_lt 8 a b small low

xor_at-octet : (f : ℕ → List ℕ) (ps : List ℕ) (k : ℕ) → ((p : ℕ) → get_or (f p) k 0 < 256) → xor_at (map f ps) k < 256
unfolding xor_at
xor_at-octet f [] k small = omega arith
xor_at-octet f (p ∷ ps) k small = xor-octet (get_or (f p) k 0) (xor_at (map f ps) k) (small p) (xor_at-octet f ps k small)

sum-octet : (n : ℕ) (row : ℕ → Bool) (v : ℕ → ℕ) → ((c : ℕ) → c < n → v c < 256) → sum_over n row v < 256
unfolding sum_over
sum-octet zero row v small = omega arith
sum-octet (suc n) row v small =
    xor-octet (sum_over n row v) (cond (row n) (v n) 0) (sum-octet n row v (λ c below. small c (omega arith))) (either (row n))
  where
    either : (t : Bool) → cond t (v n) 0 < 256
    either true = small n (omega arith)
    either false = omega arith

one-octet : (q c : ℕ) → one_at q c < 256
one-octet q c = either (eqb c q)
  where
    either : (t : Bool) → cond t 1 0 < 256
    either true = omega arith
    either false = omega arith

module _ (cells : List Cell) (messages : List Message) (held : List Held) (n : Numbered messages (equation_at held))
    (o : OfOctets cells messages) where
  message-octet : (e : ℕ) → e < table_rows → Octets (equation_at held e).octets
  message-octet e below =
      ⊎_elim (λ there. o.held (equation_at held e) there)
      (λ none. subst (λ (m : Message). Octets m.octets) (sym none) nothing)
      (n.each e below)
    where
      nothing : Octets []
      nothing k = subst (λ (x : ℕ). x < 256) (sym (get_or-eq_default [] 0 {n = k} (omega arith))) (omega arith)

  side-octet : (k e : ℕ) → e < table_rows → side_at cells (equation_at held e) k < 256
  unfolding side_at xor_at
  side-octet k e below =
      xor-octet (get_or (equation_at held e).octets k 0)
      (xor_at (map (λ p. (cell_at cells p).octets) (other_members cells (equation_at held e))) k)
      (message-octet e below k)
      (xor_at-octet (λ p. (cell_at cells p).octets) (other_members cells (equation_at held e)) k (λ p. o.numbers p k))

  asks-octet : (k i : ℕ) → asks cells messages held n k i < 256
  unfolding row_asks asked_by
  asks-octet k i =
      sum-octet table_rows (source_in (row_at (table cells messages held n) i)) (λ e. side_at cells (equation_at held e) k) (side-octet k)

  -- the solution for given octets is of octets
  given-octets : (g : ℕ → ℕ) → ((c : ℕ) → g c < 256) → (p : ℕ) → Octets (given cells messages held n g p)
  given-octets g small p k =
      ⊎_elim
      (λ inside.
      subst (λ (x : ℕ). x < 256) (sym (filled_in-at cells messages held n (values cells messages held n g) p k inside))
      (either (unknown_at cells p)))
      (λ past.
      subst (λ (x : ℕ). x < 256) (sym (get_or-eq_default (given cells messages held n g p) 0 {n = k} (long past))) (omega arith))
      (below_or_not k packet_limit)
    where
      either : (t : Bool) → cond t (values cells messages held n g k p) (get_or (cell_at cells p).octets k 0) < 256
      either true =
          solved-small columns table_rows (columns_of (table cells messages held n)) (asks cells messages held n k) g 8 (omega arith)
          (asks-octet k) small p
      either false = o.numbers p k

      long : packet_limit ≤ k → length (given cells messages held n g p) ≤ k
      long past = omega (arith, length-filled_in cells (values cells messages held n g) p)

  octet-solution : NothingAsked cells messages held n → (g : ℕ → ℕ) → ((c : ℕ) → g c < 256)
      → OctetSolution cells messages (given cells messages held n g)
  octet-solution nothing g small =
      record { solution = given-solution cells messages held n nothing g; octets = given-octets g small }

  -- ---- octets alone tell which numbers have one value
  module _ (long : length cells ≡ kept_numbers) (nothing : NothingAsked cells messages held n) where
    two-octets : (p : ℕ) → p < columns → Unknown cells p
        → (HasAlone columns table_rows (columns_of (table cells messages held n)) p → ⊥) → OneOctets cells messages p → ⊥
    two-octets p small unknown none one =
        let hang = hangs columns table_rows (columns_of (table cells messages held n)) p small none in
        let zeros : ℕ → ℕ = λ c. 0 in
        hang.apart (asks cells messages held n 0)
        (sym (value zeros)
        ∙ ap (λ (l : List ℕ). get_or l 0 0)
        (one (given cells messages held n zeros) (given cells messages held n (one_at hang.on))
        (octet-solution nothing zeros (λ c. omega arith))
        (octet-solution nothing (one_at hang.on) (one-octet hang.on)))
        ∙ value (one_at hang.on))
      where
        value : (g : ℕ → ℕ) → get_or (given cells messages held n g p) 0 0 ≡ values cells messages held n g 0 p
        value g = filled_in-unknown cells messages held n (values cells messages held n g) p 0 (omega arith) unknown

    one-of-octets : (p : ℕ) → OneOctets cells messages p → OneValue cells messages p
    one-of-octets p one x y sx sy =
        ⊎_elim
        (λ unknown.
        let small = inside-view cells messages held n long p unknown in
        ⊎_elim
        (λ below.
        alone-octets cells messages held n p small (found_of cells messages held n long p below) x sx
        ∙ sym (alone-octets cells messages held n p small (found_of cells messages held n long p below) y sy))
        (λ past. absurd (two-octets p small unknown (not_found cells messages held n long p past) one))
        (below_or_not (lonely cells messages held n long p) table_rows))
        (λ known. sx.known p known ∙ sym (sy.known p known))
        (true-or-false (unknown_at cells p))

-- ---- of a session
module _ (view : View) (s : Sound view) (o : OfOctets view.cells (held_messages view.held)) where
  abbrev messages : List Message
  messages = held_messages view.held

  abbrev listed : Numbered messages (equation_at view.held)
  listed = numbered (sound-few s)

  fits-or-not : {A : Type 0} → (NothingAsked view.cells messages view.held listed → A) → (Unsolvable view.cells messages → A) → A
  fits-or-not fits misfits =
      ⊎_elim (λ e. fits (fit-says view.cells messages view.held listed s.kept e))
      (λ e. misfits (misfit-unsolvable view.cells messages view.held listed s.kept e))
      (true-or-false (all_fit view.cells view.held (reduced_rows view)))

  pub none-of-octets : Unsolvable view.cells messages ↔ NoOctets view.cells messages
  none-of-octets = (
    (λ none x sx. none x sx.solution),
    (λ none.
        fits-or-not
        (λ nothing.
        absurd
        (none _ (octet-solution view.cells messages view.held listed o nothing (λ c. 0) (λ c. omega arith))))
        (λ unsolvable. unsolvable)),
  )

  pub one-octets : (p : ℕ) → OneValue view.cells messages p ↔ OneOctets view.cells messages p
  one-octets p = (
    (λ one x y sx sy. one x y sx.solution sy.solution),
    (λ one.
        fits-or-not (λ nothing. one-of-octets view.cells messages view.held listed o s.kept nothing p one)
        (λ unsolvable x y sx sy. absurd (unsolvable x sx))),
  )
