-- The table as it is laid has the same solutions, octet by octet, as the equations. Assumes nothing.
use Prim.Native.Nat.{ℕ, ◌<◌}
use mathlib.Core.Path.{◌≡◌, refl, sym, ap, ap₂, ◌∙◌, subst}
use mathlib.Core.Logic.{⊎_elim}
use mathlib.Core.Bool.{Bool, not, cond}
use mathlib.Core.List.{List, [], ◌∷◌, map, Memᴰ as Among}
use lib.ListN.{length, get_or}
use lib.Bits.{bit_xor}
use lib.Dec.{eqb}
use borrow.Author.Tests.{not-true, eq-eqb, ne_eqb}
use Rattle.octets.specs.Place.{tab}
use Rattle.octets.specs.ExclusiveOr.{xor_at, exclusive_or}
use Rattle.octets.proofs.Laws.{tab-at, tab-ext, length-tab, xor-cancel-right, xor_at-same, xor_at-cons}
use Rattle.datagram.specs.Sizes.{packet_limit}
use Rattle.solve_algebra.specs.Sums.{sum_over}
use Rattle.solve_algebra.proofs.LinearLaws.{sum_same, sum-alone}
use Rattle.solve_algebra.specs.Masks.{has_place}
use Rattle.solve_algebra.specs.Rows.{table_rows, columns, no_row, row_at, source_in, start_row, asked_by, AllHold}
use Rattle.solve_algebra.specs.declared.Row.{Row}
use Rattle.solve_algebra.proofs.Laws.{start-mask, start-source}
use Rattle.session.specs.Cells.{Cell, cell_at, unknown_at}
use Rattle.session.specs.Held.{Held}
use Rattle.session.specs.Repair.{Message, unknown_members, other_members}
use Rattle.session.specs.Reached.{Known, Unknown}
use Rattle.session.proofs.Laws.{passing-among, xor_at-parted}
use Rattle.solve.specs.Equations.{padded, Solution}
use Rattle.solve.proofs.Laws.{known_at, equation-at, padded-at}
use Rattle.solve.specs.Table.{no_message, equation_at, equation_mask, start_rows, side_at}
use Rattle.solve.proofs.Masks.{equation-sum}
use Rattle.solve.proofs.Numbers.{Numbered}

-- ---- the rows
row_laid : (cells : List Cell) (held : List Held) (e : ℕ) → e < table_rows
    → row_at (start_rows cells held) e ≡ start_row (equation_mask cells (equation_at held e)) e
unfolding start_rows
row_laid cells held e below = tab-at table_rows (λ f. start_row (equation_mask cells (equation_at held f)) f) e no_row below

pub length-rows : (cells : List Cell) (held : List Held) → length (start_rows cells held) ≡ table_rows
unfolding start_rows
length-rows cells held = length-tab table_rows (λ e. start_row (equation_mask cells (equation_at held e)) e)

row-mask : (cells : List Cell) (held : List Held) (e : ℕ) → e < table_rows
    → (row_at (start_rows cells held) e).mask ≡ equation_mask cells (equation_at held e)
row-mask cells held e below =
    ap (λ (r : Row). r.mask) (row_laid cells held e below) ∙ start-mask (equation_mask cells (equation_at held e)) e

-- a row asks for what its equation asks
row-asks : (cells : List Cell) (held : List Held) (asked : ℕ → ℕ) (e : ℕ) → e < table_rows
    → asked_by asked (row_at (start_rows cells held) e) ≡ asked e
unfolding asked_by
row-asks cells held asked e below =
    sum-alone table_rows (source_in (row_at (start_rows cells held) e)) asked e below
    (record {
      has = source e below ∙ eq-eqb e e refl;
      others = λ f small other. source f small ∙ ne_eqb f e other;
    })
  where
    source : (f : ℕ) → f < table_rows → source_in (row_at (start_rows cells held) e) f ≡ eqb f e
    source f small =
        ap (λ (r : Row). source_in r f) (row_laid cells held e below)
        ∙ start-source (equation_mask cells (equation_at held e)) e f below small

-- values for the places: what is known stays, the others are given
pub filled_in : List Cell → (ℕ → ℕ → ℕ) → ℕ → List ℕ
filled_in cells v p = tab packet_limit (λ k. cond (unknown_at cells p) (v k p) (get_or (cell_at cells p).octets k 0))

pub length-filled_in : (cells : List Cell) (v : ℕ → ℕ → ℕ) (p : ℕ) → length (filled_in cells v p) ≡ packet_limit
unfolding filled_in
length-filled_in cells v p = length-tab packet_limit (λ k. cond (unknown_at cells p) (v k p) (get_or (cell_at cells p).octets k 0))

module _ (cells : List Cell) (messages : List Message) (held : List Held) (n : Numbered messages (equation_at held)) where
  -- what equation e asks for at octet k
  abbrev pub asked : ℕ → ℕ → ℕ
  asked k e = side_at cells (equation_at held e) k

  unknown-sum : (x : ℕ → List ℕ) (k e : ℕ) → e < table_rows
      → sum_over columns (has_place (row_at (start_rows cells held) e).mask) (λ p. get_or (x p) k 0)
      ≡ xor_at (map x (unknown_members cells (equation_at held e))) k
  unknown-sum x k e below =
      ap (λ (m : ℕ). sum_over columns (has_place m) (λ p. get_or (x p) k 0)) (row-mask cells held e below)
      ∙ equation-sum cells (equation_at held e) x k (λ p m. n.inside e p below m)

  -- the known members, where their octets are the numbers'
  other-sum : (x : ℕ → List ℕ) (k e : ℕ)
      → ((p : ℕ) → Known cells p → get_or (x p) k 0 ≡ get_or (cell_at cells p).octets k 0)
      → xor_at (map x (other_members cells (equation_at held e))) k
      ≡ xor_at (map (λ p. (cell_at cells p).octets) (other_members cells (equation_at held e))) k
  other-sum x k e known =
      xor_at-same x (λ p. (cell_at cells p).octets) (other_members cells (equation_at held e)) k
      (λ p m. known p (not-true (unknown_at cells p) (passing-among (λ q. not (unknown_at cells q)) (equation_at held e).members m).1))

  -- ---- a solution satisfies the table at every octet
  holds-there : (x : ℕ → List ℕ) → Solution cells messages x → (k : ℕ) → k < packet_limit → (e : ℕ) → e < table_rows
      → xor_at (map x (equation_at held e).members) k ≡ get_or (equation_at held e).octets k 0
  unfolding xor_at
  holds-there x s k inside e below =
      ⊎_elim (λ there. equation-at s (equation_at held e) there k inside)
      (λ none. subst (λ (m : Message). xor_at (map x m.members) k ≡ get_or m.octets k 0) (sym none) refl)
      (n.each e below)

  pub solution-holds : (x : ℕ → List ℕ) → Solution cells messages x → (k : ℕ) → k < packet_limit
      → AllHold (asked k) (λ p. get_or (x p) k 0) (start_rows cells held)
  unfolding side_at xor_at
  solution-holds x s k inside e below =
      let unknown = xor_at (map x (unknown_members cells (equation_at held e))) k in
      let other = xor_at (map x (other_members cells (equation_at held e))) k in
      unknown-sum x k e below
      ∙ sym (xor-cancel-right unknown other)
      ∙ ap₂ bit_xor (sym (xor_at-parted (unknown_at cells) x k (equation_at held e).members) ∙ holds-there x s k inside e below)
      (other-sum x k e (λ p known. known_at s p k inside known))
      ∙ sym (row-asks cells held (asked k) e below)

  -- ---- values that satisfy the table at every octet make a solution
  pub filled_in-at : (v : ℕ → ℕ → ℕ) (p k : ℕ) → k < packet_limit
      → get_or (filled_in cells v p) k 0 ≡ cond (unknown_at cells p) (v k p) (get_or (cell_at cells p).octets k 0)
  unfolding filled_in
  filled_in-at v p k inside =
      tab-at packet_limit (λ j. cond (unknown_at cells p) (v j p) (get_or (cell_at cells p).octets j 0)) k 0 inside

  filled_in-known : (v : ℕ → ℕ → ℕ) (p k : ℕ) → k < packet_limit → Known cells p
      → get_or (filled_in cells v p) k 0 ≡ get_or (cell_at cells p).octets k 0
  filled_in-known v p k inside known =
      filled_in-at v p k inside ∙ ap (λ (t : Bool). cond t (v k p) (get_or (cell_at cells p).octets k 0)) known

  pub filled_in-unknown : (v : ℕ → ℕ → ℕ) (p k : ℕ) → k < packet_limit → Unknown cells p → get_or (filled_in cells v p) k 0 ≡ v k p
  filled_in-unknown v p k inside unknown =
      filled_in-at v p k inside ∙ ap (λ (t : Bool). cond t (v k p) (get_or (cell_at cells p).octets k 0)) unknown

  -- the masks have unknown places alone, so that the given values count
  filled-sum : (v : ℕ → ℕ → ℕ) (k e : ℕ) → k < packet_limit → e < table_rows
      → xor_at (map (filled_in cells v) (unknown_members cells (equation_at held e))) k
      ≡ sum_over columns (has_place (row_at (start_rows cells held) e).mask) (v k)
  filled-sum v k e inside below =
      let flat : ℕ → List ℕ = λ p. tab packet_limit (λ j. v k p) in
      let mask : ℕ = (row_at (start_rows cells held) e).mask in
      xor_at-same (filled_in cells v) flat (unknown_members cells (equation_at held e)) k
      (λ p m.
      filled_in-unknown v p k inside (passing-among (unknown_at cells) (equation_at held e).members m).1
      ∙ sym (tab-at packet_limit (λ j. v k p) k 0 inside))
      ∙ sym (unknown-sum flat k e below)
      ∙ sum_same columns (has_place mask) (has_place mask) (λ p. get_or (flat p) k 0) (v k) (λ c small. refl)
      (λ c small h. tab-at packet_limit (λ j. v k c) k 0 inside)

  filled-equation : (v : ℕ → ℕ → ℕ) (k e : ℕ) → k < packet_limit → e < table_rows → AllHold (asked k) (v k) (start_rows cells held)
      → xor_at (map (filled_in cells v) (equation_at held e).members) k ≡ get_or (equation_at held e).octets k 0
  unfolding side_at xor_at
  filled-equation v k e inside below all =
      xor_at-parted (unknown_at cells) (filled_in cells v) k (equation_at held e).members
      ∙ ap₂ bit_xor (filled-sum v k e inside below ∙ all e below ∙ row-asks cells held (asked k) e below)
      (other-sum (filled_in cells v) k e (λ p known. filled_in-known v p k inside known))
      ∙ xor-cancel-right (get_or (equation_at held e).octets k 0)
      (xor_at (map (λ p. (cell_at cells p).octets) (other_members cells (equation_at held e))) k)

  pub holds-solution : (v : ℕ → ℕ → ℕ) → ((k : ℕ) → k < packet_limit → AllHold (asked k) (v k) (start_rows cells held))
      → Solution cells messages (filled_in cells v)
  unfolding filled_in exclusive_or padded
  holds-solution v all =
      record {
        long = length-filled_in cells v;
        known = λ p known.
            tab-ext packet_limit (λ k. cond (unknown_at cells p) (v k p) (get_or (cell_at cells p).octets k 0))
            (λ k. get_or (cell_at cells p).octets k 0)
            (λ k inside. ap (λ (t : Bool). cond t (v k p) (get_or (cell_at cells p).octets k 0)) known);
        equation = λ message m. equation message (n.there message m);
      }
    where
      equation : (message : Message) → (e : ℕ) × (e < table_rows) × (message ≡ equation_at held e)
          → exclusive_or packet_limit (map (filled_in cells v) message.members) ≡ padded message.octets
      equation message t =
          subst (λ (m : Message). exclusive_or packet_limit (map (filled_in cells v) m.members) ≡ padded m.octets) (sym t.2)
          (tab-ext packet_limit (xor_at (map (filled_in cells v) (equation_at held t.0).members))
          (λ k. get_or (equation_at held t.0).octets k 0)
          (λ k inside. filled-equation v k t.0 inside t.1 (all k inside)))
