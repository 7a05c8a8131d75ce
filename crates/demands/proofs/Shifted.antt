-- The view once the base went on by one: what stood one place further, and at the end a number that is unknown and holds
-- nothing. Assumes nothing.
use Prim.Native.Nat.{ℕ, suc, ◌≤◌, ◌<◌}
use mathlib.Core.Path.{◌≡◌, ap}
use mathlib.Core.List.{List, [], ◌∷◌, ◌++◌}
use lib.ListN.{length, get_or, drop, length-append, length-drop, get_or-append}
use lib.Seq.{get_or_at}
use native.Mathlib.Nat.{not-suc-le-zero}
use native.Mathlib.Omega.{arith}
use Rattle.session.specs.Cells.{Cell, unknown_cell, cell_at, unknown_at, is_unknown}
use Rattle.session.specs.Held.{nothing_held, held_at}
use Rattle.session.specs.View.{View, Counts, gone_on}

-- ---- a list one place further
abbrev pub shifted : {A : Type 0} → List A → A → List A
shifted l last = drop 1 l ++ (last ∷ [])

pub length-shifted : {A : Type 0} (l : List A) (last : A) → 1 ≤ length l → length (shifted l last) ≡ length l
length-shifted l last some = omega (arith, length-append (drop 1 l) (last ∷ []), length-drop 1 l)

pub shifted_at : {A : Type 0} (l : List A) (last d : A) (k : ℕ) → suc k < length l → get_or (shifted l last) k d ≡ get_or l (suc k) d
shifted_at [] last d k inside = absurd (not-suc-le-zero inside)
shifted_at (x ∷ l) last d k inside = get_or-append l (last ∷ []) d k (omega arith)

pub shifted-last : {A : Type 0} (l : List A) (last d : A) (k : ℕ) → suc k ≡ length l → get_or (shifted l last) k d ≡ last
shifted-last [] last d k e = absurd (omega arith)
shifted-last (x ∷ l) last d k e = get_or_at l last [] d k (omega arith)

-- ---- the view
module _ (counts : Counts) (view : View) where
  pub length-cells-on : 1 ≤ length view.cells → length (gone_on counts view).cells ≡ length view.cells
  unfolding gone_on
  length-cells-on = length-shifted view.cells unknown_cell

  pub length-held-on : 1 ≤ length view.held → length (gone_on counts view).held ≡ length view.held
  unfolding gone_on
  length-held-on = length-shifted view.held nothing_held

  pub cell-on : (p : ℕ) → suc p < length view.cells → cell_at (gone_on counts view).cells p ≡ cell_at view.cells (suc p)
  unfolding gone_on
  cell-on p inside = shifted_at view.cells unknown_cell _ p inside

  pub cell-last : (p : ℕ) → suc p ≡ length view.cells → cell_at (gone_on counts view).cells p ≡ unknown_cell
  unfolding gone_on
  cell-last p e = shifted-last view.cells unknown_cell _ p e

  pub held_on : (d : ℕ) → suc d < length view.held → held_at (gone_on counts view).held d ≡ held_at view.held (suc d)
  unfolding gone_on
  held_on d inside = shifted_at view.held nothing_held _ d inside

  pub held-last : (d : ℕ) → suc d ≡ length view.held → held_at (gone_on counts view).held d ≡ nothing_held
  unfolding gone_on
  held-last d e = shifted-last view.held nothing_held _ d e

  pub unknown-on : (p : ℕ) → suc p < length view.cells
      → unknown_at (gone_on counts view).cells p ≡ unknown_at view.cells (suc p)
  unknown-on p inside = ap (λ (c : Cell). is_unknown c.state) (cell-on p inside)
