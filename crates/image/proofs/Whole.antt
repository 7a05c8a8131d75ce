-- The whole image as a format: a session is told by its lines, and its lines by the session. Assumes nothing.
use Prim.Native.Nat.{ℕ, zero, suc, ◌+◌, ◌<◌}
use mathlib.Core.Path.{◌≡◌, sym, ap, ap₂, ◌∙◌}
use mathlib.Core.Bool.{true, false}
use mathlib.Core.List.{List, [], ◌∷◌, ◌++◌, map}
use lib.ListN.{length, get_or, get_or-map, get_or-append}
use lib.Seq.{get_or-append-add}
use native.Mathlib.Omega.{arith}
use Rattle.octets.specs.Place.{tab}
use Rattle.octets.proofs.Laws.{tab-ext, tab-get_d}
use Rattle.format.specs.Format.{Format, sequence_fits}
use Rattle.session.specs.Cells.{Cell, blank_cell, cell_at, kept_before, kept_ahead}
use Rattle.session.specs.Held.{Held, nothing_held, held_at}
use Rattle.session.specs.View.{View}
use Rattle.image.specs.Parts.{line}
use Rattle.image.specs.Layout.{ImageVersion, FirstImageLine, Number, number_line, view_from, before, ahead, lines_of, image}
use Rattle.image.specs.Octets.{image_lines}
use Rattle.image.specs.Image.{image_text}
use Rattle.image.proofs.Plain.{Plain, plain_row, plain_then, plain-made, octets-for}
use Rattle.image.proofs.HexLine.{plain-line}
use Rattle.image.proofs.Productions.{plain-first, plain-number-line, NumberFits, fits-number}
use Rattle.image.proofs.Productions.{nothing-held}

-- ---- so many lines: each fits
module _ {A : Type 0} where
  pub rows_fit : (f : Format A) (n : ℕ) (g : ℕ → A) (p : ℕ) → ((k : ℕ) → k < n → f.fits (g k) 0) → sequence_fits (line f) (tab n g) p
  unfolding sequence_fits tab
  rows_fit f zero g p each = tt
  rows_fit f (suc n) g p each = (each 0 (omega arith), rows_fit f n (λ k. g (suc k)) _ (λ k below. each (suc k) (omega arith)))

  pub fit-rows : (f : Format A) (l : List A) (p : ℕ) (d : A) → sequence_fits (line f) l p → (k : ℕ) → k < length l → f.fits (get_or l k d) 0
  unfolding sequence_fits
  fit-rows f [] p d fits k below = absurd (omega arith)
  fit-rows f (a ∷ l) p d fits zero below = fits.0
  fit-rows f (a ∷ l) p d fits (suc k) below = fit-rows f l _ d fits.1 k (omega arith)

-- ---- lines of numbers, by place
-- a number that no line has
abbrev pub nowhere : Number
nowhere = record { cell = blank_cell; held = nothing_held }

pub cell-of : (l : List Number) (p : ℕ) → cell_at (map (λ k. k.cell) l) p ≡ (get_or l p nowhere).cell
cell-of l p = get_or-map (λ (k : Number). k.cell) l p nowhere

held_of : (l : List Number) (d : ℕ) → held_at (map (λ k. k.held) l) d ≡ (get_or l d nowhere).held
held_of l d = get_or-map (λ (k : Number). k.held) l d nowhere

pub tab-is : {A : Type 0} (l : List A) (d : A) (n : ℕ) (f : ℕ → A) → length l ≡ n → ((k : ℕ) → k < n → f k ≡ get_or l k d) → tab n f ≡ l
tab-is l d n f long same = tab-ext n f (λ k. get_or l k d) same ∙ ap (λ (m : ℕ). tab m (λ k. get_or l k d)) (sym long) ∙ tab-get_d l d

module _ (limit : ℕ) (f : FirstImageLine) (b a : List Number) (long : length b ≡ kept_before) (far : length a ≡ kept_ahead) where
  before_back : ((k : ℕ) → k < kept_before → NumberFits limit false (get_or b k nowhere)) → tab kept_before (before (view_from (f, (b, a)))) ≡ b
  before_back fits =
      tab-is b nowhere kept_before (before (view_from (f, (b, a)))) long
      (λ k below.
      ap₂ (λ (c : Cell) (h : Held). record { cell = c; held = h })
      (cell-of (b ++ a) k ∙ ap (λ (x : Number). x.cell) (get_or-append b a nowhere k (omega arith)))
      (sym (nothing-held limit (get_or b k nowhere) (fits k below))))

  ahead-back : tab kept_ahead (ahead (view_from (f, (b, a)))) ≡ a
  ahead-back =
      tab-is a nowhere kept_ahead (ahead (view_from (f, (b, a)))) far
      (λ k below.
      ap₂ (λ (c : Cell) (h : Held). record { cell = c; held = h })
      (cell-of (b ++ a) (kept_before + k)
      ∙ ap (λ (n : ℕ). (get_or (b ++ a) (n + k) nowhere).cell) (sym long)
      ∙ ap (λ (x : Number). x.cell) (get_or-append-add b a k nowhere))
      (held_of a k))

-- ---- the image
pub plain-image : (version : ImageVersion) → Plain (image version) (λ view. image_lines version.octet (lines_of view))
unfolding image image_lines
plain-image version =
    plain-made view_from lines_of
    (λ x p fits.
    let b = x.1.0 in
    let limit = version.limit in
    ap₂ (λ (u v : List Number). (x.0, (u, v)))
    (before_back limit x.0 x.1.0 x.1.1 fits.1.0.1 fits.1.1.1
    (λ k below.
    fits-number limit false (get_or b k nowhere)
    (fit-rows (number_line limit false) b _ nowhere fits.1.0.0 k (omega (arith, fits.1.0.1)))))
    (ahead-back limit x.0 x.1.0 x.1.1 fits.1.0.1 fits.1.1.1))
    (plain_then (λ _. _) _ (plain-line (plain-first version))
    (λ _. plain_then (λ _. _) _ (plain_row kept_before (plain-line (plain-number-line version.limit false)))
    (λ _. plain_row kept_ahead (plain-line (plain-number-line version.limit true)))))

-- which is written line by line
pub image-lines : (version : ImageVersion) (view : View) → image_text version view ≡ image_lines version.octet (lines_of view)
unfolding image_text
image-lines version view = octets-for (plain-image version) view
