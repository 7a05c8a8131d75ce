-- What the cases are proved with: octets given for some places, every message of a short list, and how a case says what a number
-- becomes. Assumes nothing.
use Prim.Native.Nat.{ℕ, ◌<◌}
use mathlib.Core.Path.{◌≡◌, sym, ap, ◌∙◌, subst}
use mathlib.Core.Logic.{◌⊎◌, ⊎_elim}
use mathlib.Core.List.Memᴰ
use mathlib.Core.List.{List, [], ◌∷◌, map, Memᴰ as Among}
use lib.ListN.{length, get_or}
use Rattle.octets.specs.ExclusiveOr.{exclusive_or}
use Rattle.datagram.specs.Sizes.{packet_limit}
use Rattle.solve_algebra.specs.Masks.{mask_places}
use Rattle.session.specs.Cells.{Cell, filled_cell, repaired, cell_at}
use Rattle.session.specs.Repair.{Message}
use Rattle.session.specs.Reached.{Known, Unknown}
use Rattle.solve.specs.Equations.{padded, Solution, OneValue}
use Rattle.solve.specs.Solved.{Solved}

-- octets for the first places, zeros for all others
abbrev pub given : List (List ℕ) → ℕ → List ℕ
given octets p = padded (get_or octets p [])

-- every message of a list, and every place: the first, and those after it
pub none_of : {A : Type 0} (P : A → Type 0) → (a : A) → Among a [] → P a
none_of P a m = absurd (Memᴰ.not-nil m)

pub each : {A : Type 0} (P : A → Type 0) (first : A) (more : List A) → P first → ((a : A) → Among a more → P a)
    → (a : A) → Among a (first ∷ more) → P a
each P first more now rest a m = ⊎_elim (λ same. subst P (sym same) now) (rest a) (Memᴰ.cases_cons m)

abbrev pub Satisfied : List (List ℕ) → Message → Type 0
Satisfied octets message = exclusive_or packet_limit (map (given octets) message.members) ≡ padded message.octets

abbrev pub Within : Message → Type 0
Within message = (q : ℕ) → Among q message.members → q < mask_places

abbrev pub Small : ℕ → Type 0
Small q = q < mask_places

-- what a case says of an unknown number: it has one value, the given one; or it has not, and stays
abbrev pub Told : List Cell → List Message → List Cell → (ℕ → List ℕ) → ℕ → Type 0
Told cells messages after x p =
    ((cell_at after p ≡ filled_cell 0 repaired (x p)) × OneValue cells messages p)
    ⊎ ((cell_at after p ≡ cell_at cells p) × (OneValue cells messages p → ⊥))

pub solved-by : (cells : List Cell) (messages : List Message) (after : List Cell) (x : ℕ → List ℕ) → Solution cells messages x
    → length after ≡ length cells → ((p : ℕ) → Known cells p → cell_at after p ≡ cell_at cells p)
    → ((p : ℕ) → Unknown cells p → Told cells messages after x p) → Solved cells messages after
solved-by cells messages after x sx size kept told =
    record {
      some = (x, sx);
      size = size;
      kept = kept;
      filled = λ p unknown one y sy.
          ⊎_elim (λ t. t.0 ∙ ap (filled_cell 0 repaired) (one x y sx sy)) (λ t. absurd (t.1 one)) (told p unknown);
      left = λ p unknown none. ⊎_elim (λ t. absurd (none t.1)) (λ t. t.0) (told p unknown);
    }

-- two values that differ in the first octet
pub two-differ : (cells : List Cell) (messages : List Message) (x y : ℕ → List ℕ) (p : ℕ) → Solution cells messages x
    → Solution cells messages y → (get_or (x p) 0 0 ≡ get_or (y p) 0 0 → ⊥) → OneValue cells messages p → ⊥
two-differ cells messages x y p sx sy differ one = differ (ap (λ (l : List ℕ). get_or l 0 0) (one x y sx sy))
