-- The edition that a text names: its first two characters, by how many upper-case digits stand at its front. Assumes nothing.
use Rattle.std.proofs.Common.{◌≡◌, ℕ, zero, suc, ◌/◌, ◌<◌, ◌≤◌, true, List, [], ◌∷◌, ◌++◌, Some, None, length, get_or, take, drop, refl, arith}
use Rattle.octets.specs.Place.{tab, all_below}
use Rattle.length.specs.Claims.{Octets}
use Rattle.line.specs.Hex.{all_digits, octets_in}
use Rattle.image.specs.Image.{names_edition, edition_named}
use Rattle.image_reader.specs.Text.{UpperRun, EditionTold}
use Rattle.image_reader.proofs.Digits.{upper-digit}

-- fewer than two
none-at : (text : List ℕ) (stop : ℕ) → UpperRun text stop → stop < 2 → EditionTold text None
unfolding names_edition
none-at [] stop run few = record { told = refl }
none-at (high ∷ []) stop run few = record { told = refl }
none-at (high ∷ low ∷ text) zero run few = record { told = rw (run.end (omega arith)) }
none-at (high ∷ low ∷ text) (suc zero) run few = record { told = rw (run.to.digits 0 (omega arith), run.end (omega arith)) }
none-at (high ∷ low ∷ text) (suc (suc stop)) run few = absurd (omega arith)

pub none_named : {text : List ℕ} {stop : ℕ} → UpperRun text stop → stop < 2 → EditionTold text None
none_named {text} {stop} run few = none-at text stop run few

-- two or more
pub two_digits : (text : List ℕ) {stop : ℕ} → UpperRun text stop → 2 ≤ stop → Octets text → all_digits (take 2 text) ≡ true
unfolding all_digits all_below
two_digits [] run many small = absurd (omega (arith, run.to.inside))
two_digits (high ∷ []) run many small = absurd (omega (arith, run.to.inside))
two_digits (high ∷ low ∷ text) run many small =
    rw (upper-digit high (small 0) (run.to.digits 0 (omega arith)), upper-digit low (small 1) (run.to.digits 1 (omega arith)))

octet-at : (text : List ℕ) {stop : ℕ} {new : List ℕ} → UpperRun text stop → 2 ≤ stop
    → new ≡ octets_in (take 2 text) ++ drop (length (take 2 text) / 2) (0 ∷ [])
    → EditionTold text (Some (get_or new 0 0))
unfolding names_edition edition_named octets_in tab
octet-at [] run many e = absurd (omega (arith, run.to.inside))
octet-at (high ∷ []) run many e = absurd (omega (arith, run.to.inside))
octet-at (high ∷ low ∷ text) run many e =
    record { told = (rw (run.to.digits 0 (omega arith), run.to.digits 1 (omega arith)), rw e) }

pub octet-named : {text : List ℕ} {stop : ℕ} {new : List ℕ} → UpperRun text stop → 2 ≤ stop
    → new ≡ octets_in (take 2 text) ++ drop (length (take 2 text) / 2) (0 ∷ [])
    → EditionTold text (Some (get_or new 0 0))
octet-named {text} run many e = octet-at text run many e

pub ruleset namings = (none_named, octet-named)
