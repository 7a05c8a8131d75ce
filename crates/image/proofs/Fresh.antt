-- A fresh session meets what the claims require, so its image reads back. Assumes nothing.
use Prim.Native.Nat.{ℕ, ◌≤◌, ◌<◌}
use mathlib.Core.Path.{◌≡◌, refl, sym, ap, ◌∙◌}
use mathlib.Core.Bool.{true}
use mathlib.Core.List.{List, [], ◌∷◌}
use lib.ListN.{length, get_or}
use lib.Dec.{eqb}
use native.Mathlib.Omega.{arith}
use borrow.Author.Tests.{eqb-true}
use Rattle.octets.specs.Place.{all_below}
use Rattle.octets.proofs.Laws.{all_below-at}
use Rattle.length.specs.Claims.{Octets}
use Rattle.session.specs.Cells.{cell_at, kept_numbers, kept_ahead}
use Rattle.session.specs.Held.{held_at}
use Rattle.session.specs.View.{fresh_view}
use Rattle.session.proofs.Laws.{fresh-sound}
use Rattle.image.specs.Image.{read_text, OfOctets}
use Rattle.image.specs.Claims.{Short, FreshImage}
use Rattle.image.proofs.Cases.{cases}
use Rattle.image.proofs.Editions.{editions}

-- ---- no number of it has octets, a note or messages: computed
all-empty : all_below 64 (λ p. eqb (length (cell_at fresh_view.cells p).octets) 0) ≡ true
unfolding fresh_view all_below
all-empty = refl

all_noted : all_below 64 (λ p. eqb (cell_at fresh_view.cells p).note 0) ≡ true
unfolding fresh_view all_below
all_noted = refl

all-unheld : all_below 32 (λ d. eqb (length (held_at fresh_view.held d).messages) 0) ≡ true
unfolding fresh_view all_below
all-unheld = refl

empty : (p : ℕ) → p < kept_numbers → length (cell_at fresh_view.cells p).octets ≡ 0
empty p low = eqb-true _ 0 (all_below-at 64 (λ p. eqb (length (cell_at fresh_view.cells p).octets) 0) all-empty p low)

noted : (p : ℕ) → p < kept_numbers → (cell_at fresh_view.cells p).note ≡ 0
noted p low = eqb-true _ 0 (all_below-at 64 (λ p. eqb (cell_at fresh_view.cells p).note 0) all_noted p low)

unheld : (d : ℕ) → d < kept_ahead → length (held_at fresh_view.held d).messages ≡ 0
unheld d low = eqb-true _ 0 (all_below-at 32 (λ d. eqb (length (held_at fresh_view.held d).messages) 0) all-unheld d low)

no-octets : (l : List ℕ) → length l ≡ 0 → Octets l
no-octets [] none i = omega arith
no-octets (x ∷ l) none i = absurd (omega arith)

of-octets : OfOctets fresh_view
of-octets =
    record {
      note = λ p low. omega (arith, noted p low);
      packet = λ p low. no-octets (cell_at fresh_view.cells p).octets (empty p low);
      message = λ d low i few. absurd (omega (arith, unheld d low, few));
    }

short : Short 160 fresh_view
short =
    record {
      packet = λ p low. omega (arith, empty p low);
      message = λ d low i few. absurd (omega (arith, unheld d low, few));
    }

pub fresh-image : FreshImage
fresh-image =
    let both = editions.same fresh_view fresh-sound of-octets short in
    record {
      sound = fresh-sound;
      octets = of-octets;
      short = short;
      reads = ap read_text (sym cases.written.fresh) ∙ both.1;
      reads-01 = ap read_text (sym cases.written.fresh-01) ∙ both.0;
    }
