-- A fresh session has no packet and no message, so every image version can hold it. Assumes nothing.
use Prim.Native.Nat.{ℕ}
use mathlib.Core.Path.{◌≡◌, refl, sym, subst}
use mathlib.Core.Bool.{true}
use lib.ListN.{length}
use lib.Dec.{eqb}
use native.Mathlib.Omega.{arith}
use borrow.Author.Tests.{eqb-true}
use Rattle.octets.specs.Place.{all_below}
use Rattle.octets.proofs.Laws.{all_below-at}
use Rattle.session.specs.Cells.{cell_at, kept_ahead, kept_numbers}
use Rattle.session.specs.Held.{held_at}
use Rattle.session.specs.View.{View, fresh_view}
use Rattle.session_held.specs.Table.{lent_by}
use Rattle.session_held.specs.Promise.{Fresh}
use Rattle.session_held.specs.declared.Session.{Session}
use Rattle.image.specs.Layout.{ImageVersion}
use Rattle.image.specs.Image.{LentOctets}
use Rattle.image.specs.Claims.{Short}
use Rattle.demands.specs.Requests.Editions.{HeldBy}

no-packet : all_below kept_numbers (λ p. eqb (length (cell_at fresh_view.cells p).octets) 0) ≡ true
unfolding all_below fresh_view
no-packet = refl

no-message : all_below kept_ahead (λ d. eqb (length (held_at fresh_view.held d).messages) 0) ≡ true
unfolding all_below fresh_view
no-message = refl

fresh-short : (limit : ℕ) → Short limit fresh_view
fresh-short limit =
    record {
      packet = λ p low.
          let none : length (cell_at fresh_view.cells p).octets ≡ 0 =
          eqb-true (length (cell_at fresh_view.cells p).octets) 0
          (all_below-at kept_numbers (λ p. eqb (length (cell_at fresh_view.cells p).octets) 0) no-packet p low) in
          omega arith;
      message = λ d low i inside.
          let none : length (held_at fresh_view.held d).messages ≡ 0 =
          eqb-true (length (held_at fresh_view.held d).messages) 0
          (all_below-at kept_ahead (λ d. eqb (length (held_at fresh_view.held d).messages) 0) no-message d low) in
          absurd (omega arith);
    }

pub fresh-held : (version : ImageVersion) (s : Session) → Fresh s → LentOctets (lent_by s) → HeldBy version s
fresh-held version s f lent =
    record {
      saved = record { sized = f.sized; in_ranges = f.ranges };
      lent = lent;
      short = subst (λ (view : View). Short version.limit view) (sym f.view) (fresh-short version.limit);
    }
