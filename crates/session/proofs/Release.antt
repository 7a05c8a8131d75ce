-- A release that is not refused, taken apart: what every test said, and that the number at the base left as it stood there. Assumes
-- nothing.
use Prim.Native.Nat.{ℕ, ◌≤◌, ◌<◌}
use mathlib.Core.Path.{◌≡◌, sym, ap}
use mathlib.Core.Bool.{Bool, false, not, ◌&&◌}
use lib.ListN.{length}
use lib.Dec.{leb, ltb}
use native.Mathlib.Omega.{arith}
use borrow.Author.Tests.{leb-false, ltb-false}
use Rattle.length.specs.Refusals.{base_unknown, no_room, all_passed}
use Rattle.length.specs.Answers.{done}
use Rattle.length.proofs.Laws.{cond-done, done-same}
use Rattle.session.specs.Cells.{unknown_at, kept_before}
use Rattle.session.specs.View.{View, sum, session_limit}
use Rattle.session.specs.Release.{Release, at_base, moved_on, release}

pub record Leaves (leave : Bool) (room : ℕ) (view : View) (r : Release) : Type 0 where
  pub some : sum view.counts < session_limit
  pub may : (unknown_at view.cells kept_before && not leave) ≡ false
  pub fits : length r.octets ≤ room
  pub kind : r.kind ≡ (at_base view).state
  pub number : r.number ≡ view.base
  pub note : r.note ≡ (at_base view).note
  pub octets : r.octets ≡ (at_base view).octets
  pub after : r.after ≡ moved_on view

pub release-leaves : (leave : Bool) (room : ℕ) (view : View) (r : Release) → release leave room view ≡ done r → Leaves leave room view r
unfolding release
release-leaves leave room view r e =
    let size = length (at_base view).octets in
    let some = cond-done (leb session_limit (sum view.counts)) all_passed _ r e in
    let may = cond-done (unknown_at view.cells kept_before && not leave) base_unknown _ r some.1 in
    let fits = cond-done (ltb room size) no_room _ r may.1 in
    let same = sym (done-same fits.1) in
    let octets = ap (λ (x : Release). x.octets) same in
    record {
      some = leb-false session_limit (sum view.counts) some.0;
      may = may.0;
      fits = omega (arith, ap length octets, ltb-false room size fits.0);
      kind = ap (λ (x : Release). x.kind) same;
      number = ap (λ (x : Release). x.number) same;
      note = ap (λ (x : Release). x.note) same;
      octets = octets;
      after = ap (λ (x : Release). x.after) same;
    }
