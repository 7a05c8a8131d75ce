-- Text laid into the lent buffer, if it is to be written: one text after the other. Assumes nothing.
use Prim.Native.Nat.{ℕ, ◌+◌, ◌-◌, ◌≤◌}
use mathlib.Core.Path.{◌≡◌, refl, sym, ap, ◌∙◌}
use mathlib.Core.Bool.{Bool, true, false, false≢true}
use mathlib.Core.List.{List, [], ◌++◌, append_assoc}
use mathlib.Core.Logic.{⊎_elim}
use lib.ListN.{length, take, drop, length-append}
use lib.Seq.{drop-drop}
use native.Mathlib.Omega.{arith}
use borrow.Rule.Slice.PartMut.{mid_of, put_mid}
use Rattle.octets.proofs.Laws.{true-or-false}
use Rattle.length.specs.Promise.{Put}
use Rattle.length.proofs.Laws.{rest_of, rest_put}
use Rattle.line.specs.Promise.{Appends}
use Rattle.line.proofs.Laws.{appends-none, appends-then, appends-long}
use Rattle.trace_replay_code.specs.Inner.{Lays}

-- octets put into the part behind a place
put-appends : {text out part : List ℕ} {at n : ℕ} → at + length text ≤ length out → Put text (mid_of at (length out - at) out) part n
    → Appends text out at (put_mid at (length out - at) out part) (at + n)
put-appends {text} {out} {part} {at} {n} room p =
    let rest : mid_of at (length out - at) out ≡ drop at out = rest_of out at in
    record {
      lent =
          rest_put out part at
          ∙ ap (λ (l : List ℕ). take at out ++ l)
          (p.lent
          ∙ ap (λ (l : List ℕ). text ++ drop (length text) l) rest
          ∙ ap (λ (l : List ℕ). text ++ l) (drop-drop (length text) at out))
          ∙ sym (append_assoc (take at out) text (drop (at + length text) out));
      after = ap (λ (k : ℕ). at + k) p.answer;
      fits = room;
    }

pub lays-written : {writes : Bool} {text out part : List ℕ} {at n : ℕ} → writes ≡ true → at + length text ≤ length out
    → Put text (mid_of at (length out - at) out) part n
    → Lays writes text out at (put_mid at (length out - at) out part) (at + n)
lays-written {at = at} is room p =
    record {
      written = λ so. put-appends room p;
      unwritten = λ not. absurd (false≢true (sym not ∙ is));
      after = ap (λ (k : ℕ). at + k) p.answer;
    }

pub lays-unwritten : {writes : Bool} {text out : List ℕ} {at : ℕ} → writes ≡ false → Lays writes text out at out (at + length text)
lays-unwritten is = record { written = λ so. absurd (false≢true (sym is ∙ so)); unwritten = λ not. refl; after = refl }

pub lays-none : (writes : Bool) (out : List ℕ) → Lays writes [] out 0 out 0
lays-none writes out = record { written = λ so. appends-none (omega arith); unwritten = λ not. refl; after = refl }

module _ {writes : Bool} {text old : List ℕ} {at : ℕ} {new : List ℕ} {end : ℕ} (a : Lays writes text old at new end) where
  pub lays-long : length new ≡ length old
  lays-long =
      ⊎_elim (λ so. appends-long (a.written so)) (λ not. ap length (a.unwritten not)) (true-or-false writes)

  pub lays-then : {more newer : List ℕ} {later : ℕ} → Lays writes more new end newer later → Lays writes (text ++ more) old at newer later
  lays-then {more} b =
      record {
        written = λ so. appends-then (a.written so) (b.written so);
        unwritten = λ not. b.unwritten not ∙ a.unwritten not;
        after = omega (arith, a.after, b.after, length-append text more);
      }
