-- The lines of a trace, taken off its front one by one. Assumes nothing.
use Prim.Native.Nat.{ℕ, zero, suc, ◌+◌, ◌≤◌, ◌<◌}
use mathlib.Core.Path.{◌≡◌, refl, sym, ap, ◌∙◌}
use mathlib.Core.Bool.{Bool, cond}
use mathlib.Core.List.{List, [], ◌∷◌, ◌++◌, append_assoc, append-nil}
use lib.ListN.{length, get_or, take, drop}
use lib.Seq.{split_at, take_all, length-take-le, get_or-take}
use native.Mathlib.Numerals.{add-one}
use native.Mathlib.Omega.{arith}
use borrow.Author.Tests.{eq-eqb, ne_eqb}
use Rattle.line.specs.Lines.{line_feed, last_line, lines_from}
use Rattle.line.specs.FeedPromise.{Begun, Found}
use Rattle.line.proofs.Laws.{NoFeed, past-plain, past-line}

-- ---- in the words of a search for a line feed
plain-front : (s : List ℕ) (stop : ℕ) → Begun s stop → NoFeed (take stop s) (length (take stop s))
plain-front s stop b k below e =
    let size = length-take-le stop s b.inside in
    b.plain k (omega arith) (sym (get_or-take stop s k 0 (omega arith)) ∙ e)

pub lines_none : lines_from [] [] ≡ []
unfolding lines_from
lines_none = refl

pub lines-first : {s : List ℕ} {stop : ℕ} → Found s stop → stop < length s
    → lines_from [] s ≡ take stop s ∷ lines_from [] (drop (stop + 1) s)
lines-first {s} {stop} f inside =
    ap (lines_from []) (split_at s stop 0 inside)
    ∙ ap (λ (c : ℕ). lines_from [] (take stop s ++ c ∷ drop (suc stop) s)) (f.feed inside)
    ∙ past-line (take stop s) (drop (suc stop) s) (plain-front s stop f.begun)
    ∙ ap (λ (n : ℕ). take stop s ∷ lines_from [] (drop n s)) (sym (add-one stop))

last_of : (s : List ℕ) → 1 ≤ length s → last_line s ≡ s ∷ []
last_of [] some = absurd (omega (arith, some))
last_of (c ∷ s) some = refl

pub lines-last : {s : List ℕ} {stop : ℕ} → Found s stop → length s ≤ stop → 1 ≤ length s → lines_from [] s ≡ take stop s ∷ []
unfolding lines_from
lines-last {s} {stop} f past some =
    let all : take stop s ≡ s = take_all stop s past in
    let plain : NoFeed s (length s) = λ k below e. f.begun.plain k (omega arith) e in
    ap (lines_from []) (sym (append-nil s))
    ∙ past-plain [] s [] plain
    ∙ last_of s some
    ∙ ap (λ (l : List ℕ). l ∷ []) (sym all)
