-- The numbers of lines and the places where they begin, one line more. Assumes nothing.
use Prim.Native.Nat.{ℕ, zero, suc, ◌+◌, ◌<◌}
use mathlib.Core.Path.{◌≡◌, refl, sym, ap, ◌∙◌}
use mathlib.Core.List.{List, [], ◌∷◌, ◌++◌, map-append}
use mathlib.Core.Logic.{◌⊎◌, inl, inr, ⊎_elim}
use mathlib.Core.Option.{some}
use lib.ListN.{length, get_or, get_elem?, take, set, length-append, length-set}
use lib.Seq.{take-suc-set, get_or-set_same, get_or-set_other}
use native.Mathlib.Numerals.{add-one}
use native.Mathlib.Omega.{arith}
use Rattle.trace_compare.specs.Pairing.{TraceLine, number_of_line}
use Rattle.trace_compare_code.specs.Lines.{Stands, KeptTrace}

-- the k-th of some lines with one behind them
kth-snoc : (lines : List TraceLine) (l m : TraceLine) (k : ℕ) → get_elem? (lines ++ (l ∷ [])) k ≡ some m
    → ((k < length lines) × (get_elem? lines k ≡ some m)) ⊎ ((k ≡ length lines) × (l ≡ m))
kth-snoc [] l m zero e = let same : l ≡ m = cc in inr (refl, same)
kth-snoc [] l m (suc k) e = let z : ◌≡◌ {A = ℕ} 0 1 = cc in absurd (omega arith)
kth-snoc (x ∷ lines) l m zero e = inl (omega arith, e)
kth-snoc (x ∷ lines) l m (suc k) e =
    ⊎_elim (λ before. inl (omega (arith, before.0), before.1)) (λ there. inr (ap suc there.0, there.1)) (kth-snoc lines l m k e)

pub kept-none : (trace numbers starts : List ℕ) → KeptTrace trace [] (take 0 numbers) starts
kept-none trace numbers starts =
    record {
      each = refl;
      places = λ k l e. let z : ◌≡◌ {A = ℕ} 0 1 = cc in absurd (omega arith);
      room = omega arith;
    }

module _ {trace : List ℕ} {lines : List TraceLine} (numbers : List ℕ) {starts : List ℕ} (count : ℕ)
    (kept : KeptTrace trace lines (take count numbers) starts) (counted : length lines ≡ count) where
  pub kept_more : (l : TraceLine) (at : ℕ) → count < length numbers → count < length starts → Stands trace at l
      → KeptTrace trace (lines ++ (l ∷ [])) (take (count + 1) (set numbers count (number_of_line l))) (set starts count at)
  kept_more l at number place stands =
      record {
        each =
            ap (λ (n : ℕ). take n (set numbers count (number_of_line l))) (add-one count)
            ∙ take-suc-set numbers count (number_of_line l) number
            ∙ ap (λ (f : List ℕ). f ++ (number_of_line l ∷ [])) kept.each
            ∙ sym (map-append number_of_line lines (l ∷ []));
        places = λ k m e.
            ⊎_elim
            (λ before.
            rw (get_or-set_other starts count k at 0 (λ same. absurd (omega (arith, before.0)))) (kept.places k m before.1))
            (λ there.
            let here : k ≡ count = there.0 ∙ counted in
            let begins : get_or (set starts count at) k 0 ≡ at =
            ap (λ (n : ℕ). get_or (set starts count at) n 0) here ∙ get_or-set_same starts count at 0 place in
            rw begins (rw there.1 at stands))
            (kth-snoc lines l m k e);
        room = omega (arith, length-append lines (l ∷ []), length-set starts count at);
      }
