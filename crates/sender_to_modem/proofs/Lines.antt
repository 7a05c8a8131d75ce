-- Laws of a line: how many are lost since the last arrival, and that these are at most k at each arrival of a line that never loses more in
-- a row. Assumes nothing.
use Prim.Native.Nat.{ℕ, zero, suc, ◌+◌, ◌≤◌}
use mathlib.Core.Path.{◌≡◌, refl, sym, ap, ◌∙◌}
use mathlib.Core.Bool.{Bool, true, false, ◌&&◌}
use mathlib.Core.Logic.{◌⊎◌, ⊎_elim}
use mathlib.Core.List.{List, [], ◌∷◌, ◌++◌, append_assoc}
use lib.ListN.{replicate}
use lib.Dec.{leb}
use native.Mathlib.Omega.{arith}
use native.Mathlib.Numerals.{add-one}
use borrow.Author.Tests.{le-leb, leb-true}
use Rattle.octets.proofs.Laws.{and_left, and_right, and_both}
use Rattle.sender_to_modem.specs.Marks.{Mark, arrives, lost, NeverMoreInARow, LastArrives, how_many_arrive, how_many_lost}

-- ---- how many arrive and how many are lost
pub arrive-more : (line : List Mark) → how_many_arrive (line ++ (arrives ∷ [])) ≡ how_many_arrive line + 1
unfolding how_many_arrive
arrive-more [] = refl
arrive-more (arrives ∷ line) = ap (λ (n : ℕ). n + 1) (arrive-more line)
arrive-more (lost ∷ line) = arrive-more line

pub arrive_same : (line : List Mark) → how_many_arrive (line ++ (lost ∷ [])) ≡ how_many_arrive line
unfolding how_many_arrive
arrive_same [] = refl
arrive_same (arrives ∷ line) = ap (λ (n : ℕ). n + 1) (arrive_same line)
arrive_same (lost ∷ line) = arrive_same line

pub lost-more : (line : List Mark) → how_many_lost (line ++ (lost ∷ [])) ≡ how_many_lost line + 1
unfolding how_many_lost
lost-more [] = refl
lost-more (arrives ∷ line) = lost-more line
lost-more (lost ∷ line) = ap (λ (n : ℕ). n + 1) (lost-more line)

pub lost-same : (line : List Mark) → how_many_lost (line ++ (arrives ∷ [])) ≡ how_many_lost line
unfolding how_many_lost
lost-same [] = refl
lost-same (arrives ∷ line) = lost-same line
lost-same (lost ∷ line) = ap (λ (n : ℕ). n + 1) (lost-same line)

-- ---- lost since the last arrival
-- after a line, if n were lost before it
unfoldable pub pending_from : ℕ → List Mark → ℕ
pending_from n [] = n
pending_from n (arrives ∷ line) = pending_from 0 line
pending_from n (lost ∷ line) = pending_from (n + 1) line

abbrev pub pending : List Mark → ℕ
pending line = pending_from 0 line

pending-append : (n : ℕ) (line more : List Mark) → pending_from n (line ++ more) ≡ pending_from (pending_from n line) more
unfolding pending_from
pending-append n [] more = refl
pending-append n (arrives ∷ line) more = pending-append 0 line more
pending-append n (lost ∷ line) more = pending-append (n + 1) line more

pub pending-lost : (line : List Mark) → pending (line ++ (lost ∷ [])) ≡ pending line + 1
unfolding pending_from
pending-lost line = pending-append 0 line (lost ∷ [])

pub pending-arrives : (line : List Mark) → pending (line ++ (arrives ∷ [])) ≡ 0
unfolding pending_from
pending-arrives line = pending-append 0 line (arrives ∷ [])

pending-burst : (n l : ℕ) → pending_from n (replicate l lost) ≡ n + l
unfolding pending_from
pending-burst n zero = omega arith
pending-burst n (suc l) = let rest = pending-burst (n + 1) l in omega arith

-- a burst after an arrival, or at the start
pub pending-after : (line : List Mark) (l : ℕ) → (line ≡ []) ⊎ LastArrives line → pending (line ++ replicate l lost) ≡ l
unfolding pending_from
pending-after line l begins =
    let none : pending line ≡ 0 =
    ⊎_elim (λ (e : line ≡ []). ap pending e) (λ (e : LastArrives line). ap pending e.last ∙ pending-arrives e.before) begins in
    pending-append 0 line (replicate l lost) ∙ ap (λ (n : ℕ). pending_from n (replicate l lost)) none ∙ pending-burst 0 l ∙ omega arith

-- ---- at most k lost at each arrival
unfoldable pub steady_from : ℕ → ℕ → List Mark → Bool
steady_from k n [] = true
steady_from k n (arrives ∷ line) = leb n k && steady_from k 0 line
steady_from k n (lost ∷ line) = steady_from k (n + 1) line

abbrev pub Steady : ℕ → List Mark → Type 0
Steady k line = steady_from k 0 line ≡ true

steady-append : (k n : ℕ) (line more : List Mark)
    → steady_from k n (line ++ more) ≡ (steady_from k n line && steady_from k (pending_from n line) more)
unfolding steady_from pending_from
steady-append k n [] more = refl
steady-append k n (arrives ∷ line) more =
    ap (λ (b : Bool). leb n k && b) (steady-append k 0 line more)
    ∙ sym (and_assoc (leb n k) (steady_from k 0 line) (steady_from k (pending_from 0 line) more))
  where
    and_assoc : (a b c : Bool) → ((a && b) && c) ≡ (a && (b && c))
    and_assoc true b c = refl
    and_assoc false b c = refl
steady-append k n (lost ∷ line) more = steady-append k (n + 1) line more

-- so it was before the last one
pub steady-before : (k : ℕ) (line : List Mark) (m : Mark) → Steady k (line ++ (m ∷ [])) → Steady k line
steady-before k line m e = and_left (steady_from k 0 line) _ (sym (steady-append k 0 line (m ∷ [])) ∙ e)

pub steady-arrival : (k : ℕ) (line : List Mark) → Steady k (line ++ (arrives ∷ [])) → pending line ≤ k
unfolding steady_from
steady-arrival k line e =
    leb-true (pending line) k
    (and_left (leb (pending line) k) true
    (and_right (steady_from k 0 line) _ (sym (steady-append k 0 line (arrives ∷ [])) ∙ e)))

steady-burst : (k n l : ℕ) → steady_from k n (replicate l lost) ≡ true
unfolding steady_from
steady-burst k n zero = refl
steady-burst k n (suc l) = steady-burst k (n + 1) l

pub steady-after : (k : ℕ) (line : List Mark) (l : ℕ) → Steady k line → Steady k (line ++ replicate l lost)
steady-after k line l e = steady-append k 0 line (replicate l lost) ∙ and_both e (steady-burst k (pending line) l)

-- ---- a line that never loses more than k in a row is such a line
one_more : (n : ℕ) (line : List Mark) → replicate n lost ++ (lost ∷ line) ≡ replicate (n + 1) lost ++ line
one_more zero line = refl
one_more (suc n) line = rw add-one (ap (λ (l : List Mark). lost ∷ l) (one_more n line ∙ rw add-one))

few-steady : (k n : ℕ) (line : List Mark) → NeverMoreInARow k (replicate n lost ++ line) → steady_from k n line ≡ true
unfolding steady_from
few-steady k n [] few = refl
few-steady k n (arrives ∷ line) few =
    and_both (le-leb n k (few.few [] (arrives ∷ line) n refl))
    (few-steady k 0 line
    (record {
      few = λ before after m e.
          few.few (replicate n lost ++ (arrives ∷ before)) after m
          (ap (λ (l : List Mark). replicate n lost ++ (arrives ∷ l)) e
          ∙ sym (append_assoc (replicate n lost) (arrives ∷ before) (replicate m lost ++ after)));
    }))
few-steady k n (lost ∷ line) few =
    few-steady k (n + 1) line (record { few = λ before after m e. few.few before after m (one_more n line ∙ e) })

pub steady : (k : ℕ) (line : List Mark) → NeverMoreInARow k line → Steady k line
steady k line few = few-steady k 0 line few

-- ---- never more in a row than are lost at all
lost-append : (line more : List Mark) → how_many_lost (line ++ more) ≡ how_many_lost line + how_many_lost more
unfolding how_many_lost
lost-append [] more = omega arith
lost-append (arrives ∷ line) more = lost-append line more
lost-append (lost ∷ line) more = let rest = lost-append line more in omega arith

lost-burst : (n : ℕ) → how_many_lost (replicate n lost) ≡ n
unfolding how_many_lost
lost-burst zero = refl
lost-burst (suc n) = let rest = lost-burst n in omega arith

pub few-lost : (k : ℕ) (line : List Mark) → how_many_lost line ≤ k → NeverMoreInARow k line
few-lost k line few =
    record {
      few = λ before after n e.
          omega (
            arith,
            ap how_many_lost e,
            lost-append before (replicate n lost ++ after),
            lost-append (replicate n lost) after,
            lost-burst n,
          );
    }
