-- Laws of a joiner as it is held. Assumes nothing.
use Prim.Native.Nat.{ℕ, ◌+◌, ◌-◌, ◌≤◌, ◌<◌}
use mathlib.Core.Path.{◌≡◌, refl, sym, ap, ap₂, ◌∙◌}
use mathlib.Core.Bool.{Bool, true, false, not, cond, ◌&&◌, ◌||◌}
use mathlib.Core.List.{List, [], ◌++◌}
use mathlib.Core.Logic.{⊎_elim}
use lib.ListN.{length, get_or, take, replicate, length-append, length-replicate, get_or-replicate, get_or-eq_default}
use lib.Seq.{get_or-append-add, take-append_seam}
use lib.Dec.{leb, ltb, eqb}
use native.Mathlib.Omega.{arith}
use borrow.Author.Tests.{le-leb, le-ltb, lt-ltb, eq-eqb}
use Rattle.octets.specs.Place.{all_below}
use Rattle.octets.proofs.Laws.{all_below-of}
use Rattle.octets.proofs.Laws.{below_or_not, or-true}
use Rattle.frame.specs.Frame.{frame_limit, Joining, tainted, opened}
use Rattle.frame.specs.Joiner.{in_storage, held_as, joining_of, zeros_after, ranges_of, joiner_in_ranges}

-- ---- a frame and zeros
pub laid_none : in_storage [] ≡ replicate frame_limit 0
unfolding in_storage
laid_none = refl

pub length-laid : (frame : List ℕ) → length frame ≤ frame_limit → length (in_storage frame) ≡ frame_limit
unfolding in_storage
length-laid frame fits =
    length-append frame (replicate (frame_limit - length frame) 0)
    ∙ ap (λ (n : ℕ). length frame + n) (length-replicate {A = ℕ} (frame_limit - length frame) 0)
    ∙ omega arith

pub take-laid : (frame : List ℕ) → take (length frame) (in_storage frame) ≡ frame
unfolding in_storage
take-laid frame = take-append_seam frame (replicate (frame_limit - length frame) 0)

-- past the frame there are zeros
pub laid-past : (frame : List ℕ) (k : ℕ) → length frame ≤ k → get_or (in_storage frame) k 0 ≡ 0
unfolding in_storage
laid-past frame k past =
    let e : k ≡ length frame + (k - length frame) = omega arith in
    ap (λ (n : ℕ). get_or (in_storage frame) n 0) e
    ∙ get_or-append-add frame (replicate (frame_limit - length frame) 0) (k - length frame) 0
    ∙ zero (k - length frame)
  where
    zero : (n : ℕ) → get_or {A = ℕ} (replicate (frame_limit - length frame) 0) n 0 ≡ 0
    zero n =
        ⊎_elim (λ below. get_or-replicate (frame_limit - length frame) n 0 0 below)
        (λ over.
        get_or-eq_default (replicate (frame_limit - length frame) 0) 0
        (rw (length-replicate {A = ℕ} (frame_limit - length frame) 0) over))
        (below_or_not n (frame_limit - length frame))

-- ---- within the ranges
zeros-laid : (frame : List ℕ) → zeros_after (in_storage frame) (length frame) ≡ true
unfolding zeros_after
zeros-laid frame =
    all_below-of frame_limit _
    (λ k small.
    ⊎_elim (λ below. rw (lt-ltb k (length frame) below))
    (λ past. rw (le-ltb k (length frame) past, laid-past frame k past))
    (below_or_not k (length frame)))

-- what is kept fits the storage
abbrev pub Fitting : Joining → Type 0
Fitting tainted = ℕ
Fitting (opened frame) = length frame ≤ frame_limit

-- what is kept is held within the ranges, and can be told from how it is held
pub held-ranges : (v : Joining) → Fitting v → joiner_in_ranges (held_as v) ≡ true
unfolding ranges_of
held-ranges tainted fits = zeros-laid []
held-ranges (opened frame) fits = rw (le-leb (length frame) frame_limit fits) (zeros-laid frame)

pub held-joining : (v : Joining) → joining_of (held_as v) ≡ v
unfolding joining_of
held-joining tainted = refl
held-joining (opened frame) = ap opened (take-laid frame)
