-- A frame in the storage, on plain values: what the ranges say of it, how they are checked, and the storage cleared. Assumes nothing.
use Prim.Native.Nat.{ℕ, ◌+◌, ◌-◌, ◌≤◌, ◌<◌}
use mathlib.Core.Path.{◌≡◌, sym, ap, ap₂, ◌∙◌}
use mathlib.Core.Bool.{Bool, true, false, not, ◌&&◌, ◌||◌}
use mathlib.Core.List.{List, [], ◌++◌}
use mathlib.Core.Logic.{⊎_elim}
use lib.ListN.{length, get_or, take, drop, replicate, get_or-append}
use lib.ListN.{replicate-append-replicate}
use lib.Seq.{ext_get_or, length-take-le, get_or-take, drop_at}
use lib.Dec.{leb, ltb, eqb}
use native.Mathlib.Omega.{arith}
use borrow.Author.Tests.{leb-true, le-leb, lt-leb, le-ltb, eqb-true}
use Rattle.octets.specs.Place.{all_below}
use Rattle.octets.proofs.Laws.{all_below-at}
use Rattle.octets.proofs.Laws.{below_or_not, and_left, and_right}
use Rattle.session_slots.specs.Store.{zeros, zeros_from}
use Rattle.frame.specs.Frame.{frame_limit}
use Rattle.frame.specs.Joiner.{in_storage, zeros_after, ranges_of}
use Rattle.frame.proofs.Laws.{laid_none, length-laid, take-laid, laid-past}
use Rattle.frame_joiner.specs.Inner.{LaidOut}

-- ---- what lies in the storage
module _ {size : ℕ} {storage : List ℕ} (l : LaidOut size storage) where
  pub length-open : length (take size storage) ≡ size
  length-open = length-take-le size storage (omega (arith, l.few, l.long))

  pub drop-open : drop size storage ≡ replicate (frame_limit - size) 0
  unfolding in_storage
  drop-open =
      ap (λ (s : List ℕ). drop size s) l.clean
      ∙ drop_at (take size storage) (replicate (frame_limit - length (take size storage)) 0) size length-open
      ∙ ap (λ (n : ℕ). replicate (frame_limit - n) 0) length-open

pub laid_out : (frame : List ℕ) → length frame ≤ frame_limit → LaidOut (length frame) (in_storage frame)
laid_out frame fits = record { few = fits; long = length-laid frame fits; clean = ap in_storage (sym (take-laid frame)) }

-- ---- the storage cleared: its front by the call, the rest was zero
pub storage-cleared : {size : ℕ} {storage run : List ℕ} → LaidOut size storage → run ≡ zeros (length (take size storage))
    → run ++ drop size storage ≡ in_storage []
unfolding zeros
storage-cleared {size} {storage} l told =
    let whole : size + (frame_limit - size) ≡ frame_limit = omega (arith, l.few) in
    ap₂ (λ (a b : List ℕ). a ++ b) (told ∙ ap (λ (n : ℕ). replicate n 0) (length-open l)) (drop-open l)
    ∙ replicate-append-replicate size (frame_limit - size) 0
    ∙ ap (λ (n : ℕ). replicate n 0) whole
    ∙ sym laid_none

-- ---- the ranges
abbrev right : List ℕ → ℕ → ℕ → Bool
right storage size k = ltb k size || eqb (get_or storage k 0) 0

-- over 300 octets
pub over-ranges : (taint : Bool) (size : ℕ) (storage : List ℕ) → frame_limit < size → false ≡ ranges_of taint size storage
unfolding ranges_of
over-ranges taint size storage over = rw (lt-leb size frame_limit over)

-- as they are checked
pub ranges-checked : (taint : Bool) (size : ℕ) (storage : List ℕ) {clean : Bool} → length storage ≡ frame_limit → size ≤ frame_limit
    → clean ≡ zeros_from storage size → ((not taint || eqb size 0) && clean) ≡ ranges_of taint size storage
unfolding ranges_of zeros_after zeros_from
ranges-checked taint size storage {clean} long few told =
    rw (le-leb size frame_limit few, told) (ap (λ (n : ℕ). (not taint || eqb size 0) && all_below n (right storage size)) long)

-- within them a frame lies in the storage
pub in-ranges-laid : (taint : Bool) (size : ℕ) (storage : List ℕ) → ranges_of taint size storage ≡ true → length storage ≡ frame_limit
    → LaidOut size storage
unfolding ranges_of zeros_after in_storage
in-ranges-laid taint size storage ok long =
    let first = and_left (leb size frame_limit && (not taint || eqb size 0)) _ ok in
    let few = leb-true size frame_limit (and_left (leb size frame_limit) _ first) in
    let zeros = and_right (leb size frame_limit && (not taint || eqb size 0)) _ ok in
    let there : length (take size storage) ≡ size = length-take-le size storage (omega arith) in
    let whole : length (in_storage (take size storage)) ≡ frame_limit = length-laid (take size storage) (omega arith) in
    record {
      few = few;
      long = long;
      clean =
          ext_get_or 0 storage (in_storage (take size storage)) (long ∙ sym whole)
          (λ i below.
          ⊎_elim (λ low. inside there i low)
          (λ past.
          eqb-true (get_or storage i 0) 0
          (rw (le-ltb i size past) at (all_below-at frame_limit (right storage size) zeros i (omega arith)))
          ∙ sym (laid-past (take size storage) i (omega arith)))
          (below_or_not i size));
    }
  where
    inside : length (take size storage) ≡ size → (i : ℕ) → i < size → get_or storage i 0 ≡ get_or (in_storage (take size storage)) i 0
    inside there i low =
        sym
        (get_or-append (take size storage) (replicate (frame_limit - length (take size storage)) 0) 0 i (omega arith)
        ∙ get_or-take size storage i 0 low)
