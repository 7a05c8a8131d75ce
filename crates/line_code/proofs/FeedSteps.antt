-- The search for a line feed, and the line that has begun, on plain values. Assumes nothing.
use Prim.Native.Nat.{ℕ, zero, suc, ◌+◌, ◌-◌, ◌≤◌, ◌<◌, min}
use mathlib.Core.Path.{◌≡◌, refl, sym, ap, ap₂, ◌∙◌}
use mathlib.Core.Bool.{Bool, true, false, not, ◌&&◌}
use mathlib.Core.List.{List, [], ◌∷◌, ◌++◌, append_assoc}
use mathlib.Core.Logic.{⊎_elim}
use lib.ListN.{length, get_or, take, drop}
use lib.Seq.{paste, take-paste, drop-paste, length-paste, take-append-add, length-take-le, take_all, get_or-drop, drop-drop}
use borrow.Rule.Slice.PartMut.{put_mid}
use lib.Dec.{eqb}
use native.Mathlib.Omega.{arith}
use borrow.Author.Count.{below_more}
use borrow.Author.Tests.{eqb-false, eq-eqb, ne_eqb, not-true}
use Rattle.octets.specs.Place.{all_below}
use Rattle.octets.proofs.Laws.{all_below-more, all_below-at, below_or_not}
use Rattle.line.specs.Lines.{line_feed}
use Rattle.line.specs.Feed.{kept_limit}
use Rattle.line.specs.FeedPromise.{looked_at, plain_at, Begun, Found, line_end, LineIn, LineKept}

-- ---- the next characters
pub record Plain (s : List ℕ) (at : ℕ) (plain : Bool) (j : ℕ) : Type 0 where
  pub so : plain ≡ all_below j (plain_at s at)
  pub few : j ≤ looked_at

pub plain-start : (s : List ℕ) (at : ℕ) → Plain s at true 0
unfolding all_below
plain-start s at = record { so = refl; few = omega arith }

pub plain_turn : {s : List ℕ} {at : ℕ} {plain : Bool} {j : ℕ} → Plain s at plain j → j < looked_at
    → Plain s at (plain && not (eqb (get_or s (at + j) 0) 10)) (j + 1)
plain_turn {s} {at} {plain} {j} p more =
    record { so = ap (λ (b : Bool). b && plain_at s at j) p.so ∙ sym (all_below-more j (plain_at s at)); few = omega arith }

pub plain_done : {s : List ℕ} {at : ℕ} {plain : Bool} {j : ℕ} → Plain s at plain j → looked_at ≤ j → plain ≡ all_below looked_at (plain_at s at)
plain_done {s} {at} {plain} {j} p end = p.so ∙ ap (λ (k : ℕ). all_below k (plain_at s at)) (omega (arith, p.few))

-- ---- the search
pub begun-start : (s : List ℕ) → Begun s 0
begun-start s = record { plain = λ k below e. absurd (omega arith); inside = omega arith }

pub begun-turn : {s : List ℕ} {at : ℕ} → Begun s at → at < length s → (get_or s at 0 ≡ 10 → ⊥) → Begun s (at + 1)
begun-turn {s} {at} b more other =
    record { plain = below_more (λ (k : ℕ). get_or s k 0 ≡ line_feed → ⊥) at b.plain other; inside = omega arith }

far : (s : List ℕ) (at : ℕ) → all_below looked_at (plain_at s at) ≡ true → (k : ℕ) → k < at + looked_at → at ≤ k → get_or s k 0 ≡ line_feed → ⊥
far s at all k below past =
    let near : k - at < looked_at = omega arith in
    let place : at + (k - at) ≡ k = omega arith in
    let clear : eqb (get_or s (at + (k - at)) 0) line_feed ≡ false = not-true _ (all_below-at looked_at (plain_at s at) all (k - at) near) in
    rw place at (eqb-false (get_or s (at + (k - at)) 0) line_feed clear)

pub begun-far : {s : List ℕ} {at : ℕ} {plain : Bool} → Begun s at → looked_at ≤ length s - at → plain ≡ all_below looked_at (plain_at s at)
    → plain ≡ true → Begun s (at + looked_at)
begun-far {s} {at} {plain} b room told yet =
    record {
      plain =
          λ k below.
          ⊎_elim (λ before. b.plain k before) (λ past. far s at (sym told ∙ yet) k below past) (below_or_not k at);
      inside = omega (arith, b.inside);
    }

pub found-feed : {s : List ℕ} {at : ℕ} → Begun s at → get_or s at 0 ≡ 10 → Found s at
found-feed b e = record { begun = b; feed = λ inside. e }

pub found-end : {s : List ℕ} {at : ℕ} → Begun s at → length s ≤ at → Found s at
found-end b past = record { begun = b; feed = λ inside. absurd (omega arith) }

-- ---- the place after the first line feed
line_end-other : (c : ℕ) (s : List ℕ) → (c ≡ line_feed → ⊥) → line_end (c ∷ s) ≡ suc (line_end s)
unfolding line_end
line_end-other c s other = rw (ne_eqb c line_feed other)

line_end-feed : (c : ℕ) (s : List ℕ) → c ≡ line_feed → line_end (c ∷ s) ≡ 1
unfolding line_end
line_end-feed c s e = rw (eq-eqb c line_feed e)

-- up to a line feed
ends_at : (s : List ℕ) (at : ℕ) → ((k : ℕ) → k < at → get_or s k 0 ≡ line_feed → ⊥) → at < length s → get_or s at 0 ≡ line_feed
    → at + 1 ≡ line_end s
ends_at [] at none inside e = absurd (omega (arith, inside))
ends_at (c ∷ s) zero none inside e = sym (line_end-feed c s e)
ends_at (c ∷ s) (suc at) none inside e =
    omega (arith, line_end-other c s (none 0 (omega arith)), ends_at s at (λ k below. none (suc k) (omega arith)) (omega (arith, inside)) e)

-- all of it
ends_with : (s : List ℕ) → ((k : ℕ) → k < length s → get_or s k 0 ≡ line_feed → ⊥) → length s ≡ line_end s
unfolding line_end
ends_with [] none = refl
ends_with (c ∷ s) none =
    omega (arith, line_end-other c s (none 0 (omega arith)), ends_with s (λ k below. none (suc k) (omega arith)))

pub found_inside : {s : List ℕ} {at : ℕ} → Found s at → at < length s → at + 1 ≡ line_end s
found_inside {s} {at} f inside = ends_at s at f.begun.plain inside (f.feed inside)

pub found_nowhere : {s : List ℕ} {at : ℕ} → Found s at → length s ≤ at → at ≡ line_end s
found_nowhere {s} {at} f past =
    omega (arith, f.begun.inside, ends_with s (λ k below. f.begun.plain k (omega arith)))

-- ---- the line that has begun
take-least : (n : ℕ) (l : List ℕ) → take (min n (length l)) l ≡ take n l
take-least n l =
    ⊎_elim
    (λ below.
    let few : min n (length l) ≡ n = omega arith in
    ap (λ (k : ℕ). take k l) few)
    (λ past.
    let all : min n (length l) ≡ length l = omega arith in
    ap (λ (k : ℕ). take k l) all ∙ take_all (length l) l (omega arith) ∙ sym (take_all n l past))
    (below_or_not n (length l))

-- what stands from a place on is alike
get_d-rest : (a b : List ℕ) (n k : ℕ) → drop n a ≡ drop n b → n ≤ k → get_or a k 0 ≡ get_or b k 0
get_d-rest a b n k same past =
    let place : n + (k - n) ≡ k = omega arith in
    ap (λ (j : ℕ). get_or a j 0) (sym place)
    ∙ sym (get_or-drop n a (k - n) 0)
    ∙ ap (λ (l : List ℕ). get_or l (k - n) 0) same
    ∙ get_or-drop n b (k - n) 0
    ∙ ap (λ (j : ℕ). get_or b j 0) place

pub keeping-done : {old more part : List ℕ} {begun count n : ℕ} → part ≡ take count more → n ≡ count
    → count ≡ min (kept_limit - begun) (length more) → LineIn old begun
    → LineKept old begun more (put_mid begun n old part) (begun + count)
keeping-done {old} {more} {part} {begun} {count} {n} copied size-is is held =
    let size = held.size in
    let short = held.short in
    let front : length (take begun old) ≡ begun = length-take-le begun old (omega arith) in
    let place : length (take begun old) + (kept_limit - begun) ≡ kept_limit = omega arith in
    let laid : put_mid begun n old part ≡ paste old begun more count =
    ap₂ (λ (p r : List ℕ). take begun old ++ (p ++ r)) copied (drop-drop n begun old ∙ ap (λ (k : ℕ). drop (begun + k) old) size-is)
    ∙ sym (append_assoc (take begun old) (take count more) (drop (begun + count) old)) in
    record {
      line =
          ap (λ (l : List ℕ). take (begun + count) l) laid
          ∙ take-paste old begun more count (omega arith) (omega arith)
          ∙ ap (λ (n : ℕ). take begun old ++ take n more) is
          ∙ ap (λ (l : List ℕ). take begun old ++ l) (take-least (kept_limit - begun) more)
          ∙ sym (take-append-add (take begun old) more (kept_limit - begun))
          ∙ ap (λ (n : ℕ). take n (take begun old ++ more)) place;
      holds =
          record {
            size = size ∙ sym (ap length laid ∙ length-paste old begun more count (omega arith) (omega arith));
            short = omega arith;
            zeros = λ i past.
                get_d-rest (put_mid begun n old part) old (begun + count) i
                (ap (λ (l : List ℕ). drop (begun + count) l) laid ∙ drop-paste old begun more count (omega arith) (omega arith)) past
                ∙ held.zeros i (omega arith);
          };
    }
