-- The loops: texts laid one after the other, and sizes added up. Assumes nothing.
use Prim.Native.Nat.{ℕ, zero, suc, ◌+◌, ◌*◌, ◌≤◌, ◌<◌}
use mathlib.Core.Path.{◌≡◌, refl, sym, ap, ◌∙◌}
use mathlib.Core.Logic.{⊎_elim}
use mathlib.Core.List.{List, ◌++◌, append_assoc, append-nil}
use lib.ListN.{length, length-append}
use native.Mathlib.Nat.{suc-mul, mul-le-mul_right}
use native.Mathlib.Numerals.{add-one}
use native.Mathlib.Omega.{arith}
use Rattle.octets.specs.Place.{tab}
use Rattle.octets.proofs.Laws.{below_or_not}
use Rattle.datagram.specs.Write.{sum_of}
use Rattle.line.specs.Promise.{Appends}
use Rattle.line.proofs.Laws.{appends-none, appends-then, appends-long}
use Rattle.image.specs.Octets.{in_row}
use Rattle.image_writer.specs.Rows.{Room, all_texts, SizeWithin}

-- ---- texts one after the other
pub texts-more : (n : ℕ) (text : ℕ → List ℕ) → all_texts (suc n) text ≡ all_texts n text ++ text n
unfolding in_row tab
texts-more zero text = append-nil (text 0)
texts-more (suc n) text =
    ap (λ (l : List ℕ). text 0 ++ l) (texts-more n (λ k. text (suc k)))
    ∙ sym (append_assoc (text 0) (all_texts n (λ k. text (suc k))) (text (suc n)))

longer : (n : ℕ) (text : ℕ → List ℕ) → length (all_texts (suc n) text) ≡ length (all_texts n text) + length (text n)
longer n text = ap length (texts-more n text) ∙ length-append (all_texts n text) (text n)

texts-least : (k n : ℕ) (text : ℕ → List ℕ) → k ≤ n → length (all_texts k text) ≤ length (all_texts n text)
texts-least k zero text low = let same : k ≡ 0 = omega arith in rw same (omega arith)
texts-least k (suc n) text low =
    ⊎_elim (λ less. let rest = texts-least k n text (omega arith) in omega (arith, longer n text))
    (λ (all : suc n ≤ k). let same : k ≡ suc n = omega arith in rw same (omega arith))
    (below_or_not k (suc n))

-- the first i of n texts are laid
pub record Going (text : ℕ → List ℕ) (n : ℕ) (old : List ℕ) (at : ℕ) (new : List ℕ) (end i : ℕ) : Type 0 where
  pub bound : i ≤ n
  pub put : Appends (all_texts i text) old at new end
  pub long : length new ≡ length old

module _ {text : ℕ → List ℕ} {n : ℕ} {old : List ℕ} {at : ℕ} where
  pub going_start : Room (all_texts n text) old at → Going text n old at old at 0
  unfolding in_row tab
  going_start room = record { bound = omega arith; put = appends-none (omega (arith, room.fits)); long = refl }

  -- the next has its room
  pub going-room : {new : List ℕ} {end i : ℕ} → Room (all_texts n text) old at → Going text n old at new end i → i < n
      → Room (text i) new end
  going-room {new} {end} {i} room v more =
      record { fits = omega (arith, room.fits, longer i text, texts-least (suc i) n text (omega arith), v.put.after, v.long) }

  pub going-turn : {new newer : List ℕ} {end later i : ℕ} → Going text n old at new end i → i < n → Appends (text i) new end newer later
      → Going text n old at newer later (i + 1)
  going-turn {new} {newer} {end} {later} {i} v more p =
      let whole = appends-then v.put p in
      record {
        bound = omega arith;
        put = rw (add-one i, texts-more i text) whole;
        long = appends-long whole;
      }

  pub going_done : {new : List ℕ} {end i : ℕ} → Going text n old at new end i → n ≤ i → Appends (all_texts n text) old at new end
  going_done {new} {end} {i} v all = let same : i ≡ n = omega (arith, v.bound) in rw same at v.put

-- ---- sizes added up
sum_more : (n : ℕ) (size : ℕ → ℕ) → sum_of (tab (suc n) size) ≡ sum_of (tab n size) + size n
unfolding sum_of tab
sum_more zero size = omega arith
sum_more (suc n) size = let rest = sum_more n (λ k. size (suc k)) in omega arith

-- the first i of n sizes are added up, each of which is at most so much
pub record Counted (size : ℕ → ℕ) (most n sum i : ℕ) : Type 0 where
  pub bound : i ≤ n
  pub is : sum ≡ sum_of (tab i size)
  pub few : sum ≤ i * most

module _ {size : ℕ → ℕ} {most n : ℕ} where
  pub counted_start : Counted size most n 0 0
  unfolding sum_of tab
  counted_start = record { bound = omega arith; is = refl; few = omega arith }

  pub counted-turn : {sum i x : ℕ} → Counted size most n sum i → i < n → SizeWithin (size i) most x → Counted size most n (sum + x) (i + 1)
  counted-turn {sum} {i} {x} v more told =
      record {
        bound = omega arith;
        is = rw (add-one i, sum_more i size) (omega (arith, v.is, told.answer));
        few = rw (add-one i) (omega (arith, v.few, told.few, suc-mul i most));
      }

  pub counted-done : (all : ℕ) {sum i : ℕ} → Counted size most n sum i → n ≤ i → n ≤ all → SizeWithin (sum_of (tab n size)) (all * most) sum
  counted-done all {sum} {i} v end few =
      let same : i ≡ n = omega (arith, v.bound) in
      let least = mul-le-mul_right most few in
      let low : sum ≤ n * most = rw same at v.few in
      record { answer = rw same at v.is; few = omega arith }
