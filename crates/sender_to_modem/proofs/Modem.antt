-- What the modem should have after a line: each packet that was sent, with its number, as received where its datagram arrived and from a
-- spare where that was lost. Assumes nothing.
use Prim.Native.Nat.{ℕ, zero, suc, ◌+◌, ◌%◌, ◌≤◌, ◌<◌}
use mathlib.Core.Path.{◌≡◌, sym, ap, ap₂, ◌∙◌}
use mathlib.Core.List.{List, [], ◌∷◌, ◌++◌, map}
use lib.ListN.{length, get_or, take, get_or-append}
use lib.Seq.{get_or-take, length-take-le}
use native.Mathlib.Omega.{arith}
use native.Mathlib.Nat.{suc-add}
use Rattle.octets.specs.Place.{tab}
use Rattle.octets.proofs.Laws.{tab-ext, tab-get_d, map-tab}
use Rattle.session.specs.View.{numbers}
use Rattle.sender_to_modem.specs.Marks.{Mark, arrives, kind_by}
use Rattle.sender_to_modem.specs.Transfer.{Delivered, delivered_as}

abbrev pub wanted : List Mark → List (List ℕ) → ℕ → Delivered
wanted line packets j = delivered_as (kind_by (get_or line j arrives)) (j % numbers) (get_or packets j [])

-- one datagram more changes nothing before it
pub wanted-more : (line : List Mark) (m : Mark) (packets : List (List ℕ)) (x : List ℕ) (j : ℕ) → j < length line → j < length packets
    → wanted line packets j ≡ wanted (line ++ (m ∷ [])) (packets ++ (x ∷ [])) j
wanted-more line m packets x j low below =
    ap₂ (λ (mark : Mark) (p : List ℕ). delivered_as (kind_by mark) (j % numbers) p)
    (sym (get_or-append line (m ∷ []) arrives j low))
    (sym (get_or-append packets (x ∷ []) [] j below))

-- some, and those after them
pub tab-append : {A : Type 0} (a b : ℕ) (f : ℕ → A) → tab (a + b) f ≡ tab a f ++ tab b (λ i. f (a + i))
unfolding tab
tab-append zero b f =
    let none : 0 + b ≡ b = omega arith in
    ap (λ (n : ℕ). tab n f) none
    ∙ tab-ext b f (λ i. f (0 + i)) (λ i low. let same : i ≡ 0 + i = omega arith in ap f same)
tab-append (suc a) b f =
    rw (suc-add a b)
    (ap (λ (l : List _). f zero ∷ l)
    (tab-append a b (λ i. f (suc i))
    ∙ ap (λ (l : List _). tab a (λ i. f (suc i)) ++ l)
    (tab-ext b (λ i. f (suc (a + i))) (λ i. f (suc a + i)) (λ i low. let same : suc (a + i) ≡ suc a + i = omega arith in ap f same))))

-- the packets of the first of them
pub wanted-front : (line : List Mark) (packets : List (List ℕ)) (q : ℕ) → q ≤ length packets
    → map (λ (d : Delivered). d.octets) (tab q (wanted line packets)) ≡ take q packets
wanted-front line packets q fits =
    map-tab (λ (d : Delivered). d.octets) q (wanted line packets)
    ∙ tab-ext q (λ j. get_or packets j []) (λ j. get_or (take q packets) j []) (λ j low. sym (get_or-take q packets j [] low))
    ∙ ap (λ (n : ℕ). tab n (λ j. get_or (take q packets) j [])) (sym (length-take-le q packets fits))
    ∙ tab-get_d (take q packets) []

-- ---- all of it, field by field
module _ (line : List Mark) (packets : List (List ℕ)) (q : ℕ) (marks : q ≡ length line) (sent : q ≡ length packets) where
  pub wanted-octets : map (λ (d : Delivered). d.octets) (tab q (wanted line packets)) ≡ packets
  wanted-octets =
      map-tab (λ (d : Delivered). d.octets) q (wanted line packets)
      ∙ ap (λ (n : ℕ). tab n (λ j. get_or packets j [])) sent
      ∙ tab-get_d packets []

  pub wanted-numbers : map (λ (d : Delivered). d.number) (tab q (wanted line packets)) ≡ tab (length packets) (λ j. j % numbers)
  wanted-numbers =
      map-tab (λ (d : Delivered). d.number) q (wanted line packets) ∙ ap (λ (n : ℕ). tab n (λ j. j % numbers)) sent

  pub wanted-kinds : map (λ (d : Delivered). d.kind) (tab q (wanted line packets)) ≡ map kind_by line
  wanted-kinds =
      map-tab (λ (d : Delivered). d.kind) q (wanted line packets)
      ∙ sym (map-tab kind_by q (λ j. get_or line j arrives))
      ∙ ap (λ (n : ℕ). map kind_by (tab n (λ j. get_or line j arrives))) marks
      ∙ ap (map kind_by) (tab-get_d line arrives)
