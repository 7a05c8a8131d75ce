-- The laws of the parts of a format that stand in whole octets: octets, numbers of two octets, lengths. From the next edge of an
-- octet on, bits that stand there are the octets that follow. Assumes nothing.
use Prim.Native.Nat.{ℕ, zero, suc, ◌+◌, ◌-◌, ◌*◌, ◌/◌, ◌%◌, ◌≤◌, ◌<◌}
use mathlib.Core.Path.{◌≡◌, refl, sym, ap, ap₂, ◌∙◌}
use mathlib.Core.Bool.{Bool, true, false, cond}
use mathlib.Core.List.{List, [], ◌∷◌, ◌++◌}
use lib.ListN.{length, get_or, take, drop, length-append, length-drop}
use lib.Seq.{drop-cons, get_or-drop, length-take-le, take_at}
use lib.Dec.{leb, ltb}
use native.Mathlib.Omega.{arith}
use borrow.Author.Tests.{ltb-false, leb-true, le-ltb, le-leb}
use Rattle.length.specs.Refusals.{ends_early, outside_sizes, refusal}
use Rattle.length.specs.Answers.{Answer, done, refused, LengthAnswer}
use Rattle.length.specs.Claims.{Octets}
use Rattle.length.specs.Length.{within, length_within, length_octets, length_limit}
use Rattle.length.proofs.Laws.{read-writes, value_read, within-true, true-within, within-done, within-written}
use Rattle.format.specs.Spelling.{spelt, whole, wide, gap}
use Rattle.format.specs.Reading.{Finding, found, stopped}
use Rattle.format.specs.Reading as reading
use Rattle.format.specs.Format.{octetwise, octets_front, octets, two_front, two_octets, length_found, length_rule}
use Rattle.format.proofs.Standing.{Stands, Reads, Spells, stepped, reads-bind, wide-spelt, wide-whole, gap-past, spells-join}
use Rattle.format.proofs.Lawful.{formed-append, formed-spelt, formed-whole, Lawful, back-same}
use Rattle.format.proofs.Parts.{lawful-align}

-- octets that stand at an edge are the next ones
stands-whole : (s : List ℕ) (p : ℕ) (l : List ℕ) → p % 8 ≡ 0 → Stands s p (whole l) → drop (p / 8) s ≡ l ++ drop (p / 8 + length l) s
unfolding Stands whole
stands-whole s p [] edge st = let e : p / 8 ≡ p / 8 + 0 = omega arith in ap (λ (k : ℕ). drop k s) e
stands-whole s p (x ∷ l) edge st =
    let next : (8 + p) / 8 ≡ suc (p / 8) = omega arith in
    let place : suc (p / 8) + length l ≡ p / 8 + suc (length l) = omega arith in
    let rest = rw next at (stands-whole s (8 + p) l (omega arith) st.3) in
    drop-cons s (p / 8) 0 st.1 ∙ ap₂ (λ (a : ℕ) (m : List ℕ). a ∷ m) st.2 (rest ∙ ap (λ (k : ℕ). l ++ drop k s) place)

-- and the next ones stand there
whole-stands : (n : ℕ) (s : List ℕ) (p : ℕ) → p % 8 ≡ 0 → n ≤ length s - p / 8 → Stands s p (whole (take n (drop (p / 8) s)))
unfolding Stands whole
whole-stands zero s p edge inside = tt
whole-stands (suc n) s p edge inside =
    let some : p / 8 < length s = omega arith in
    let next : (8 + p) / 8 ≡ suc (p / 8) = omega arith in
    let rest = rw next at (whole-stands n s (8 + p) (omega arith) (omega arith)) in
    rw (drop-cons s (p / 8) 0 some) (edge, some, refl, rest)

octets-rest : (n : ℕ) (s : List ℕ) → Octets s → Octets (drop n s)
octets-rest n s small i = rw (get_or-drop n s i 0) (small (n + i))

-- what is asked of octets and their front
module _ {A : Type 0} where
  -- what is found further on is found there
  pub from_found : (start : ℕ) (x : Finding A) (a : A) (n : ℕ) → reading.found_from start x ≡ found a n → x ≡ found a n
  from_found start (found b m) a n e = e
  from_found start (stopped r) a n e = let z : ◌≡◌ {A = ℕ} 0 1 = cc in absurd (omega arith)

  pub record Fronts (front : List ℕ → Finding A) (octets : A → List ℕ) (right : A → Type 0) : Type 0 where
    pub reads : (a : A) (rest : List ℕ) → right a → front (octets a ++ rest) ≡ found a (length (octets a))
    pub back : (s : List ℕ) (a : A) (n : ℕ) → Octets s → front s ≡ found a n → (right a) × (octets a ≡ take n s) × (n ≤ length s)

  pub lawful-octetwise : {front : List ℕ → Finding A} {octets : A → List ℕ} {right : A → Type 0} → Fronts front octets right
      → Lawful (octetwise front octets right)
  unfolding reading.octetwise
  lawful-octetwise {front} {octets} {right} f =
      record {
        reads = λ a p fits. reads-bind _ (lawful-align.reads tt p tt) (at_edge a (wide (spelt (gap p) 0) + p) fits (edge p));
        formed = λ a p fits. formed-append p (spelt (gap p) 0) _ (formed-spelt (gap p) 0 p) (formed-whole (octets a) _ (edge p));
        back =
            λ s i p a q small e.
            let first = stepped (reading.align s i p) _ a q e in
            let pad = lawful-align.back s i p first.value first.at small first.was in
            let second = stepped (reading.found_from (first.at / 8) (front (drop (first.at / 8) s))) _ a q first.gave in
            let was = from_found (first.at / 8) (front (drop (first.at / 8) s)) second.value second.at second.was in
            let is : second.value ≡ a = cc in
            let next : 8 * second.at + first.at ≡ q = cc in
            let at_front = f.back (drop (first.at / 8) s) second.value second.at (octets-rest (first.at / 8) s small)
            was in
            let place = edge p in
            let on : first.at % 8 ≡ 0 = rw pad.spells.next place in
            let some = at_front.2 in
            back-same {f = octetwise front octets right}
            (record {
              fits = at_front.0;
              spells =
                  spells-join pad.spells
                  (whole-spells second.at s first.at (octets second.value) on (omega (arith, length-drop (first.at / 8) s))
                  at_front.1);
            })
            is
            next;
      } where
        edge : (p : ℕ) → (wide (spelt (gap p) 0) + p) % 8 ≡ 0
        edge p = omega (arith, wide-spelt (gap p) 0, gap-past p)

        at_edge : (a : A) (p : ℕ) → right a → p % 8 ≡ 0 → Reads (reading.item (reading.octetwise front)) p a (whole (octets a))
        at_edge a p fits on =
            record {
              reads =
                  λ s i st.
                  rw (stands-whole s p (octets a) on st, f.reads a (drop (p / 8 + length (octets a)) s) fits)
                  (ap (λ (n : ℕ). found a (n + p)) (sym (wide-whole (octets a))));
            }

        whole-spells : (n : ℕ) (s : List ℕ) (p : ℕ) (l : List ℕ) → p % 8 ≡ 0 → n ≤ length s - p / 8 → l ≡ take n (drop (p / 8) s)
            → Spells s p (8 * n + p) (whole l)
        whole-spells n s p l on inside is =
            let long : length (take n (drop (p / 8) s)) ≡ n = length-take-le n (drop (p / 8) s) (omega (arith, length-drop (p / 8) s)) in
            rw is (record { stands = whole-stands n s p on inside; next = omega (arith, wide-whole (take n (drop (p / 8) s))) })

octets-fronts : (n : ℕ) → Fronts (octets_front n) (λ l. l) (λ l. length l ≡ n)
unfolding octets_front
octets-fronts n =
    record {
      reads =
          λ l rest long.
          rw (le-ltb (length (l ++ rest)) n (omega (arith, length-append l rest)), take_at l rest n long, long);
      back = λ s l m small e. by s l m (ltb (length s) n) refl e;
    } where
      by : (s l : List ℕ) (m : ℕ) (b : Bool) → ltb (length s) n ≡ b
          → cond b (stopped (refusal ends_early)) (found (take n s) n) ≡ found l m → (length l ≡ n) × (l ≡ take m s) × (m ≤ length s)
      by s l m true was e = let z : ◌≡◌ {A = ℕ} 0 1 = cc in absurd (omega arith)
      by s l m false was e =
          let is : take n s ≡ l = cc in
          let same : n ≡ m = cc in
          let inside = ltb-false (length s) n was in
          (ap length (sym is) ∙ length-take-le n s inside, sym is ∙ ap (λ (k : ℕ). take k s) same, omega arith)

pub lawful-octets : (n : ℕ) → Lawful (octets n)
lawful-octets n = lawful-octetwise (octets-fronts n)

take-two : (s : List ℕ) → 2 ≤ length s → take 2 s ≡ get_or s 0 0 ∷ get_or s 1 0 ∷ []
take-two [] h = absurd (omega arith)
take-two (x ∷ []) h = absurd (omega arith)
take-two (x ∷ y ∷ s) h = refl

two-fronts : (most : ℕ) → Fronts (two_front most) (λ v. (v / 256) ∷ (v % 256) ∷ []) (λ v. v ≤ most)
unfolding two_front
two-fronts most =
    record {
      reads =
          λ v rest fits.
          rw (le-ltb (length ((v / 256) ∷ (v % 256) ∷ rest)) 2 (omega arith), joined v, le-leb v most fits);
      back = λ s v m small e. by s v m (ltb (length s) 2) (leb (get_or s 0 0 * 256 + get_or s 1 0) most) refl refl small e;
    } where
      joined : (v : ℕ) → v / 256 * 256 + v % 256 ≡ v
      joined v = omega arith

      by : (s : List ℕ) (v m : ℕ) (b c : Bool) → ltb (length s) 2 ≡ b → leb (get_or s 0 0 * 256 + get_or s 1 0) most ≡ c → Octets s
          → cond b (stopped (refusal ends_early)) (cond c (found (get_or s 0 0 * 256 + get_or s 1 0) 2) (stopped (refusal outside_sizes)))
          ≡ found v m
          → (v ≤ most) × ((v / 256) ∷ (v % 256) ∷ [] ≡ take m s) × (m ≤ length s)
      by s v m true c was few small e = let z : ◌≡◌ {A = ℕ} 0 1 = cc in absurd (omega arith)
      by s v m false false was few small e = let z : ◌≡◌ {A = ℕ} 0 1 = cc in absurd (omega arith)
      by s v m false true was few small e =
          let is : get_or s 0 0 * 256 + get_or s 1 0 ≡ v = cc in
          let same : 2 ≡ m = cc in
          let inside = ltb-false (length s) 2 was in
          let low = small 1 in
          let first : v / 256 ≡ get_or s 0 0 = omega arith in
          let second : v % 256 ≡ get_or s 1 0 = omega arith in
          (rw (← is) (leb-true _ most few), rw (first, second, ← same, take-two s inside), omega arith)

pub lawful-two-octets : (most : ℕ) → Lawful (two_octets most)
lawful-two-octets most = lawful-octetwise (two-fronts most)

length-fronts : (least most : ℕ)
    → Fronts (λ s. length_found (length_within least most s)) length_octets (λ n. (n ≤ length_limit) × (within least most n ≡ true))
length-fronts least most =
    record {
      reads =
          λ n rest fits.
          let sizes = within-true least most n fits.1 in
          rw (within-written least most n rest sizes.0 sizes.1 fits.0);
      back = λ s n m small e. by s n m (length_within least most s) refl small e;
    } where
      by : (s : List ℕ) (n m : ℕ) (x : Answer LengthAnswer) → length_within least most s ≡ x → Octets s → length_found x ≡ found n m
          → ((n ≤ length_limit) × (within least most n ≡ true)) × (length_octets n ≡ take m s) × (m ≤ length s)
      by s n m (done a) was small e =
          let is : a.value ≡ n = cc in
          let same : a.size ≡ m = cc in
          let inside = within-done least most s a was in (
            rw (← is) (value_read s a small inside.read, true-within least most a.value inside.low inside.high),
            rw (← is, ← same) (read-writes s a small inside.read),
            rw (← same) inside.sizes.inside,
          )
      by s n m (refused r) was small e = let z : ◌≡◌ {A = ℕ} 0 1 = cc in absurd (omega arith)

pub lawful-length-rule : (least most : ℕ) → Lawful (length_rule least most)
lawful-length-rule least most = lawful-octetwise (length-fronts least most)
