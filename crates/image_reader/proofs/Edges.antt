-- Reading step by step, and what numbers of an image read at an octet edge, told by the octets there, and back. Assumes nothing.
use Rattle.std.proofs.Common.{◌≡◌, ℕ, ◌+◌, ◌-◌, ◌*◌, ◌^◌, ◌<◌, ◌≤◌, Bool, true, false, cond, eqb, ltb, List, length, get_or, drop, sym, refl, ap, ◌∙◌, ap₂, arith, length-drop, get_or-drop, ltb-false, le-ltb, eq-eqb, eqb-true}
use Rattle.length.specs.Refusals.{refusal, bad_image}
use Rattle.length.specs.Answers.{done}
use Rattle.length.proofs.Laws.{not_done, done-same, cond-met}
use Rattle.format.specs.Reading.{Finding, found, stopped, and_then, found_from}
use Rattle.format.specs.Reading as reading
use Rattle.format.specs.Format.{Format, guarded, ◌⊳◌}
use Rattle.format.proofs.Laws.{octetwise-edge}
use Rattle.image.specs.Parts.{up_to, read_whole, high_first, high_first_octets, number_front, number}

-- ---- steps
pub record Stepped {A B : Type 0} (r : Finding A) (next : A → ℕ → Finding B) (b : B) (q : ℕ) : Type 0 where
  pub value : A
  pub at : ℕ
  pub was : r ≡ found value at
  pub gave : next value at ≡ found b q

pub stepped : {A B : Type 0} (r : Finding A) (next : A → ℕ → Finding B) (b : B) (q : ℕ) → and_then r next ≡ found b q → Stepped r next b q
stepped (found a p) next b q e = record { value = a; at = p; was = refl; gave = e }
stepped (stopped why) next b q e = let z : ◌≡◌ {A = ℕ} 0 1 = cc in absurd (omega arith)

-- one after the other
module _ {A B : Type 0} (f : Format A) (g : A → Format B) (s : List ℕ) (i p : ℕ) where
  pub record Then (v : A × B) (q : ℕ) : Type 0 where
    pub first : A
    pub at : ℕ
    pub second : B
    pub was : f.read s i p ≡ found first at
    pub then : (g first).read s i at ≡ found second q
    pub same : (first, second) ≡ v

  pub then_found : (v : A × B) (q : ℕ) → (f ⊳ g).read s i p ≡ found v q → Then v q
  then_found v q e =
      let one = stepped (f.read s i p) _ v q e in
      let more = stepped ((g one.value).read s i one.at) _ v q one.gave in
      let end : more.at ≡ q = cc in
      record {
        first = one.value;
        at = one.at;
        second = more.value;
        was = one.was;
        then = more.was ∙ ap (λ (n : ℕ). found more.value n) end;
        same = cc;
      }

-- ---- the whole of some octets
module _ {A : Type 0} (f : Format A) (s : List ℕ) (a : A) where
  pub whole-done : f.read s 0 0 ≡ found a (8 * length s) → read_whole f s ≡ done a
  unfolding read_whole
  whole-done e = rw (e, eq-eqb (8 * length s) (8 * length s) refl)

  pub done-whole : read_whole f s ≡ done a → f.read s 0 0 ≡ found a (8 * length s)
  unfolding read_whole
  done-whole e = by (f.read s 0 0) refl e where
    by : (r : Finding A) → f.read s 0 0 ≡ r → up_to (length s) r ≡ done a → f.read s 0 0 ≡ found a (8 * length s)
    by (found b p) was e =
        let met = cond-met (eqb p (8 * length s)) bad_image (done b) a e in
        was ∙ ap₂ (λ (c : A) (q : ℕ). found c q) (done-same met.1) (eqb-true p (8 * length s) met.0)
    by (stopped why) was e = absurd (not_done e)

-- ---- numbers
module _ (k : ℕ) (s : List ℕ) (i at : ℕ) where
  edge : (number k).read s i (8 * at) ≡ and_then (found_from at (number_front k (drop at s))) (λ v n. found v (8 * n + 8 * at))
  edge = octetwise-edge (number_front k) (high_first_octets k) (λ v. v < 256 ^ k) s i at

  pub number_at : k ≤ length s - at → (next : ℕ) → next ≡ at + k
      → (number k).read s i (8 * at) ≡ found (high_first k (drop at s)) (8 * next)
  unfolding number_front
  number_at room next is =
      let there : 8 * k + 8 * at ≡ 8 * next = omega arith in
      edge ∙ rw (le-ltb (length (drop at s)) k (omega (arith, length-drop at s)), there)

  pub number-found : (v p : ℕ) → (number k).read s i (8 * at) ≡ found v p
      → (k ≤ length s - at) × (v ≡ high_first k (drop at s)) × (p ≡ 8 * (at + k))
  unfolding number_front
  number-found v p e = by (ltb (length (drop at s)) k) refl (sym edge ∙ e) where
    by : (b : Bool) → ltb (length (drop at s)) k ≡ b
        → and_then (found_from at (cond b (stopped (refusal bad_image)) (found (high_first k (drop at s)) k))) (λ v n. found v (8 * n + 8 * at))
        ≡ found v p
        → (k ≤ length s - at) × (v ≡ high_first k (drop at s)) × (p ≡ 8 * (at + k))
    by true was e = let z : ◌≡◌ {A = ℕ} 0 1 = cc in absurd (omega arith)
    by false was e =
        let is : high_first k (drop at s) ≡ v = cc in
        let end : 8 * k + 8 * at ≡ p = cc in
        (omega (arith, ltb-false (length (drop at s)) k was, length-drop at s), sym is, omega arith)

-- one octet that passes a test
one-octet : (s : List ℕ) (at : ℕ) → high_first 1 (drop at s) ≡ get_or s at 0
unfolding high_first
one-octet s at =
    let first : get_or (drop at s) 0 0 ≡ get_or s at 0
    = get_or-drop at s 0 0 ∙ ap (λ (k : ℕ). get_or s k 0) (omega arith) in
    omega arith

module _ (test : ℕ → Bool) (s : List ℕ) (i at : ℕ) where
  pub octet-at : at < length s → test (get_or s at 0) ≡ true → (next : ℕ) → next ≡ at + 1
      → (guarded bad_image test (number 1)).read s i (8 * at) ≡ found (get_or s at 0) (8 * next)
  octet-at inside passes next is =
      let here = number_at 1 s i at (omega arith) next is ∙ ap (λ (v : ℕ). found v (8 * next)) (one-octet s at) in
      rw (here, passes)

  pub record OctetFound (v p : ℕ) : Type 0 where
    pub inside : at < length s
    pub value : v ≡ get_or s at 0
    pub passes : test v ≡ true
    pub end : p ≡ 8 * (at + 1)

  pub octet-found : (v p : ℕ) → (guarded bad_image test (number 1)).read s i (8 * at) ≡ found v p → OctetFound v p
  octet-found v p e =
      let one = stepped ((number 1).read s i (8 * at)) _ v p e in
      let so = number-found 1 s i at one.value one.at one.was in
      by (test one.value) refl so one.gave where
        by : {w q : ℕ} (b : Bool) → test w ≡ b → (1 ≤ length s - at) × (w ≡ high_first 1 (drop at s)) × (q ≡ 8 * (at + 1))
            → and_then {A = Unit {0}} (cond b (reading.give tt) (reading.stop bad_image) s i q) (λ _ p. found w p) ≡ found v p
            → OctetFound v p
        by {w} {q} true was so e =
            let same : w ≡ v = cc in
            let end : q ≡ p = cc in
            record {
              inside = omega (arith, so.0);
              value = sym same ∙ so.1 ∙ one-octet s at;
              passes = rw (← same) was;
              end = sym end ∙ so.2;
            }
        by {w} {q} false was so e = let z : ◌≡◌ {A = ℕ} 0 1 = cc in absurd (omega arith)
