-- The first line of an image by its octets is what the layout reads of them, and back; and one law for each answer of `first_in`. Assumes
-- nothing.
use Rattle.std.proofs.Common.{◌≡◌, ℕ, ◌+◌, ◌*◌, eqb, List, Some, None, length, get_or, drop, sym, refl, ap, ◌∙◌, arith, get_or-drop, eq-eqb, eqb-true}
use Rattle.length.specs.Answers.{done}
use Rattle.format.specs.Reading.{found}
use Rattle.format.specs.Format.{Format, ◌⊳◌}
use Rattle.image.specs.Parts.{read_whole, high_first, number, octet_is}
use Rattle.image.specs.Layout as layout
use Rattle.image.specs.Layout.{ImageVersion, first_from, first_image_line}
use Rattle.image.specs.Image.{first_image_size}
use Rattle.image_reader.specs.Whole.{FirstIs, FirstImageTold}
use Rattle.image_reader.proofs.Edges.{stepped, then_found, whole-done, done-whole, number_at, number-found, octet-at, octet-found}
use Rattle.image_reader.proofs.NumberLine.{two-octets}

-- four octets, the high one first, by two and two
pub four-octets : (s : List ℕ) (at a b : ℕ) → a ≡ get_or s at 0 * 256 + get_or s (at + 1) 0 → b ≡ get_or s (at + 2) 0 * 256 + get_or s (at + 3) 0
    → a * 65536 + b ≡ high_first 4 (drop at s)
unfolding high_first
four-octets s at a b high low =
    let one : get_or (drop at s) 0 0 ≡ get_or s at 0 = get_or-drop at s 0 0 ∙ ap (λ (k : ℕ). get_or s k 0) (omega arith) in
    let two = get_or-drop at s 1 0 in
    let three = get_or-drop at s 2 0 in
    let four = get_or-drop at s 3 0 in
    omega arith

-- ---- what stands there is read
module _ (edition : ImageVersion) (s : List ℕ) where
  first-at : (f : layout.FirstImageLine) → FirstIs edition.octet s f → (first_image_line edition).read s 0 0 ≡ found f (8 * length s)
  unfolding first_image_line
  first-at f x =
      let long = x.long in
      let octet = octet-at (λ v. eqb v edition.octet) s 0 0 (omega arith) (eq-eqb (get_or s 0 0) edition.octet x.edition) 1 refl in
      rw (
        octet,
        number_at 2 s 0 1 (omega arith) 3 refl,
        number_at 4 s 0 3 (omega arith) 7 refl,
        number_at 4 s 0 7 (omega arith) 11 refl,
        number_at 4 s 0 11 (omega arith) 15 refl,
        number_at 4 s 0 15 (omega arith) 19 refl,
        ← x.base,
        ← x.received,
        ← x.spare,
        ← x.repaired,
        ← x.lost,
        x.long,
      )

  pub first_reads : (f : layout.FirstImageLine) → FirstIs edition.octet s f → read_whole (first_image_line edition) s ≡ done f
  first_reads f x = whole-done (first_image_line edition) s f (first-at f x)

-- ---- and what is read stands there
-- a number, and what follows it
number-then : {B : Type 0} (k : ℕ) (g : Format B) (s : List ℕ) (at next : ℕ) (v : ℕ × B) (q : ℕ) → next ≡ at + k
    → (number k ⊳ λ _. g).read s 0 (8 * at) ≡ found v q → (v.0 ≡ high_first k (drop at s)) × (g.read s 0 (8 * next) ≡ found v.1 q)
number-then {B} k g s at next v q is e =
    let x = then_found (number k) (λ _. g) s 0 (8 * at) v q e in
    let n = number-found k s 0 at x.first x.at x.was in
    let end : 8 * next ≡ x.at = omega (arith, n.2) in (
      ap (λ (y : ℕ × B). y.0) (sym x.same) ∙ n.1,
      ap (λ (p : ℕ). g.read s 0 p) end ∙ x.then ∙ ap (λ (y : ℕ × B). found y.1 q) x.same,
    )

abbrev four : Format ℕ
four = number 4

counts-found : (s : List ℕ) (v : ℕ × (ℕ × (ℕ × ℕ))) → (four ⊳ λ _. four ⊳ λ _. four ⊳ λ _. four).read s 0 (8 * 3) ≡ found v (8 * length s)
    → (v.0 ≡ high_first 4 (drop 3 s)) × (v.1.0 ≡ high_first 4 (drop 7 s)) × (v.1.1.0 ≡ high_first 4 (drop 11 s))
    × (v.1.1.1 ≡ high_first 4 (drop 15 s)) × (length s ≡ first_image_size)
counts-found s v e =
    let a = number-then 4 (four ⊳ λ _. four ⊳ λ _. four) s 3 7 v (8 * length s) refl e in
    let b = number-then 4 (four ⊳ λ _. four) s 7 11 v.1 (8 * length s) refl a.1 in
    let c = number-then 4 four s 11 15 v.1.1 (8 * length s) refl b.1 in
    let d = number-found 4 s 0 15 v.1.1.1 (8 * length s) c.1 in
    (a.0, b.0, c.0, d.1, omega (arith, d.2))

first-items : (octet : ℕ) (s : List ℕ) (v : ℕ × (ℕ × (ℕ × (ℕ × (ℕ × ℕ)))))
    → (octet_is octet ⊳ λ _. number 2 ⊳ λ _. four ⊳ λ _. four ⊳ λ _. four ⊳ λ _. four).read s 0 0 ≡ found v (8 * length s)
    → FirstIs octet s (first_from v)
first-items octet s v e =
    let x = then_found (octet_is octet) (λ _. number 2 ⊳ λ _. four ⊳ λ _. four ⊳ λ _. four ⊳ λ _. four) s 0 0 v (8 * length s) e in
    let o = octet-found (λ v. eqb v octet) s 0 0 x.first x.at x.was in
    let b = number-then 2 (four ⊳ λ _. four ⊳ λ _. four ⊳ λ _. four) s 1 3 v.1 (8 * length s) refl
    (ap (λ (p : ℕ). (number 2 ⊳ λ _. four ⊳ λ _. four ⊳ λ _. four ⊳ λ _. four).read s 0 p) (sym o.end)
    ∙ x.then
    ∙ ap (λ (y : ℕ × (ℕ × (ℕ × (ℕ × (ℕ × ℕ))))). found y.1 (8 * length s)) x.same) in
    let c = counts-found s v.1.1 b.1 in
    record {
      long = c.4;
      edition = sym o.value ∙ eqb-true x.first octet o.passes;
      base = b.0;
      received = c.0;
      spare = c.1;
      repaired = c.2;
      lost = c.3;
    }

pub first_back : (edition : ImageVersion) (s : List ℕ) (f : layout.FirstImageLine) → read_whole (first_image_line edition) s ≡ done f → FirstIs edition.octet s f
unfolding first_image_line
first_back edition s f e =
    let all = stepped ((octet_is edition.octet ⊳ λ _. number 2 ⊳ λ _. four ⊳ λ _. four ⊳ λ _. four ⊳ λ _. four).read s 0 0)
    (λ a p. found (first_from a) p) f (8 * length s) (done-whole (first_image_line edition) s f e) in
    let made : first_from all.value ≡ f = cc in
    let end : all.at ≡ 8 * length s = cc in
    rw made at (first-items edition.octet s all.value (all.was ∙ ap (λ (n : ℕ). found all.value n) end))

-- ---- the answers of first_in
module _ {octet : ℕ} {s : List ℕ} {end : ℕ} where
  pub first-size : (length s ≡ first_image_size → ⊥) → FirstImageTold octet s end None
  first-size other = record { answer = λ f is. other is.long }

  pub first-edition : (get_or s 0 0 ≡ octet → ⊥) → FirstImageTold octet s end None
  first-edition other = record { answer = λ f is. other is.edition }

  pub first_read : {base received spare repaired lost : ℕ} → length s ≡ first_image_size → get_or s 0 0 ≡ octet
      → base ≡ get_or s 1 0 * 256 + get_or s 2 0 → received ≡ high_first 4 (drop 3 s) → spare ≡ high_first 4 (drop 7 s)
      → repaired ≡ high_first 4 (drop 11 s) → lost ≡ high_first 4 (drop 15 s)
      → FirstImageTold octet s end
      (Some
      (record { base = base; counts = record { received = received; spare = spare; repaired = repaired; lost = lost }; end = end }))
  first_read long edition base received spare repaired lost =
      record {
        answer =
            record {
              is =
                  record {
                    long = long;
                    edition = edition;
                    base = base ∙ sym (two-octets s 1 2 refl);
                    received = received;
                    spare = spare;
                    repaired = repaired;
                    lost = lost;
                  };
              after = refl;
            };
      }

pub ruleset firsts = (first-size, first-edition, first_read)
