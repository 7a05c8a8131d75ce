-- One turn of the loop over the lines of numbers. The invariant: what is left to read, put behind what was read, is the whole; and what was
-- read is laid behind whatever was there. Assumes nothing.
use Rattle.std.proofs.Common.{◌≡◌, ℕ, suc, ◌+◌, ◌-◌, ◌*◌, ◌<◌, ◌≤◌, Bool, List, [], ◌∷◌, ◌++◌, Option, Some, None, length, take, drop, sym, refl, ap, ◌∙◌, append_assoc, append-nil, arith, length-append, length-drop, take_all}
use lib.Seq.{append_snoc}
use Rattle.datagram.specs.Sizes.{packet_limit}
use Rattle.format.specs.Reading.{Finding, found, stopped, and_then, found_from}
use Rattle.format.specs.Reading as reading
use Rattle.format.specs.Format.{Format}
use Rattle.format.proofs.Laws.{octetwise-edge}
use Rattle.line.specs.Lines.{line_of}
use Rattle.session.specs.Cells.{kept_before, kept_ahead}
use Rattle.image.specs.Parts.{octets_for, line_front, line}
use Rattle.image.specs.Layout as layout
use Rattle.image.specs.Layout.{number_line, from_base}
use Rattle.image.specs.Image.{number_line_limit}
use Rattle.image_reader.specs.Laying.{Lengths, Filled}
use Rattle.image_reader.specs.Whole.{LineTold, LinesTold}
use Rattle.image_reader.proofs.Edges.{stepped}
use Rattle.image_reader.proofs.Fronts.{front-inside}

-- ---- a line at a place of a text
module _ {A : Type 0} (f : Format A) (text : List ℕ) (at : ℕ) where
  line-edge : (line f).read text 0 (8 * at) ≡ and_then (found_from at (line_front f (drop at text))) (λ a n. found a (8 * n + 8 * at))
  line-edge = octetwise-edge (line_front f) (λ a. line_of (octets_for f a)) (λ a. f.fits a 0) text 0 at

  pub line_at : (a : A) (n : ℕ) → line_front f (drop at text) ≡ found a n → (line f).read text 0 (8 * at) ≡ found a (8 * (at + n))
  line_at a n e =
      let end : 8 * n + 8 * at ≡ 8 * (at + n) = omega arith in
      line-edge ∙ rw (e, end)

  pub line-back : (a : A) (p : ℕ) → (line f).read text 0 (8 * at) ≡ found a p
      → (n : ℕ) × (line_front f (drop at text) ≡ found a n) × (p ≡ 8 * (at + n))
  line-back a p e = by (line_front f (drop at text)) refl (sym line-edge ∙ e) where
    by : (r : Finding A) → line_front f (drop at text) ≡ r → and_then (found_from at r) (λ a n. found a (8 * n + 8 * at)) ≡ found a p
        → (n : ℕ) × (line_front f (drop at text) ≡ found a n) × (p ≡ 8 * (at + n))
    by (found b n) was e =
        let is : b ≡ a = cc in
        let end : 8 * n + 8 * at ≡ p = cc in
        (n, was ∙ ap (λ (x : A). found x n) is, omega arith)
    by (stopped why) was e = let z : ◌≡◌ {A = ℕ} 0 1 = cc in absurd (omega arith)

-- what a function is lent of a text, from a place on
rest_of : (text : List ℕ) (at : ℕ) → take (length text - at) (drop at text) ≡ drop at text
rest_of text at = take_all (length text - at) (drop at text) (omega (arith, length-drop at text))

-- ---- several
module _ {A : Type 0} where
  -- what was read before, in front of what is found
  abbrev pub prefixed : List A → Finding (List A) → Finding (List A)
  prefixed got (found l p) = found (got ++ l) p
  prefixed got (stopped why) = stopped why

  prefixed-none : (x : Finding (List A)) → x ≡ prefixed [] x
  prefixed-none (found l p) = refl
  prefixed-none (stopped why) = refl

  prefixed-more : (got : List A) (a : A) (x : Finding (List A)) → prefixed got (prefixed (a ∷ []) x) ≡ prefixed (got ++ (a ∷ [])) x
  prefixed-more got a (found l p) = ap (λ (k : List A). found k p) (sym (append_snoc got a l))
  prefixed-more got a (stopped why) = refl

  prefixed-never : (got : List A) (x : Finding (List A)) → ((l : List A) (p : ℕ) → x ≡ found l p → ⊥) → (l : List A) (p : ℕ)
      → prefixed got x ≡ found l p → ⊥
  prefixed-never got (found k q) never l p e = never k q refl
  prefixed-never got (stopped why) never l p e = let z : ◌≡◌ {A = ℕ} 0 1 = cc in omega arith

  module _ (r : reading.Reader A) (n : ℕ) (s : List ℕ) (i p : ℕ) where
    rows-first : (a : A) (q : ℕ) → r s i p ≡ found a q
        → reading.sequence_of (suc n) r s i p ≡ prefixed (a ∷ []) (reading.sequence_of n r s i q)
    unfolding reading.sequence_of
    rows-first a q e = rw e (by (reading.sequence_of n r s i q)) where
      by : (x : Finding (List A)) → and_then x (λ l k. found (a ∷ l) k) ≡ prefixed (a ∷ []) x
      by (found l k) = refl
      by (stopped why) = refl

    rows-never : ((a : A) (q : ℕ) → r s i p ≡ found a q → ⊥) → (l : List A) (q : ℕ) → reading.sequence_of (suc n) r s i p ≡ found l q → ⊥
    unfolding reading.sequence_of
    rows-never never l q e = let one = stepped (r s i p) _ l q e in never one.value one.at one.was

  rows_none : (r : reading.Reader A) (s : List ℕ) (i p : ℕ) → reading.sequence_of 0 r s i p ≡ found [] p
  unfolding reading.sequence_of
  rows_none r s i p = refl

-- ---- the loop
abbrev pub lines_left : ℕ → Bool → ℕ → List ℕ → ℕ → Finding (List layout.Number)
lines_left limit ahead n text at = reading.sequence_of n (line (number_line limit ahead)).read text 0 (8 * at)

pub record Reading (limit : ℕ) (ahead : Bool) (base : ℕ) (text : List ℕ) (from : ℕ) (t o g new_t new_o new_g buffer : List ℕ) (at k : ℕ)
    : Type 0 where
  pub numbers : List layout.Number
  pub counted : length numbers ≡ k
  pub few : k ≤ kept_ahead
  pub inside : at ≤ length text
  pub before : Lengths t o g
  pub sized : Lengths new_t new_o new_g
  pub long : number_line_limit packet_limit ≡ length buffer
  pub left : lines_left limit ahead kept_ahead text from ≡ prefixed numbers (lines_left limit ahead (kept_ahead - k) text at)
  pub lays : (rows : List layout.Number) → length rows ≡ from_base ahead kept_before → Filled base rows t o g
      → Filled base (rows ++ numbers) new_t new_o new_g

module _ {limit : ℕ} {ahead : Bool} {base : ℕ} {text : List ℕ} {from : ℕ} {t o g : List ℕ} where
  module _ {new_t new_o new_g buffer : List ℕ} {at k : ℕ} (so : Reading limit ahead base text from t o g new_t new_o new_g buffer at k) where
    -- none is left
    pub reading-done : kept_ahead ≤ k → LinesTold limit ahead base text from t o g new_t new_o new_g (Some at)
    reading-done all =
        let is : k ≡ kept_ahead = omega (arith, so.few) in
        let none : kept_ahead - k ≡ 0 = omega arith in
        record {
          answer =
              record {
                numbers = so.numbers;
                read =
                    so.left
                    ∙ ap (λ (n : ℕ). prefixed so.numbers (lines_left limit ahead n text at)) none
                    ∙ ap (prefixed so.numbers) (rows_none (line (number_line limit ahead)).read text 0 (8 * at))
                    ∙ ap (λ (l : List layout.Number). found l (8 * at)) (append-nil so.numbers);
                many = so.counted ∙ is;
                inside = so.inside;
                sized = so.sized;
                lays = so.lays;
              };
        }

    module _ (more : k < kept_ahead) {after_t after_o after_g : List ℕ} {r : Option ℕ}
        (told : LineTold limit ahead base k (take (length text - at) (drop at text)) new_t new_o new_g after_t after_o after_g r) where
      one : kept_ahead - k ≡ suc (kept_ahead - (k + 1))
      one = omega arith

      pub reading-none : r ≡ None → {last_t last_o last_g : List ℕ}
          → {v : Option ℕ} → v ≡ None → LinesTold limit ahead base text from t o g last_t last_o last_g v
      reading-none is none =
          let never = rw (is, rest_of text at) at told.answer in
          rw none
          (record {
            answer = λ numbers p e.
                prefixed-never so.numbers (lines_left limit ahead (suc (kept_ahead - (k + 1))) text at)
                (rows-never (line (number_line limit ahead)).read (kept_ahead - (k + 1)) text 0 (8 * at)
                (λ a q x. let back = line-back (number_line limit ahead) text at a q x in never a back.0 back.1))
                numbers
                p
                (sym (so.left ∙ ap (λ (n : ℕ). prefixed so.numbers (lines_left limit ahead n text at)) one) ∙ e);
          })

      pub reading-ends : {taken : ℕ} → r ≡ Some taken → at + taken ≤ length text
      reading-ends {taken} is =
          let laid = rw (is, rest_of text at) at told.answer in
          let inside = front-inside (number_line limit ahead) (drop at text) laid.number taken laid.read in
          omega (arith, so.inside, length-drop at text)

      pub reading-turn : {taken : ℕ} {last : List ℕ} → r ≡ Some taken → length last ≡ length buffer
          → Reading limit ahead base text from t o g after_t after_o after_g last (at + taken) (k + 1)
      reading-turn {taken} is kept =
          let laid = rw (is, rest_of text at) at told.answer in
          let number = laid.number in
          record {
            numbers = so.numbers ++ (laid.number ∷ []);
            counted = omega (arith, length-append so.numbers (laid.number ∷ []), so.counted);
            few = omega arith;
            inside = reading-ends is;
            before = so.before;
            sized = laid.sized;
            long = so.long ∙ sym kept;
            left =
                so.left
                ∙ ap (λ (n : ℕ). prefixed so.numbers (lines_left limit ahead n text at)) one
                ∙ ap (prefixed so.numbers)
                (rows-first (line (number_line limit ahead)).read (kept_ahead - (k + 1)) text 0 (8 * at) laid.number (8 * (at + taken))
                (line_at (number_line limit ahead) text at laid.number taken laid.read))
                ∙ prefixed-more so.numbers laid.number (lines_left limit ahead (kept_ahead - (k + 1)) text (at + taken));
            lays = λ rows many f.
                rw append_assoc at
                (laid.lays (rows ++ so.numbers) (omega (arith, length-append rows so.numbers, so.counted)) (so.lays rows many f));
          }
