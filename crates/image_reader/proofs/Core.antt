-- The whole of an image: it is read exactly if its first line, the lines before the base and those from it on are, up to the end of the
-- text; and one law for each answer of `read_core`. Assumes nothing.
use Rattle.std.proofs.Common.{◌≡◌, ℕ, ◌+◌, ◌*◌, ◌<◌, ◌≤◌, Bool, true, false, eqb, List, [], Option, Some, None, length, sym, refl, ap, ◌∙◌, arith}
use Rattle.length.specs.Refusals.{bad_image}
use Rattle.length.specs.Answers.{done, refuse}
use Rattle.format.specs.Reading.{Finding, found, stopped}
use Rattle.format.specs.Format.{Format, ◌⊳◌}
use Rattle.session.specs.View.{View}
use Rattle.image.specs.Parts.{up_to, read_whole, line_front, line}
use Rattle.image.specs.Layout as layout
use Rattle.image.specs.Layout.{ImageVersion, first_image_line, view_from, image}
use Rattle.image_reader.specs.Whole.{FirstLineTold, first_told, number_lines, LinesLaid, LinesTold, Cleared, CoreTold}
use Rattle.image_reader.specs.declared.whole.First.{First}
use Rattle.image_reader.proofs.Edges.{stepped, then_found, whole-done, done-whole}
use Rattle.image_reader.proofs.Fronts.{front-inside}
use Rattle.image_reader.proofs.Turning.{line_at, line-back}
use Rattle.image_reader.proofs.Views.{cleared-filled, filled-laid, filled-view}

-- what is never read is 20
never_done : {A : Type 0} (f : Format A) (s : List ℕ) → ((a : A) → read_whole f s ≡ done a → ⊥) → read_whole f s ≡ refuse bad_image
unfolding read_whole
never_done {A} f s never = by (f.read s 0 0) refl where
  by : (r : Finding A) → f.read s 0 0 ≡ r → up_to (length s) (f.read s 0 0) ≡ refuse bad_image
  by (stopped why) was = rw was
  by (found a p) was = test (eqb p (8 * length s)) refl where
    test : (b : Bool) → eqb p (8 * length s) ≡ b → up_to (length s) (f.read s 0 0) ≡ refuse bad_image
    test true e = absurd (never a (rw (was, e)))
    test false e = rw (was, e)

-- ---- the image by its three parts
abbrev lines_of : ℕ → Format (List layout.Number × List layout.Number)
lines_of limit = number_lines limit false ⊳ λ _. number_lines limit true

module _ (edition : ImageVersion) (text : List ℕ) where
  image-at : (f : layout.FirstImageLine) (p : ℕ) (b : List layout.Number) (q : ℕ) (a : List layout.Number)
      → (line (first_image_line edition)).read text 0 0 ≡ found f (8 * p)
      → (number_lines edition.limit false).read text 0 (8 * p) ≡ found b (8 * q)
      → (number_lines edition.limit true).read text 0 (8 * q) ≡ found a (8 * length text)
      → (image edition).read text 0 0 ≡ found (view_from (f, (b, a))) (8 * length text)
  unfolding image
  image-at f p b q a head before ahead = rw (head, before, ahead)

  -- the first line, at the front
  head_at : (f : layout.FirstImageLine) (p : ℕ) → line_front (first_image_line edition) text ≡ found f p → (line (first_image_line edition)).read text 0 0 ≡ found f (8 * p)
  head_at f p e =
      let end : 0 + p ≡ p = omega arith in
      line_at (first_image_line edition) text 0 f p e ∙ ap (λ (k : ℕ). found f (8 * k)) end

  image-reads : (f : layout.FirstImageLine) (p : ℕ) (b : List layout.Number) (q : ℕ) (a : List layout.Number)
      → line_front (first_image_line edition) text ≡ found f p → (number_lines edition.limit false).read text 0 (8 * p) ≡ found b (8 * q)
      → (number_lines edition.limit true).read text 0 (8 * q) ≡ found a (8 * length text)
      → read_whole (image edition) text ≡ done (view_from (f, (b, a)))
  image-reads f p b q a head before ahead =
      whole-done (image edition) text (view_from (f, (b, a))) (image-at f p b q a (head_at f p head) before ahead)

  -- and what was read
  record ImageFound : Type 0 where
    f : layout.FirstImageLine
    p : ℕ
    b : List layout.Number
    q : ℕ
    a : List layout.Number
    head : line_front (first_image_line edition) text ≡ found f p
    before : (number_lines edition.limit false).read text 0 (8 * p) ≡ found b q
    ahead : (number_lines edition.limit true).read text 0 q ≡ found a (8 * length text)

  parts-found : (v : layout.FirstImageLine × (List layout.Number × List layout.Number))
      → (line (first_image_line edition) ⊳ λ _. lines_of edition.limit).read text 0 0 ≡ found v (8 * length text) → ImageFound
  parts-found v e =
      let x = then_found (line (first_image_line edition)) (λ _. lines_of edition.limit) text 0 0 v (8 * length text) e in
      let h = line-back (first_image_line edition) text 0 x.first x.at x.was in
      let y = then_found (number_lines edition.limit false) (λ _. number_lines edition.limit true) text 0 x.at x.second
      (8 * length text) x.then in
      let end : x.at ≡ 8 * h.0 = omega (arith, h.2) in
      record {
        f = x.first;
        p = h.0;
        b = y.first;
        q = y.at;
        a = y.second;
        head = h.1;
        before = ap (λ (k : ℕ). (number_lines edition.limit false).read text 0 k) (sym end) ∙ y.was;
        ahead = y.then;
      }

  image-found : (view : View) → read_whole (image edition) text ≡ done view → ImageFound
  unfolding image
  image-found view e =
      let all = stepped ((line (first_image_line edition) ⊳ λ _. lines_of edition.limit).read text 0 0) (λ a p. found (view_from a) p) view
      (8 * length text) (done-whole (image edition) text view e) in
      let end : all.at ≡ 8 * length text = cc in
      parts-found all.value (all.was ∙ ap (λ (n : ℕ). found all.value n) end)

-- ---- the answers
same-found : {A : Type 0} {x : Finding A} {a b : A} {p q : ℕ} → x ≡ found a p → x ≡ found b q → (a ≡ b) × (p ≡ q)
same-found e d = (cc, cc)

-- the first line ends within the text
pub head-inside : {octet : ℕ} {text : List ℕ} {r : Option First} {head : First} → FirstLineTold octet text r → r ≡ Some head
    → head.end ≤ length text
head-inside {octet} {text} {r} {head} told so =
    let read = rw so at told.answer in
    front-inside (first_image_line (record { octet = octet; limit = 0 })) text (first_told head) head.end (read 0)

module _ {octet limit : ℕ} {text : List ℕ} where
  none_told : {t o g : List ℕ} → (ImageFound (record { octet = octet; limit = limit }) text → ⊥) → {a : Option First} → a ≡ None → CoreTold octet limit text t o g a
  none_told never is =
      rw is
      (record {
        answer =
            never_done (image (record { octet = octet; limit = limit })) text
            (λ view e. never (image-found (record { octet = octet; limit = limit }) text view e));
      })

  module _ {first : Option First} (first-told : FirstLineTold octet text first) where
    pub core-no-first : {t o g : List ℕ} {a : Option First} → first ≡ None → a ≡ None → CoreTold octet limit text t o g a
    core-no-first so =
        let never = rw so at first-told.answer in
        none_told (λ x. never limit x.f x.p x.head)

    module _ {head : First} (so : first ≡ Some head) where
      head-same : (x : ImageFound (record { octet = octet; limit = limit }) text) → x.p ≡ head.end
      head-same x =
          let read = rw so at first-told.answer in
          (same-found x.head (read limit)).1

      module _ {t o g mid_t mid_o mid_g : List ℕ} {q : Option ℕ}
          (before-told : LinesTold limit false head.base text head.end t o g mid_t mid_o mid_g q) where
        pub core-no-before : {new_t new_o new_g : List ℕ} {a : Option First} → q ≡ None → a ≡ None
            → CoreTold octet limit text new_t new_o new_g a
        core-no-before is =
            none_told
            (λ x.
            let never = rw is at before-told.answer in
            never x.b x.q
            (ap (λ (k : ℕ). (number_lines limit false).read text 0 (8 * k)) (sym (head-same x)) ∙ x.before))

        module _ {middle : ℕ} (is : q ≡ Some middle) where
          before-laid : LinesLaid limit false head.base text head.end t o g mid_t mid_o mid_g middle
          before-laid = rw is at before-told.answer

          before_same : (x : ImageFound (record { octet = octet; limit = limit }) text) → x.q ≡ 8 * middle
          before_same x =
              (same-found (ap (λ (k : ℕ). (number_lines limit false).read text 0 (8 * k)) (sym (head-same x)) ∙ x.before)
              before-laid.read).1

          module _ {new_t new_o new_g : List ℕ} {y : Option ℕ}
              (ahead-told : LinesTold limit true head.base text middle mid_t mid_o mid_g new_t new_o new_g y) where
            pub core-no-ahead : {a : Option First} → y ≡ None → a ≡ None → CoreTold octet limit text new_t new_o new_g a
            core-no-ahead ends =
                none_told
                (λ x.
                let never = rw ends at ahead-told.answer in
                never x.a (8 * length text)
                (ap (λ (k : ℕ). (number_lines limit true).read text 0 k) (sym (before_same x)) ∙ x.ahead))

            module _ {end : ℕ} (ends : y ≡ Some end) where
              ahead-laid : LinesLaid limit true head.base text middle mid_t mid_o mid_g new_t new_o new_g end
              ahead-laid = rw ends at ahead-told.answer

              -- octets left over
              pub core-left : end < length text → CoreTold octet limit text new_t new_o new_g None
              core-left more =
                  none_told
                  (λ x.
                  let same = (same-found (ap (λ (k : ℕ). (number_lines limit true).read text 0 k) (sym (before_same x)) ∙ x.ahead)
                  ahead-laid.read).1 in
                  omega arith)
                  refl

              pub core-read : length text ≤ end → Cleared t o g → CoreTold octet limit text new_t new_o new_g (Some head)
              core-read all clear =
                  let read = rw so at first-told.answer in
                  let is-end : end ≡ length text = omega (arith, ahead-laid.inside) in
                  let low = before-laid.lays [] refl (cleared-filled clear head.base) in
                  let high = ahead-laid.lays before-laid.numbers before-laid.many low in
                  record {
                    answer =
                        record {
                          is =
                              image-reads (record { octet = octet; limit = limit }) text (first_told head) head.end
                              before-laid.numbers middle ahead-laid.numbers (read limit) before-laid.read
                              (ahead-laid.read ∙ ap (λ (k : ℕ). found ahead-laid.numbers (8 * k)) is-end)
                              ∙ ap (λ (v : View). done v)
                              (filled-view head.counts before-laid.numbers ahead-laid.numbers high before-laid.many
                              ahead-laid.many);
                          laid = filled-laid high;
                        };
                  }
