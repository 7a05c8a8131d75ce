-- Two editions, one layout: a text is read by the edition that its first two characters name. Assumes nothing.
use Prim.Native.Nat.{ℕ}
use mathlib.Core.Path.{◌≡◌, refl, sym, ap, ◌∙◌}
use mathlib.Core.Logic.{◌⊎◌, inl, inr, ⊎_elim, ◌↔◌}
use mathlib.Core.Bool.{Bool, true, false, cond}
use mathlib.Core.List.{List}
use lib.Dec.{eqb}
use native.Mathlib.Omega.{arith}
use borrow.Author.Tests.{eqb-false, ne_eqb}
use Rattle.length.specs.Refusals.{refusal, bad_image, other_edition, number_of}
use Rattle.length.specs.Answers.{Answer, done, refuse}
use Rattle.length.specs.Claims.{Octets}
use Rattle.length.specs.declared.Refusal.{Refusal}
use Rattle.length.proofs.Laws.{not_done, cond-met, refused-same}
use Rattle.datagram.specs.Sizes.{packet_limit}
use Rattle.line.specs.Hex.{hex_of, digit_of, digit_for}
use Rattle.session.specs.View.{View}
use Rattle.session.specs.Ranges.{Sound}
use Rattle.session.proofs.Laws.{in_ranges-of}
use Rattle.image.specs.Parts.{high_first_octets}
use Rattle.image.specs.Layout.{ImageVersion, old_limit, image_version01, image_version02}
use Rattle.image.specs.Octets.{image_lines}
use Rattle.image.specs.Image.{image_text, read_image, names_edition, edition_named, read_by, read_text, ImageHolds, OfOctets}
use Rattle.image.specs.Claims.{Short, ImageVersions}
use Rattle.image.proofs.Whole.{image-lines}
use Rattle.image.proofs.Holds.{sound-holds}
use Rattle.image.proofs.Answers.{held_reads, read-lines, read-only, read-image}

-- a text names this edition
pub record Names (octet : ℕ) (text : List ℕ) : Type 0 where
  pub reads : names_edition text ≡ true
  pub named : edition_named text ≡ octet

-- as each image names its own
names01 : (view : View) → Names 1 (image_text image_version01 view)
unfolding image_lines high_first_octets hex_of digit_for digit_of names_edition edition_named
names01 view = rw (image-lines image_version01 view) (record { reads = refl; named = refl })

names02 : (view : View) → Names 2 (image_text image_version02 view)
unfolding image_lines high_first_octets hex_of digit_for digit_of names_edition edition_named
names02 view = rw (image-lines image_version02 view) (record { reads = refl; named = refl })

-- and is read by it
pub by01 : (text : List ℕ) → Names 1 text → read_text text ≡ read_image image_version01 text
unfolding read_text
by01 text n = rw (n.reads, n.named)

pub by02 : (text : List ℕ) → Names 2 text → read_text text ≡ read_image image_version02 text
unfolding read_text
by02 text n = rw (n.reads, n.named)

pub text01 : (view : View) → read_text (image_text image_version01 view) ≡ read_image image_version01 (image_text image_version01 view)
text01 view = by01 (image_text image_version01 view) (names01 view)

pub text02 : (view : View) → read_text (image_text image_version02 view) ≡ read_image image_version02 (image_text image_version02 view)
text02 view = by02 (image_text image_version02 view) (names02 view)

-- ---- what is restored is what one of them reads as
module _ (text : List ℕ) (view : View) where
  pub either-reads : Octets text
      → (read_text text ≡ done view) ↔ ((read_image image_version01 text ≡ done view) ⊎ (read_image image_version02 text ≡ done view))
  unfolding read_text
  either-reads small = (
    λ e.
        let names = cond-met (names_edition text) bad_image (read_by (edition_named text) text) view e in
        by (eqb (edition_named text) 1) (eqb (edition_named text) 2) names.1,
    ⊎_elim
        (λ e. let is = (read-image image_version01 text small view e).0.written in rw (← is) (text01 view ∙ rw is e))
        (λ e. let is = (read-image image_version02 text small view e).0.written in rw (← is) (text02 view ∙ rw is e)),
  ) where
    by : (b c : Bool) → cond b (read_image image_version01 text) (cond c (read_image image_version02 text) (refuse other_edition)) ≡ done view
        → (read_image image_version01 text ≡ done view) ⊎ (read_image image_version02 text ≡ done view)
    by true c e = inl e
    by false true e = inr e
    by false false e = absurd (not_done e)

  pub either-image : Octets text → read_text text ≡ done view → (image_text image_version01 view ≡ text) ⊎ (image_text image_version02 view ≡ text)
  either-image small e =
      ⊎_elim (λ x. inl (read-image image_version01 text small view x).0.written) (λ x. inr (read-image image_version02 text small view x).0.written)
      ((either-reads small).0 e)

-- 21
module _ (text : List ℕ) where
  pub other-edition : (read_text text ≡ refuse other_edition)
      ↔ ((names_edition text ≡ true) × ((edition_named text ≡ 1) → ⊥) × ((edition_named text ≡ 2) → ⊥))
  unfolding read_text
  other-edition = (
    λ e. named (names_edition text) refl e,
    λ x. rw (x.0, ne_eqb (edition_named text) 1 x.1, ne_eqb (edition_named text) 2 x.2),
  ) where
    known : {A : Type 0} → ◌≡◌ {A = Answer A} (refuse bad_image) (refuse other_edition) → ⊥
    known e = let z : ◌≡◌ {A = ℕ} 20 21 = ap (λ (why : Refusal). number_of why.reason) (refused-same e) in omega arith

    never : (version : ImageVersion) → read_image version text ≡ refuse other_edition → ⊥
    never version e =
        ⊎_elim
        (λ w. let z : ◌≡◌ {A = ℕ} 21 20 = ap (λ (why : Refusal). number_of why.reason) w in omega arith)
        (λ w. let z : ◌≡◌ {A = ℕ} 21 17 = ap (λ (why : Refusal). number_of why.reason) w in omega arith)
        (read-only version text (refusal other_edition) e)

    apart : (b c : Bool) → eqb (edition_named text) 1 ≡ b → eqb (edition_named text) 2 ≡ c
        → cond b (read_image image_version01 text) (cond c (read_image image_version02 text) (refuse other_edition)) ≡ refuse other_edition
        → ((edition_named text ≡ 1) → ⊥) × ((edition_named text ≡ 2) → ⊥)
    apart true c one two e = absurd (never image_version01 e)
    apart false true one two e = absurd (never image_version02 e)
    apart false false one two e = (eqb-false (edition_named text) 1 one, eqb-false (edition_named text) 2 two)

    named : (b : Bool) → names_edition text ≡ b
        → cond b (read_by (edition_named text) text) (refuse bad_image) ≡ refuse other_edition
        → (names_edition text ≡ true) × ((edition_named text ≡ 1) → ⊥) × ((edition_named text ≡ 2) → ⊥)
    named true was e = let x = apart _ _ refl refl e in (was, x.0, x.1)
    named false was e = absurd (known e)

-- ---- which sessions an edition holds
module _ (limit : ℕ) (view : View) (s : Sound view) (o : OfOctets view) where
  pub holds-short : (ImageHolds limit view) ↔ (Short limit view)
  holds-short = (
    λ h. record { packet = λ p below. (h.packet p below).short; message = λ d below i less. (h.message d below i less).short },
    λ x.
        let all = sound-holds view s o in
        record {
          base = all.base;
          received = all.received;
          spare = all.spare;
          repaired = all.repaired;
          lost = all.lost;
          kept = all.kept;
          ahead = all.ahead;
          note = all.note;
          packet =
              λ p below. record { short = x.packet p below; form = (all.packet p below).form; octets = (all.packet p below).octets };
          covered = all.covered;
          few = all.few;
          message =
              λ d below i less.
              record {
                short = x.message d below i less;
                form = (all.message d below i less).form;
                octets = (all.message d below i less).octets;
              };
        },
  )

-- and both images of one restore it
module _ (view : View) (s : Sound view) (o : OfOctets view) where
  pub reads02 : read_text (image_text image_version02 view) ≡ done view
  reads02 =
      text02 view
      ∙ read-lines image_version02 (image_text image_version02 view) view (held_reads image_version02 view (omega arith) (sound-holds view s o))
      ∙ rw (in_ranges-of s)

  pub reads01 : Short old_limit view → read_text (image_text image_version01 view) ≡ done view
  reads01 x =
      text01 view
      ∙ read-lines image_version01 (image_text image_version01 view) view (held_reads image_version01 view (omega arith) ((holds-short old_limit view s o).1 x))
      ∙ rw (in_ranges-of s)

pub editions : ImageVersions
editions =
    record {
      holds = holds-short;
      holds_all = λ view s o. (holds-short packet_limit view s o).0 (sound-holds view s o);
      same = λ view s o x. (reads01 view s o x, reads02 view s o);
      either = either-reads;
      one = either-image;
      other = other-edition;
    }
