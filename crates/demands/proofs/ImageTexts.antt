-- What a text reads as, by the edition that it names: of an edition that is read what that edition reads, 21 of another, 20 of none.
-- Assumes nothing.
use Prim.Native.Nat.{ℕ, ◌<◌}
use mathlib.Core.Path.{◌≡◌, refl, sym, ap, subst, ◌∙◌}
use mathlib.Core.Logic.{◌⊎◌, inl, inr, ⊎_elim, ◌↔◌}
use mathlib.Core.Bool.{Bool, true, false}
use mathlib.Core.List.{List}
use lib.Dec.{eqb}
use native.Mathlib.Omega.{arith}
use borrow.Author.Tests.{eqb-true, eqb-false}
use Rattle.length.specs.Refusals.{refusal, outside_ranges, bad_image, other_edition, number_of}
use Rattle.length.specs.Answers.{Answer, done, refused, refuse}
use Rattle.length.specs.Claims.{Octets}
use Rattle.length.specs.declared.Refusal.{Refusal}
use Rattle.length.proofs.Laws.{not_done, refused-same}
use Rattle.length.specs.declared.Reason.{Reason}
use Rattle.line.specs.Hex.{hex_of, digit_of, digit_for}
use Rattle.session.specs.View.{View}
use Rattle.session.specs.Ranges.{in_ranges, Sound}
use Rattle.image.specs.Parts.{high_first_octets}
use Rattle.image.specs.Layout.{ImageVersion, image_version01, image_version02}
use Rattle.image.specs.Octets.{image_lines}
use Rattle.image.specs.Image.{image_text, read_image, names_edition, edition_named, read_text, OfOctets}
use Rattle.image.specs.Claims.{Short}
use Rattle.image.proofs.Laws.{image-lines, reads01, reads02}
use Rattle.image.proofs.Claims as images
use Rattle.demands.specs.Requests.Handover.{IsRead, Names, ImageOf}

-- ---- the image versions that are read
-- what holds of 01 and of 02 holds of each
of-each : (P : ImageVersion → Type 0) → P image_version01 → P image_version02 → (edition : ImageVersion) → IsRead edition → P edition
of-each P one two edition (inl e) = subst P (sym e) one
of-each P one two edition (inr e) = subst P (sym e) two

pub octet-small : (edition : ImageVersion) → IsRead edition → edition.octet < 256
octet-small = of-each (λ edition. edition.octet < 256) (omega arith) (omega arith)

-- each image names its edition
names01 : (view : View) → Names image_version01 (image_text image_version01 view)
unfolding image_lines high_first_octets hex_of digit_for digit_of names_edition edition_named
names01 view = rw (image-lines image_version01 view) (record { reads = refl; octet = refl })

names02 : (view : View) → Names image_version02 (image_text image_version02 view)
unfolding image_lines high_first_octets hex_of digit_for digit_of names_edition edition_named
names02 view = rw (image-lines image_version02 view) (record { reads = refl; octet = refl })

pub names-own : (edition : ImageVersion) → IsRead edition → (view : View) → Names edition (image_text edition view)
names-own = of-each (λ edition. (view : View) → Names edition (image_text edition view)) names01 names02

-- and restores the session, if the edition can hold it
pub short-reads : (edition : ImageVersion) → IsRead edition → (view : View) → Sound view → OfOctets view → Short edition.limit view
    → read_text (image_text edition view) ≡ done view
short-reads =
    of-each
    (λ edition. (view : View) → Sound view → OfOctets view → Short edition.limit view → read_text (image_text edition view) ≡ done view)
    reads01
    (λ view s o short. reads02 view s o)

-- ---- a text
module _ (text : List ℕ) where
  reads_none : names_edition text ≡ false → read_text text ≡ refuse bad_image
  unfolding read_text
  reads_none n = rw n

  by01 : Names image_version01 text → read_text text ≡ read_image image_version01 text
  unfolding read_text
  by01 n = rw (n.reads, n.octet)

  by02 : Names image_version02 text → read_text text ≡ read_image image_version02 text
  unfolding read_text
  by02 n = rw (n.reads, n.octet)

  pub reads-named : (edition : ImageVersion) → IsRead edition → Names edition text → read_text text ≡ read_image edition text
  reads-named = of-each (λ edition. Names edition text → read_text text ≡ read_image edition text) by01 by02

-- a text names none, one that is read, or another
data Naming (text : List ℕ) : Type 0 where
  none : names_edition text ≡ false → Naming text
  ours : (edition : ImageVersion) → IsRead edition → Names edition text → Naming text
  other : read_text text ≡ refuse other_edition → Naming text

naming : (text : List ℕ) → Naming text
naming text = by _ _ _ refl refl refl where
  by : (b c d : Bool) → names_edition text ≡ b → eqb (edition_named text) image_version01.octet ≡ c
      → eqb (edition_named text) image_version02.octet ≡ d
      → Naming text
  by false c d n one two = none n
  by true true d n one two = ours image_version01 (inl refl) (record { reads = n; octet = eqb-true (edition_named text) _ one })
  by true false true n one two = ours image_version02 (inr refl) (record { reads = n; octet = eqb-true (edition_named text) _ two })
  by true false false n one two =
      other
      (((images.claims).editions.other text).1 (n, eqb-false (edition_named text) _ one, eqb-false (edition_named text) _ two))

-- what was restored is of an edition that is read
pub done-named : (text : List ℕ) (view : View) → read_text text ≡ done view → (edition : ImageVersion) × IsRead edition × Names edition text
done-named text view e = by (naming text) where
  by : Naming text → (edition : ImageVersion) × IsRead edition × Names edition text
  by (none n) = absurd (not_done (sym (reads_none text n) ∙ e))
  by (ours edition is n) = (edition, is, n)
  by (other o) = absurd (not_done (sym o ∙ e))

-- ---- its refusals
-- two refusals are one, so their reasons are
reason_same : {A : Type 0} {n m : Reason} → ◌≡◌ {A = Answer A} (refuse n) (refuse m) → n ≡ m
reason_same e = ap (λ (why : Refusal). why.reason) (refused-same e)

pub refused-only : (text : List ℕ) (why : Refusal) → read_text text ≡ refused why
    → (why ≡ refusal other_edition) ⊎ ((why ≡ refusal bad_image) ⊎ (why ≡ refusal outside_ranges))
refused-only text why e = by (naming text) where
  by : Naming text → (why ≡ refusal other_edition) ⊎ ((why ≡ refusal bad_image) ⊎ (why ≡ refusal outside_ranges))
  by (none n) = inr (inl (refused-same (sym e ∙ reads_none text n)))
  by (ours edition is n) = inr ((images.claims).reads.only edition text why (sym (reads-named text edition is n) ∙ e))
  by (other o) = inl (refused-same (sym e ∙ o))

pub another-exactly : (text : List ℕ) → (read_text text ≡ refuse other_edition)
    ↔ ((names_edition text ≡ true) × ((edition : ImageVersion) → IsRead edition → Names edition text → ⊥))
another-exactly text =
    let says = (images.claims).editions.other text in (
      λ e.
          let x = says.0 e in
          (x.0, of-each (λ edition. Names edition text → ⊥) (λ n. x.1 n.octet) (λ n. x.2 n.octet)),
      λ y.
          says.1 (
            y.0,
            λ o. y.1 image_version01 (inl refl) (record { reads = y.0; octet = o }),
            λ o. y.1 image_version02 (inr refl) (record { reads = y.0; octet = o }),
          ),
    )

module _ (text : List ℕ) (small : Octets text) where
  pub misshapen-exactly : (read_text text ≡ refuse bad_image)
      ↔ ((names_edition text ≡ false)
      ⊎ ((edition : ImageVersion) × IsRead edition × Names edition text × ((view : View) → ImageOf edition text view → ⊥)))
  misshapen-exactly = (
    λ e. by e (naming text),
    ⊎_elim (reads_none text)
        (λ x.
        reads-named text x.0 x.1 x.2
        ∙ ((images.claims).reads.misshapen x.0 text (octet-small x.0 x.1) small
        ).1 (λ view h w. x.3 view (record { holds = h; written = w }))),
  ) where
    by : read_text text ≡ refuse bad_image → Naming text
        → (names_edition text ≡ false)
        ⊎ ((edition : ImageVersion) × IsRead edition × Names edition text × ((view : View) → ImageOf edition text view → ⊥))
    by e (none n) = inl n
    by e (ours edition is n) =
        let says = (images.claims).reads.misshapen edition text (octet-small edition is) small in
        let nobody = says.0 (sym (reads-named text edition is n) ∙ e) in
        inr (edition, is, n, λ view i. nobody view i.holds i.written)
    by e (other o) = let z = ap number_of (reason_same (sym o ∙ e)) in absurd (omega arith)

  pub outside-exactly : (read_text text ≡ refuse outside_ranges)
      ↔ ((edition : ImageVersion) × IsRead edition × (view : View) × ImageOf edition text view × (in_ranges view ≡ false))
  outside-exactly = (
    λ e. by e (naming text),
    λ x.
        let n = subst (Names x.0) x.3.written (names-own x.0 x.1 x.2) in
        reads-named text x.0 x.1 n
        ∙ ((images.claims).reads.outside x.0 text (octet-small x.0 x.1) small).1 (x.2, x.3.holds, x.3.written, x.4),
  ) where
    by : read_text text ≡ refuse outside_ranges → Naming text
        → (edition : ImageVersion) × IsRead edition × (view : View) × ImageOf edition text view × (in_ranges view ≡ false)
    by e (none n) = let z = ap number_of (reason_same (sym (reads_none text n) ∙ e)) in absurd (omega arith)
    by e (ours edition is n) =
        let says = (images.claims).reads.outside edition text (octet-small edition is) small in
        let x = says.0 (sym (reads-named text edition is n) ∙ e) in
        (edition, is, x.0, record { holds = x.1; written = x.2 }, x.3)
    by e (other o) = let z = ap number_of (reason_same (sym o ∙ e)) in absurd (omega arith)
