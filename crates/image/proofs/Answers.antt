-- What a text reads as: a session exactly if the text is its image, 20 exactly if it is nobody's, 17 where it is one of a session outside
-- its ranges. Assumes nothing.
use Prim.Native.Nat.{ℕ, ◌*◌, ◌<◌}
use mathlib.Core.Path.{◌≡◌, refl, sym, ap, ◌∙◌}
use mathlib.Core.Logic.{◌⊎◌, inl, inr, ◌↔◌}
use mathlib.Core.Bool.{Bool, true, false, cond}
use mathlib.Core.List.{List}
use lib.ListN.{length}
use lib.Dec.{eqb}
use native.Mathlib.Omega.{arith}
use Rattle.length.specs.Refusals.{refusal, outside_ranges, bad_image, number_of}
use Rattle.length.specs.Answers.{Answer, done, refused, refuse}
use Rattle.length.specs.Claims.{Octets}
use Rattle.length.specs.declared.Refusal.{Refusal}
use Rattle.length.proofs.Laws.{not_done, bind_done, cond-met, done-same, refused-same}
use Rattle.format.specs.Reading.{Finding, found, stopped}
use Rattle.format.specs.Format.{Format}
use Rattle.session.specs.View.{View}
use Rattle.session.specs.Ranges.{in_ranges}
use Rattle.image.specs.Parts.{up_to, read_whole}
use Rattle.image.specs.Layout.{ImageVersion, image}
use Rattle.image.specs.Image.{image_text, in_ranges_only, read_image, ImageHolds}
use Rattle.image.proofs.Plain.{whole-reads, reads_whole}
use Rattle.image.proofs.Whole.{plain-image}
use Rattle.image.proofs.Holds.{holds_fits, fits-holds}

-- ---- the lines
-- whatever is wrong with them is 20
up_to-refused : {A : Type 0} (size : ℕ) (r : Finding A) (why : Refusal) → up_to size r ≡ refused why → why ≡ refusal bad_image
up_to-refused size (found a p) why e = by (eqb p (8 * size)) e where
  by : (b : Bool) → cond b (done a) (refuse bad_image) ≡ refused why → why ≡ refusal bad_image
  by true e = absurd (not_done (sym e))
  by false e = sym (refused-same e)
up_to-refused size (stopped r) why e = sym (refused-same e)

whole-refused : {A : Type 0} (f : Format A) (s : List ℕ) (why : Refusal) → read_whole f s ≡ refused why → why ≡ refusal bad_image
unfolding read_whole
whole-refused f s why e = up_to-refused (length s) (f.read s 0 0) why e

-- what an edition can hold reads back
pub held_reads : (version : ImageVersion) (view : View) → version.octet < 256 → ImageHolds version.limit view
    → read_whole (image version) (image_text version view) ≡ done view
unfolding image_text
held_reads version view small h = whole-reads (plain-image version) view (holds_fits version view small h)

-- and what reads is such a session's image
pub record ImageOf (version : ImageVersion) (text : List ℕ) (view : View) : Type 0 where
  pub holds : ImageHolds version.limit view
  pub written : image_text version view ≡ text

pub reads_held : (version : ImageVersion) (text : List ℕ) (view : View) → Octets text → read_whole (image version) text ≡ done view
    → ImageOf version text view
unfolding image_text
reads_held version text view small e =
    let back = reads_whole (plain-image version) text view small e in
    record { holds = fits-holds version view back.0; written = back.1 }

-- ---- then the ranges
seventeen : {A : Type 0} → ◌≡◌ {A = Answer A} (refuse outside_ranges) (refuse bad_image) → ⊥
seventeen e = let z : ◌≡◌ {A = ℕ} 17 20 = ap (λ (why : Refusal). number_of why.reason) (refused-same e) in omega arith

only-done : (view out : View) → in_ranges_only view ≡ done out → (view ≡ out) × (in_ranges view ≡ true)
only-done view out e = let met = cond-met (in_ranges view) outside_ranges (done view) out e in (done-same met.1, met.0)

only-outside : (b : Bool) (view : View) (why : Refusal) → cond b (done view) (refuse outside_ranges) ≡ refused why
    → (b ≡ false) × (why ≡ refusal outside_ranges)
only-outside true view why e = absurd (not_done (sym e))
only-outside false view why e = (refl, sym (refused-same e))

module _ (version : ImageVersion) (text : List ℕ) where
  pub read-lines : (view : View) → read_whole (image version) text ≡ done view → read_image version text ≡ in_ranges_only view
  unfolding read_image
  read-lines view e = rw e

  read_none : (why : Refusal) → read_whole (image version) text ≡ refused why → read_image version text ≡ refuse bad_image
  unfolding read_image
  read_none why e = rw (e, whole-refused (image version) text why e)

  pub read-only : (why : Refusal) → read_image version text ≡ refused why → (why ≡ refusal bad_image) ⊎ (why ≡ refusal outside_ranges)
  read-only why e = by (read_whole (image version) text) refl where
    by : (r : Answer View) → read_whole (image version) text ≡ r → (why ≡ refusal bad_image) ⊎ (why ≡ refusal outside_ranges)
    by (done view) was = inr (only-outside (in_ranges view) view why (sym (read-lines view was) ∙ e)).1
    by (refused other) was = inl (sym (refused-same (sym (read_none other was) ∙ e)))

  module _ (small : Octets text) where
    pub read-image : (view : View) → read_image version text ≡ done view → ImageOf version text view × (in_ranges view ≡ true)
    unfolding read_image
    read-image view e =
        let lines = bind_done (read_whole (image version) text) in_ranges_only view e in
        let only = only-done lines.0 view lines.2 in
        rw (← only.0) (reads_held version text lines.0 small lines.1, only.1)

    module _ (octet : version.octet < 256) where
      image-lines : (view : View) → ImageHolds version.limit view → image_text version view ≡ text → read_whole (image version) text ≡ done view
      image-lines view h e = rw (← e) (held_reads version view octet h)

      pub session-exactly : (view : View) → (read_image version text ≡ done view)
          ↔ ((ImageHolds version.limit view) × (image_text version view ≡ text) × (in_ranges view ≡ true))
      session-exactly view = (
        λ e. let so = read-image view e in (so.0.holds, so.0.written, so.1),
        λ x. read-lines view (image-lines view x.0 x.1) ∙ ap (λ (b : Bool). cond b (done view) (refuse outside_ranges)) x.2,
      )

      pub misshapen-exactly : (read_image version text ≡ refuse bad_image)
          ↔ ((view : View) → ImageHolds version.limit view → image_text version view ≡ text → ⊥)
      misshapen-exactly = (
        λ e view h is. never (in_ranges view) view (sym (read-lines view (image-lines view h is)) ∙ e),
        λ nobody. by nobody (read_whole (image version) text) refl,
      ) where
        never : (b : Bool) (view : View) → cond b (done view) (refuse outside_ranges) ≡ refuse bad_image → ⊥
        never true view e = not_done (sym e)
        never false view e = seventeen e

        by : ((view : View) → ImageHolds version.limit view → image_text version view ≡ text → ⊥)
            → (r : Answer View) → read_whole (image version) text ≡ r → read_image version text ≡ refuse bad_image
        by nobody (done view) was =
            let is = reads_held version text view small was in
            absurd (nobody view is.holds is.written)
        by nobody (refused why) was = read_none why was

      pub outside-exactly : (read_image version text ≡ refuse outside_ranges)
          ↔ ((view : View) × (ImageHolds version.limit view) × (image_text version view ≡ text) × (in_ranges view ≡ false))
      outside-exactly = (
        λ e. by e (read_whole (image version) text) refl,
        λ x.
            read-lines x.0 (image-lines x.0 x.1 x.2) ∙ ap (λ (b : Bool). cond b (done x.0) (refuse outside_ranges)) x.3,
      ) where
        by : read_image version text ≡ refuse outside_ranges → (r : Answer View) → read_whole (image version) text ≡ r
            → (view : View) × (ImageHolds version.limit view) × (image_text version view ≡ text) × (in_ranges view ≡ false)
        by e (done view) was =
            let is = reads_held version text view small was in
            (view, is.holds, is.written, (only-outside (in_ranges view) view (refusal outside_ranges) (sym (read-lines view was) ∙ e)).0)
        by e (refused why) was = absurd (seventeen (sym e ∙ read_none why was))
