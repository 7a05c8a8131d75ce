-- Images that the host's calls write and read: a text that a write put into a buffer reads back as the same session, and a buffer of the
-- length of the longest image is large enough for any image. Assumes nothing.
use Prim.Native.Nat.{ℕ, ◌≤◌}
use mathlib.Core.Path.{◌≡◌, refl, sym, ap, ap₂, subst, ◌∙◌}
use mathlib.Core.Bool.{Bool, true, false}
use mathlib.Core.List.{List, ◌++◌}
use lib.ListN.{length, take, drop}
use lib.Seq.{take-append_seam}
use lib.Dec.{leb}
use native.Mathlib.Omega.{arith}
use borrow.Author.Tests.{le-leb}
use Rattle.length.specs.Refusals.{no_room, outside_ranges, number_of}
use Rattle.length.specs.Answers.{Answer, done, refuse, fitted, size_of, over}
use Rattle.length.specs.Tables.{unless}
use Rattle.datagram.specs.Sizes.{packet_limit}
use Rattle.session.specs.View.{View}
use Rattle.session_held.specs.Table.{lent_by, view_of}
use Rattle.session_held.specs.Laid.{session_in_ranges, InRanges}
use Rattle.session_held.specs.Promise.{Sized}
use Rattle.session_held.specs.declared.Session.{Session}
use Rattle.session_held.proofs.Laws.{session-in-ranges, session-same}
use Rattle.image.specs.Layout.{image_version02}
use Rattle.image.specs.Image.{image_text, read_text, image_to_write, LentOctets, image_limit}
use Rattle.image.proofs.Laws.{lent-octets, reads02}
use Rattle.image.proofs.Claims as images
use Rattle.session_calls.specs.Receiver.{SeenAs, After}
use Rattle.host_answers.specs.Answers.{told, wrote_told}
use Rattle.host.specs.Receiver.{session_in}
use Rattle.host.specs.Image.{RestoreHosted}
use Rattle.host.specs.ImageClaims.{HandedOver}
use Rattle.host_answers.specs.declared.answers.Answered.{Answered}
use Rattle.host_answers.specs.declared.answers.Wrote.{Wrote}
use Rattle.host.specs.declared.receiver.Head.{Head}
use Rattle.host.specs.declared.image_calls.AfterRestore.{AfterRestore}

-- ---- what follows from the answer of a write
-- by a session within its ranges, and by another
to_write : (s : Session) → session_in_ranges s ≡ true → image_to_write image_version02 (lent_by s) ≡ done (image_text image_version02 (view_of s))
unfolding image_to_write unless
to_write s inside = rw inside

none-to-write : (s : Session) → session_in_ranges s ≡ false → image_to_write image_version02 (lent_by s) ≡ refuse outside_ranges
unfolding image_to_write unless
none-to-write s outside = rw outside

abbrev told_of : Session → List ℕ → Wrote
told_of s old = wrote_told (size_of (fitted (image_to_write image_version02 (lent_by s)) old))

-- if it is done, the session is within its ranges, and there was room
done-inside : (s : Session) (old : List ℕ) → (told_of s old).refusal ≡ 0 → session_in_ranges s ≡ true
done-inside s old told-done = by (session_in_ranges s) refl
  where
    by : (b : Bool) → session_in_ranges s ≡ b → b ≡ true
    by true e = refl
    by false e = let z : ◌≡◌ {A = ℕ} (number_of outside_ranges) 0 = rw (none-to-write s e) at told-done in absurd (omega arith)

done-fits : (a : Answer (List ℕ)) (text old : List ℕ) → a ≡ done text → (wrote_told (size_of (fitted a old))).refusal ≡ 0
    → fitted a old ≡ done text
done-fits a text old is told-done = by (leb (length text) (length old)) refl
  where
    by : (b : Bool) → leb (length text) (length old) ≡ b → fitted a old ≡ done text
    by true e = rw (is, e)
    by false e = let z : ◌≡◌ {A = ℕ} (number_of no_room) 0 = rw (is, e) at told-done in absurd (omega arith)

module _ (s : Session) (old : List ℕ) {new : List ℕ} {w : Wrote} (answer : w ≡ told_of s old)
    (lent : new ≡ over (fitted (image_to_write image_version02 (lent_by s)) old) old) (ok : w.refusal ≡ 0) where
  told-done : (told_of s old).refusal ≡ 0
  told-done = sym (ap (λ (x : Wrote). x.refusal) answer) ∙ ok

  inside : session_in_ranges s ≡ true
  inside = done-inside s old told-done

  front : take w.size new ≡ image_text image_version02 (view_of s)
  front =
      let text = image_text image_version02 (view_of s) in
      let fits = done-fits (image_to_write image_version02 (lent_by s)) text old (to_write s inside) told-done in
      let size : w.size ≡ length text =
      ap (λ (x : Wrote). x.size) answer ∙ ap (λ (a : Answer (List ℕ)). (wrote_told (size_of a)).size) fits in
      let laid : new ≡ text ++ drop (length text) old = lent ∙ ap (λ (a : Answer (List ℕ)). over a old) fits in
      ap₂ (λ (n : ℕ) (x : List ℕ). take n x) size laid ∙ take-append_seam text (drop (length text) old)

-- ---- read back
module _ (s : Session) (within : InRanges (lent_by s)) (small : LentOctets (lent_by s)) {text : List ℕ}
    (is : text ≡ image_text image_version02 (view_of s)) where
  reads : read_text text ≡ done (view_of s)
  reads = ap read_text is ∙ reads02 (view_of s) within.sound (lent-octets small)

  restored : {k : Head} {t o g t₂ o₂ g₂ : List ℕ} {r : AfterRestore} → RestoreHosted text k t o g t₂ o₂ g₂ r
      → (r.answer.refusal ≡ 0) × (session_in r.head t₂ o₂ g₂ ≡ s)
  restored {k} {t} {o} {g} {t₂} {o₂} {g₂} {r} read =
      let after = session_in r.head t₂ o₂ g₂ in
      let seen : SeenAs (view_of s) after = subst (λ (a : Answer View). After a (session_in k t o g) after) reads read.state in (
        ap (λ (x : Answered). x.refusal) (read.answer ∙ ap told reads),
        session-same after s seen.within within seen.view,
      )

-- ---- room for any image
room-enough : (s : Session) (old : List ℕ) → Sized s → LentOctets (lent_by s) → image_limit packet_limit ≤ length old
    → (told_of s old).refusal ≡ number_of no_room → ⊥
room-enough s old sized small room short = by (session_in_ranges s) refl
  where
    by : (b : Bool) → session_in_ranges s ≡ b → ⊥
    by true e =
        let within = session-in-ranges s e sized in
        let text = image_text image_version02 (view_of s) in
        let holds = (images.claims).read_back.holds (view_of s) within.sound (lent-octets small) in
        let most = (images.claims).sized.most packet_limit (view_of s) holds in
        let long = (images.claims).sized.settled image_version02 (view_of s) in
        let fits = le-leb (length text) (length old) (omega (arith, most, long, room)) in
        let z : ◌≡◌ {A = ℕ} 0 (number_of no_room) = rw (to_write s e, fits) at short in
        omega arith
    by false e = let z : ◌≡◌ {A = ℕ} (number_of outside_ranges) (number_of no_room) = rw (none-to-write s e) at short in omega arith

pub handed-over : HandedOver
handed-over =
    record {
      back = λ {h} {k} {table} {octets} {messages} {old} sized small put ok read.
          let s = session_in h table octets messages in
          let within = session-in-ranges s (inside s old put.answer put.lent ok) sized in
          restored s within small (front s old put.answer put.lent ok) read;
      room = λ {h} {table} {octets} {messages} {old} sized small put enough short.
          room-enough (session_in h table octets messages) old sized small enough
          (sym (ap (λ (x : Wrote). x.refusal) put.answer) ∙ short);
    }
