-- The calls on images: what was written is the session's image, what was read is the very session, what they refuse, and that two answers
-- to one text are one. Assumes nothing.
use Rattle.std.proofs.Common.{Result, Ok, Err}
use Prim.Native.Nat.{ℕ, ◌≤◌}
use mathlib.Core.Path.{◌≡◌, refl, sym, ap, ap₂, subst, ◌∙◌}
use mathlib.Core.Logic.Iff
use mathlib.Core.Logic.{◌↔◌}
use mathlib.Core.Bool.{Bool, true, false, not}
use mathlib.Core.List.{List, [], ◌++◌}
use Rattle.std.specs.Prelude.{⊤, Result, Ok, Err}
use lib.ListN.{length, drop}
use lib.Seq.{take-append_seam}
use native.Mathlib.Omega.{arith}
use borrow.Author.Tests.{not-false}
use Rattle.length.specs.Refusals.{refusal, no_room, outside_ranges, bad_image, other_edition, number_of}
use Rattle.length.specs.Answers.{done, refused, refuse, fitted}
use Rattle.length.specs.Tables.{unless}
use Rattle.length.specs.declared.Refusal.{Refusal}
use Rattle.length.proofs.Laws.{not_done, done-same, refused-same, unless-past, unless-done, puts-refusal}
use Rattle.datagram.specs.Sizes.{packet_limit}
use Rattle.session_held.specs.Table.{lent_by, view_of}
use Rattle.session_held.specs.Laid.{lent_in_ranges, session_in_ranges, InRanges}
use Rattle.session_held.specs.Promise.{Sized}
use Rattle.session_held.specs.declared.Session.{Session}
use Rattle.session_held.proofs.Laws.{session-in-ranges, in-ranges-true, session-same, fresh-same}
use Rattle.image.specs.Layout.{image_version02}
use Rattle.image.specs.Image.{image_text, read_text, image_rows, image_to_write, LentOctets, image_limit}
use Rattle.image.specs.Promise.{ImageWritten, ImageRead, Restores}
use Rattle.image.specs.declared.Restored.{Restored}
use Rattle.image.proofs.Laws.{lent-octets, reads02}
use Rattle.image.proofs.Claims as images
use Rattle.demands.specs.Demand2.Demand2.{Saved}
use Rattle.demands.specs.Requests.Handover.{Wrote, restoring, ReadAs, ImageRefuses}
use Rattle.demands.proofs.RoundTrips.{done-fitted, puts-octets, puts_back}
use Rattle.demands.proofs.Demand1.{puts-unchanged}
use Rattle.demands.proofs.ImageTexts.{refused-only, another-exactly, misshapen-exactly, outside-exactly}

-- ---- what was written
-- it is the image of the session, which is within its ranges
pub record Image (s : Session) (text : List ℕ) : Type 0 where
  pub is : text ≡ image_text image_version02 (view_of s)
  pub ranges : session_in_ranges s ≡ true

written_is : (s : Session) (text : List ℕ) → image_to_write image_version02 (lent_by s) ≡ done text → Image s text
unfolding image_to_write
written_is s text e =
    record {
      is = unless-done (image_rows (lent_by s)) (image_text image_version02 (view_of s)) text e;
      ranges =
          not-false (lent_in_ranges (lent_by s))
          (unless-past (not (lent_in_ranges (lent_by s))) outside_ranges [] (image_text image_version02 (view_of s)) text e).0;
    }

pub wrote-image : {s : Session} {text : List ℕ} → Wrote s text → Image s text
wrote-image {s} {text} w =
    let put = puts-octets w.call refl in
    written_is s text (put.0 ∙ ap done (sym w.unaltered))

-- a session within its ranges is written as its image
pub to_write : {s : Session} → InRanges (lent_by s)
    → image_to_write image_version02 (lent_by s) ≡ done (image_text image_version02 (view_of s))
unfolding image_to_write unless
to_write within = rw (in-ranges-true within)

-- ---- what was read
-- a text that reads as a session within its ranges is answered with the very struct
module _ {s : Session} {text : List ℕ} (within : InRanges (lent_by s)) (reads : read_text text ≡ done (view_of s)) where
  restores-same : {t : Session} → ReadAs text t → t ≡ s
  restores-same {t} read = session-same t s read.state within (done-same (read.answer ∙ reads))

  pub restores : (t : Session) (a : Result ⊤ Refusal) → ImageRead text (record { session = t; answer = a })
      → record { session = t; answer = a } ≡ restoring s
  restores t (Ok tt) read = ap restoring (restores-same read)
  restores t (Err why) read = absurd (not_done (read.answer ∙ reads))

module _ {s : Session} {text : List ℕ} (within : InRanges (lent_by s)) (small : LentOctets (lent_by s)) (w : Wrote s text) where
  wrote-reads : read_text text ≡ done (view_of s)
  wrote-reads = rw (wrote-image w).is (reads02 (view_of s) within.sound (lent-octets small))

  pub read_same : {t : Session} → ReadAs text t → t ≡ s
  read_same = restores-same within wrote-reads

  pub reads-back : (t : Session) (a : Result ⊤ Refusal) → ImageRead text (record { session = t; answer = a })
      → record { session = t; answer = a } ≡ restoring s
  reads-back = restores within wrote-reads

-- every session within its ranges can be handed over
pub every_one : {s : Session} → Saved s → LentOctets (lent_by s) → (text : List ℕ) × Wrote s text × ReadAs text s
every_one {s} v small =
    let within = session-in-ranges s v.in_ranges v.sized in
    let text = image_text image_version02 (view_of s) in
    let fits : fitted (image_to_write image_version02 (lent_by s)) text ≡ done text = rw (to_write within) (done-fitted text text (omega arith)) in (
      text,
      record {
        old = text;
        new = text ++ drop (length text) text;
        size = length text;
        call = record { answer = rw fits; lent = rw fits };
        unaltered = sym (take-append_seam text (drop (length text) text));
      },
      record { answer = sym (reads02 (view_of s) within.sound (lent-octets small)); state = within },
    )

-- ---- the refusals
octets-refused : {n : ℕ} {why : Refusal} → Ok n ≡ Err why → ⊥
octets-refused e = let z : ◌≡◌ {A = ℕ} 0 1 = cc in omega arith

-- with room for any image none is too long
room-enough : {s : Session} {old new : List ℕ} {w : Result ℕ Refusal} → Sized s → LentOctets (lent_by s) → ImageWritten s old new w
    → image_limit packet_limit ≤ length old → w ≡ Err (refusal no_room) → ⊥
unfolding image_to_write unless
room-enough {s} {old} {new} {w} sized small put room is = by (session_in_ranges s) refl where
  by : (b : Bool) → session_in_ranges s ≡ b → ⊥
  by true e =
      let within = session-in-ranges s e sized in
      let holds = (images.claims).read_back.holds (view_of s) within.sound (lent-octets small) in
      let most = (images.claims).sized.most packet_limit (view_of s) holds in
      let long = (images.claims).sized.settled image_version02 (view_of s) in
      let back = puts_back put (to_write within) refl (omega (arith, most, long, room)) in
      octets-refused (sym back.answer ∙ is)
  by false e =
      let why : refused (refusal no_room) ≡ refuse outside_ranges = rw (is, e) at put.answer in
      let z : ◌≡◌ {A = ℕ} 13 17 = ap (λ (x : Refusal). number_of x.reason) (refused-same why) in
      omega arith

-- a refused read, and what the text then reads as
refused-told : {text : List ℕ} (t : Session) (a : Result ⊤ Refusal) (why : Refusal) → ImageRead text (record { session = t; answer = a })
    → (a ≡ Err why) ↔ (read_text text ≡ refused why)
refused-told t (Ok x) why read = (
  λ e. let z : ◌≡◌ {A = ℕ} 0 1 = cc in absurd (omega arith),
  λ e. absurd (not_done (sym (read.answer ∙ e))),
)
refused-told t (Err x) why read = (
  λ e. let same : x ≡ why = cc in sym read.answer ∙ ap refused same,
  λ e. ap Err (refused-same (read.answer ∙ e)),
)

pub refuses : ImageRefuses
refuses =
    record {
      write = λ s {old} put. puts-refusal put ∙ (images.claims).writes image_version02 (lent_by s) old;
      write_unchanged = λ s. puts-unchanged (image_to_write image_version02 (lent_by s));
      room_enough = room-enough;
      another_edition = λ {text} {r} read.
          Iff.trans (refused-told r.session r.answer (refusal other_edition) read) (another-exactly text);
      misshapen = λ {text} {r} small read.
          Iff.trans (refused-told r.session r.answer (refusal bad_image) read) (misshapen-exactly text small);
      outside = λ {text} {r} small read.
          Iff.trans (refused-told r.session r.answer (refusal outside_ranges) read) (outside-exactly text small);
      only = λ {text} {r} {why} read is. refused-only text why ((refused-told r.session r.answer why read).0 is);
      nothing = λ {text} {r} read is. subst (λ (a : Result ⊤ Refusal). Restores a r.session) is read.state;
    }

-- ---- one outcome
-- two answers to one text are one: within the ranges a session is told by its view, and a fresh one is one
pub read_one : {text : List ℕ} (t u : Session) (a b : Result ⊤ Refusal) → ImageRead text (record { session = t; answer = a })
    → ImageRead text (record { session = u; answer = b })
    → ◌≡◌ {A = Restored} (record { session = t; answer = a }) (record { session = u; answer = b })
read_one t u (Ok p) (Ok q) x y = ap restoring (session-same t u x.state y.state (done-same (x.answer ∙ sym y.answer)))
read_one t u (Ok p) (Err why) x y = absurd (not_done (sym (x.answer ∙ sym y.answer)))
read_one t u (Err why) (Ok p) x y = absurd (not_done (x.answer ∙ sym y.answer))
read_one t u (Err why) (Err other) x y =
    ap₂ (λ (s : Session) (r : Refusal). record { session = s; answer = Err r }) (fresh-same t u x.state y.state)
    (refused-same (x.answer ∙ sym y.answer))
