-- Two editions of one session: each image that can hold it is read as the very session, and is its only one there. Assumes nothing.
use mathlib.Core.Path.{◌≡◌, refl, sym, subst, ◌∙◌}
use mathlib.Core.Logic.{inl, inr}
use Prim.Native.Nat.{ℕ}
use mathlib.Core.List.{List}
use Rattle.std.specs.Prelude.{⊤, Result, Ok, Err}
use Rattle.length.specs.declared.Refusal.{Refusal}
use Rattle.length.specs.Answers.{done}
use Rattle.length.specs.Claims.{Octets}
use Rattle.length.proofs.Laws.{not_done, done-same}
use Rattle.session.specs.View.{View}
use Rattle.session_held.specs.Table.{lent_by, view_of}
use Rattle.session_held.specs.Laid.{InRanges}
use Rattle.session_held.specs.declared.Session.{Session}
use Rattle.session_held.proofs.Laws.{session-in-ranges}
use Rattle.image.specs.Layout.{ImageVersion, image_version01, image_version02}
use Rattle.image.specs.Image.{image_text, read_text, LentOctets}
use Rattle.image.specs.Promise.{ImageRead}
use Rattle.image.specs.Claims.{Short}
use Rattle.image.proofs.Laws.{lent-octets}
use Rattle.image.proofs.Claims as images
use Rattle.demands.specs.Demand2.Demand2.{Saved}
use Rattle.demands.specs.Requests.Handover.{ReadAs, IsRead, Names}
use Rattle.demands.specs.Requests.Editions.{HeldBy, OneImageIn, Editions}
use Rattle.demands.proofs.ImageTexts.{octet-small, names-own, short-reads}
use Rattle.demands.proofs.ImageCalls.{wrote-image, restores}
use Rattle.demands.proofs.Handover.{edition-reads}

held-within : {edition : ImageVersion} {s : Session} → HeldBy edition s → InRanges (lent_by s)
held-within {edition} {s} h = session-in-ranges s h.saved.in_ranges h.saved.sized

module _ (edition : ImageVersion) (is : IsRead edition) where
  held_reads : {s : Session} → HeldBy edition s → read_text (image_text edition (view_of s)) ≡ done (view_of s)
  held_reads {s} h = short-reads edition is (view_of s) (held-within h).sound (lent-octets h.lent) h.short

  -- what is read holds nothing over the limit
  read_short : {t : Session} {text : List ℕ} → Octets text → Names edition text → ReadAs text t → Short edition.limit (view_of t)
  read_short {t} {text} small n read =
      let reads = edition-reads edition is n read in
      let holds = (((images.claims).reads.session edition text (view_of t) (octet-small edition is) small).0 reads).0 in
      record { packet = λ p below. (holds.packet p below).short; message = λ d below i less. (holds.message d below i less).short }

  one-image-in : OneImageIn edition
  one-image-in =
      record {
        image = λ {s} h. (
          image_text edition (view_of s),
          names-own edition is (view_of s),
          record { answer = sym (held_reads h); state = held-within h },
        );
        same = λ {s} {r} h. restores (held-within h) (held_reads h) r.session r.answer;
        limited = read_short;
        one = λ {t} {text} small n read.
            sym ((images.claims).one_image.written edition text (view_of t) small (edition-reads edition is n read));
      }

holds-all : {s : Session} → Saved s → LentOctets (lent_by s) → HeldBy image_version02 s
holds-all {s} v small =
    let within = session-in-ranges s v.in_ranges v.sized in
    record { saved = v; lent = small; short = (images.claims).editions.holds_all (view_of s) within.sound (lent-octets small) }

-- what reads as a session, however it is held, is answered with it
answered : {text : List ℕ} {view : View} → read_text text ≡ done view → (t : Session) (a : Result ⊤ Refusal)
    → ImageRead text (record { session = t; answer = a }) → (a ≡ (Ok tt)) × (view_of t ≡ view)
answered reads t (Ok tt) read = (refl, done-same (read.answer ∙ reads))
answered reads t (Err why) read = absurd (not_done (read.answer ∙ reads))

pub editions : Editions
editions =
    record {
      written = λ {s} w.
          let is = (wrote-image w).is in
          (is, subst (Names image_version02) (sym is) (names-own image_version02 (inr refl) (view_of s)));
      holds_all = holds-all;
      one_image = one-image-in;
      both_same = λ h one two.
          (one-image-in image_version01 (inl refl)).same h one
          ∙ sym ((one-image-in image_version02 (inr refl)).same (holds-all h.saved h.lent) two);
      older = λ {view} {r} s o short read. answered (short-reads image_version01 (inl refl) view s o short) r.session r.answer read;
    }
