-- One law for each answer of `read_edition`: 20 where the text is no image, then 17 where the session that it is an image of is outside its
-- ranges; and of `read`, by the edition that the text names.
-- Assumes nothing.
use Rattle.std.proofs.Common.{◌≡◌, ℕ, Bool, true, false, cond, List, Option, Some, None, Ok, get_or, replicate, sym, ap, ◌∙◌, ⊎_elim, ne_eqb}
use lib.ListN.{length-replicate, get_or-replicate, get_or-eq_default}
use Rattle.octets.proofs.Laws.{true-or-false, below_or_not}
use Rattle.length.specs.Refusals.{outside_ranges, bad_image, other_edition}
use Rattle.length.specs.Answers.{done, refuse}
use Rattle.length.specs.declared.Reason.{Reason}
use Rattle.session.specs.Ranges.{in_ranges}
use Rattle.session.proofs.Laws.{sound-of, in_ranges-of}
use Rattle.session_held.specs.Slots.{kept_octets, message_octets}
use Rattle.session_held.specs.Table.{Lent, lent, view_in, places}
use Rattle.session_held.specs.Laid.{lent_in_ranges, Laid, InRanges}
use Rattle.session_held.proofs.Laws.{length-cells, length-held, in-ranges-of, in-ranges-true}
use Rattle.image.specs.Layout.{ImageVersion}
use Rattle.image.specs.Image.{in_ranges_only, read_image, names_edition, edition_named, read_text}
use Rattle.image.specs.Promise.{ImageRead}
use Rattle.image.specs.declared.Restored.{Restored}
use Rattle.image.proofs.Laws.{read-lines, by01, by02}
use Rattle.image_reader.specs.Text.{EditionTold}
use Rattle.image_reader.specs.Whole.{Cleared, CoreRead, CoreTold, EditionRead, NothingRestored}
use Rattle.image_reader.specs.declared.whole.First.{First}
use Rattle.image_reader.proofs.NumberSteps.{contrary}

-- ---- zeros
zero-at : (n k : ℕ) → ◌≡◌ {A = ℕ} (get_or (replicate n 0) k 0) 0
zero-at n k =
    ⊎_elim (λ below. get_or-replicate n k 0 0 below)
    (λ past. get_or-eq_default (replicate n 0) 0 (rw (length-replicate {A = ℕ} n 0) past))
    (below_or_not k n)

pub cleared-zeros : Cleared (replicate places 0) (replicate kept_octets 0) (replicate message_octets 0)
cleared-zeros =
    record {
      sized =
          record {
            table = length-replicate {A = ℕ} places 0;
            octets = length-replicate {A = ℕ} kept_octets 0;
            messages = length-replicate {A = ℕ} message_octets 0;
          };
      table = λ k. zero-at places k;
      octets = λ k. zero-at kept_octets k;
      messages = λ k. zero-at message_octets k;
    }

-- ---- what is stored is within the ranges exactly if its view is
ranges-of : (l : Lent) → Laid l.table l.octets l.messages → in_ranges (view_in l) ≡ true → InRanges l
unfolding view_in
ranges-of l laid e =
    record {
      laid = laid;
      sound = sound-of (view_in l) e (length-cells l.base l.table l.octets) (length-held l.base l.table l.messages);
    }

seen-in : (l : Lent) → Laid l.table l.octets l.messages → lent_in_ranges l ≡ in_ranges (view_in l)
seen-in l laid =
    ⊎_elim (λ sees. in-ranges-true (ranges-of l laid sees) ∙ sym sees)
    (λ out.
    ⊎_elim
    (λ passes.
    contrary (in_ranges-of (in-ranges-of l passes laid.long laid.octets laid.messages).sound) out)
    (λ fails. fails ∙ sym out)
    (true-or-false (lent_in_ranges l)))
    (true-or-false (in_ranges (view_in l)))

-- ---- the answers
refused-read : {octet limit : ℕ} {text : List ℕ} {number : Reason} {r : Restored} → NothingRestored number r
    → read_image (record { octet = octet; limit = limit }) text ≡ refuse number
    → EditionRead octet limit text r
refused-read made e = record { answer = rw made.answer (sym e); state = rw made.answer made.state }

module _ {octet limit : ℕ} {text t o g : List ℕ} {r : Option First} (core : CoreTold octet limit text t o g r) where
  abbrev edition : ImageVersion
  edition = record { octet = octet; limit = limit }

  pub read-misshapen : {q : Restored} → r ≡ None → NothingRestored bad_image q → EditionRead octet limit text q
  unfolding read_image
  read-misshapen so made =
      let none = rw so at core.answer in
      refused-read made (rw none)

  module _ {found : First} (so : r ≡ Some found) {ok : Bool} (told : ok ≡ lent_in_ranges (lent found.base found.counts t o g)) where
    core-read : CoreRead octet limit text t o g found
    core-read = rw so at core.answer

    reads : read_image edition text ≡ in_ranges_only (view_in (lent found.base found.counts t o g))
    reads = read-lines edition text (view_in (lent found.base found.counts t o g)) core-read.is

    seen : ok ≡ in_ranges (view_in (lent found.base found.counts t o g))
    seen = told ∙ seen-in (lent found.base found.counts t o g) core-read.laid

    answers : (b : Bool) → ok ≡ b → read_image edition text
        ≡ cond b (done (view_in (lent found.base found.counts t o g))) (refuse outside_ranges)
    answers b is =
        reads ∙ ap (λ (x : Bool). cond x (done (view_in (lent found.base found.counts t o g))) (refuse outside_ranges)) (sym seen ∙ is)

    pub read-outside : {q : Restored} → ok ≡ false → NothingRestored outside_ranges q → EditionRead octet limit text q
    read-outside out made = refused-read made (answers false out)

    pub read-restored : ok ≡ true → EditionRead octet limit text
        (record {
          session = record { base = found.base; counts = found.counts; table = t; octets = o; messages = g };
          answer = Ok tt;
        })
    read-restored passes =
        let laid = core-read.laid in
        record {
          answer = sym (answers true passes);
          state = in-ranges-of (lent found.base found.counts t o g) (sym told ∙ passes) laid.long laid.octets laid.messages;
        }

-- ---- by the edition that the text names
made-read : {text : List ℕ} {number : Reason} {r : Restored} → NothingRestored number r → read_text text ≡ refuse number → ImageRead text r
made-read made e = record { answer = rw made.answer (sym e); state = rw made.answer made.state }

pub read-nothing : {text : List ℕ} {n : Option ℕ} {r : Restored} → EditionTold text n → n ≡ None → NothingRestored bad_image r
    → ImageRead text r
unfolding read_text
read-nothing told is made =
    let none : names_edition _ ≡ false = rw is at told.told in
    made-read made (rw none)

module _ {text : List ℕ} {n : Option ℕ} {octet : ℕ} (told : EditionTold text n) (is : n ≡ Some octet) where
  names : (names_edition text ≡ true) × (edition_named text ≡ octet)
  names = rw is at told.told

  pub read-old : {r : Restored} → octet ≡ 1 → EditionRead 1 160 text r → ImageRead text r
  read-old one read =
      record {
        answer = read.answer ∙ sym (by01 text (record { reads = names.0; named = names.1 ∙ one }));
        state = read.state;
      }

  pub read-new : {r : Restored} → octet ≡ 2 → EditionRead 2 256 text r → ImageRead text r
  read-new two read =
      record {
        answer = read.answer ∙ sym (by02 text (record { reads = names.0; named = names.1 ∙ two }));
        state = read.state;
      }

  pub read-other : {r : Restored} → (octet ≡ 1 → ⊥) → (octet ≡ 2 → ⊥) → NothingRestored other_edition r → ImageRead text r
  unfolding read_text
  read-other one two made =
      made-read made (rw (names.0, names.1, ne_eqb octet 1 one, ne_eqb octet 2 two))

pub ruleset readings = (read-nothing, read-old, read-new, read-other)
