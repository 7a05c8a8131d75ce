-- The answers of the call: 17, then 13, and what is written. Assumes nothing.
use Rattle.std.proofs.Common.{Ok, Err}
use Prim.Native.Nat.{ℕ, ◌+◌, ◌≤◌, ◌<◌}
use mathlib.Core.Path.{◌≡◌, refl, sym, ap, ◌∙◌}
use mathlib.Core.Bool.{Bool, true, false, not}
use mathlib.Core.List.{List, ◌++◌}
use lib.ListN.{length, drop, length-append}
use native.Mathlib.Omega.{arith}
use Rattle.length.specs.Refusals.{outside_ranges, no_room}
use Rattle.length.specs.Answers.{done}
use Rattle.length.specs.Tables.{unless}
use Rattle.length.specs.Promise.{Put, Puts, RefusalMade}
use Rattle.length.specs.declared.Refusal.{Refusal}
use Rattle.length.proofs.Laws.{put-puts, full-puts}
use Rattle.session_held.specs.Slots.{kept_octets, message_octets}
use Rattle.session_held.specs.Table.{Lent, places}
use Rattle.session_held.specs.Laid.{lent_in_ranges}
use Rattle.session_held.proofs.Laws.{in-ranges-of}
use Rattle.line.specs.Promise.{Appends}
use Rattle.line.proofs.Laws.{appends-then}
use Rattle.image.specs.Layout.{version_written}
use Rattle.image.specs.Image.{image_to_write, line_size, first_image_size}
use Rattle.image_writer.proofs.Whole.{first-long, image-same, rows_long}
use Rattle.image_writer.specs.Rows.{Room, TableFits, rows_text, first_text, rows_size, SizeWithin}

-- what is laid from the first place on is put to the front
front-put : {text old new : List ℕ} {end : ℕ} → Appends text old 0 new end → Put text old new end
front-put {text} {old} p =
    let none : 0 + length text ≡ length text = omega arith in
    record {
      inside = omega (arith, p.fits);
      answer = p.after ∙ none;
      lent = p.lent ∙ ap (λ (n : ℕ). text ++ drop n old) none;
    }

is_true : (b : Bool) → not b ≡ false → b ≡ true
is_true true e = refl
is_true false e = sym e

is_false : (b : Bool) → not b ≡ true → b ≡ false
is_false true e = sym e
is_false false e = refl

-- the table and the stores have their lengths
abbrev pub Lengths : Lent → Type 0
Lengths session =
    (length session.table ≡ places)
    × ((length session.octets ≡ kept_octets) × (length session.messages ≡ message_octets))

-- the whole image, by its lines
abbrev whole_text : Lent → List ℕ
whole_text session =
    first_text version_written.octet session.base session.counts
    ++ rows_text session.base session.table session.octets session.messages

module _ (session : Lent) {ok : Bool} (told : ok ≡ lent_in_ranges session) where
  pub write-outside : {old : List ℕ} {why : Refusal} → RefusalMade outside_ranges why → not ok ≡ true
      → Puts (image_to_write version_written session) old old (Err why)
  unfolding image_to_write unless
  write-outside made out =
      let outside : lent_in_ranges session ≡ false = sym told ∙ is_false ok out in
      record { answer = rw (outside, made.answer); lent = rw outside }

  module _ (inside : not ok ≡ false) (long : Lengths session) where
    within : lent_in_ranges session ≡ true
    within = sym told ∙ is_true ok inside

    pub table_fits : TableFits session.table
    table_fits =
        let laid = (in-ranges-of session within long.0 long.1.0 long.1.1).laid in
        record { long = laid.long; state = laid.state; size = laid.size; few = laid.few; part = laid.part }

    to_write : image_to_write version_written session ≡ done (whole_text session)
    unfolding image_to_write unless
    to_write =
        rw (
          within,
          image-same session.base session.counts session.table session.octets session.messages table_fits,
        )

    module _ {most size : ℕ} (sized : SizeWithin (rows_size session.base session.table) most size) where
      whole_long : length (whole_text session) ≡ line_size first_image_size + size
      whole_long =
          length-append (first_text version_written.octet session.base session.counts) _
          ∙ omega (
            arith,
            first-long version_written.octet session.base session.counts,
            rows_long session.base session.counts session.table session.octets session.messages table_fits long.1.0
                long.1.1,
            sized.answer,
          )

      pub write-full : {old : List ℕ} {why : Refusal} → RefusalMade no_room why → length old < line_size first_image_size + size
          → Puts (image_to_write version_written session) old old (Err why)
      write-full made full = rw to_write (full-puts made (omega (arith, whole_long)))

      pub write-room : {old : List ℕ} → line_size first_image_size + size ≤ length old → Room (whole_text session) old 0
      write-room enough = record { fits = omega (arith, whole_long) }

    pub write_done : {old middle new : List ℕ} {at end : ℕ}
        → Appends (first_text version_written.octet session.base session.counts) old 0 middle at
        → Appends (rows_text session.base session.table session.octets session.messages) middle at new end
        → Puts (image_to_write version_written session) old new (Ok end)
    write_done first rows = rw to_write (put-puts (front-put (appends-then first rows)))
