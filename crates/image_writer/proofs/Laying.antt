-- Texts laid one after the other into a buffer that has room for all of them. Assumes nothing.
use Prim.Native.Nat.{ℕ, ◌+◌, ◌-◌, ◌*◌, ◌/◌, ◌%◌, ◌≤◌, ◌<◌}
use mathlib.Core.Path.{◌≡◌, refl, sym, ap, ◌∙◌}
use mathlib.Core.Bool.{Bool, true, false}
use mathlib.Core.List.{List, [], ◌∷◌, ◌++◌}
use lib.ListN.{length, set, take, drop, length-append}
use lib.Seq.{take_at}
use native.Mathlib.Omega.{arith}
use mir.Val.{bool_byte}
use Rattle.format.specs.Format.{flag_bit}
use Rattle.length.specs.Length.{length_limit}
use Rattle.length.specs.Promise.{Put}
use Rattle.length.proofs.Laws.{size-written}
use Rattle.datagram.specs.Sizes.{packet_limit, messages_limit}
use Rattle.datagram.specs.Write.{item_octets}
use Rattle.datagram.specs.Inner.Heads.{item_size}
use Rattle.session_slots.specs.Store.{part, HasSlot}
use Rattle.session_slots.proofs.Laws.{length_part}
use Rattle.session_held.specs.Slots.{slots_heard, message_slot, kept_octets, message_octets}
use Rattle.session_held.specs.Table.{state_in, size_in, note_in, message_size_in, message_in}
use Rattle.session_held.proofs.Laws.{message-small, has-packet-slot, has-message-slot}
use Rattle.line.specs.Hex.{hex_of}
use Rattle.line.specs.Lines.{line_feed}
use Rattle.line.specs.Promise.{Appends}
use Rattle.line.proofs.Laws.{appends-none, appends-one, appends-then, appends-long, length-hex_of}
use Rattle.image.specs.Parts.{high_first_octets}
use Rattle.image.specs.Image.{longest_item}
use Rattle.image.proofs.Laws.{length-number}
use Rattle.image_writer.specs.Rows.{Room, TableFits, image_row_at, RowFits, ImageRowTold, kept_front, kept_text, count_octets, message_text}
use Rattle.image_writer.specs.Rows.{messages_text, row_text}
use Rattle.image_writer.specs.declared.rows.Row.{Row}

-- the room for a text is that for its front, and after that for the rest
pub room-front : (a b : List ℕ) {old : List ℕ} {at : ℕ} → Room (a ++ b) old at → Room a old at
room-front a b room = record { fits = omega (arith, length-append a b, room.fits) }

pub room-rest : {a old new : List ℕ} {at end : ℕ} (b : List ℕ) → Appends a old at new end → Room (a ++ b) old at → Room b new end
room-rest {a} b p room = record { fits = omega (arith, length-append a b, room.fits, p.after, appends-long p) }

-- two characters for each octet
pub room-hex : (octets : List ℕ) {old : List ℕ} {at : ℕ} → Room (hex_of octets) old at → at + 2 * length octets ≤ length old
room-hex octets room = omega (arith, length-hex_of octets, room.fits)

-- a line feed at a place
pub feed-put : {old : List ℕ} {at : ℕ} → Room (line_feed ∷ []) old at → Appends (line_feed ∷ []) old at (set old at line_feed) (at + 1)
feed-put room = appends-one (appends-none (omega (arith, room.fits))) line_feed (omega (arith, room.fits))

-- ---- a count
module _ (count : ℕ) {old : List ℕ} {at : ℕ} where
  pub count_room : Room (hex_of (high_first_octets 4 count)) old at → at + 2 * 4 ≤ length old
  count_room room = omega (arith, length-hex_of (high_first_octets 4 count), length-number 4 count, room.fits)

  pub count-put : {new : List ℕ} {end : ℕ}
      → Appends (hex_of (count / 256 / 256 / 256 % 256 ∷ count / 256 / 256 % 256 ∷ count / 256 % 256 ∷ count % 256 ∷ [])) old at new end
      → Appends (hex_of (high_first_octets 4 count)) old at new end
  unfolding high_first_octets
  count-put p = p

-- ---- a packet or message, of which a line of octets is made
part_of : (store : List ℕ) (slot size : ℕ)
    → take (slot * packet_limit + size - slot * packet_limit) (drop (slot * packet_limit) store) ≡ part store slot size
unfolding part
part_of store slot size =
    let all : slot * packet_limit + size - slot * packet_limit ≡ size = omega arith in
    ap (λ (n : ℕ). take n (drop (slot * packet_limit) store)) all

module _ (store : List ℕ) (slot size : ℕ) where
  pub item-asked : HasSlot slot store → size ≤ packet_limit
      → (length (take (slot * packet_limit + size - slot * packet_limit) (drop (slot * packet_limit) store)) ≤ length_limit)
      × (item_size (length (take (slot * packet_limit + size - slot * packet_limit) (drop (slot * packet_limit) store)))
      ≤ longest_item packet_limit)
  item-asked has short =
      rw (part_of store slot size, length_part store slot size has short) (omega arith, omega (arith, (size-written size).1))

  module _ {line new : List ℕ} {count : ℕ}
      (p : Put (item_octets (take (slot * packet_limit + size - slot * packet_limit) (drop (slot * packet_limit) store))) line new count) where
    taken : take count new ≡ item_octets (part store slot size)
    taken =
        ap (take count) p.lent
        ∙ take_at _ _ count (sym p.answer)
        ∙ ap item_octets (part_of store slot size)

    pub taken-long : count ≡ length (take count new)
    taken-long = p.answer ∙ ap (λ (l : List ℕ). length (item_octets l)) (part_of store slot size) ∙ ap length (sym taken)

    pub taken-room : {old : List ℕ} {at : ℕ} → Room (hex_of (item_octets (part store slot size))) old at
        → at + 2 * length (take count new) ≤ length old
    taken-room room = rw taken (room-hex (item_octets (part store slot size)) room)

    pub taken-put : {old out : List ℕ} {at end : ℕ} → Appends (hex_of (take count new)) old at out end
        → Appends (hex_of (item_octets (part store slot size))) old at out end
    taken-put a = rw taken at a

-- ---- state, accepted, note and packet
mark-octet : (accepted : Bool) → bool_byte accepted ≡ flag_bit accepted
mark-octet true = refl
mark-octet false = refl

module _ (t : List ℕ) (row : Row) where
  pub front-put : {state note : ℕ} {old new : List ℕ} {at end : ℕ} → state ≡ state_in t row.slot → note ≡ note_in t row.slot
      → Appends (hex_of (state % 256 ∷ bool_byte row.accepted ∷ note / 256 % 256 ∷ note % 256 ∷ [])) old at new end
      → Appends (hex_of (kept_front t row)) old at new end
  front-put is_state is-note p = rw (is_state, mark-octet row.accepted, is-note) at p

  module _ (o : List ℕ) {size : ℕ} {old new : List ℕ} {at next : ℕ} (is : size ≡ size_in t row.slot)
      (p : Appends (hex_of (kept_front t row)) old at new next) where
    pub kept-asked : TableFits t → length o ≡ kept_octets → RowFits row → Room (kept_text t o row) old at
        → HasSlot row.slot o × ((size ≤ packet_limit) × Room (hex_of (item_octets (part o row.slot size))) new next)
    kept-asked fits long x room = (
      has-packet-slot o row.slot long x.slot,
      (omega (arith, is, fits.size row.slot x.slot), rw is (room-rest _ p room)),
    )

    pub kept_put : {newer : List ℕ} {end : ℕ} → Appends (hex_of (item_octets (part o row.slot size))) new next newer end
        → Appends (kept_text t o row) old at newer end
    kept_put q = appends-then p (rw is at q)

-- ---- a message
module _ (t g : List ℕ) (heard i : ℕ) {size : ℕ} {old : List ℕ} {at : ℕ} (is : size ≡ message_size_in t (message_slot heard i)) where
  pub message-asked : TableFits t → length g ≡ message_octets → heard < slots_heard → i < messages_limit
      → Room (message_text t g heard i) old at
      → HasSlot (message_slot heard i) g × ((size ≤ packet_limit) × Room (hex_of (item_octets (part g (message_slot heard i) size))) old at)
  unfolding message_in
  message-asked fits long small low room = (
    has-message-slot g (message_slot heard i) long (message-small heard i small low),
    (omega (arith, is, fits.part heard i small low), rw is room),
  )

  pub message-put : {new : List ℕ} {end : ℕ} → Appends (hex_of (item_octets (part g (message_slot heard i) size))) old at new end
      → Appends (message_text t g heard i) old at new end
  unfolding message_in
  message-put p = rw is at p

-- ---- the line of a number, part by part
module _ (t o g : List ℕ) (row : Row) {old : List ℕ} {at : ℕ} where
  pub row_kept : Room (row_text t o g row) old at → Room (kept_text t o row) old at
  unfolding row_text
  row_kept room = room-front (kept_text t o row) _ room

  module _ {new : List ℕ} {one : ℕ} (kept : Appends (kept_text t o row) old at new one) where
    after_kept : Room (row_text t o g row) old at
        → Room (hex_of (count_octets row) ++ (messages_text t g row.heard row.m ++ (line_feed ∷ []))) new one
    unfolding row_text
    after_kept room = room-rest _ kept room

    pub row_counts : Room (row_text t o g row) old at → one + 2 * 2 ≤ length new
    row_counts room = room-hex (count_octets row) (room-front (hex_of (count_octets row)) _ (after_kept room))

    module _ {newer : List ℕ} {two : ℕ} (counts : Appends (hex_of (count_octets row)) new one newer two) where
      after-counts : Room (row_text t o g row) old at → Room (messages_text t g row.heard row.m ++ (line_feed ∷ [])) newer two
      after-counts room = room-rest _ counts (after_kept room)

      pub row-messages : Room (row_text t o g row) old at → Room (messages_text t g row.heard row.m) newer two
      row-messages room = room-front (messages_text t g row.heard row.m) _ (after-counts room)

      module _ {newest : List ℕ} {three : ℕ} (messages : Appends (messages_text t g row.heard row.m) newer two newest three) where
        pub row-feed : Room (row_text t o g row) old at → Room (line_feed ∷ []) newest three
        row-feed room = room-rest _ messages (after-counts room)

        pub row_put : {last : List ℕ} {end : ℕ} → Appends (line_feed ∷ []) newest three last end
            → Appends (row_text t o g row) old at last end
        unfolding row_text
        row_put feed = appends-then kept (appends-then counts (appends-then messages feed))

-- a row that was told is the one at its place
module _ {base place : ℕ} {t : List ℕ} {row : Row} (told : ImageRowTold base t place row) (o g : List ℕ) {old : List ℕ} {at : ℕ} where
  pub told-room : Room (row_text t o g (image_row_at base t place)) old at → Room (row_text t o g row) old at
  told-room room = rw told.answer room

  pub told-put : {new : List ℕ} {end : ℕ} → Appends (row_text t o g row) old at new end
      → Appends (row_text t o g (image_row_at base t place)) old at new end
  told-put p = rw told.answer at p
