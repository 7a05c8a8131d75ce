-- What the table says of a row, and how long its line is. Assumes nothing.
use Prim.Native.Nat.{ℕ, zero, suc, ◌+◌, ◌-◌, ◌*◌, ◌≤◌, ◌<◌}
use mathlib.Core.Path.{◌≡◌, refl, ap, ◌∙◌}
use mathlib.Core.Bool.{Bool}
use mathlib.Core.Logic.{⊎_elim}
use mathlib.Core.List.{List, [], ◌∷◌, ◌++◌}
use lib.ListN.{length, length-append}
use lib.Dec.{eqb}
use native.Mathlib.Omega.{arith}
use borrow.Author.Tests.{lt-ltb, le-ltb}
use Rattle.octets.specs.Place.{tab}
use Rattle.octets.proofs.Laws.{tab-ext, below_or_not}
use Rattle.length.proofs.Laws.{size-written}
use Rattle.datagram.specs.Sizes.{packet_limit, messages_limit}
use Rattle.datagram.specs.Write.{item_octets, sum_of}
use Rattle.datagram.specs.Inner.Heads.{item_size}
use Rattle.datagram.proofs.Laws.{item-length}
use Rattle.session_slots.specs.Store.{part}
use Rattle.session_slots.proofs.Laws.{length_part}
use Rattle.session.specs.Cells.{kept_before}
use Rattle.session_held.specs.Slots.{slots_heard, slot_at, heard_slot_at, message_slot, kept_octets, message_octets}
use Rattle.session_held.specs.Table.{size_in, mark_in, n_in, m_in, message_size_in, message_in}
use Rattle.session_held.proofs.Laws.{slot_small, heard-small, message-small, has-packet-slot, has-message-slot}
use Rattle.line.specs.Hex.{hex_of}
use Rattle.line.specs.Lines.{line_feed}
use Rattle.line.proofs.Laws.{length-hex_of}
use Rattle.image.specs.Octets.{in_row}
use Rattle.image.specs.Image.{line_size, longest_item, number_line_limit}
use Rattle.image_writer.specs.Rows.{TableFits, row_before, image_row_at, RowFits, ImageRowTold, kept_front, kept_text, all_texts}
use Rattle.image_writer.specs.Rows.{message_text}
use Rattle.image_writer.specs.Rows.{messages_text, count_octets, row_text, messages_size, row_size, SizeWithin}
use Rattle.image_writer.specs.declared.rows.Row.{Row}

-- ---- the row of a place
pub row_before_lem : {base p : ℕ} {t : List ℕ} → p < kept_before → ImageRowTold base t p (row_before (slot_at base p))
unfolding image_row_at
row_before_lem {base} {p} low =
    record {
      answer = rw (lt-ltb p kept_before low);
      fits = record { slot = slot_small base p; heard = omega arith; few = omega arith };
    }

pub row-ahead : {base p : ℕ} {t : List ℕ} {accepted : Bool} {n m : ℕ} → TableFits t → kept_before ≤ p
    → accepted ≡ eqb (mark_in t (heard_slot_at base (p - kept_before))) 1 → n ≡ n_in t (heard_slot_at base (p - kept_before))
    → m ≡ m_in t (heard_slot_at base (p - kept_before))
    → ImageRowTold base t p
    (record { slot = slot_at base p; heard = heard_slot_at base (p - kept_before); accepted = accepted; n = n; m = m })
unfolding image_row_at
row-ahead {base} {p} fits high is-accepted is-n is_m =
    let heard = heard_slot_at base (p - kept_before) in
    let small = heard-small base (p - kept_before) in
    record {
      answer = rw (is-accepted, is-n, is_m, le-ltb p kept_before high);
      fits = record { slot = slot_small base p; heard = small; few = omega (arith, is_m, fits.few heard small) };
    }

pub row_fits : (base p : ℕ) (t : List ℕ) → TableFits t → RowFits (image_row_at base t p)
row_fits base p t fits =
    ⊎_elim (λ low. let told = row_before_lem {base = base} {p = p} {t = t} low in rw told.answer at told.fits)
    (λ high. let told = row-ahead {base = base} {p = p} {t = t} fits high refl refl refl in rw told.answer at told.fits)
    (below_or_not p kept_before)

-- ---- a packet or message with its length
item-few : (n : ℕ) → n ≤ packet_limit → item_size n ≤ longest_item packet_limit
item-few n short = omega (arith, (size-written n).1)

module _ (t : List ℕ) (heard i : ℕ) (fits : TableFits t) (small : heard < slots_heard) (low : i < messages_limit) {octets : ℕ}
    (is : octets ≡ message_size_in t (message_slot heard i)) where
  pub message-short : octets ≤ packet_limit
  message-short = omega (arith, is, fits.part heard i small low)

  pub message-told : {r : ℕ} → r ≡ item_size octets
      → SizeWithin (2 * item_size (message_size_in t (message_slot heard i))) (2 * longest_item packet_limit) (2 * r)
  message-told told =
      let same : _ ≡ item_size (message_size_in t (message_slot heard i)) = told ∙ ap item_size is in
      record { answer = omega arith; few = omega (arith, told, item-few octets message-short) }

module _ (t : List ℕ) (row : Row) (fits : TableFits t) (x : RowFits row) {octets : ℕ} (is : octets ≡ size_in t row.slot) where
  pub packet-short : octets ≤ packet_limit
  packet-short = omega (arith, is, fits.size row.slot x.slot)

  pub packet-few : {r : ℕ} → r ≡ item_size octets → r ≤ longest_item packet_limit
  packet-few told = omega (arith, told, item-few octets packet-short)

  pub row_told : {r messages : ℕ} → r ≡ item_size octets
      → SizeWithin (messages_size t row.heard row.m) (messages_limit * (2 * longest_item packet_limit)) messages
      → SizeWithin (row_size t row) (line_size (number_line_limit packet_limit)) (2 * (6 + r) + 1 + messages)
  row_told told rest =
      let same : _ ≡ item_size (size_in t row.slot) = told ∙ ap item_size is in
      record { answer = omega (arith, rest.answer); few = omega (arith, rest.few, packet-few told) }

-- a row that was told is the one at its place
pub told-size : {base place : ℕ} {t : List ℕ} {row : Row} {most r : ℕ} → ImageRowTold base t place row → SizeWithin (row_size t row) most r
    → SizeWithin (row_size t (image_row_at base t place)) most r
told-size told size = rw told.answer at size

-- ---- the length of a line
pub texts-length : (n : ℕ) (text : ℕ → List ℕ) → length (all_texts n text) ≡ sum_of (tab n (λ k. length (text k)))
unfolding in_row tab sum_of
texts-length zero text = refl
texts-length (suc n) text =
    length-append (text 0) (all_texts n (λ k. text (suc k)))
    ∙ ap (λ (k : ℕ). length (text 0) + k) (texts-length n (λ k. text (suc k)))

module _ (t o g : List ℕ) (fits : TableFits t) (long : length o ≡ kept_octets) (far : length g ≡ message_octets) where
  message-length : (heard i : ℕ) → heard < slots_heard → i < messages_limit
      → length (message_text t g heard i) ≡ 2 * item_size (message_size_in t (message_slot heard i))
  unfolding message_in
  message-length heard i small low =
      let slot = message_slot heard i in
      let size = message_size_in t slot in
      length-hex_of (item_octets (part g slot size))
      ∙ ap (λ (k : ℕ). 2 * k)
      (item-length (part g slot size)
      ∙ ap item_size
      (length_part g slot size (has-message-slot g slot far (message-small heard i small low)) (fits.part heard i small low)))

  messages-length : (heard m : ℕ) → heard < slots_heard → m ≤ messages_limit → length (messages_text t g heard m) ≡ messages_size t heard m
  messages-length heard m small few =
      texts-length m (message_text t g heard)
      ∙ ap sum_of (tab-ext m _ _ (λ i low. message-length heard i small (omega arith)))

  kept-length : (row : Row) → RowFits row → length (kept_text t o row) ≡ 8 + 2 * item_size (size_in t row.slot)
  kept-length row x =
      let packet = part o row.slot (size_in t row.slot) in
      let size : item_size (length packet) ≡ item_size (size_in t row.slot)
      = ap item_size (length_part o row.slot _ (has-packet-slot o row.slot long x.slot) (fits.size row.slot x.slot)) in
      length-append (hex_of (kept_front t row)) (hex_of (item_octets packet))
      ∙ omega (arith, length-hex_of (kept_front t row), length-hex_of (item_octets packet), item-length packet)

  pub row-length : (row : Row) → RowFits row → length (row_text t o g row) ≡ row_size t row
  unfolding row_text
  row-length row x =
      let front = kept_text t o row in
      let counts = hex_of (count_octets row) in
      let messages = messages_text t g row.heard row.m in
      omega (
        arith,
        length-append front (counts ++ (messages ++ (line_feed ∷ []))),
        length-append counts (messages ++ (line_feed ∷ [])),
        length-append messages (line_feed ∷ []),
        kept-length row x,
        length-hex_of (count_octets row),
        messages-length row.heard row.m x.heard x.few,
      )
