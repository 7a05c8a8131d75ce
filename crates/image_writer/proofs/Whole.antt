-- The lines that the code goes by are the image. Assumes nothing.
use Prim.Native.Nat.{ℕ, zero, suc, ◌+◌, ◌-◌, ◌/◌, ◌%◌, ◌≤◌, ◌<◌}
use mathlib.Core.Path.{◌≡◌, refl, sym, ap, ap₂, ◌∙◌}
use mathlib.Core.Bool.{Bool, true, false}
use mathlib.Core.List.{List, [], ◌∷◌, ◌++◌, append_assoc, append-nil}
use lib.ListN.{length}
use native.Mathlib.Nat.{add-zero, add-suc}
use native.Mathlib.Omega.{arith}
use borrow.Author.Tests.{lt-ltb, le-ltb}
use Rattle.octets.specs.Place.{tab}
use Rattle.octets.proofs.Laws.{tab-ext, length-tab}
use Rattle.format.specs.Format.{flag_bit}
use Rattle.datagram.specs.Write.{item_octets, sum_of}
use Rattle.session_slots.specs.Store.{part}
use Rattle.session.specs.Cells.{kept_before, kept_ahead}
use Rattle.session_held.specs.Slots.{slots_kept, kept_octets, message_octets}
use Rattle.session_held.specs.Table.{lent, last_state, state_in, size_in, state_numbered, cell_in, message_in, held_in, view_in}
use Rattle.session_held.specs.declared.Counts.{Counts}
use Rattle.session_held.proofs.Laws.{cell-at, held-at}
use Rattle.line.specs.Hex.{hex_of, digit_for}
use Rattle.line.specs.Lines.{line_feed, line_of}
use Rattle.image.specs.Parts.{high_first_octets}
use Rattle.image.specs.Layout.{version_written, FirstImageLine, Number, state_number, first_of, before, ahead}
use Rattle.image.specs.Octets.{in_row, first_image_octets, number_text, image_lines}
use Rattle.image.specs.Image.{image_text, line_size, first_image_size}
use Rattle.image.proofs.Laws.{image-lines}
use Rattle.image_writer.proofs.Turns.{texts-more}
use Rattle.image_writer.proofs.Sizing.{row_fits, texts-length, row-length}
use Rattle.image_writer.specs.Rows.{TableFits, image_row_at, kept_front, count_octets, all_texts, messages_text, row_text}
use Rattle.image_writer.specs.Rows.{rows_text, first_text, rows_size}
use Rattle.image_writer.specs.declared.rows.Row.{Row}

-- ---- hexadecimal of octets one after the other
hex-then : (a b : List ℕ) → hex_of (a ++ b) ≡ hex_of a ++ hex_of b
unfolding hex_of
hex-then [] b = refl
hex-then (x ∷ a) b = ap (λ (l : List ℕ). digit_for (x / 16) ∷ digit_for (x % 16) ∷ l) (hex-then a b)

hex-row : (n : ℕ) (items : ℕ → List ℕ) → hex_of (in_row item_octets (tab n items)) ≡ all_texts n (λ i. hex_of (item_octets (items i)))
unfolding in_row tab hex_of
hex-row zero items = refl
hex-row (suc n) items =
    hex-then (item_octets (items 0)) (in_row item_octets (tab n (λ i. items (suc i))))
    ∙ ap (λ (l : List ℕ). hex_of (item_octets (items 0)) ++ l) (hex-row n (λ i. items (suc i)))

-- ---- the first line
first-text : (f : FirstImageLine) → line_of (first_image_octets version_written.octet f)
    ≡ hex_of (version_written.octet ∷ f.base / 256 % 256 ∷ f.base % 256 ∷ [])
    ++ (hex_of (high_first_octets 4 f.counts.received)
    ++ (hex_of (high_first_octets 4 f.counts.spare)
    ++ (hex_of (high_first_octets 4 f.counts.repaired) ++ (hex_of (high_first_octets 4 f.counts.lost) ++ (line_feed ∷ [])))))
unfolding high_first_octets hex_of
first-text f = refl

pub first-long : (octet base : ℕ) (counts : Counts) → length (first_text octet base counts) ≡ line_size first_image_size
unfolding high_first_octets hex_of
first-long octet base counts = refl

-- ---- the line of a number
state-number : (n : ℕ) → n ≤ last_state → state_number (state_numbered n) ≡ n
unfolding state_numbered
state-number zero low = refl
state-number (suc zero) low = refl
state-number (suc (suc zero)) low = refl
state-number (suc (suc (suc zero))) low = refl
state-number (suc (suc (suc (suc zero)))) low = refl
state-number (suc (suc (suc (suc (suc n))))) low = absurd (omega arith)

flag-octet : (flag : Bool) → flag_bit flag % 256 ≡ flag_bit flag
flag-octet true = refl
flag-octet false = refl

-- the number that a row tells
abbrev row_number : List ℕ → List ℕ → List ℕ → Row → Number
row_number t o g row =
    record {
      cell = cell_in t o row.slot;
      held = record { accepted = row.accepted; n = row.n; messages = tab row.m (message_in t g row.heard) };
    }

regroup : (a b c d e : List ℕ) → (a ++ (b ++ (c ++ d))) ++ e ≡ (a ++ b) ++ (c ++ (d ++ e))
regroup a b c d e =
    append_assoc a (b ++ (c ++ d)) e
    ∙ ap (λ (l : List ℕ). a ++ l) (append_assoc b (c ++ d) e ∙ ap (λ (l : List ℕ). b ++ l) (append_assoc c d e))
    ∙ sym (append_assoc a b (c ++ (d ++ e)))

module _ (t o g : List ℕ) (row : Row) where
  row_number_lem : state_in t row.slot ≤ last_state → number_text (row_number t o g row) ≡ row_text t o g row
  unfolding cell_in high_first_octets row_text
  row_number_lem low =
      let item = item_octets (part o row.slot (size_in t row.slot)) in
      let messages = in_row item_octets (tab row.m (message_in t g row.heard)) in
      let rest : hex_of (count_octets row ++ messages) ≡ hex_of (count_octets row) ++ messages_text t g row.heard row.m
      = hex-then (count_octets row) messages
      ∙ ap (λ (l : List ℕ). hex_of (count_octets row) ++ l) (hex-row row.m (message_in t g row.heard)) in
      rw (
        state-number (state_in t row.slot) low,
        flag-octet row.accepted,
        length-tab row.m (message_in t g row.heard),
        hex-then (kept_front t row) (item ++ (count_octets row ++ messages)),
        hex-then item (count_octets row ++ messages),
        rest,
      )
      (regroup (hex_of (kept_front t row)) (hex_of item) (hex_of (count_octets row)) (messages_text t g row.heard row.m) (line_feed ∷ []))

-- ---- the number at a place of the view
module _ (base : ℕ) (counts : Counts) (t o g : List ℕ) where
  row-before-base : (p : ℕ) → p < kept_before → row_number t o g (image_row_at base t p) ≡ before (view_in (lent base counts t o g)) p
  unfolding view_in image_row_at tab
  row-before-base p low = rw (lt-ltb p kept_before low, cell-at base t o p (omega arith))

  row-from-base : (d : ℕ) → d < kept_ahead → row_number t o g (image_row_at base t (kept_before + d)) ≡ ahead (view_in (lent base counts t o g)) d
  unfolding view_in image_row_at held_in
  row-from-base d low =
      let back : kept_before + d - kept_before ≡ d = omega arith in
      rw (
        le-ltb (kept_before + d) kept_before (omega arith),
        back,
        cell-at base t o (kept_before + d) (omega arith),
        held-at base t g d low,
      )

-- ---- all lines
texts-split : (a b : ℕ) (text : ℕ → List ℕ) → all_texts (a + b) text ≡ all_texts a text ++ all_texts b (λ k. text (a + k))
unfolding in_row tab
texts-split a zero text = ap (λ (n : ℕ). all_texts n text) (add-zero a) ∙ sym (append-nil (all_texts a text))
texts-split a (suc b) text =
    ap (λ (n : ℕ). all_texts n text) (add-suc a b)
    ∙ texts-more (a + b) text
    ∙ ap (λ (l : List ℕ). l ++ text (a + b)) (texts-split a b text)
    ∙ append_assoc (all_texts a text) (all_texts b (λ k. text (a + k))) (text (a + b))
    ∙ ap (λ (l : List ℕ). all_texts a text ++ l) (sym (texts-more b (λ k. text (a + k))))

texts-same : (n : ℕ) (text : ℕ → List ℕ) (lines : ℕ → Number) → ((k : ℕ) → k < n → text k ≡ number_text (lines k))
    → all_texts n text ≡ in_row number_text (tab n lines)
unfolding in_row tab
texts-same zero text lines same = refl
texts-same (suc n) text lines same =
    ap₂ (λ (a b : List ℕ). a ++ b) (same 0 (omega arith))
    (texts-same n (λ k. text (suc k)) (λ k. lines (suc k)) (λ k low. same (suc k) (omega arith)))

module _ (base : ℕ) (counts : Counts) (t o g : List ℕ) (fits : TableFits t) where
  row_same : (p : ℕ) (k : Number) → row_number t o g (image_row_at base t p) ≡ k → row_text t o g (image_row_at base t p) ≡ number_text k
  row_same p k same =
      let row = image_row_at base t p in
      sym (row_number_lem t o g row (fits.state row.slot (row_fits base p t fits).slot))
      ∙ ap (λ (x : Number). number_text x) same

  rows_same : rows_text base t o g
      ≡ in_row number_text (tab kept_before (before (view_in (lent base counts t o g))))
      ++ in_row number_text (tab kept_ahead (ahead (view_in (lent base counts t o g))))
  rows_same =
      texts-split kept_before kept_ahead (λ p. row_text t o g (image_row_at base t p))
      ∙ ap₂ (λ (a b : List ℕ). a ++ b)
      (texts-same kept_before _ _ (λ p low. row_same p _ (row-before-base base counts t o g p low)))
      (texts-same kept_ahead _ _ (λ d low. row_same (kept_before + d) _ (row-from-base base counts t o g d low)))

  pub image-same : image_text version_written (view_in (lent base counts t o g))
      ≡ first_text version_written.octet base counts ++ rows_text base t o g
  unfolding image_lines view_in
  image-same =
      image-lines version_written (view_in (lent base counts t o g))
      ∙ ap₂ (λ (a b : List ℕ). a ++ b) (first-text (first_of (view_in (lent base counts t o g)))) (sym rows_same)

  pub rows_long : length o ≡ kept_octets → length g ≡ message_octets → length (rows_text base t o g) ≡ rows_size base t
  rows_long long far =
      texts-length slots_kept (λ p. row_text t o g (image_row_at base t p))
      ∙ ap sum_of (tab-ext slots_kept _ _ (λ p low. row-length t o g fits long far (image_row_at base t p) (row_fits base p t fits)))
