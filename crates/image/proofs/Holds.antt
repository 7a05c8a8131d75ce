-- What an image can hold: a session's lines fit exactly if its numbers have their octets and its packets and messages are within the
-- limit; and a session within its ranges is so. Assumes nothing.
use Prim.Native.Nat.{ℕ, ◌+◌, ◌-◌, ◌^◌, ◌%◌, ◌≤◌, ◌<◌}
use mathlib.Core.Path.{◌≡◌, refl, sym, ap, ap₂, ◌∙◌}
use mathlib.Core.Bool.{Bool, true, false}
use mathlib.Core.List.{List, [], ◌++◌, map}
use mathlib.Core.Logic.{⊎_elim}
use lib.ListN.{length, get_or, length-map, length-append, get_or-append}
use lib.Seq.{ext_get_or, get_or-append-add}
use lib.Dec.{eqb, leb}
use native.Mathlib.Omega.{arith}
use borrow.Author.Tests.{eq-eqb, leb-true}
use Rattle.octets.specs.Place.{tab}
use Rattle.octets.proofs.Laws.{below_or_not, length-tab, tab-at, map-tab, and_right, all_below-at}
use Rattle.datagram.specs.Sizes.{packet_limit, message_limit}
use Rattle.format.specs.Format.{flag_bit, sequence_fits}
use Rattle.session.specs.Cells.{Cell, cell_at, kept_before, kept_ahead, kept_numbers}
use Rattle.session.specs.Held.{Held, nothing_held, held_at}
use Rattle.session.specs.View.{View, Counts, sum, session_limit, numbers}
use Rattle.session.specs.Ranges.{sum_right, held_right, mark_right, Sound}
use Rattle.session.proofs.Laws.{size_fits, held-sizes}
use Rattle.image.specs.Parts.{Sendable, line}
use Rattle.image.specs.Layout.{ImageVersion, first_image_line, Number, number_line, view_from, before, ahead, lines_of, image}
use Rattle.image.specs.Image.{ImageHolds, OfOctets}
use Rattle.image.proofs.Productions.{NumberFits, number_fits, fits-number}
use Rattle.image.proofs.Whole.{nowhere, cell-of, tab-is, rows_fit, fit-rows}

-- ---- a session by its lines
module _ (view : View) where
  rows : List Number
  rows = tab kept_before (before view) ++ tab kept_ahead (ahead view)

  rows_long : length rows ≡ kept_numbers
  unfolding rows
  rows_long =
      length-append (tab kept_before (before view)) (tab kept_ahead (ahead view))
      ∙ ap₂ (λ (a b : ℕ). a + b) (length-tab kept_before (before view)) (length-tab kept_ahead (ahead view))

  row-cell : (p : ℕ) → p < kept_numbers → (get_or rows p nowhere).cell ≡ cell_at view.cells p
  unfolding rows
  row-cell p below =
      ⊎_elim
      (λ low.
      ap (λ (k : Number). k.cell)
      (get_or-append (tab kept_before (before view)) (tab kept_ahead (ahead view)) nowhere p
      (omega (arith, length-tab kept_before (before view)))
      ∙ tab-at kept_before (before view) p nowhere low))
      (λ high.
      let long = length-tab kept_before (before view) in
      let place : p ≡ length (tab kept_before (before view)) + (p - kept_before) = omega arith in
      let there : kept_before + (p - kept_before) ≡ p = omega arith in
      ap (λ (q : ℕ). (get_or (tab kept_before (before view) ++ tab kept_ahead (ahead view)) q nowhere).cell) place
      ∙ ap (λ (k : Number). k.cell)
      (get_or-append-add (tab kept_before (before view)) (tab kept_ahead (ahead view)) (p - kept_before) nowhere
      ∙ tab-at kept_ahead (ahead view) (p - kept_before) nowhere (omega arith))
      ∙ ap (cell_at view.cells) there)
      (below_or_not p kept_before)

  cells-back : length view.cells ≡ kept_numbers → map (λ k. k.cell) rows ≡ view.cells
  cells-back kept =
      let long : length (map (λ (k : Number). k.cell) rows) ≡ kept_numbers = length-map rows (λ k. k.cell) ∙ rows_long in
      ext_get_or nowhere.cell (map (λ k. k.cell) rows) view.cells (long ∙ sym kept)
      (λ p inside. cell-of rows p ∙ row-cell p (omega arith))

  held_back : length view.held ≡ kept_ahead → map (λ k. k.held) (tab kept_ahead (ahead view)) ≡ view.held
  held_back far =
      map-tab (λ (k : Number). k.held) kept_ahead (ahead view)
      ∙ tab-is view.held nothing_held kept_ahead (λ d. held_at view.held d) far (λ d below. refl)

  view-back : length view.cells ≡ kept_numbers → length view.held ≡ kept_ahead → view_from (lines_of view) ≡ view
  unfolding rows
  view-back kept far =
      ap₂ (λ (c : List Cell) (h : List Held). record { base = view.base; counts = view.counts; cells = c; held = h })
      (cells-back kept)
      (held_back far)

  view-long : view_from (lines_of view) ≡ view → (length view.cells ≡ kept_numbers) × (length view.held ≡ kept_ahead)
  unfolding rows
  view-long e = (
    sym (ap (λ (v : View). length v.cells) e) ∙ length-map rows (λ k. k.cell) ∙ rows_long,
    sym (ap (λ (v : View). length v.held) e)
        ∙ length-map (tab kept_ahead (ahead view)) (λ k. k.held)
        ∙ length-tab kept_ahead (ahead view),
  )

-- ---- what it holds fits, and what fits it holds
no_flag : flag_bit false ≤ 0
no_flag = omega arith

one-flag : (b : Bool) → flag_bit b ≤ 1
one-flag true = omega arith
one-flag false = omega arith

before-fits : (limit : ℕ) (view : View) → ImageHolds limit view → (p : ℕ) → p < kept_before → NumberFits limit false (before view p)
before-fits limit view h p low =
    record {
      accepted = omega arith;
      note = h.note p (omega arith);
      packet = h.packet p (omega arith);
      covered = omega arith;
      few = omega arith;
      message = λ i below. absurd (omega arith);
    }

ahead-fits : (limit : ℕ) (view : View) → ImageHolds limit view → (d : ℕ) → d < kept_ahead → NumberFits limit true (ahead view d)
ahead-fits limit view h d low =
    record {
      accepted = one-flag (held_at view.held d).accepted;
      note = h.note (kept_before + d) (omega arith);
      packet = h.packet (kept_before + d) (omega arith);
      covered = h.covered d low;
      few = h.few d low;
      message = h.message d low;
    }

pub holds_fits : (version : ImageVersion) (view : View) → version.octet < 256 → ImageHolds version.limit view → (image version).fits view 0
unfolding image first_image_line
holds_fits version view small h =
    let limit = version.limit in (
      (
        (((small, eq-eqb version.octet version.octet refl), (h.base, (h.received, (h.spare, (h.repaired, h.lost))))), refl),
        (
          (
            rows_fit (number_line limit false) kept_before (before view) _
                (λ p low. number_fits limit false (before view p) (before-fits limit view h p low)),
            length-tab kept_before (before view),
          ),
          (
            rows_fit (number_line limit true) kept_ahead (ahead view) _
                (λ d low. number_fits limit true (ahead view d) (ahead-fits limit view h d low)),
            length-tab kept_ahead (ahead view),
          ),
        ),
      ),
      view-back view h.kept h.ahead,
    )

-- a line of so many, by place
row_fits : (limit : ℕ) (from : Bool) (n : ℕ) (lines : ℕ → Number) (p : ℕ)
    → sequence_fits (line (number_line limit from)) (tab n lines) p
    → (k : ℕ) → k < n → NumberFits limit from (lines k)
row_fits limit from n lines p fits k low =
    let there = fit-rows (number_line limit from) (tab n lines) p nowhere fits k (omega (arith, length-tab n lines)) in
    rw (tab-at n lines k nowhere low) at (fits-number limit from (get_or (tab n lines) k nowhere) there)

pub fits-holds : (version : ImageVersion) (view : View) → (image version).fits view 0 → ImageHolds version.limit view
unfolding image first_image_line
fits-holds version view fits =
    let limit = version.limit in
    let long = view-long view fits.1 in
    let head = fits.0.0.0.1 in
    let low = row_fits limit false kept_before (before view) _ fits.0.1.0.0 in
    let high = row_fits limit true kept_ahead (ahead view) _ fits.0.1.1.0 in
    record {
      base = head.0;
      received = head.1.0;
      spare = head.1.1.0;
      repaired = head.1.1.1.0;
      lost = head.1.1.1.1;
      kept = long.0;
      ahead = long.1;
      note = λ p below. at p below (λ (c : Cell). c.note < 256 ^ 2) (λ q l. (low q l).note) (λ d l. (high d l).note);
      packet = λ p below. at p below (λ (c : Cell). Sendable limit c.octets) (λ q l. (low q l).packet) (λ d l. (high d l).packet);
      covered = λ d below. (high d below).covered;
      few = λ d below. (high d below).few;
      message = λ d below. (high d below).message;
    } where
      at : (p : ℕ) → p < kept_numbers → (P : Cell → Type 0) → ((q : ℕ) → q < kept_before → P (cell_at view.cells q))
          → ((d : ℕ) → d < kept_ahead → P (cell_at view.cells (kept_before + d))) → P (cell_at view.cells p)
      at p below P low high =
          ⊎_elim (λ less. low p less)
          (λ more.
          let place : kept_before + (p - kept_before) ≡ p = omega arith in
          rw place at (high (p - kept_before) (omega arith)))
          (below_or_not p kept_before)

-- ---- a session within its ranges
counts-small : (c : Counts) → sum c ≤ session_limit
    → (c.received < 256 ^ 4) × (c.spare < 256 ^ 4) × (c.repaired < 256 ^ 4) × (c.lost < 256 ^ 4)
counts-small c total = (omega arith, omega arith, omega arith, omega arith)

sum-limited : (view : View) → sum_right view ≡ true → sum view.counts ≤ session_limit
unfolding sum_right
sum-limited view e = leb-true (sum view.counts) session_limit (and_right (eqb view.base (sum view.counts % numbers)) _ e)

messages-short : (h : Held) (known : Bool) → held_right h known ≡ true → (i : ℕ) → i < length h.messages
    → length (get_or h.messages i []) ≤ message_limit
unfolding held_right
messages-short h known e i below =
    leb-true (length (get_or h.messages i [])) message_limit
    (all_below-at (length h.messages) (λ i. leb (length (get_or h.messages i [])) message_limit)
    (and_right (mark_right h.accepted known h.n (length h.messages)) _ e)
    i
    below)

pub sound-holds : (view : View) → Sound view → OfOctets view → ImageHolds packet_limit view
sound-holds view s o =
    let few = counts-small view.counts (sum-limited view s.total) in
    record {
      base = s.small;
      received = few.0;
      spare = few.1;
      repaired = few.2;
      lost = few.3;
      kept = s.kept;
      ahead = s.ahead;
      note = λ p below. o.note p below;
      packet =
          λ p below.
          let short = size_fits (cell_at view.cells p).state _ _ (s.cell p below) in
          record { short = short; form = omega arith; octets = o.packet p below };
      covered = λ d below. (held-sizes (held_at view.held d) _ (s.held d below)).0;
      few = λ d below. (held-sizes (held_at view.held d) _ (s.held d below)).1;
      message =
          λ d below i less.
          let short = messages-short (held_at view.held d) _ (s.held d below) i less in
          record { short = short; form = omega arith; octets = o.message d below i less };
    }
