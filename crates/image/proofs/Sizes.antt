-- How long an image is: settled by what the session holds, and at most a constant over the limit. Assumes nothing.
use Prim.Native.Nat.{ℕ, zero, suc, ◌+◌, ◌*◌, ◌≤◌, ◌<◌}
use mathlib.Core.Path.{◌≡◌, refl, ap, ap₂, ◌∙◌}
use mathlib.Core.List.{List, [], ◌∷◌, ◌++◌, map}
use lib.ListN.{length, get_or, length-append}
use native.Mathlib.Nat.{suc-mul, mul-le-mul_right}
use native.Mathlib.Omega.{arith}
use Rattle.octets.specs.Place.{tab}
use Rattle.length.proofs.Laws.{size-written}
use Rattle.datagram.specs.Sizes.{messages_limit}
use Rattle.datagram.specs.Write.{item_octets, sum_of}
use Rattle.datagram.specs.Inner.Heads.{item_size, items_size}
use Rattle.datagram.proofs.Laws.{item-length}
use Rattle.format.specs.Format.{flag_bit}
use Rattle.line.specs.Lines.{line_of}
use Rattle.session.specs.Cells.{kept_before, kept_ahead}
use Rattle.session.specs.View.{View}
use Rattle.image.specs.Parts.{high_first_octets, Sendable}
use Rattle.image.specs.Layout.{ImageVersion, FirstImageLine, Number, state_number, first_of, before, ahead}
use Rattle.image.specs.Image.{image_text, ImageHolds, line_size, first_image_size, number_size, lines_size, image_size, longest_item}
use Rattle.image.specs.Image.{number_line_limit}
use Rattle.image.specs.Image.{image_limit}
use Rattle.image.specs.Octets.{in_row, first_image_octets, line_octets_of, number_text, image_lines}
use Rattle.image.proofs.Numbers.{length-number}
use Rattle.image.proofs.Text.{length-line}
use Rattle.image.proofs.Whole.{image-lines}

-- ---- one line
first-length : (octet : ℕ) (f : FirstImageLine) → length (first_image_octets octet f) ≡ first_image_size
first-length octet f =
    let a = high_first_octets 1 octet in
    let b = high_first_octets 2 f.base in
    let c = high_first_octets 4 f.counts.received in
    let d = high_first_octets 4 f.counts.spare in
    let e = high_first_octets 4 f.counts.repaired in
    let g = high_first_octets 4 f.counts.lost in
    omega (
      arith,
      length-append a (b ++ (c ++ (d ++ (e ++ g)))),
      length-append b (c ++ (d ++ (e ++ g))),
      length-append c (d ++ (e ++ g)),
      length-append d (e ++ g),
      length-append e g,
      length-number 1 octet,
      length-number 2 f.base,
      length-number 4 f.counts.received,
      length-number 4 f.counts.spare,
      length-number 4 f.counts.repaired,
      length-number 4 f.counts.lost,
    )

items-length : (items : List (List ℕ)) → length (in_row item_octets items) ≡ items_size (map length items)
unfolding in_row items_size
items-length [] = refl
items-length (x ∷ items) =
    length-append (item_octets x) (in_row item_octets items) ∙ ap₂ (λ (a b : ℕ). a + b) (item-length x) (items-length items)

pub number-length : (k : Number) → length (line_octets_of k) ≡ number_size k
number-length k =
    let a = high_first_octets 1 (state_number k.cell.state) in
    let b = high_first_octets 1 (flag_bit k.held.accepted) in
    let c = high_first_octets 2 k.cell.note in
    let d = item_octets k.cell.octets in
    let e = high_first_octets 1 k.held.n in
    let g = high_first_octets 1 (length k.held.messages) in
    let h = in_row item_octets k.held.messages in
    omega (
      arith,
      length-append a (b ++ (c ++ (d ++ (e ++ (g ++ h))))),
      length-append b (c ++ (d ++ (e ++ (g ++ h)))),
      length-append c (d ++ (e ++ (g ++ h))),
      length-append d (e ++ (g ++ h)),
      length-append e (g ++ h),
      length-append g h,
      length-number 1 (state_number k.cell.state),
      length-number 1 (flag_bit k.held.accepted),
      length-number 2 k.cell.note,
      item-length k.cell.octets,
      length-number 1 k.held.n,
      length-number 1 (length k.held.messages),
      items-length k.held.messages,
    )

-- ---- all lines
rows-length : (n : ℕ) (lines : ℕ → Number) → length (in_row number_text (tab n lines)) ≡ lines_size n lines
unfolding in_row tab sum_of
rows-length zero lines = refl
rows-length (suc n) lines =
    let line = number_text (lines 0) in
    let rest = in_row number_text (tab n (λ k. lines (suc k))) in
    length-append line rest
    ∙ ap₂ (λ (a b : ℕ). a + b) (length-line (line_octets_of (lines 0)) ∙ ap line_size (number-length (lines 0)))
    (rows-length n (λ k. lines (suc k)))

pub image-length : (version : ImageVersion) (view : View) → length (image_text version view) ≡ image_size view
unfolding image_text image_lines image_size
image-length version view =
    let a = line_of (first_image_octets version.octet (first_of view)) in
    let b = in_row number_text (tab kept_before (before view)) in
    let c = in_row number_text (tab kept_ahead (ahead view)) in
    ap length (image-lines version view)
    ∙ omega (
      arith,
      length-append a (b ++ c),
      length-append b c,
      length-line (first_image_octets version.octet (first_of view)),
      first-length version.octet (first_of view),
      rows-length kept_before (before view),
      rows-length kept_ahead (ahead view),
    )

-- ---- at most
item-most : (limit n : ℕ) → n ≤ limit → item_size n ≤ longest_item limit
item-most limit n short = omega (arith, (size-written n).1)

items-most : (limit : ℕ) (items : List (List ℕ)) → ((i : ℕ) → i < length items → Sendable limit (get_or items i []))
    → items_size (map length items) ≤ length items * longest_item limit
unfolding items_size
items-most limit [] each = omega arith
items-most limit (x ∷ items) each =
    let one = item-most limit (length x) (each 0 (omega arith)).short in
    let rest = items-most limit items (λ i below. each (suc i) (omega arith)) in
    omega (arith, suc-mul (length items) (longest_item limit))

sum-most : (n most : ℕ) (f : ℕ → ℕ) → ((k : ℕ) → k < n → f k ≤ most) → sum_of (tab n f) ≤ n * most
unfolding tab sum_of
sum-most zero most f each = omega arith
sum-most (suc n) most f each =
    let first = each 0 (omega arith) in
    let rest = sum-most n most (λ k. f (suc k)) (λ k below. each (suc k) (omega arith)) in
    omega (arith, suc-mul n most)

before-most : (limit : ℕ) (view : View) → ImageHolds limit view → (p : ℕ) → p < kept_before
    → line_size (number_size (before view p)) ≤ line_size (6 + longest_item limit)
unfolding items_size
before-most limit view h p low = omega (arith, item-most limit (length (before view p).cell.octets) (h.packet p (omega arith)).short)

ahead-most : (limit : ℕ) (view : View) → ImageHolds limit view → (d : ℕ) → d < kept_ahead
    → line_size (number_size (ahead view d)) ≤ line_size (number_line_limit limit)
ahead-most limit view h d low =
    let k = ahead view d in
    let packet = item-most limit (length k.cell.octets) (h.packet (kept_before + d) (omega arith)).short in
    let each = items-most limit k.held.messages (h.message d low) in
    let few : length k.held.messages * longest_item limit ≤ messages_limit * longest_item limit
    = mul-le-mul_right (longest_item limit) (h.few d low) in
    omega arith

pub image-most : (limit : ℕ) (view : View) → ImageHolds limit view → image_size view ≤ image_limit limit
unfolding image_size
image-most limit view h =
    let low = sum-most kept_before _ _ (before-most limit view h) in
    let high = sum-most kept_ahead _ _ (ahead-most limit view h) in
    omega arith
