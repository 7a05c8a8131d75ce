-- The loop that puts the fields, one turn: what is left to put, put after what is there now, gives the whole. Assumes
-- nothing.
use Prim.Native.Nat.{ℕ, zero, suc, ◌+◌, ◌-◌, ◌≤◌, ◌<◌}
use mathlib.Core.Path.{◌≡◌, sym, ap, ap₂, ◌∙◌}
use mathlib.Core.Bool.{Bool, true}
use mathlib.Core.List.{List, [], ◌∷◌, ◌++◌, append_assoc}
use lib.ListN.{length, get_or, take, drop, length-append, length-drop, drop_of_length-le}
use lib.Seq.{length-take-le, drop-drop}
use lib.Dec.{leb}
use native.Mathlib.Omega.{arith}
use borrow.Rule.Slice.PartMut.{put_mid}
use borrow.Author.Tests.{leb-true}
use Rattle.datagram.specs.Sizes.{packet_limit}
use Rattle.length.specs.Promise.{Put}
use Rattle.length.proofs.Laws.{put_next, put-long, room-left, both}
use Rattle.format.specs.Waiting.{Waiting, waiting, none_wait, Waits, closed}
use Rattle.packet.specs.Edition.{many}
use Rattle.packet.specs.Packet.{every}
use Rattle.packet.specs.Write.{lengths_sum}
use Rattle.packet_laws.specs.Laid.{field_octets, after_field, fields_octets}
use Rattle.packet_laws.specs.Items.{EdgeFits, FieldFits, FieldPut, FieldsFit}
use Rattle.packet.specs.declared.types.Enumerated.{Enumerated}
use Rattle.packet_laws.proofs.Laws.{rest, drop-next, sum-next, after-waits}

-- what holds of every element holds of one
every-at : (test : ℕ → Bool) (s : List ℕ) (i : ℕ) → every test s ≡ true → i < length s → test (get_or s i 0) ≡ true
unfolding every
every-at test [] i all h = absurd (omega arith)
every-at test (x ∷ s) zero all h = (both (test x) (every test s) all).0
every-at test (x ∷ s) (suc i) all h = every-at test s i (both (test x) (every test s) all).1 (omega arith)

fields-next : (e : Enumerated) (w : Waiting) (ts ns d : List ℕ) (i : ℕ) → i < length ts → length ts ≡ length ns
    → fields_octets e w (drop i ts) (drop i ns) d
    ≡ field_octets e w (get_or ts i 0) (take (get_or ns i 0) d)
    ++ fields_octets e (after_field e w (get_or ts i 0) (take (get_or ns i 0) d)) (drop (i + 1) ts) (drop (i + 1) ns) (drop (get_or ns i 0) d)
unfolding fields_octets
fields-next e w ts ns d i h same = ap₂ (λ (a b : List ℕ). fields_octets e w a b d) (drop-next ts i h) (drop-next ns i (omega arith))

-- ---- the loop
pub record Filling (e : Enumerated) (ts ns d old out : List ℕ) (i from at k v : ℕ) : Type 0 where
  pub inside : i ≤ length ts
  pub long : length out ≡ length old
  pub left : from + lengths_sum (drop i ns) ≡ length d
  pub waits : Waits (waiting k v)
  pub front : List ℕ
  pub put : Put front old out at
  pub whole : front ++ fields_octets e (waiting k v) (drop i ts) (drop i ns) (drop from d) ≡ fields_octets e none_wait ts ns d

-- one turn: its data, its field, those after it, and their room
abbrev part_of : List ℕ → ℕ → ℕ → List ℕ
part_of d from n = take (from + n - from) (drop from d)

record Step (e : Enumerated) (ts ns d old : List ℕ) (front : List ℕ) (i from at k v n : ℕ) : Type 0 where
  left : from + n + lengths_sum (drop (i + 1) ns) ≡ length d
  whole : (front ++ field_octets e (waiting k v) (get_or ts i 0) (part_of d from n))
      ++ fields_octets e (after_field e (waiting k v) (get_or ts i 0) (part_of d from n)) (drop (i + 1) ts) (drop (i + 1) ns) (drop (from + n) d)
      ≡ fields_octets e none_wait ts ns d
  room : at + length (field_octets e (waiting k v) (get_or ts i 0) (part_of d from n)) ≤ length old

module _ {e : Enumerated} {ts ns d old out : List ℕ} {i from at k v n : ℕ} (fits : FieldsFit e ts ns d old)
    (g : Filling e ts ns d old out i from at k v) (h : i < length ts) (size : n ≡ get_or ns i 0) where
  step : Step e ts ns d old g.front i from at k v n
  step =
      let next = sum-next ns i (omega (arith, fits.right.same)) in
      let part : from + n - from ≡ get_or ns i 0 = omega (arith, size) in
      let w : Waiting = waiting k v in
      let t = get_or ts i 0 in
      let here = field_octets e (waiting k v) (get_or ts i 0) (part_of d from n) in
      let more = fields_octets e (after_field e (waiting k v) (get_or ts i 0) (part_of d from n)) (drop (i + 1) ts) (drop (i + 1) ns)
      (drop (from + n) d) in
      let both : fields_octets e w (drop i ts) (drop i ns) (drop from d) ≡ here ++ more
      = fields-next e w ts ns (drop from d) i h fits.right.same
      ∙ ap₂ (λ (a b : List ℕ). field_octets e w t a ++ fields_octets e (after_field e w t a) (drop (i + 1) ts) (drop (i + 1) ns) b)
      (ap (λ (m : ℕ). take m (drop from d)) (sym part))
      (drop-drop (get_or ns i 0) from d ∙ ap (λ (m : ℕ). drop (from + m) d) (sym size)) in
      let whole : (g.front ++ here) ++ more ≡ fields_octets e none_wait ts ns d
      = append_assoc g.front here more ∙ ap (λ (l : List ℕ). g.front ++ l) (sym both) ∙ g.whole in
      record {
        left = omega (arith, g.left, size);
        whole = whole;
        room =
            omega (
              arith,
              fits.room,
              ap length whole,
              length-append (g.front ++ here) more,
              length-append g.front here,
              g.put.answer,
            );
      }

  pub fill-data : from + n ≤ length d
  fill-data = omega (arith, step.left)

  pub fill-fits : FieldFits e (waiting k v) (get_or ts i 0) (take (from + n - from) (drop from d)) (rest at out)
  fill-fits =
      let s = step in
      let part : from + n - from ≡ get_or ns i 0 = omega (arith, size) in
      let within : from + n - from ≤ length (drop from d) = omega (arith, length-drop from d, s.left) in
      let low : get_or ts i 0 ≤ many e - 1
      = leb-true (get_or ts i 0) (many e - 1) (every-at (λ t. leb t (many e - 1)) ts i fits.right.known h) in
      record {
        waits = g.waits;
        type = record { narrow = fits.right.narrow; known = omega (arith, low, fits.right.narrow.sound.some) };
        short =
            omega (
              arith,
              length-take-le (from + n - from) (drop from d) within,
              leb-true (get_or ns i 0) packet_limit
                  (every-at (λ m. leb m packet_limit) ns i fits.right.short (omega (arith, fits.right.same))),
            );
        room = room-left out at _ (omega (arith, s.room, g.long));
      }

  module _ {part : List ℕ} {r x y : ℕ}
      (fills : FieldPut e (waiting k v) (get_or ts i 0) (take (from + n - from) (drop from d)) (rest at out) part r x y) where
    pub fill-turn : Filling e ts ns d old (put_mid at (length out - at) out part) (i + 1) (from + n) (at + r) x y
    fill-turn =
        let s = step in
        let one = fill-fits in
        let both = put_next g.put fills.put in
        record {
          inside = omega arith;
          long = put-long both;
          left = s.left;
          waits =
              rw fills.waits
              (after-waits e one.type.narrow (waiting k v) one.waits (get_or ts i 0) (part_of d from n) one.type.known);
          front = g.front ++ field_octets e (waiting k v) (get_or ts i 0) (part_of d from n);
          put = both;
          whole = rw fills.waits s.whole;
        }

-- ---- the octet edge after the last field
module _ {e : Enumerated} {ts ns d old out : List ℕ} {i from at k v : ℕ} (fits : FieldsFit e ts ns d old)
    (g : Filling e ts ns d old out i from at k v) (all : length ts ≤ i) where
  end_is : g.front ++ closed (waiting k v) ≡ fields_octets e none_wait ts ns d
  unfolding fields_octets
  end_is =
      ap (λ (l : List ℕ). g.front ++ fields_octets e (waiting k v) l (drop i ns) (drop from d)) (sym (drop_of_length-le ts all)) ∙ g.whole

  pub end_fits : EdgeFits (waiting k v) (rest at out)
  end_fits =
      record {
        waits = g.waits;
        room =
            room-left out at _
            (omega (arith, fits.room, ap length end_is, length-append g.front (closed (waiting k v)), g.put.answer, g.long));
      }

  pub end-put : {part : List ℕ} {r : ℕ} → Put (closed (waiting k v)) (rest at out) part r
      → Put (fields_octets e none_wait ts ns d) old (put_mid at (length out - at) out part) (at + r)
  end-put put = rw end_is at (put_next g.put put)

-- the laws of the loop that puts the fields
pub ruleset fills = (fill-data, fill-fits, fill-turn, end_fits, end-put)
