-- What packets and messages of an image read at an octet edge, told by the octets there, and back. Assumes nothing.
use Rattle.std.proofs.Common.{◌≡◌, ℕ, zero, suc, ◌+◌, ◌-◌, ◌*◌, ◌≤◌, ltb, List, [], ◌∷◌, map, length, drop, sym, refl, ap, ◌∙◌, ap₂, arith, length-drop, drop-drop, ltb-false, le-ltb}
use Rattle.length.specs.Answers.{Answer, done, refused, LengthAnswer}
use Rattle.length.specs.Length.{length_within}
use Rattle.length.proofs.Laws.{bind_done, from-done, done-same, cond-past}
use Rattle.datagram.specs.Sizes.{message_least}
use Rattle.datagram.specs.Read.{after, octets_of, length_from, item_at, items_at, end_of}
use Rattle.datagram.specs.declared.reader.Part.{Part}
use Rattle.format.specs.Reading.{found, and_then, found_from}
use Rattle.format.specs.Reading as reading
use Rattle.format.specs.Format.{sequence_of}
use Rattle.format.proofs.Laws.{octetwise-edge}
use Rattle.image.specs.Parts.{part_taken, item_front, item_to, Sendable}
use Rattle.datagram.specs.Write.{item_octets}
use Rattle.image_reader.proofs.Edges.{stepped}

-- ---- packets and messages
module _ (limit : ℕ) (s : List ℕ) (at : ℕ) where
  -- a length with its octets, at a place and at the front of what stands from there on
  record Sized (l : LengthAnswer) : Type 0 where
    read : length_within message_least limit (drop at s) ≡ done l
    room : l.value ≤ length s - (at + l.size)

  abbrev part_of : LengthAnswer → Part
  part_of l = record { start = at + l.size; size = l.value }

  sized-item : {l : LengthAnswer} → Sized l → item_at message_least limit s at ≡ done (part_of l)
  unfolding item_at
  sized-item {l} x = rw (x.read, le-ltb (length s - (at + l.size)) l.value x.room)

  sized-front : {l : LengthAnswer} → Sized l → item_front limit (drop at s) ≡ found (octets_of s (part_of l)) (l.size + l.value)
  unfolding item_front item_at
  sized-front {l} x =
      let fits : l.value ≤ length (drop at s) - (0 + l.size) = omega (arith, length-drop at s, x.room) in
      let there : at + (0 + l.size) ≡ at + l.size = omega arith in
      let end : 0 + l.size + l.value ≡ l.size + l.value = omega arith in
      rw (x.read, le-ltb (length (drop at s) - (0 + l.size)) l.value fits, drop-drop (0 + l.size) at s, there, end)

  item-sized : (p : Part) → item_at message_least limit s at ≡ done p → (l : LengthAnswer) × Sized l × (part_of l ≡ p)
  unfolding item_at
  item-sized p e =
      let found = bind_done (length_from message_least limit s at) _ p e in
      let l = found.0 in
      let some = cond-past (ltb (length s - (at + found.0.size)) found.0.value) _ _ p found.2 in (
        found.0,
        record {
          read = from-done at (length_within message_least limit (drop at s)) found.0 found.1;
          room = ltb-false (length s - (at + found.0.size)) found.0.value some.0;
        },
        done-same some.1,
      )

  front-sized : (p : Part) → item_at message_least limit (drop at s) 0 ≡ done p → (l : LengthAnswer) × Sized l
  unfolding item_at
  front-sized p e =
      let found = bind_done (length_from message_least limit (drop at s) 0) _ p e in
      let some = cond-past (ltb (length (drop at s) - (0 + found.0.size)) found.0.value) _ _ p found.2 in
      let fits = ltb-false (length (drop at s) - (0 + found.0.size)) found.0.value some.0 in (
        found.0,
        record {
          read = from-done 0 (length_within message_least limit (drop at s)) found.0 found.1;
          room = omega (arith, length-drop at s);
        },
      )

  item-edge : (i : ℕ)
      → (item_to limit).read s i (8 * at) ≡ and_then (found_from at (item_front limit (drop at s))) (λ x n. found x (8 * n + 8 * at))
  item-edge i = octetwise-edge (item_front limit) item_octets (Sendable limit) s i at

  pub item-at : (i : ℕ) (p : Part) → item_at message_least limit s at ≡ done p
      → (item_to limit).read s i (8 * at) ≡ found (octets_of s p) (8 * after p)
  item-at i p e =
      let so = item-sized p e in
      let l = so.0 in
      let end : 8 * (so.0.size + so.0.value) + 8 * at ≡ 8 * (at + so.0.size + so.0.value) = omega arith in
      rw (← so.2) (item-edge i ∙ rw (sized-front so.1, end))

  pub record ItemFound (x : List ℕ) (q : ℕ) : Type 0 where
    pub part : Part
    pub read : item_at message_least limit s at ≡ done part
    pub octets : x ≡ octets_of s part
    pub end : q ≡ 8 * after part

  pub item-found : (i : ℕ) (x : List ℕ) (q : ℕ) → (item_to limit).read s i (8 * at) ≡ found x q → ItemFound x q
  unfolding item_front
  item-found i x q e = by (item_at message_least limit (drop at s) 0) refl (sym (item-edge i) ∙ e) where
    by : (r : Answer Part) → item_at message_least limit (drop at s) 0 ≡ r
        → and_then (found_from at (part_taken (drop at s) r)) (λ x n. found x (8 * n + 8 * at)) ≡ found x q → ItemFound x q
    by (refused why) was e = let z : ◌≡◌ {A = ℕ} 0 1 = cc in absurd (omega arith)
    by (done p) was e =
        let so = front-sized p was in
        let l = so.0 in
        let front : found (octets_of (drop at s) p) (after p) ≡ found (octets_of s (part_of so.0)) (so.0.size + so.0.value)
        = ap (part_taken (drop at s)) (sym was) ∙ sized-front so.1 in
        let same : octets_of (drop at s) p ≡ octets_of s (part_of so.0) = cc in
        let ends : after p ≡ so.0.size + so.0.value = cc in
        let is : octets_of (drop at s) p ≡ x = cc in
        let end : 8 * after p + 8 * at ≡ q = cc in
        record { part = part_of so.0; read = sized-item so.1; octets = sym is ∙ same; end = omega arith }

-- several
pub items_at_lem : (limit : ℕ) (s : List ℕ) (i at n : ℕ) (ps : List Part) → items_at message_least limit s at n ≡ done ps
    → (sequence_of n (item_to limit)).read s i (8 * at) ≡ found (map (octets_of s) ps) (8 * end_of at ps)
unfolding items_at end_of reading.sequence_of
items_at_lem limit s i at zero ps e = let same : [] ≡ ps = done-same e in rw (← same)
items_at_lem limit s i at (suc n) ps e =
    let one = bind_done (item_at message_least limit s at) _ ps e in
    let more = bind_done (items_at message_least limit s (after one.0) n) _ ps one.2 in
    let same : (one.0 ∷ more.0) ≡ ps = done-same more.2 in
    rw (← same, item-at limit s at i one.0 one.1, items_at_lem limit s i (after one.0) n more.0 more.1)

pub record ItemsFound (limit : ℕ) (s : List ℕ) (at n : ℕ) (xs : List (List ℕ)) (q : ℕ) : Type 0 where
  pub parts : List Part
  pub read : items_at message_least limit s at n ≡ done parts
  pub octets : xs ≡ map (octets_of s) parts
  pub end : q ≡ 8 * end_of at parts

pub items-found : (limit : ℕ) (s : List ℕ) (i at n : ℕ) (xs : List (List ℕ)) (q : ℕ)
    → (sequence_of n (item_to limit)).read s i (8 * at) ≡ found xs q → ItemsFound limit s at n xs q
unfolding items_at end_of reading.sequence_of
items-found limit s i at zero xs q e =
    let is : [] ≡ xs = cc in
    let end : 8 * at ≡ q = cc in
    record { parts = []; read = refl; octets = sym is; end = sym end }
items-found limit s i at (suc n) xs q e =
    let one = stepped ((item_to limit).read s i (8 * at)) _ xs q e in
    let first = item-found limit s at i one.value one.at one.was in
    let more = stepped ((sequence_of n (item_to limit)).read s i one.at) _ xs q one.gave in
    let rest = items-found limit s i (after first.part) n more.value more.at
    (ap (λ (k : ℕ). (sequence_of n (item_to limit)).read s i k) (sym first.end) ∙ more.was) in
    let is : (one.value ∷ more.value) ≡ xs = cc in
    let end : more.at ≡ q = cc in
    record {
      parts = first.part ∷ rest.parts;
      read = rw (first.read, rest.read);
      octets = sym is ∙ ap₂ (λ (x : List ℕ) (l : List (List ℕ)). x ∷ l) first.octets rest.octets;
      end = sym end ∙ rest.end;
    }
