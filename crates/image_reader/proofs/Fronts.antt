-- The line at the front of a text, read by its format: what was taken from the text, and what the line's octets read as, give what is
-- found there. And the laws of the answers of `first_line`. Assumes nothing.
use Rattle.std.proofs.Common.{◌≡◌, ℕ, zero, suc, ◌+◌, ◌*◌, ◌<◌, ◌≤◌, Bool, true, false, cond, ltb, List, [], ◌∷◌, Option, Some, None, length, take, drop, sym, refl, ap, ◌∙◌, ap₂, mul-le-mul_right, suc-mul, arith, take_at, ltb-true, lt-ltb}
use Rattle.length.specs.Refusals.{refusal, bad_image}
use Rattle.length.specs.Answers.{Answer, done, refused}
use Rattle.length.proofs.Laws.{bind_done, done-same, cond-met, sizes-read}
use Rattle.datagram.specs.Sizes.{packet_limit, message_least, messages_limit}
use Rattle.datagram.specs.Read.{after, item_at, items_at, end_of}
use Rattle.datagram.specs.declared.reader.Part.{Part}
use Rattle.datagram.proofs.Laws.{item-done}
use Rattle.format.specs.Reading.{found, stopped}
use Rattle.format.specs.Format.{Format}
use Rattle.line.specs.Hex.{octets_in}
use Rattle.image.specs.Parts.{read_whole, taking, line_at, upper_pairs, read_line, line_front}
use Rattle.image.specs.Layout.{first_image_line}
use Rattle.image.specs.Image.{first_image_size, longest_item, number_line_limit}
use Rattle.image_reader.specs.Text.{LineTaken}
use Rattle.image_reader.specs.Number.{NumberIs, LineParts}
use Rattle.image_reader.specs.Whole.{FirstImageTold, FirstLineTold, first_told}
use Rattle.image_reader.specs.declared.whole.First.{First}
use Rattle.image_reader.proofs.Taking.{taken-octets, taken_none}
use Rattle.image_reader.proofs.NumberSteps.{base-most}
use Rattle.image_reader.proofs.FirstLine.{first_reads, first_back}

-- ---- the front
module _ {A : Type 0} (f : Format A) (text : List ℕ) (a : A) where
  front-found : length (line_at text) < length text → upper_pairs (line_at text) ≡ true → read_whole f (octets_in (line_at text)) ≡ done a
      → line_front f text ≡ found a (length (line_at text) + 1)
  unfolding line_front read_line
  front-found ended pairs e = rw (lt-ltb (length (line_at text)) (length text) ended, pairs, e)

  pub record Front (n : ℕ) : Type 0 where
    pub ended : length (line_at text) < length text
    pub pairs : upper_pairs (line_at text) ≡ true
    pub read : read_whole f (octets_in (line_at text)) ≡ done a
    pub after : n ≡ length (line_at text) + 1

  pub front-back : (n : ℕ) → line_front f text ≡ found a n → Front n
  unfolding line_front read_line
  front-back n e = by (ltb (length (line_at text)) (length text)) refl e where
    line : (r : Answer A) → taking (length (line_at text) + 1) r ≡ found a n → (r ≡ done a) × (n ≡ length (line_at text) + 1)
    line (done b) e = (cc, cc)
    line (refused why) e = let z : ◌≡◌ {A = ℕ} 0 1 = cc in absurd (omega arith)

    by : (b : Bool) → ltb (length (line_at text)) (length text) ≡ b
        → cond b (taking (length (line_at text) + 1) (read_line f (line_at text))) (stopped (refusal bad_image)) ≡ found a n → Front n
    by true was e =
        let all = line (read_line f (line_at text)) e in
        let met = cond-met (upper_pairs (line_at text)) bad_image (read_whole f (octets_in (line_at text))) a all.0 in
        record { ended = ltb-true (length (line_at text)) (length text) was; pairs = met.0; read = met.1; after = all.1 }
    by false was e = let z : ◌≡◌ {A = ℕ} 0 1 = cc in absurd (omega arith)

  -- a line that is read ends within the text
  pub front-inside : (n : ℕ) → line_front f text ≡ found a n → n ≤ length text
  front-inside n e = let x = front-back n e in omega (arith, x.ended, x.after)

-- what was taken from the text
module _ {text old new : List ℕ} {r : Option (ℕ × ℕ)} (t : LineTaken text old new r) where
  pub taken-cut : {count next : ℕ} → r ≡ Some (count, next) → take count new ≡ octets_in (line_at text)
  taken-cut {count} is =
      let x = taken-octets t is in
      ap₂ (λ (n : ℕ) (l : List ℕ). take n l) x.counted x.lent
      ∙ take_at (octets_in (line_at text)) (drop (length (octets_in (line_at text))) old) (length (octets_in (line_at text))) refl

  module _ {A : Type 0} (f : Format A) where
    pub taken-found : {count next : ℕ} → r ≡ Some (count, next) → (a : A) → read_whole f (take count new) ≡ done a
        → line_front f text ≡ found a next
    taken-found {count} {next} is a e =
        let x = taken-octets t is in
        front-found f text a x.ended x.pairs (rw (taken-cut is) at e) ∙ ap (found a) (sym x.after)

    pub taken_back : {count next : ℕ} → r ≡ Some (count, next) → (a : A) (n : ℕ) → line_front f text ≡ found a n
        → read_whole f (take count new) ≡ done a
    taken_back is a n e = rw (taken-cut is) (front-back f text a n e).read

    -- nothing was taken: no line is found whose octets have room
    pub taken-never : r ≡ None → (a : A) (n : ℕ) → line_front f text ≡ found a n
        → length (octets_in (line_at text)) ≤ length old → ⊥
    taken-never is a n e room = let x = front-back f text a n e in taken_none t is x.ended x.pairs room

-- ---- the first line
module _ {octet : ℕ} {text old new : List ℕ} {r : Option (ℕ × ℕ)} (t : LineTaken text old new r) where
  pub first-none : {q : Option First} → r ≡ None → length old ≡ first_image_size → q ≡ None → FirstLineTold octet text q
  first-none is long none =
      rw none
      (record {
        answer = λ limit f n e.
            let back = front-back (first_image_line (record { octet = octet; limit = limit })) text f n e in
            let all = first_back (record { octet = octet; limit = limit }) (octets_in (line_at text)) f back.read in
            taken-never t (first_image_line (record { octet = octet; limit = limit })) is f n e (omega (arith, all.long));
      })

  pub first-told : {count next : ℕ} {q : Option First} → r ≡ Some (count, next) → FirstImageTold octet (take count new) next q
      → FirstLineTold octet text q
  first-told {count = count} {next = next} {q = Some q} is told =
      record {
        answer = λ limit.
            taken-found t (first_image_line (record { octet = octet; limit = limit })) is (first_told q)
            (first_reads (record { octet = octet; limit = limit }) (take count new) (first_told q) told.answer.is)
            ∙ ap (found (first_told q)) (sym told.answer.after);
      }
  first-told {count = count} {next = next} {q = None} is told =
      record {
        answer = λ limit f n e.
            told.answer f
            (first_back (record { octet = octet; limit = limit }) (take count new) f
            (taken_back t (first_image_line (record { octet = octet; limit = limit })) is f n e));
      }

pub ruleset firstlines = (first-none, first-told)

-- ---- how long the line of a number may be
item-longest : (limit : ℕ) (s : List ℕ) (at : ℕ) (p : Part) → item_at message_least limit s at ≡ done p → after p ≤ at + longest_item limit
item-longest limit s at p e =
    let i = item-done message_least limit s at p e in
    omega (arith, (sizes-read (drop at s) i.length i.read).few, i.start, i.high)

items-longest : (limit : ℕ) (s : List ℕ) (at n : ℕ) (ps : List Part) → items_at message_least limit s at n ≡ done ps
    → end_of at ps ≤ at + n * longest_item limit
unfolding items_at end_of
items-longest limit s at zero ps e = let same : [] ≡ ps = done-same e in rw (← same) (omega arith)
items-longest limit s at (suc n) ps e =
    let one = bind_done (item_at message_least limit s at) _ ps e in
    let more = bind_done (items_at message_least limit s (after one.0) n) _ ps one.2 in
    let same : (one.0 ∷ more.0) ≡ ps = done-same more.2 in
    let rest = items-longest limit s (after one.0) n more.0 more.1 in
    rw (← same) (omega (arith, item-longest limit s at one.0 one.1, suc-mul n (longest_item limit)))

pub number-longest : {limit : ℕ} {ahead : Bool} {s : List ℕ} {x : LineParts} → limit ≤ packet_limit → NumberIs limit ahead s x
    → length s ≤ number_line_limit packet_limit
number-longest {limit} {ahead} {s} {x} most is =
    let tail = is.tail in
    let packet = item-longest limit s 4 x.packet is.packet in
    let all = items-longest limit s (after x.packet + 2) (length x.messages) x.messages is.tail.read in
    let few : length x.messages * longest_item limit ≤ messages_limit * longest_item limit
    = mul-le-mul_right (longest_item limit) (omega (arith, is.tail.few, base-most ahead messages_limit)) in
    omega (arith, is.tail.ends)
