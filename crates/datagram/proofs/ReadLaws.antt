-- Laws of a datagram as it is read, and of the reader's answer: what a reading that is no refusal says of the octets. Assumes
-- nothing.
use Rattle.std.proofs.Common.{Result, Ok, Err}
use Prim.Native.Nat.{ℕ, ◌+◌, ◌-◌, ◌*◌, ◌≤◌, ◌<◌}
use mathlib.Core.Path.{◌≡◌, refl, sym, ap, ◌∙◌}
use mathlib.Core.List.{List}
use lib.ListN.{length, get_or, take}
use lib.Seq.{get_or-take, take-append_seam}
use lib.Dec.{ltb}
use native.Mathlib.Omega.{arith}
use borrow.Author.Tests.{ltb-false, le-ltb}
use Rattle.length.specs.Refusals.{ends_early, too_long}
use Rattle.length.specs.Answers.{Answer, done, refused}
use Rattle.length.specs.Length.{within}
use Rattle.length.specs.Claims.{Octets}
use Rattle.length.specs.declared.Refusal.{Refusal}
use Rattle.length.proofs.Laws.{bind_done, cond-past, cond-done, done-same}
use Rattle.datagram.specs.Sizes.{packet_least, packet_limit, datagram_limit}
use Rattle.datagram.specs.Read.{DatagramParts, ExtraHead, after, item_at, items_at, end_of, extra_at, least_of, most_of, number_of}
use Rattle.datagram.specs.Read.{whole_of, read_datagram}
use Rattle.datagram.specs.Promise.{DatagramReads, datagram_read, read_outcome, padded_parts, nowhere}
use Rattle.datagram.specs.Claims.{Inside}
use Rattle.datagram.specs.declared.reader.Part.{Part}
use Rattle.datagram.specs.declared.reader.DatagramRead.{DatagramRead}
use Rattle.datagram.specs.declared.kind.Kind.{Kind}
use Rattle.datagram.proofs.PieceLaws.{item-done, items-done, items-each, extra-done}

-- the items of a datagram that reads, and nothing after them
record Whole (s : List ℕ) (number : ℕ) (packet : Part) (h : ExtraHead) (d : DatagramParts) : Type 0 where
  parts : List Part
  same : record { number = number; packet = packet; kind = h.kind; items = parts } ≡ d
  read : items_at (least_of h.kind) (most_of h.kind) s h.first h.count ≡ done parts
  ends : length s ≤ end_of h.first parts

whole-done : (s : List ℕ) (number : ℕ) (packet : Part) (h : ExtraHead) (d : DatagramParts) → whole_of s number packet h ≡ done d
    → Whole s number packet h d
unfolding whole_of
whole-done s number packet h d e =
    let found = bind_done (items_at (least_of h.kind) (most_of h.kind) s h.first h.count) _ d e in
    let none = cond-past (ltb (end_of h.first found.0) (length s)) _ _ d found.2 in
    record {
      parts = found.0;
      same = done-same none.1;
      read = found.1;
      ends = ltb-false (end_of h.first found.0) (length s) none.0;
    }

number-done : (s : List ℕ) (number : ℕ) → number_of s ≡ done number → (2 ≤ length s) × (number ≡ get_or s 0 0 * 256 + get_or s 1 0)
unfolding number_of
number-done s number e =
    let two = cond-done (ltb (length s) 2) ends_early _ number e in
    (ltb-false (length s) 2 two.0, sym (done-same two.1))

-- a datagram that reads
pub record Datagram (s : List ℕ) (d : DatagramParts) : Type 0 where
  pub two : 2 ≤ length s
  pub number : d.number ≡ get_or s 0 0 * 256 + get_or s 1 0
  pub packet : item_at packet_least packet_limit s 2 ≡ done d.packet
  pub count : ℕ
  pub first : ℕ
  pub extra : extra_at s (after d.packet) ≡ done (record { kind = d.kind; count = count; first = first })
  pub items : items_at (least_of d.kind) (most_of d.kind) s first count ≡ done d.items
  pub ends : length s ≤ end_of first d.items

pub read_done : (s : List ℕ) (d : DatagramParts) → read_datagram s ≡ done d → Datagram s d
unfolding read_datagram
read_done s d e =
    let short = cond-done (ltb datagram_limit (length s)) too_long _ d e in
    let number = bind_done (number_of s) _ d short.1 in
    let packet = bind_done (item_at packet_least packet_limit s 2) _ d number.2 in
    let extra = bind_done (extra_at s (after packet.0)) _ d packet.2 in
    let whole = whole-done s number.0 packet.0 extra.0 d extra.2 in
    let two = number-done s number.0 number.1 in
    rw (← whole.same)
    (record {
      two = two.0;
      number = two.1;
      packet = packet.1;
      count = extra.0.count;
      first = extra.0.first;
      extra = extra.1;
      items = whole.read;
      ends = whole.ends;
    })

-- what an accepted datagram names is within the sizes and the octets
pub read-inside : (s : List ℕ) (d : DatagramParts) → read_datagram s ≡ done d → Inside s d.packet d.kind (length d.items) d.items
read-inside s d e =
    let so = read_done s d e in
    let newest = item-done packet_least packet_limit s 2 d.packet so.packet in
    let head = extra-done s (after d.packet) _ so.extra in
    let all = items-done (least_of d.kind) (most_of d.kind) s so.first so.count d.items so.items in
    record {
      newest = record { low = newest.low; high = newest.high; inside = newest.inside so.two };
      counted = rw all.counted head.counted;
      each = items-each (least_of d.kind) (most_of d.kind) s so.first so.count d.items head.inside so.items;
    }

-- the number is one of 65,536
pub number_small : (s : List ℕ) (d : DatagramParts) → Octets s → read_datagram s ≡ done d → d.number < 65536
number_small s d octets e = omega (arith, (read_done s d e).number, octets 0, octets 1)

-- ---- the reader's answer, in the words of a caller that has taken it apart

module _ {s : List ℕ} {r : Result DatagramRead Refusal} (reads : DatagramReads s r) where
  pub refused-read : {why : Refusal} → r ≡ Err why → read_datagram s ≡ refused why
  refused-read {why} is = sym (rw is at reads.answer)

  module _ {d : DatagramRead} (is : r ≡ Ok d) where
    pub accepted-read : read_datagram s
        ≡ done (record { number = d.number; packet = d.packet; kind = d.kind; items = take d.count d.items })
    accepted-read = sym (rw is at reads.answer)

    pub accepted-count : length (take d.count d.items) ≡ d.count
    unfolding datagram_read
    accepted-count =
        let told : Ok d ≡ datagram_read (done (record { number = d.number; packet = d.packet; kind = d.kind; items = take d.count d.items })) =
        sym is ∙ reads.whole ∙ ap datagram_read accepted-read in
        cc

    pub accepted-inside : Inside s d.packet d.kind d.count d.items
    accepted-inside =
        let so = read-inside s _ accepted-read in
        record {
          newest = so.newest;
          counted = rw accepted-count at so.counted;
          each = λ j more. rw (get_or-take d.count d.items j nowhere more) at (so.each j (rw accepted-count more));
        }

-- ---- what makes a reading

pub whole-reads : (s : List ℕ) (number : ℕ) (packet : Part) (h : ExtraHead) (items : List Part)
    → items_at (least_of h.kind) (most_of h.kind) s h.first h.count ≡ done items → length s ≤ end_of h.first items
    → whole_of s number packet h ≡ done (record { number = number; packet = packet; kind = h.kind; items = items })
unfolding whole_of
whole-reads s number packet h items all none = rw (all, le-ltb (end_of h.first items) (length s) none)

-- what is handed back says the whole of what was read
pub outcome-whole : (a : Answer DatagramParts) → read_outcome (datagram_read a) ≡ a
unfolding datagram_read padded_parts
outcome-whole (done d) = rw (take-append_seam d.items)
outcome-whole (refused r) = refl
