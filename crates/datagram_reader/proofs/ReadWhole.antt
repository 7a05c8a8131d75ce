-- One law for each answer of `whole_of` and `read`, in the words of the code. Assumes nothing.
use Rattle.std.proofs.Common.{Result, Ok, Err}
use Prim.Native.Nat.{ℕ, ◌+◌, ◌*◌, ◌≤◌, ◌<◌}
use mathlib.Core.Path.{◌≡◌, refl, sym, ◌∙◌}
use mathlib.Core.Bool.{true}
use mathlib.Core.List.{List}
use lib.ListN.{length, get_or, replicate}
use lib.Dec.{ltb}
use borrow.Author.Tests.{lt-ltb, le-ltb}
use Rattle.length.specs.Refusals.{ends_early, too_long, left_over}
use Rattle.length.specs.Answers.{done, refused}
use Rattle.length.specs.Promise.{RefusalMade, RefusalPlaced}
use Rattle.length.specs.declared.Refusal.{Refusal}
use Rattle.datagram.specs.Sizes.{packet_least, packet_limit, datagram_limit, spares_limit}
use Rattle.datagram.specs.Read.{after, item_at, items_at, end_of, extra_at, least_of, most_of, number_of, whole_of, read_datagram}
use Rattle.datagram.specs.Promise.{DatagramReads, padded_parts, nowhere, datagram_read}
use Rattle.datagram_reader.specs.Pieces.{ItemRead, ExtraRead, ItemsBegin, WholeRead}
use Rattle.datagram.specs.declared.reader.Part.{Part}
use Rattle.datagram_reader.specs.declared.reader.Extra.{Extra}
use Rattle.datagram.specs.declared.reader.DatagramRead.{DatagramRead}
use Rattle.datagram.specs.declared.kind.Kind.{Kind}
use Rattle.datagram.proofs.Laws.{count-few, items-done, extra-done, whole-reads, outcome-whole}
use Rattle.datagram_reader.proofs.ReadTurn.{Turning, turn-refused, turn-done}

-- ---- whole_of

module _ {least most : ℕ} {s : List ℕ} {number : ℕ} {packet : Part} {k : Kind} {count first : ℕ} {items : List Part} {at i : ℕ}
    (so : Turning least most s count first items at i) (low : least ≡ least_of k) (high : most ≡ most_of k) where
  pub whole-refused : {q : Result Part Refusal} {why : Refusal} → i < count → ItemRead least most s at q → q ≡ Err why
      → WholeRead s number packet k count first (Err why)
  unfolding whole_of datagram_read
  whole-refused {q} {why} more read is =
      let stop : items_at (least_of k) (most_of k) s first count ≡ refused why = rw (low, high) at (turn-refused so more read is) in
      record { whole = rw stop }

  pub whole-left : {why : Refusal} → count ≤ i → at < length s → RefusalPlaced left_over at why
      → WholeRead s number packet k count first (Err why)
  unfolding whole_of datagram_read
  whole-left all more made =
      let read : items_at (least_of k) (most_of k) s first count ≡ done so.got = rw (low, high) at (turn-done so all) in
      let over : ltb (end_of first so.got) (length s) ≡ true = rw so.ends (lt-ltb at (length s) more) in
      record { whole = rw (made.answer, read, over, so.ends) }

  pub whole-read : count ≤ i → length s ≤ at
      → WholeRead s number packet k count first (Ok (record { number = number; packet = packet; kind = k; count = count; items = items }))
  unfolding datagram_read
  whole-read all none =
      let read : items_at (least_of k) (most_of k) s first count ≡ done so.got = rw (low, high) at (turn-done so all) in
      let counted = (items-done (least_of k) (most_of k) s first count so.got read).counted in
      let over : length s ≤ end_of first so.got = rw so.ends none in
      record {
        whole =
            rw
            (whole-reads s number packet (record { kind = k; count = count; first = first }) so.got read over, so.kept, counted);
      }

-- the laws of `whole_of`'s answers
pub ruleset wholes = (whole-refused, whole-left, whole-read)

-- ---- read

head_read : (s : List ℕ) (at : ℕ) {e : Result Extra Refusal} {x : Extra} → ExtraRead s at e → e ≡ Ok x
    → extra_at s at ≡ done (record { kind = x.kind; count = x.count; first = x.first })
head_read s at read is = sym (rw is at read.answer)

-- the items begin within the octets, and are no more than there are places
pub extra-asked : {s : List ℕ} {at : ℕ} {e : Result Extra Refusal} {x : Extra} → ExtraRead s at e → e ≡ Ok x
    → ItemsBegin s x.count x.first
extra-asked {s} {at} {e} {x} read is =
    let h = extra-done s at _ (head_read s at read is) in
    record { inside = h.inside; few = count-few x.kind x.count h.counted }

reads : {s : List ℕ} {r : Result DatagramRead Refusal} → r ≡ datagram_read (read_datagram s) → DatagramReads s r
reads {s} e = record { answer = rw e (outcome-whole (read_datagram s)); whole = e }

module _ {s : List ℕ} where
  pub read-long : {why : Refusal} → RefusalMade too_long why → datagram_limit < length s → DatagramReads s (Err why)
  unfolding read_datagram datagram_read
  read-long made long = reads (rw (made.answer, lt-ltb datagram_limit (length s) long))

  module _ (fits : length s ≤ datagram_limit) where
    pub read_short : {why : Refusal} → RefusalMade ends_early why → length s < 2 → DatagramReads s (Err why)
    unfolding read_datagram number_of datagram_read
    read_short made short =
        reads (rw (made.answer, le-ltb datagram_limit (length s) fits, lt-ltb (length s) 2 short))

    module _ {i : Result Part Refusal} (two : 2 ≤ length s) (read : ItemRead packet_least packet_limit s 2 i) where
      pub read-no-packet : {why : Refusal} → i ≡ Err why → DatagramReads s (Err why)
      unfolding read_datagram number_of datagram_read
      read-no-packet {why} is =
          let e : refused why ≡ item_at packet_least packet_limit s 2 = rw is at read.answer in
          reads (rw (le-ltb datagram_limit (length s) fits, le-ltb (length s) 2 two, ← e))

      module _ {p : Part} {x : Result Extra Refusal} (is : i ≡ Ok p) (next : ExtraRead s (p.start + p.size) x) where
        pub read-no-extra : {why : Refusal} → x ≡ Err why → DatagramReads s (Err why)
        unfolding read_datagram number_of datagram_read
        read-no-extra {why} has =
            let e : done p ≡ item_at packet_least packet_limit s 2 = rw is at read.answer in
            let q : refused why ≡ extra_at s (after p) = rw has at next.answer in
            reads (rw (le-ltb datagram_limit (length s) fits, le-ltb (length s) 2 two, ← e, ← q))

        pub read_whole : {number : ℕ} {e : Extra} {r : Result DatagramRead Refusal} → number ≡ get_or s 0 0 * 256 + get_or s 1 0
            → x ≡ Ok e → WholeRead s number p e.kind e.count e.first r → DatagramReads s r
        unfolding read_datagram number_of
        read_whole number has whole =
            let e : done p ≡ item_at packet_least packet_limit s 2 = rw is at read.answer in
            reads (whole.whole
            ∙ rw (le-ltb datagram_limit (length s) fits, le-ltb (length s) 2 two, ← e, head_read s (after p) next has, number))

-- the laws of `read`'s answers
pub ruleset readings = (read-long, read_short, read-no-packet, read-no-extra, read_whole)
