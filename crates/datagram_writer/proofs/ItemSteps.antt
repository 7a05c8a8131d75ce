-- The loop that writes spares or messages, and the size that it takes: what is left to write, after what is written, gives
-- the whole. Assumes nothing.
use Prim.Native.Nat.{ℕ, ◌+◌, ◌-◌, ◌≤◌, ◌<◌}
use mathlib.Core.Path.{◌≡◌, sym, ap, ◌∙◌}
use mathlib.Core.List.{List, [], ◌++◌, append_assoc, append-nil}
use lib.ListN.{length, get_or, take, drop, drop_of_length-le, length-drop}
use lib.Seq.{drop-cons, drop-drop, length-take-le}
use native.Mathlib.Numerals.{add-one}
use native.Mathlib.Omega.{arith}
use borrow.Rule.Slice.PartMut.{mid_of, put_mid}
use Rattle.length.specs.Length.{length_limit}
use Rattle.length.specs.Promise.{Put}
use Rattle.length.proofs.Laws.{put_next, put-long, room-left}
use Rattle.datagram.specs.Write.{item_octets, items_octets, cut, sum_of}
use Rattle.datagram.specs.Inner.Heads.{item_size, items_size}
use Rattle.datagram.proofs.Laws.{sum-next, size-next, item-length}

-- ---- one item more
cut-next : (lengths run : List ℕ) (i from : ℕ) → i < length lengths
    → items_octets (cut (drop i lengths) (drop from run))
    ≡ item_octets (take (get_or lengths i 0) (drop from run)) ++ items_octets (cut (drop (i + 1) lengths) (drop (from + get_or lengths i 0) run))
unfolding cut items_octets
cut-next lengths run i from more =
    rw (add-one, drop-cons lengths i 0 more, drop-drop (get_or lengths i 0) from run)

cut-none : (lengths run : List ℕ) (i from : ℕ) → length lengths ≤ i → items_octets (cut (drop i lengths) (drop from run)) ≡ []
unfolding cut items_octets
cut-none lengths run i from end = rw (drop_of_length-le lengths end)

-- ---- put_items

-- before a turn: the items before place i are written, those from it on are left, and have their data and their room
pub record Going (lengths run old new : List ℕ) (i from at : ℕ) : Type 0 where
  pub bound : i ≤ length lengths
  pub long : length new ≡ length old
  pub owed : from + sum_of (drop i lengths) ≡ length run
  pub room : at + items_size (drop i lengths) ≤ length old
  pub front : List ℕ
  pub put : Put front old new at
  pub left : front ++ items_octets (cut (drop i lengths) (drop from run)) ≡ items_octets (cut lengths run)

-- in a turn: the item of n octets has its data and its room
pub record Turn (run new : List ℕ) (from at n : ℕ) : Type 0 where
  pub to : from + n ≤ length run
  pub fits : at + item_size n ≤ length new
  pub size : length (take (from + n - from) (drop from run)) ≡ n

part-size : (run : List ℕ) (from n : ℕ) → from + n ≤ length run → length (take (from + n - from) (drop from run)) ≡ n
part-size run from n to =
    length-take-le (from + n - from) (drop from run) (rw (length-drop from run) (omega arith)) ∙ omega arith

pub item-asked : {run new : List ℕ} {from at n : ℕ} → Turn run new from at n → length run ≤ length_limit
    → (length (take (from + n - from) (drop from run)) ≤ length_limit)
    × (item_size (length (take (from + n - from) (drop from run))) ≤ length (mid_of at (length new - at) new))
item-asked {run} {new} {from} {at} {n} t small =
    let to = t.to in
    rw t.size (omega arith, room-left new at (item_size n) t.fits)

module _ {lengths run old : List ℕ} where
  pub turning : {new : List ℕ} {i from at n : ℕ} → Going lengths run old new i from at → i < length lengths
      → n ≡ get_or lengths i 0 → Turn run new from at n
  turning {new} {i} {from} {at} {n} v more e =
      let sum = sum-next lengths i more in
      let sizes = size-next lengths i more in
      let same : item_size n ≡ item_size (get_or lengths i 0) = ap item_size e in
      let to : from + n ≤ length run = omega arith in
      record { to = to; fits = omega arith; size = part-size run from n to }

  pub going-turn : {new part : List ℕ} {i from at n size : ℕ} → Going lengths run old new i from at → i < length lengths
      → n ≡ get_or lengths i 0 → Put (item_octets (take (from + n - from) (drop from run))) (mid_of at (length new - at) new) part size
      → Going lengths run old (put_mid at (length new - at) new part) (i + 1) (from + n) (at + size)
  going-turn {new} {part} {i} {from} {at} {n} {size} v more e q =
      let sum = sum-next lengths i more in
      let sizes = size-next lengths i more in
      let t = turning v more e in
      let whole = put_next v.put q in
      let octets = q.answer ∙ item-length _ ∙ ap item_size (t.size ∙ e) in
      let item : from + n - from ≡ get_or lengths i 0 = omega arith in
      record {
        bound = omega arith;
        long = put-long whole;
        owed = omega arith;
        room = omega arith;
        front = v.front ++ item_octets (take (from + n - from) (drop from run));
        put = whole;
        left =
            append_assoc v.front _ _
            ∙ rw (item, e) (ap (λ (l : List ℕ). v.front ++ l) (sym (cut-next lengths run i from more)) ∙ v.left);
      }

  pub going_done : {new : List ℕ} {i from at : ℕ} → Going lengths run old new i from at → length lengths ≤ i
      → Put (items_octets (cut lengths run)) old new at
  going_done {new} {i} {from} {at} v end =
      let same : v.front ≡ items_octets (cut lengths run) =
      sym (append-nil v.front) ∙ rw (cut-none lengths run i from end) at v.left in
      rw same at v.put

-- the loop of `put_items`
pub ruleset goings = (going-turn, going_done)
