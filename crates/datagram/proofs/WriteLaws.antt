-- Laws of what the datagram writer writes, for this crate and those above: its octets part by part, how many they are, and
-- what is true of whatever is not refused. Assumes nothing.
use Prim.Native.Nat.{ℕ, suc, ◌*◌, ◌≤◌}
use mathlib.Core.Path.{◌≡◌, refl, sym, ap, ◌∙◌}
use mathlib.Core.Bool.{true, not}
use mathlib.Core.List.{List, [], ◌∷◌, ◌++◌, append_assoc}
use lib.ListN.{length, take, drop, length-append, length-drop}
use lib.Dec.{eqb}
use lib.Seq.{length-take-le}
use native.Mathlib.Omega.{arith}
use borrow.Author.Tests.{leb-true, eqb-true, eq-eqb, lt-ltb, not-false}
use Rattle.length.specs.Answers.{done}
use Rattle.length.specs.Tables.{unless}
pub use Rattle.length.proofs.Laws.{both}
use Rattle.length.proofs.Laws.{within-true, size-written}
use Rattle.length.specs.Length.{within}
use Rattle.length.proofs.Laws.{unless-past, unless-done}
use Rattle.datagram.specs.Sizes.{packet_least, packet_limit, message_least, message_limit, spares_limit, covered_least, covered_limit}
use Rattle.datagram.specs.Sizes.{messages_least, messages_limit, datagram_limit}
use Rattle.datagram.specs.Write.{number_octets, item_octets, items_octets, counted_octets, datagram_octets, extra_octets, cut, extra_of}
use Rattle.datagram.specs.Write.{carried_of, sum_of, count_inside, item_inside, items_inside, lengths_inside, datagram_to_write}
use Rattle.datagram.specs.Inner.Heads.{kind_head, items_size, datagram_size, n_fits, Bounded}
use Rattle.datagram.specs.declared.kind.Kind.{Kind}
use Rattle.datagram.specs.declared.kind.Kind.TheVariants as kind
use Rattle.datagram.proofs.SizeLaws.{items-bound, kind-bound}
use Rattle.datagram.proofs.SizeLaws.{number-length, item-length}

-- ---- the octets, part by part
pub cut-length : (lengths run : List ℕ) → length (cut lengths run) ≡ length lengths
unfolding cut
cut-length [] run = refl
cut-length (n ∷ lengths) run = ap suc (cut-length lengths (drop n run))

pub extra-form : (k : Kind) (items : List (List ℕ)) → extra_octets (extra_of k items) ≡ kind_head k (length items) ++ items_octets items
unfolding counted_octets
extra-form kind.Spares items = refl
extra-form (kind.Parity n) items = refl

pub datagram-form : (number : ℕ) (packet : List ℕ) (k : Kind) (lengths run : List ℕ)
    → datagram_octets (carried_of number packet k lengths run)
    ≡ number_octets number ++ item_octets packet ++ kind_head k (length lengths) ++ items_octets (cut lengths run)
unfolding datagram_octets
datagram-form number packet k lengths run =
    rw (extra-form k (cut lengths run), cut-length lengths run)
    (sym (append_assoc (number_octets number ++ item_octets packet) _ _ ∙ append_assoc (number_octets number) (item_octets packet) _))

-- ---- how many octets
pub items-length : (lengths run : List ℕ) → sum_of lengths ≤ length run → length (items_octets (cut lengths run)) ≡ items_size lengths
unfolding cut items_octets items_size sum_of
items-length [] run enough = refl
items-length (n ∷ lengths) run enough =
    let first : length (take n run) ≡ n = length-take-le n run (omega arith) in
    let rest : sum_of lengths ≤ length (drop n run) = rw (length-drop n run) (omega arith) in
    rw (
      length-append (item_octets (take n run)) (items_octets (cut lengths (drop n run))),
      item-length (take n run),
      first,
      items-length lengths (drop n run) rest,
    )

pub datagram-length : (number : ℕ) (packet : List ℕ) (k : Kind) (lengths run : List ℕ) → sum_of lengths ≤ length run
    → length (datagram_octets (carried_of number packet k lengths run)) ≡ datagram_size number packet k lengths
datagram-length number packet k lengths run enough =
    rw (
      datagram-form number packet k lengths run,
      length-append (number_octets number ++ item_octets packet ++ kind_head k (length lengths)) (items_octets (cut lengths run)),
      length-append (number_octets number ++ item_octets packet) (kind_head k (length lengths)),
      length-append (number_octets number) (item_octets packet),
      item-length packet,
      items-length lengths run enough,
    )

-- ---- inside the sizes
pub count-few : (k : Kind) (count : ℕ) → count_inside k count ≡ true → count ≤ spares_limit
count-few kind.Spares count e = leb-true count spares_limit e
count-few (kind.Parity n) count e = let t = within-true messages_least messages_limit count
    (both (within covered_least covered_limit n) _ e).1 in omega arith

pub n-fits : (k : Kind) (count : ℕ) → count_inside k count ≡ true → n_fits k ≡ true
n-fits kind.Spares count e = refl
n-fits (kind.Parity n) count e =
    let t = within-true covered_least covered_limit n (both (within covered_least covered_limit n) _ e).0 in
    lt-ltb n 256 (omega arith)

item-few : (k : Kind) (n : ℕ) → item_inside k n ≡ true → n ≤ packet_limit
item-few kind.Spares n e = (within-true packet_least packet_limit n e).1
item-few (kind.Parity p) n e = (within-true message_least message_limit n e).1

pub items-few : (k : Kind) (lengths : List ℕ) → items_inside k lengths ≡ true → sum_of lengths ≤ length lengths * packet_limit
unfolding items_inside sum_of
items-few k [] e = omega arith
items-few k (n ∷ lengths) e =
    let t = both (item_inside k n) (items_inside k lengths) e in
    let one = item-few k n t.0 in
    let rest = items-few k lengths t.1 in
    omega arith

-- ---- what is not refused

-- what the writer is given passed every test but that of the room
pub record Allowed (packet : List ℕ) (k : Kind) (lengths run : List ℕ) : Type 0 where
  pub counted : count_inside k (length lengths) ≡ true
  pub summed : sum_of lengths ≡ length run
  pub newest : within packet_least packet_limit (length packet) ≡ true
  pub items : items_inside k lengths ≡ true

pub allowed-bounded : {packet : List ℕ} {k : Kind} {lengths run : List ℕ} → Allowed packet k lengths run → Bounded packet k lengths run
allowed-bounded {packet} {k} {lengths} {run} a =
    let newest = within-true packet_least packet_limit (length packet) a.newest in
    let count = count-few k (length lengths) a.counted in
    let items = items-few k lengths a.items in
    let sum = a.summed in
    record {
      newest = omega arith;
      head = record { n = n-fits k (length lengths) a.counted; counted = omega arith };
      summed = a.summed;
      few = omega arith;
    }

-- a datagram that is written is never over the datagram limit
pub allowed-short : (number : ℕ) {packet : List ℕ} {k : Kind} {lengths run : List ℕ} → Allowed packet k lengths run
    → length (datagram_octets (carried_of number packet k lengths run)) ≤ datagram_limit
allowed-short number {packet} {k} {lengths} {run} a =
    let newest = within-true packet_least packet_limit (length packet) a.newest in
    let count = count-few k (length lengths) a.counted in
    let items = items-few k lengths a.items in
    let sizes = items-bound lengths in
    let head = kind-bound k (length lengths) in
    let few = (size-written (length packet)).1 in
    let two = number-length number in
    let sum = a.summed in
    rw (datagram-length number packet k lengths run (omega arith)) (omega arith)

pub allowed-written : (number : ℕ) {packet : List ℕ} {k : Kind} {lengths run : List ℕ} → Allowed packet k lengths run
    → datagram_to_write number packet k lengths run ≡ done (datagram_octets (carried_of number packet k lengths run))
unfolding datagram_to_write unless
allowed-written number {packet} {k} {lengths} {run} a =
    rw (a.counted, eq-eqb (sum_of lengths) (length run) a.summed, a.newest, a.items)

-- whatever the writer writes was allowed, and is the datagram's octets
pub written-allowed : (number : ℕ) (packet : List ℕ) (k : Kind) (lengths run octets : List ℕ)
    → datagram_to_write number packet k lengths run ≡ done octets
    → Allowed packet k lengths run × (octets ≡ datagram_octets (carried_of number packet k lengths run))
unfolding datagram_to_write
written-allowed number packet k lengths run octets e =
    let counted = unless-past (not (count_inside k (length lengths))) _ _ _ octets e in
    let summed = unless-past (not (eqb (sum_of lengths) (length run))) _ _ _ octets counted.1 in
    let sized = unless-past (not (lengths_inside packet k lengths)) _ _ _ octets summed.1 in
    let inside = both (within packet_least packet_limit (length packet)) (items_inside k lengths) (not-false _ sized.0) in
    let sum = eqb-true (sum_of lengths) (length run) (not-false _ summed.0) in (
      record { counted = not-false _ counted.0; summed = sum; newest = inside.0; items = inside.1 },
      unless-done [] (datagram_octets (carried_of number packet k lengths run)) octets sized.1,
    )
