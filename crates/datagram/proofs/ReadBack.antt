-- What the writer writes reads back: each piece at its place of the octets, then the whole datagram. A piece that stands at a
-- place is told by what is left from there on, so that none of this looks at what stands before it. Assumes nothing.
use Prim.Native.Nat.{ℕ, ◌+◌, ◌-◌, ◌*◌, ◌/◌, ◌%◌, ◌≤◌, ◌<◌}
use mathlib.Core.Path.{◌≡◌, refl, sym, ap, ◌∙◌}
use mathlib.Core.Bool.{true}
use mathlib.Core.List.{List, [], ◌∷◌, ◌++◌, map, flatten, append_assoc, append-nil}
use lib.ListN.{length, length-map, get_or, drop, length-append, length-drop}
use lib.Seq.{length-take-le, drop-drop, drop-append_seam, take-append_seam, get_or-drop}
use native.Mathlib.Omega.{arith}
use borrow.Author.Tests.{le-ltb, lt-leb}
use Rattle.length.specs.Answers.{done}
use Rattle.length.specs.Length.{length_octets, length_limit, within}
use Rattle.length.proofs.Laws.{both, within-true, allowed-sizes, within-written}
use Rattle.datagram.specs.Sizes.{packet_least, packet_limit, datagram_limit, spares_least, spares_limit, covered_least, covered_limit}
use Rattle.datagram.specs.Sizes.{messages_least, messages_limit}
use Rattle.datagram.specs.Write.{number_octets, item_octets, items_octets, counted_octets, extra_octets, extra_of, datagram_octets}
use Rattle.datagram.specs.Write.{count_inside, item_inside, items_inside, cut, sum_of}
use Rattle.datagram.specs.Read.{after, octets_of, length_from, octet_at, item_at, items_at, end_of, spares_at, parity_at, extra_at}
use Rattle.datagram.specs.Read.{least_of, most_of, number_of, read_datagram, carried_by}
use Rattle.datagram.specs.Claims.{ReadsAs, WrittenReads}
use Rattle.datagram.specs.declared.reader.Part.{Part}
use Rattle.datagram.specs.declared.kind.Kind.{Kind}
use Rattle.datagram.specs.declared.kind.Kind.TheVariants as kind
use Rattle.datagram.proofs.WriteLaws.{count-few, cut-length, Allowed, allowed-short, written-allowed}
use Rattle.datagram.proofs.ReadLaws.{whole-reads}

-- ---- places

-- after a piece, what is left is what stood behind it
pub rest-after : (s a b : List ℕ) (at : ℕ) → drop at s ≡ a ++ b → drop (at + length a) s ≡ b
rest-after s a b at e = sym (drop-drop (length a) at s) ∙ ap (drop (length a)) e ∙ drop-append_seam a b

-- the octet at a place is the first of what is left
pub first-left : (s : List ℕ) (at a : ℕ) (t : List ℕ) → drop at s ≡ a ∷ t → get_or s at 0 ≡ a
first-left s at a t e =
    let same : at ≡ at + 0 = omega arith in
    ap (λ (k : ℕ). get_or s k 0) same ∙ sym (get_or-drop at s 0 0) ∙ ap (λ (l : List ℕ). get_or l 0 0) e

pub some_left : (s : List ℕ) (at a : ℕ) (t : List ℕ) → drop at s ≡ a ∷ t → at < length s
some_left s at a t e = omega (arith, length-drop at s, ap length e)

-- ---- the pieces

pub octet-is : (least most : ℕ) (s : List ℕ) (at v : ℕ) (t : List ℕ) → drop at s ≡ v ∷ t → least ≤ v → v ≤ most
    → octet_at least most s at ≡ done (record { value = v; size = 1 })
unfolding octet_at
octet-is least most s at v t e low high =
    rw (
      lt-leb (length s) at (some_left s at v t e),
      first-left s at v t e,
      allowed-sizes least most (record { value = v; size = 1 }) low high,
    )

pub length-is : (least most : ℕ) (s : List ℕ) (at n : ℕ) (t : List ℕ) → drop at s ≡ length_octets n ++ t → least ≤ n → n ≤ most
    → n ≤ length_limit → length_from least most s at ≡ done (record { value = n; size = length (length_octets n) })
length-is least most s at n t e low high fits = rw (e, within-written least most n t low high fits)

-- a packet, spare or message that was written reads back
pub record ItemBack (least most : ℕ) (s : List ℕ) (at : ℕ) (x rest : List ℕ) : Type 0 where
  pub part : Part
  pub read : item_at least most s at ≡ done part
  pub octets : octets_of s part ≡ x
  pub next : drop (after part) s ≡ rest

pub item_back : (least most : ℕ) (s : List ℕ) (at : ℕ) (x rest : List ℕ) → drop at s ≡ item_octets x ++ rest → least ≤ length x
    → length x ≤ most → length x ≤ length_limit → ItemBack least most s at x rest
unfolding item_octets item_at
item_back least most s at x rest e low high fits =
    let start = at + length (length_octets (length x)) in
    let whole : drop at s ≡ length_octets (length x) ++ (x ++ rest) = e ∙ append_assoc (length_octets (length x)) x rest in
    let body : drop (at + length (length_octets (length x))) s ≡ x ++ rest = rest-after s (length_octets (length x)) (x ++ rest) at whole in
    let room : length x ≤ length s - (at + length (length_octets (length x))) =
    omega (arith, length-drop (at + length (length_octets (length x))) s, ap length body, length-append x rest) in
    record {
      part = record { start = at + length (length_octets (length x)); size = length x };
      read =
          rw (
            length-is least most s at (length x) (x ++ rest) whole low high fits,
            le-ltb (length s - (at + length (length_octets (length x)))) (length x) room,
          );
      octets = rw body (take-append_seam x rest);
      next = rest-after s x rest (at + length (length_octets (length x))) body;
    }

-- the sizes of one kind, as numbers
pub item-sizes : (k : Kind) (n : ℕ) → item_inside k n ≡ true → (least_of k ≤ n) × (n ≤ most_of k)
item-sizes kind.Spares n e = within-true _ _ n e
item-sizes (kind.Parity p) n e = within-true _ _ n e

pub most-fits : (k : Kind) → (most_of k ≤ packet_limit) × (most_of k ≤ length_limit)
most-fits kind.Spares = (omega arith, omega arith)
most-fits (kind.Parity n) = (omega arith, omega arith)

-- spares or messages that were written read back
pub record ItemsBack (k : Kind) (s : List ℕ) (at : ℕ) (xs : List (List ℕ)) (rest : List ℕ) : Type 0 where
  pub parts : List Part
  pub read : items_at (least_of k) (most_of k) s at (length xs) ≡ done parts
  pub octets : map (octets_of s) parts ≡ xs
  pub next : drop (end_of at parts) s ≡ rest

pub items_back : (k : Kind) (s : List ℕ) (at : ℕ) (xs : List (List ℕ)) (rest : List ℕ) → drop at s ≡ items_octets xs ++ rest
    → items_inside k (map length xs) ≡ true → ItemsBack k s at xs rest
unfolding items_octets items_inside items_at end_of
items_back k s at [] rest e inside = record { parts = []; read = refl; octets = refl; next = e }
items_back k s at (x ∷ xs) rest e inside =
    let both = both (item_inside k (length x)) (items_inside k (map length xs)) inside in
    let sizes = item-sizes k (length x) both.0 in
    let first = item_back (least_of k) (most_of k) s at x (items_octets xs ++ rest) (e ∙ append_assoc (item_octets x) (items_octets xs) rest)
    sizes.0
    sizes.1
    (omega (arith, (most-fits k).1, sizes.1)) in
    let more = items_back k s (after first.part) xs rest first.next both.1 in
    record {
      parts = first.part ∷ more.parts;
      read = rw (first.read, more.read);
      octets = rw (first.octets, more.octets);
      next = more.next;
    }

-- ---- what follows the newest packet

pub record ExtraBack (s : List ℕ) (at : ℕ) (k : Kind) (xs : List (List ℕ)) : Type 0 where
  pub first : ℕ
  pub read : extra_at s at ≡ done (record { kind = k; count = length xs; first = first })
  pub next : drop first s ≡ items_octets xs

pub extra-back : (s : List ℕ) (at : ℕ) (k : Kind) (xs : List (List ℕ)) → drop at s ≡ extra_octets (extra_of k xs)
    → count_inside k (length xs) ≡ true → ExtraBack s at k xs
unfolding extra_at spares_at parity_at counted_octets
extra-back s at kind.Spares xs e inside =
    let next = rest-after s (0 ∷ []) (counted_octets xs) at e in
    let few = count-few kind.Spares (length xs) inside in
    let count = length-is spares_least spares_limit s (at + 1) (length xs) (items_octets xs) next (omega arith) few (omega arith) in
    record {
      first = at + 1 + length (length_octets (length xs));
      read =
          rw (lt-leb (length s) at (some_left s at 0 (counted_octets xs) e), first-left s at 0 (counted_octets xs) e, count);
      next = rest-after s (length_octets (length xs)) (items_octets xs) (at + 1) next;
    }
extra-back s at (kind.Parity n) xs e inside =
    let both = both (within covered_least covered_limit n) (within messages_least messages_limit (length xs)) inside in
    let covered = within-true covered_least covered_limit n both.0 in
    let few = within-true messages_least messages_limit (length xs) both.1 in
    let next = rest-after s (128 ∷ []) (1 ∷ n ∷ counted_octets xs) at e in
    let second = rest-after s (1 ∷ []) (n ∷ counted_octets xs) (at + 1) next in
    let third : drop (at + 1 + 2) s ≡ counted_octets xs =
    rest-after s (1 ∷ n ∷ []) (counted_octets xs) (at + 1) next in
    let one = octet-is 1 1 s (at + 1) 1 (n ∷ counted_octets xs) next (omega arith) (omega arith) in
    let number = octet-is covered_least covered_limit s (at + 1 + 1) n (counted_octets xs) second covered.0 covered.1 in
    let count = length-is messages_least messages_limit s (at + 1 + 2) (length xs) (items_octets xs) third few.0 few.1
    (omega (arith, few.1)) in
    record {
      first = at + 1 + 2 + length (length_octets (length xs));
      read =
          rw (
            lt-leb (length s) at (some_left s at 128 (1 ∷ n ∷ counted_octets xs) e),
            first-left s at 128 (1 ∷ n ∷ counted_octets xs) e,
            one,
            number,
            count,
          );
      next = rest-after s (length_octets (length xs)) (items_octets xs) (at + 1 + 2) third;
    }

-- ---- the datagram

-- the run of data is cut into pieces of the given lengths
cut-lengths : (lengths run : List ℕ) → sum_of lengths ≤ length run → map length (cut lengths run) ≡ lengths
unfolding cut sum_of
cut-lengths [] run e = refl
cut-lengths (n ∷ lengths) run e =
    let more = cut-lengths lengths (drop n run) (omega (arith, length-drop n run)) in
    rw (length-take-le n run (omega arith), more)

-- pieces put together are cut into the same pieces again
pub cut-flatten : (xs : List (List ℕ)) → cut (map length xs) (flatten xs) ≡ xs
unfolding cut flatten
cut-flatten [] = refl
cut-flatten (x ∷ xs) = rw (take-append_seam x (flatten xs), drop-append_seam x (flatten xs), cut-flatten xs)

pub sum-flatten : (xs : List (List ℕ)) → sum_of (map length xs) ≡ length (flatten xs)
unfolding sum_of flatten
sum-flatten [] = refl
sum-flatten (x ∷ xs) = rw (length-append x (flatten xs), sum-flatten xs)

-- what a datagram may carry
pub record Fit (packet : List ℕ) (k : Kind) (xs : List (List ℕ)) : Type 0 where
  pub newest : within packet_least packet_limit (length packet) ≡ true
  pub counted : count_inside k (length xs) ≡ true
  pub sized : items_inside k (map length xs) ≡ true

-- the writer allows it
pub fit-allowed : (packet : List ℕ) (k : Kind) (xs : List (List ℕ)) → Fit packet k xs → Allowed packet k (map length xs) (flatten xs)
fit-allowed packet k xs fit =
    record { counted = rw (length-map xs length) fit.counted; summed = sum-flatten xs; newest = fit.newest; items = fit.sized }

number-back : (s : List ℕ) (number : ℕ) (t : List ℕ) → s ≡ number_octets number ++ t → number_of s ≡ done number
unfolding number_of number_octets
number-back s number t e =
    let two : 2 ≤ length s = omega (arith, ap length e) in
    let whole : number / 256 * 256 + number % 256 ≡ number = omega arith in
    rw (le-ltb (length s) 2 two, e, whole)

datagram-short : (number : ℕ) (packet : List ℕ) (k : Kind) (xs : List (List ℕ)) → Fit packet k xs
    → length (datagram_octets (record { number = number; packet = packet; extra = extra_of k xs })) ≤ datagram_limit
datagram-short number packet k xs fit = rw (cut-flatten xs) at (allowed-short number (fit-allowed packet k xs fit))

pub datagram-back : (s : List ℕ) (number : ℕ) (packet : List ℕ) (k : Kind) (xs : List (List ℕ)) → Fit packet k xs
    → s ≡ datagram_octets (record { number = number; packet = packet; extra = extra_of k xs })
    → ReadsAs s (record { number = number; packet = packet; extra = extra_of k xs })
unfolding datagram_octets read_datagram carried_by
datagram-back s number packet k xs fit e =
    let newest = within-true packet_least packet_limit (length packet) fit.newest in
    let short : length s ≤ datagram_limit = rw e (datagram-short number packet k xs fit) in
    let begins : drop 2 s ≡ item_octets packet ++ extra_octets (extra_of k xs) = unfold number_octets in ap (drop 2) e in
    let first = item_back packet_least packet_limit s 2 packet (extra_octets (extra_of k xs)) begins newest.0 newest.1
    (omega (arith, newest.1)) in
    let head = extra-back s (after first.part) k xs first.next fit.counted in
    let all = items_back k s head.first xs [] (head.next ∙ sym (append-nil (items_octets xs))) fit.sized in
    let none : length s ≤ end_of head.first all.parts = omega
    (arith, length-drop (end_of head.first all.parts) s, ap length all.next) in
    let rest = whole-reads s number first.part (record { kind = k; count = length xs; first = head.first }) all.parts
    all.read none in
    record {
      parts = record { number = number; packet = first.part; kind = k; items = all.parts };
      read = rw (le-ltb datagram_limit (length s) short, number-back s number _ e, first.read, head.read, rest);
      carried = rw (first.octets, all.octets);
    }

-- ---- what the writer writes

pub written_back : WrittenReads
written_back number packet k lengths run s e =
    let allowed = written-allowed number packet k lengths run s e in
    let sum = allowed.0.summed in
    let fit : Fit packet k (cut lengths run) =
    record {
      newest = allowed.0.newest;
      counted = rw (cut-length lengths run) allowed.0.counted;
      sized = rw (cut-lengths lengths run (omega arith)) allowed.0.items;
    } in
    datagram-back s number packet k (cut lengths run) fit allowed.1
