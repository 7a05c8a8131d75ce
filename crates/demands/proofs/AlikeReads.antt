-- Octets that differ only inside packets, spares or messages read to the same parts, or are refused alike: each right item is passed over
-- by its length, and behind the last one both have the same octets. Assumes nothing.
use Prim.Native.Nat.{ℕ, zero, suc, ◌+◌, ◌-◌, ◌%◌, ◌≤◌}
use mathlib.Core.Path.{◌≡◌, refl, sym, ap, ap₂, subst, ◌∙◌}
use mathlib.Core.Bool.{Bool, true, false, cond}
use mathlib.Core.List.{List, [], ◌∷◌, ◌++◌, map, append_assoc, append-nil}
use lib.ListN.{length, get_or, drop, length-append, length-drop}
use lib.Seq.{drop-drop, get_or-drop, length-take-le}
use lib.Dec.{leb, ltb, eqb}
use native.Mathlib.Omega.{arith}
use borrow.Author.Tests.{lt-leb}
use Rattle.length.specs.Answers.{Answer, done, refused, LengthAnswer}
use Rattle.length.specs.Length.{length_at, length_octets, length_limit, within}
use Rattle.length.proofs.Claims as lengths
use Rattle.length.proofs.Laws.{bind_done, done-same, both, within-true, within-written, allowed-sizes, cond-past, cond-kept}
use Rattle.datagram.specs.Sizes.{packet_least, packet_limit, spares_least, spares_limit, covered_least, covered_limit, messages_least}
use Rattle.datagram.specs.Sizes.{messages_limit}
use Rattle.datagram.specs.Read.{ExtraHead, after, length_from, octet_at, item_at, items_at, spares_at, parity_at, extra_at}
use Rattle.datagram.specs.Read.{least_of, most_of, number_of, whole_of, read_datagram}
use Rattle.datagram.specs.Write.{number_octets, item_octets, items_octets, count_inside, item_inside, items_inside, cut, sum_of}
use Rattle.datagram.specs.Write.{carried_of, datagram_octets, datagram_to_write}
use Rattle.datagram.specs.Inner.Heads.{item_size, kind_head}
use Rattle.datagram.specs.declared.reader.Part.{Part}
use Rattle.datagram.specs.declared.kind.Kind.{Kind}
use Rattle.datagram.specs.declared.kind.Kind.TheVariants as kind
use Rattle.datagram.proofs.Laws.{cut-length, extra-form, written-allowed}
use Rattle.datagram.proofs.Laws.{item-length, item-done, item_back, item-sizes, most-fits, count-few, rest-after, first-left, some_left}
use Rattle.demands.specs.NotInside.{SamePacket, AlikeButOctets, in_packet, in_items}

-- the part of an item of n octets at a place
abbrev part_at : ℕ → ℕ → Part
part_at at n = record { start = at + length (length_octets n); size = n }

-- ---- a right item
module _ (s : List ℕ) (at : ℕ) (x rest : List ℕ) (e : drop at s ≡ item_octets x ++ rest) where
  item-place : (least most : ℕ) (p : Part) → length x ≤ length_limit → item_at least most s at ≡ done p → p ≡ part_at at (length x)
  unfolding item_octets
  item-place least most p small read =
      let i = item-done least most s at p read in
      let l : i.length ≡ record { value = length x; size = length (length_octets (length x)) } =
      done-same
      (sym i.read
      ∙ ap length_at (e ∙ append_assoc (length_octets (length x)) x rest)
      ∙ (lengths.claims).written_reads (length x) (x ++ rest) small) in
      ap₂ (λ (a b : ℕ). record { start = a; size = b }) (i.start ∙ ap (λ (a : LengthAnswer). at + a.size) l)
      (i.size ∙ ap (λ (a : LengthAnswer). a.value) l)

  item-reads : (least most : ℕ) → least ≤ length x → length x ≤ most → length x ≤ length_limit
      → item_at least most s at ≡ done (part_at at (length x))
  item-reads least most low high small =
      let back = item_back least most s at x rest e low high small in
      back.read ∙ ap done (item-place least most back.part small back.read)

  item-rest : drop (after (part_at at (length x))) s ≡ rest
  item-rest =
      let long : after (part_at at (length x)) ≡ at + length (item_octets x) = omega (arith, item-length x) in
      ap (λ (k : ℕ). drop k s) long ∙ rest-after s (item_octets x) rest at e

-- ---- from some place on the same octets
module _ (s t : List ℕ) (long : length s ≡ length t) where
  later : (at k : ℕ) → drop at s ≡ drop at t → drop (at + k) s ≡ drop (at + k) t
  later at k e = sym (drop-drop k at s) ∙ ap (drop k) e ∙ drop-drop k at t

  octet-later : (at k : ℕ) → drop at s ≡ drop at t → get_or s (at + k) 0 ≡ get_or t (at + k) 0
  octet-later at k e = sym (get_or-drop at s k 0) ∙ ap (λ (l : List ℕ). get_or l k 0) e ∙ get_or-drop at t k 0

  octet-here : (at : ℕ) → drop at s ≡ drop at t → get_or s at 0 ≡ get_or t at 0
  octet-here at e =
      let same : at ≡ at + 0 = omega arith in
      ap (λ (k : ℕ). get_or s k 0) same ∙ octet-later at 0 e ∙ ap (λ (k : ℕ). get_or t k 0) (sym same)

  item-same : (least most at : ℕ) → drop at s ≡ drop at t → item_at least most s at ≡ item_at least most t at
  unfolding item_at
  item-same least most at e = rw (e, long)

  items-same : (least most at count : ℕ) → drop at s ≡ drop at t → items_at least most s at count ≡ items_at least most t at count
  unfolding items_at
  items-same least most at zero e = refl
  items-same least most at (suc count) e = by (item_at least most t at) refl (λ k. items-same least most k count) where
    by : (a : Answer Part) → item_at least most t at ≡ a
        → ((k : ℕ) → drop k s ≡ drop k t → items_at least most s k count ≡ items_at least most t k count)
        → items_at least most s at (suc count) ≡ items_at least most t at (suc count)
    by (refused why) is more = rw (item-same least most at e, is)
    by (done p) is more =
        let i = item-done least most t at p is in
        let there : after p ≡ at + (i.length.size + p.size) = omega (arith, i.start) in
        let next = ap (λ (k : ℕ). drop k s) there ∙ later at (i.length.size + p.size) e ∙ ap (λ (k : ℕ). drop k t) (sym there) in
        rw (item-same least most at e, is, more (after p) next)

  extra-same : (at : ℕ) → drop at s ≡ drop at t → extra_at s at ≡ extra_at t at
  unfolding extra_at spares_at parity_at octet_at
  extra-same at e =
      rw (
        long,
        octet-here at e,
        later at 1 e,
        octet-here (at + 1) (later at 1 e),
        octet-here (at + 1 + 1) (later (at + 1) 1 (later at 1 e)),
        later (at + 1) 2 (later at 1 e),
      )

  whole_same : (number : ℕ) (packet : Part) (h : ExtraHead)
      → items_at (least_of h.kind) (most_of h.kind) s h.first h.count
      ≡ items_at (least_of h.kind) (most_of h.kind) t h.first h.count
      → whole_of s number packet h ≡ whole_of t number packet h
  unfolding whole_of
  whole_same number packet h e = rw (e, long)

-- what follows the kind and the count begins behind them
extra-later : (s : List ℕ) (at : ℕ) (h : ExtraHead) → extra_at s at ≡ done h → at ≤ h.first
unfolding extra_at spares_at parity_at
extra-later s at h e =
    let some = cond-past (leb (length s) at) _ _ h e in
    let clear = cond-kept (eqb (get_or s at 0 % 0x80) 0) _ _ h some.1 in
    by (ltb (get_or s at 0) 0x80) clear.1 where
      by : (b : Bool) → cond b (spares_at s (at + 1)) (parity_at s (at + 1)) ≡ done h → at ≤ h.first
      by true e =
          let k = bind_done (length_from spares_least spares_limit s (at + 1)) _ h e in
          let is = ap (λ (h : ExtraHead). h.first) (done-same k.2) in
          omega arith
      by false e =
          let one = bind_done (octet_at 1 1 s (at + 1)) _ h e in
          let n = bind_done (octet_at covered_least covered_limit s (at + 1 + 1)) _ h one.2 in
          let m = bind_done (length_from messages_least messages_limit s (at + 1 + 2)) _ h n.2 in
          let is = ap (λ (h : ExtraHead). h.first) (done-same m.2) in
          omega arith

-- ---- a right kind and count
length-is : (least most : ℕ) (s : List ℕ) (at n : ℕ) (t : List ℕ) → drop at s ≡ length_octets n ++ t → least ≤ n → n ≤ most
    → n ≤ length_limit → length_from least most s at ≡ done (record { value = n; size = length (length_octets n) })
length-is least most s at n t e low high fits = rw (e, within-written least most n t low high fits)

octet-is : (least most : ℕ) (s : List ℕ) (at v : ℕ) (t : List ℕ) → drop at s ≡ v ∷ t → least ≤ v → v ≤ most
    → octet_at least most s at ≡ done (record { value = v; size = 1 })
unfolding octet_at
octet-is least most s at v t e low high =
    rw (
      lt-leb (length s) at (some_left s at v t e),
      first-left s at v t e,
      allowed-sizes least most (record { value = v; size = 1 }) low high,
    )

-- where the first item begins
abbrev first_at : ℕ → Kind → ℕ → ℕ
first_at at kind.Spares count = at + 1 + length (length_octets count)
first_at at (kind.Parity n) count = at + 1 + 2 + length (length_octets count)

head-reads : (s : List ℕ) (at : ℕ) (k : Kind) (count : ℕ) (more : List ℕ) → drop at s ≡ kind_head k count ++ more
    → count_inside k count ≡ true → extra_at s at ≡ done (record { kind = k; count = count; first = first_at at k count })
unfolding extra_at spares_at parity_at
head-reads s at kind.Spares count more e inside =
    let next = rest-after s (0 ∷ []) (length_octets count ++ more) at e in
    let few = count-few kind.Spares count inside in
    let is = length-is spares_least spares_limit s (at + 1) count more next (omega arith) few (omega arith) in
    rw (lt-leb (length s) at (some_left s at 0 (length_octets count ++ more) e), first-left s at 0 (length_octets count ++ more) e, is)
head-reads s at (kind.Parity n) count more e inside =
    let parted = both (within covered_least covered_limit n) (within messages_least messages_limit count) inside in
    let covered = within-true covered_least covered_limit n parted.0 in
    let few = within-true messages_least messages_limit count parted.1 in
    let next = rest-after s (0x80 ∷ []) (1 ∷ n ∷ length_octets count ++ more) at e in
    let second = rest-after s (1 ∷ []) (n ∷ length_octets count ++ more) (at + 1) next in
    let third : drop (at + 1 + 2) s ≡ length_octets count ++ more = rest-after s (1 ∷ n ∷ []) (length_octets count ++ more) (at + 1) next in
    let one = octet-is 1 1 s (at + 1) 1 (n ∷ length_octets count ++ more) next (omega arith) (omega arith) in
    let number = octet-is covered_least covered_limit s (at + 1 + 1) n (length_octets count ++ more) second covered.0 covered.1 in
    let is = length-is messages_least messages_limit s (at + 1 + 2) count more third few.0 few.1 (omega (arith, few.1)) in
    rw (
      lt-leb (length s) at (some_left s at 0x80 (1 ∷ n ∷ length_octets count ++ more) e),
      first-left s at 0x80 (1 ∷ n ∷ length_octets count ++ more) e,
      one,
      number,
      is,
    )

head-rest : (s : List ℕ) (at : ℕ) (k : Kind) (count : ℕ) (more : List ℕ) → drop at s ≡ kind_head k count ++ more
    → drop (first_at at k count) s ≡ more
head-rest s at kind.Spares count more e =
    rest-after s (length_octets count) more (at + 1) (rest-after s (0 ∷ []) (length_octets count ++ more) at e)
head-rest s at (kind.Parity n) count more e =
    rest-after s (length_octets count) more (at + 1 + 2)
    (rest-after s (1 ∷ n ∷ []) (length_octets count ++ more) (at + 1)
    (rest-after s (0x80 ∷ []) (1 ∷ n ∷ length_octets count ++ more) at e))

-- ---- right items, one after the other
sizes-tail : {a b : ℕ} {l m : List ℕ} → a ∷ l ≡ b ∷ m → (a ≡ b) × (l ≡ m)
sizes-tail e = (ap (λ (l : List ℕ). get_or l 0 0) e, ap (drop 1) e)

module _ (s t : List ℕ) (long : length s ≡ length t) (k : Kind) (rest : List ℕ) where
  items_alike : (at count : ℕ) (xs ys : List (List ℕ)) → drop at s ≡ items_octets xs ++ rest → drop at t ≡ items_octets ys ++ rest
      → map length xs ≡ map length ys → items_inside k (map length xs) ≡ true
      → items_at (least_of k) (most_of k) s at count ≡ items_at (least_of k) (most_of k) t at count
  unfolding items_octets items_inside items_at
  items_alike at count [] [] a b same inside = items-same s t long (least_of k) (most_of k) at count (a ∙ sym b)
  items_alike at count [] (y ∷ ys) a b same inside = absurd (omega (arith, ap length same))
  items_alike at count (x ∷ xs) [] a b same inside = absurd (omega (arith, ap length same))
  items_alike at zero (x ∷ xs) (y ∷ ys) a b same inside = refl
  items_alike at (suc count) (x ∷ xs) (y ∷ ys) a b same inside =
      let parted = both (item_inside k (length x)) (items_inside k (map length xs)) inside in
      let sizes = item-sizes k (length x) parted.0 in
      let most = (most-fits k).1 in
      let heads = sizes-tail same in
      let one = a ∙ append_assoc (item_octets x) (items_octets xs) rest in
      let other = b ∙ append_assoc (item_octets y) (items_octets ys) rest in
      let first = item-reads s at x (items_octets xs ++ rest) one (least_of k) (most_of k) sizes.0 sizes.1 (omega (arith, sizes.1)) in
      let second =
      item-reads t at y (items_octets ys ++ rest) other (least_of k) (most_of k) (omega (arith, sizes.0, heads.0))
      (omega (arith, sizes.1, heads.0)) (omega (arith, sizes.1, heads.0))
      ∙ ap (λ (n : ℕ). done (part_at at n)) (sym heads.0) in
      let there = item-rest t at y (items_octets ys ++ rest) other in
      let next =
      items_alike (after (part_at at (length x))) count xs ys (item-rest s at x (items_octets xs ++ rest) one)
      (ap (λ (n : ℕ). drop (after (part_at at n)) t) heads.0 ∙ there) heads.1 parted.1 in
      rw (first, second, next)

items-long : (xs ys : List (List ℕ)) → map length xs ≡ map length ys → length (items_octets xs) ≡ length (items_octets ys)
unfolding items_octets
items-long [] [] same = refl
items-long [] (y ∷ ys) same = absurd (omega (arith, ap length same))
items-long (x ∷ xs) [] same = absurd (omega (arith, ap length same))
items-long (x ∷ xs) (y ∷ ys) same =
    let heads = sizes-tail same in
    let more = items-long xs ys heads.1 in
    length-append (item_octets x) (items_octets xs) ∙ ap₂ ◌+◌ (item-length x ∙ ap item_size heads.0 ∙ sym (item-length y)) more
    ∙ sym (length-append (item_octets y) (items_octets ys))

-- ---- the datagram
-- a number and a packet, and then as `more` and `other` go on
module _ (number : ℕ) (x y more other : List ℕ) (p : SamePacket x y) (long : length more ≡ length other) where
  abbrev one : List ℕ
  one = number_octets number ++ (item_octets x ++ more)

  abbrev two : List ℕ
  two = number_octets number ++ (item_octets y ++ other)

  abbrev behind : ℕ
  behind = after (part_at 2 (length x))

  pub long-both : length one ≡ length two
  long-both =
      let items = item-length x ∙ ap item_size p.one_length ∙ sym (item-length y) in
      omega (
        arith,
        items,
        length-append (number_octets number) (item_octets x ++ more),
        length-append (number_octets number) (item_octets y ++ other),
        length-append (item_octets x) more,
        length-append (item_octets y) other,
      )

  number-both : number_of one ≡ number_of two
  unfolding number_of number_octets
  number-both = rw long-both

  begins-one : drop 2 one ≡ item_octets x ++ more
  unfolding number_octets
  begins-one = refl

  begins-two : drop 2 two ≡ item_octets y ++ other
  unfolding number_octets
  begins-two = refl

  first_one : item_at packet_least packet_limit one 2 ≡ done (part_at 2 (length x))
  first_one =
      let sizes = within-true packet_least packet_limit (length x) p.sized in
      item-reads one 2 x more begins-one packet_least packet_limit sizes.0 sizes.1 (omega (arith, sizes.1))

  first_two : item_at packet_least packet_limit two 2 ≡ done (part_at 2 (length x))
  first_two =
      let sizes = within-true packet_least packet_limit (length x) p.sized in
      item-reads two 2 y other begins-two packet_least packet_limit (omega (arith, sizes.0, p.one_length))
      (omega (arith, sizes.1, p.one_length)) (omega (arith, sizes.1, p.one_length))
      ∙ ap (λ (n : ℕ). done (part_at 2 n)) (sym p.one_length)

  pub rest-one : drop behind one ≡ more
  rest-one = item-rest one 2 x more begins-one

  pub rest-two : drop behind two ≡ other
  rest-two = ap (λ (n : ℕ). drop (after (part_at 2 n)) two) p.one_length ∙ item-rest two 2 y other begins-two

  -- if what follows the packet reads alike
  pub both_read : extra_at one behind ≡ extra_at two behind
      → ((number : ℕ) (h : ExtraHead) → extra_at one behind ≡ done h
      → whole_of one number (part_at 2 (length x)) h ≡ whole_of two number (part_at 2 (length x)) h)
      → read_datagram one ≡ read_datagram two
  unfolding read_datagram
  both_read extra whole = by (extra_at one behind) refl (number_of one) refl where
    by : (a : Answer ExtraHead) → extra_at one behind ≡ a → (n : Answer ℕ) → number_of one ≡ n → read_datagram one ≡ read_datagram two
    by a e (refused why) is = rw (long-both, is, sym number-both ∙ is)
    by (refused no_extra) e (done n) is =
        rw (long-both, is, sym number-both ∙ is, first_one, first_two, e, sym extra ∙ e)
    by (done h) e (done n) is =
        rw (long-both, is, sym number-both ∙ is, first_one, first_two, e, sym extra ∙ e, whole n h e)

-- what follows the packet, with other items of the same lengths
tails-long : (k : Kind) (count : ℕ) (xs ys : List (List ℕ)) (rest : List ℕ) → map length xs ≡ map length ys
    → length (kind_head k count ++ (items_octets xs ++ rest)) ≡ length (kind_head k count ++ (items_octets ys ++ rest))
tails-long k count xs ys rest same =
    omega (
      arith,
      items-long xs ys same,
      length-append (kind_head k count) (items_octets xs ++ rest),
      length-append (kind_head k count) (items_octets ys ++ rest),
      length-append (items_octets xs) rest,
      length-append (items_octets ys) rest,
    )

packet-back : {x y : List ℕ} → SamePacket x y → SamePacket y x
packet-back p =
    record {
      one_length = sym p.one_length;
      sized = subst (λ (n : ℕ). within packet_least packet_limit n ≡ true) p.one_length p.sized;
    }

pub alike-long : {s t : List ℕ} → AlikeButOctets s t → length s ≡ length t
alike-long (in_packet number x y rest p a b) = ap length a ∙ long-both number x y rest rest p refl ∙ sym (ap length b)
alike-long (in_items number x y k count xs ys rest p inside same sized a b) =
    ap length a ∙ long-both number x y _ _ p (tails-long k count xs ys rest same) ∙ sym (ap length b)

-- exchanged, they are alike too
pub alike-back : {s t : List ℕ} → AlikeButOctets s t → AlikeButOctets t s
alike-back (in_packet number x y rest p a b) = in_packet number y x rest (packet-back p) b a
alike-back (in_items number x y k count xs ys rest p inside same sized a b) =
    in_items number y x k count ys xs rest (packet-back p) inside (sym same)
    (subst (λ (sizes : List ℕ). items_inside k sizes ≡ true) same sized) b a

packet-reads : (number : ℕ) (x y rest : List ℕ) (p : SamePacket x y)
    → read_datagram (number_octets number ++ (item_octets x ++ rest)) ≡ read_datagram (number_octets number ++ (item_octets y ++ rest))
packet-reads number x y rest p =
    let s : List ℕ = number_octets number ++ (item_octets x ++ rest) in
    let t : List ℕ = number_octets number ++ (item_octets y ++ rest) in
    let at : ℕ = after (part_at 2 (length x)) in
    let long = long-both number x y rest rest p refl in
    let here = rest-one number x y rest rest p refl ∙ sym (rest-two number x y rest rest p refl) in
    both_read number x y rest rest p refl (extra-same s t long at here)
    (λ n h e.
    let behind = extra-later s at h e in
    let there : h.first ≡ at + (h.first - at) = omega arith in
    let next = ap (λ (k : ℕ). drop k s) there ∙ later s t long at (h.first - at) here ∙ ap (λ (k : ℕ). drop k t) (sym there) in
    whole_same s t long n (part_at 2 (length x)) h (items-same s t long _ _ h.first h.count next))

items-read : (number : ℕ) (x y : List ℕ) (k : Kind) (count : ℕ) (xs ys : List (List ℕ)) (rest : List ℕ) → SamePacket x y
    → count_inside k count ≡ true → map length xs ≡ map length ys → items_inside k (map length xs) ≡ true
    → read_datagram (number_octets number ++ (item_octets x ++ (kind_head k count ++ (items_octets xs ++ rest))))
    ≡ read_datagram (number_octets number ++ (item_octets y ++ (kind_head k count ++ (items_octets ys ++ rest))))
items-read number x y k count xs ys rest p inside same sized =
    let more : List ℕ = kind_head k count ++ (items_octets xs ++ rest) in
    let other : List ℕ = kind_head k count ++ (items_octets ys ++ rest) in
    let s : List ℕ = number_octets number ++ (item_octets x ++ more) in
    let t : List ℕ = number_octets number ++ (item_octets y ++ other) in
    let at : ℕ = after (part_at 2 (length x)) in
    let tails = tails-long k count xs ys rest same in
    let long = long-both number x y more other p tails in
    let one = rest-one number x y more other p tails in
    let two = rest-two number x y more other p tails in
    let head-one = head-reads s at k count (items_octets xs ++ rest) one inside in
    let head-two = head-reads t at k count (items_octets ys ++ rest) two inside in
    let items =
    items_alike s t long k rest (first_at at k count) count xs ys (head-rest s at k count (items_octets xs ++ rest) one)
    (head-rest t at k count (items_octets ys ++ rest) two) same sized in
    both_read number x y more other p tails (head-one ∙ sym head-two)
    (λ n h e.
    subst (λ (h : ExtraHead). whole_of s n (part_at 2 (length x)) h ≡ whole_of t n (part_at 2 (length x)) h)
    (done-same (sym head-one ∙ e))
    (whole_same s t long n (part_at 2 (length x)) (record { kind = k; count = count; first = first_at at k count }) items))

pub alike-reads : {s t : List ℕ} → AlikeButOctets s t → read_datagram s ≡ read_datagram t
alike-reads (in_packet number x y rest p a b) =
    ap read_datagram a ∙ packet-reads number x y rest p ∙ sym (ap read_datagram b)
alike-reads (in_items number x y k count xs ys rest p inside same sized a b) =
    ap read_datagram a ∙ items-read number x y k count xs ys rest p inside same sized ∙ sym (ap read_datagram b)

-- ---- what the writer writes
cut-lengths : (sizes run : List ℕ) → sum_of sizes ≤ length run → map length (cut sizes run) ≡ sizes
unfolding cut sum_of
cut-lengths [] run enough = refl
cut-lengths (n ∷ sizes) run enough =
    ap₂ (λ (a : ℕ) (l : List ℕ). a ∷ l) (length-take-le n run (omega arith))
    (cut-lengths sizes (drop n run) (omega (arith, length-drop n run)))

written-form : (number : ℕ) (packet : List ℕ) (k : Kind) (sizes run s : List ℕ) → s ≡ datagram_octets (carried_of number packet k sizes run)
    → s ≡ number_octets number ++ (item_octets packet ++ (kind_head k (length sizes) ++ (items_octets (cut sizes run) ++ [])))
unfolding datagram_octets
written-form number packet k sizes run s is =
    is ∙ rw (extra-form k (cut sizes run), cut-length sizes run, append-nil (items_octets (cut sizes run)))

pub alike-written : (number : ℕ) (k : Kind) (sizes x y run other s t : List ℕ) → length x ≡ length y
    → datagram_to_write number x k sizes run ≡ done s → datagram_to_write number y k sizes other ≡ done t → AlikeButOctets s t
alike-written number k sizes x y run other s t one a b =
    let first = written-allowed number x k sizes run s a in
    let second = written-allowed number y k sizes other t b in
    let Sum-one = first.0.summed in
    let sum-two = second.0.summed in
    let cut-one = cut-lengths sizes run (omega arith) in
    let cut-two = cut-lengths sizes other (omega arith) in
    in_items number x y k (length sizes) (cut sizes run) (cut sizes other) [] (record { one_length = one; sized = first.0.newest })
    first.0.counted (cut-one ∙ sym cut-two) (rw cut-one first.0.items)
    (written-form number x k sizes run s first.1) (written-form number y k sizes other t second.1)
