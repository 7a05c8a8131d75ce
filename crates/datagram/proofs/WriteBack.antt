-- What reads without refusal, written from its fields, gives the same octets: each piece that was read is what the octets
-- hold from its place on, in front of what is left after it. Assumes nothing.
use Prim.Native.Nat.{ℕ, zero, suc, ◌+◌, ◌*◌, ◌/◌, ◌%◌, ◌≤◌, ◌<◌}
use mathlib.Core.Path.{◌≡◌, refl, sym, ap, ap₂, ◌∙◌}
use mathlib.Core.Bool.{Bool, true, false, cond}
use mathlib.Core.List.{List, [], ◌∷◌, ◌++◌, map, append_assoc, append-nil}
use lib.ListN.{length, get_or, drop, length-drop, take-append-drop, drop_of_length-le, length-map}
use lib.Seq.{length-take-le, drop-drop, drop-cons, get_or-drop}
use lib.Dec.{leb, ltb, eqb}
use native.Mathlib.Numerals.{add-one}
use native.Mathlib.Omega.{arith}
use borrow.Author.Tests.{ltb-true, ltb-false, leb-false, eqb-true}
use Rattle.length.specs.Answers.{done, LengthAnswer}
use Rattle.length.specs.Length.{length_at, length_octets}
use Rattle.length.specs.Claims.{Octets}
use Rattle.length.proofs.Laws.{read-writes, bind_done, cond-past, cond-kept, done-same, true-within}
use Rattle.datagram.specs.Sizes.{packet_least, packet_limit, spares_least, spares_limit, covered_least, covered_limit, messages_least}
use Rattle.datagram.specs.Sizes.{messages_limit}
use Rattle.datagram.specs.Write.{number_octets, item_octets, items_octets, extra_octets, extra_of, datagram_octets, item_inside}
use Rattle.datagram.specs.Write.{items_inside, cut, sum_of}
use Rattle.datagram.specs.Inner.Heads.{kind_head}
use Rattle.datagram.specs.Read.{DatagramParts, ExtraHead, after, octets_of, length_from, octet_at, item_at, items_at, end_of}
use Rattle.datagram.specs.Read.{spares_at, parity_at, extra_at, least_of, most_of}
use Rattle.datagram.specs.Claims.{ReadWrites, lengths_of, run_of}
use Rattle.datagram.specs.declared.reader.Part.{Part}
use Rattle.datagram.specs.declared.kind.Kind.{Kind}
use Rattle.datagram.specs.declared.kind.Kind.TheVariants as kind
use Rattle.datagram.proofs.WriteLaws.{extra-form, Allowed, allowed-written}
use Rattle.datagram.proofs.PieceLaws.{octet-done, length-done, item-done, items-done, extra-done}
use Rattle.datagram.proofs.ReadLaws.{Datagram, read_done}
use Rattle.datagram.proofs.ReadBack.{cut-flatten, sum-flatten}

-- ---- the pieces

octets-left : (s : List ℕ) (at : ℕ) → Octets s → Octets (drop at s)
octets-left s at octets i = rw (get_or-drop at s i 0) (octets (at + i))

-- a length or count that was read stands at its place
length-forth : (s : List ℕ) (at : ℕ) (l : LengthAnswer) → Octets s → length_at (drop at s) ≡ done l
    → drop at s ≡ length_octets l.value ++ drop (at + l.size) s
length-forth s at l octets read =
    sym (take-append-drop l.size (drop at s))
    ∙ ap₂ ◌++◌ (sym (read-writes (drop at s) l (octets-left s at octets) read)) (drop-drop l.size at s)

-- an octet stands at its place
octet-forth : (s : List ℕ) (at : ℕ) → at < length s → drop at s ≡ get_or s at 0 ∷ drop (at + 1) s
octet-forth s at some = drop-cons s at 0 some ∙ ap (λ (k : ℕ). get_or s at 0 ∷ drop k s) (sym (add-one at))

part_length : (s : List ℕ) (p : Part) → after p ≤ length s → length (octets_of s p) ≡ p.size
part_length s p inside = length-take-le p.size (drop p.start s) (omega (arith, length-drop p.start s))

-- a packet, spare or message stands at its place
item-forth : (least most : ℕ) (s : List ℕ) (at : ℕ) (p : Part) → Octets s → at ≤ length s → item_at least most s at ≡ done p
    → drop at s ≡ item_octets (octets_of s p) ++ drop (after p) s
unfolding item_octets
item-forth least most s at p octets room read =
    let i = item-done least most s at p read in
    let size : i.length.value ≡ length (octets_of s p) = sym i.size ∙ sym (part_length s p (i.inside room)) in
    let body : drop p.start s ≡ octets_of s p ++ drop (after p) s =
    sym (take-append-drop p.size (drop p.start s)) ∙ ap (λ (l : List ℕ). octets_of s p ++ l) (drop-drop p.size p.start s) in
    length-forth s at i.length octets i.read
    ∙ ap₂ (λ (n : ℕ) (l : List ℕ). length_octets n ++ l) size (ap (λ (k : ℕ). drop k s) (sym i.start) ∙ body)
    ∙ sym (append_assoc (length_octets (length (octets_of s p))) (octets_of s p) (drop (after p) s))

-- the sizes of one kind, as the writer's test
item-fits : (k : Kind) (n : ℕ) → least_of k ≤ n → n ≤ most_of k → item_inside k n ≡ true
item-fits kind.Spares n low high = true-within _ _ n low high
item-fits (kind.Parity p) n low high = true-within _ _ n low high

-- spares or messages stand at their place
record ItemsForth (k : Kind) (s : List ℕ) (at : ℕ) (ps : List Part) : Type 0 where
  whole : drop at s ≡ items_octets (map (octets_of s) ps) ++ drop (end_of at ps) s
  sizes : map (λ (p : Part). p.size) ps ≡ map length (map (octets_of s) ps)
  sized : items_inside k (map (λ (p : Part). p.size) ps) ≡ true

items-forth : (k : Kind) (s : List ℕ) (at count : ℕ) (ps : List Part) → Octets s → at ≤ length s
    → items_at (least_of k) (most_of k) s at count ≡ done ps → ItemsForth k s at ps
unfolding items_at end_of items_octets items_inside
items-forth k s at zero ps octets room e =
    let same : [] ≡ ps = done-same e in
    rw (← same) (record { whole = refl; sizes = refl; sized = refl })
items-forth k s at (suc left) ps octets room e =
    let found = bind_done (item_at (least_of k) (most_of k) s at) _ ps e in
    let more = bind_done (items_at (least_of k) (most_of k) s (after found.0) left) _ ps found.2 in
    let same : (found.0 ∷ more.0) ≡ ps = done-same more.2 in
    let i = item-done (least_of k) (most_of k) s at found.0 found.1 in
    let rest = items-forth k s (after found.0) left more.0 octets (i.inside room) more.1 in
    rw (← same)
    (record {
      whole =
          item-forth (least_of k) (most_of k) s at found.0 octets room found.1
          ∙ ap (λ (l : List ℕ). item_octets (octets_of s found.0) ++ l) rest.whole
          ∙ sym (append_assoc (item_octets (octets_of s found.0)) (items_octets (map (octets_of s) more.0)) _);
      sizes = ap₂ (λ (n : ℕ) (l : List ℕ). n ∷ l) (sym (part_length s found.0 (i.inside room))) rest.sizes;
      sized = rw (item-fits k found.0.size i.low i.high) rest.sized;
    })

-- ---- what follows the newest packet

-- kind and count stand at their place
record ExtraForth (s : List ℕ) (at : ℕ) (h : ExtraHead) : Type 0 where
  whole : drop at s ≡ kind_head h.kind h.count ++ drop h.first s

spares-forth : (s : List ℕ) (at : ℕ) (h : ExtraHead) → Octets s → at < length s → get_or s at 0 ≡ 0 → spares_at s (at + 1) ≡ done h
    → ExtraForth s at h
unfolding spares_at
spares-forth s at h octets some is e =
    let found = bind_done (length_from spares_least spares_limit s (at + 1)) _ h e in
    let fits = length-done spares_least spares_limit s (at + 1) found.0 found.1 in
    rw (← done-same found.2)
    (record {
      whole =
          octet-forth s at some
          ∙ ap₂ (λ (a : ℕ) (l : List ℕ). a ∷ l) is (length-forth s (at + 1) found.0 octets fits.read);
    })

parity-forth : (s : List ℕ) (at : ℕ) (h : ExtraHead) → Octets s → at < length s → get_or s at 0 ≡ 128 → parity_at s (at + 1) ≡ done h
    → ExtraForth s at h
unfolding parity_at
parity-forth s at h octets some is e =
    let one = bind_done (octet_at 1 1 s (at + 1)) _ h e in
    let n = bind_done (octet_at covered_least covered_limit s (at + 1 + 1)) _ h one.2 in
    let m = bind_done (length_from messages_least messages_limit s (at + 1 + 2)) _ h n.2 in
    let first = octet-done 1 1 s (at + 1) one.0 one.1 in
    let second = octet-done covered_least covered_limit s (at + 1 + 1) n.0 n.1 in
    let third = length-done messages_least messages_limit s (at + 1 + 2) m.0 m.1 in
    let is_one : get_or s (at + 1) 0 ≡ 1 = omega (arith, first.value, first.low, first.high) in
    let on : at + 1 + 1 + 1 ≡ at + 1 + 2 = omega arith in
    rw (← done-same m.2)
    (record {
      whole =
          octet-forth s at some
          ∙ ap₂ (λ (a : ℕ) (l : List ℕ). a ∷ l) is
          (octet-forth s (at + 1) first.inside
          ∙ ap₂ (λ (a : ℕ) (l : List ℕ). a ∷ l) is_one
          (octet-forth s (at + 1 + 1) second.inside
          ∙ ap₂ (λ (a : ℕ) (l : List ℕ). a ∷ l) (sym second.value)
          (ap (λ (k : ℕ). drop k s) on ∙ length-forth s (at + 1 + 2) m.0 octets third.read)));
    })

extra-forth : (s : List ℕ) (at : ℕ) (h : ExtraHead) → Octets s → extra_at s at ≡ done h → ExtraForth s at h
unfolding extra_at
extra-forth s at h octets e =
    let some = cond-past (leb (length s) at) _ _ h e in
    let clear = cond-kept (eqb (get_or s at 0 % 128) 0) _ _ h some.1 in
    pick (ltb (get_or s at 0) 128) refl (leb-false (length s) at some.0) (eqb-true (get_or s at 0 % 128) 0 clear.0) clear.1 where
      pick : (t : Bool) → ltb (get_or s at 0) 128 ≡ t → at < length s → get_or s at 0 % 128 ≡ 0
          → cond t (spares_at s (at + 1)) (parity_at s (at + 1)) ≡ done h → ExtraForth s at h
      pick true low some clear q =
          spares-forth s at h octets some (omega (arith, ltb-true (get_or s at 0) 128 low, clear)) q
      pick false high some clear q =
          parity-forth s at h octets some (omega (arith, ltb-false (get_or s at 0) 128 high, clear, octets at)) q

-- ---- the datagram

number-forth : (s : List ℕ) (number : ℕ) → Octets s → 2 ≤ length s → number ≡ get_or s 0 0 * 256 + get_or s 1 0
    → number_octets number ++ drop 2 s ≡ s
unfolding number_octets
number-forth s number octets two is =
    let low = octets 1 in
    let high : number / 256 ≡ get_or s 0 0 = omega arith in
    let rest : number % 256 ≡ get_or s 1 0 = omega arith in
    rw (high, rest) (sym (octet-forth s 0 (omega arith) ∙ ap (λ (l : List ℕ). get_or s 0 0 ∷ l) (octet-forth s 1 (omega arith))))

datagram-forth : (s : List ℕ) (d : DatagramParts) → Octets s → Datagram s d
    → datagram_octets (record {
      number = d.number;
      packet = octets_of s d.packet;
      extra = extra_of d.kind (map (octets_of s) d.items);
    }) ≡ s
unfolding datagram_octets
datagram-forth s d octets so =
    let head = extra-done s (after d.packet) _ so.extra in
    let all = items-forth d.kind s so.first so.count d.items octets head.inside so.items in
    let counted = (items-done (least_of d.kind) (most_of d.kind) s so.first so.count d.items so.items).counted in
    let count : so.count ≡ length (map (octets_of s) d.items) = sym (length-map d.items (octets_of s) ∙ counted) in
    let end = drop_of_length-le s so.ends in
    let items : drop so.first s ≡ items_octets (map (octets_of s) d.items) =
    all.whole ∙ ap (λ (l : List ℕ). items_octets (map (octets_of s) d.items) ++ l) end ∙ append-nil _ in
    let extra : drop (after d.packet) s ≡ extra_octets (extra_of d.kind (map (octets_of s) d.items)) =
    (extra-forth s (after d.packet) _ octets so.extra).whole
    ∙ ap₂ (λ (n : ℕ) (l : List ℕ). kind_head d.kind n ++ l) count items
    ∙ sym (extra-form d.kind (map (octets_of s) d.items)) in
    let packet = item-forth packet_least packet_limit s 2 d.packet octets so.two so.packet in
    ap (λ (l : List ℕ). number_octets d.number ++ (item_octets (octets_of s d.packet) ++ l)) (sym extra)
    ∙ ap (λ (l : List ℕ). number_octets d.number ++ l) (sym packet)
    ∙ number-forth s d.number octets so.two so.number

pub read_back : ReadWrites
read_back s d octets e =
    let so = read_done s d e in
    let head = extra-done s (after d.packet) _ so.extra in
    let all = items-forth d.kind s so.first so.count d.items octets head.inside so.items in
    let counted = (items-done (least_of d.kind) (most_of d.kind) s so.first so.count d.items so.items).counted in
    let newest = item-done packet_least packet_limit s 2 d.packet so.packet in
    let long = part_length s d.packet (newest.inside so.two) in
    let pieces : cut (lengths_of d) (run_of s d) ≡ map (octets_of s) d.items =
    ap (λ (l : List ℕ). cut l (run_of s d)) all.sizes ∙ cut-flatten (map (octets_of s) d.items) in
    let allowed : Allowed (octets_of s d.packet) d.kind (lengths_of d) (run_of s d) =
    record {
      counted = rw (length-map d.items (λ (p : Part). p.size), counted) head.counted;
      summed = ap sum_of all.sizes ∙ sum-flatten (map (octets_of s) d.items);
      newest = rw long (true-within packet_least packet_limit d.packet.size newest.low newest.high);
      items = all.sized;
    } in
    allowed-written d.number allowed
    ∙ ap
    (λ (l : List (List ℕ)). done (datagram_octets (record
    { number = d.number; packet = octets_of s d.packet; extra = extra_of d.kind l })))
    pieces
    ∙ ap (λ (l : List ℕ). done l) (datagram-forth s d octets so)
