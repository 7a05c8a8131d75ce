-- Laws of the pieces of a datagram as they are read: what a piece that is no refusal says of the octets. Assumes nothing.
use Prim.Native.Nat.{ℕ, zero, suc, ◌+◌, ◌-◌, ◌%◌, ◌≤◌, ◌<◌}
use mathlib.Core.Path.{◌≡◌, refl, sym, ap}
use mathlib.Core.Bool.{Bool, true, false, cond}
use mathlib.Core.List.{List, [], ◌∷◌}
use lib.ListN.{length, get_or, drop, length-drop}
use lib.Dec.{leb, ltb, eqb}
use native.Mathlib.Omega.{arith}
use borrow.Author.Tests.{ltb-false, leb-false, le-leb}
use Rattle.length.specs.Answers.{done, LengthAnswer}
use Rattle.length.specs.Length.{length_at, length_within}
use Rattle.length.proofs.Laws.{from-done, bind_done, cond-past, cond-done, cond-kept, done-same, true-within, LengthInside, within-done}
use Rattle.length.proofs.Laws.{allowed-done}
use Rattle.length.specs.Refusals.{ends_early}
use Rattle.datagram.specs.Sizes.{spares_least, spares_limit, covered_least, covered_limit, messages_least, messages_limit}
use Rattle.datagram.specs.Write.{count_inside}
use Rattle.datagram.specs.Read.{ExtraHead, after, length_from, octet_at, item_at, items_at, end_of, spares_at, parity_at, extra_at}
use Rattle.datagram.specs.Promise.{nowhere}
use Rattle.datagram.specs.Claims.{PartInside}
use Rattle.datagram.specs.declared.reader.Part.{Part}

-- ---- the pieces

-- an octet that reads
pub record Octet (least most : ℕ) (s : List ℕ) (at : ℕ) (l : LengthAnswer) : Type 0 where
  pub inside : at < length s
  pub value : l.value ≡ get_or s at 0
  pub size : l.size ≡ 1
  pub low : least ≤ l.value
  pub high : l.value ≤ most

pub octet-done : (least most : ℕ) (s : List ℕ) (at : ℕ) (l : LengthAnswer) → octet_at least most s at ≡ done l → Octet least most s at l
unfolding octet_at
octet-done least most s at l e =
    let some = cond-done (leb (length s) at) ends_early _ l (from-done at _ l e) in
    let fits = allowed-done least most (record { value = get_or s at 0; size = 1 }) l some.1 in
    record {
      inside = leb-false (length s) at some.0;
      value = sym (ap (λ (k : LengthAnswer). k.value) fits.0);
      size = sym (ap (λ (k : LengthAnswer). k.size) fits.0);
      low = fits.1;
      high = fits.2;
    }

-- a length or count that reads, and ends within the octets
pub length-done : (least most : ℕ) (s : List ℕ) (at : ℕ) (l : LengthAnswer) → length_from least most s at ≡ done l
    → LengthInside least most (drop at s) l
length-done least most s at l e = within-done least most (drop at s) l (from-done at (length_within least most (drop at s)) l e)

pub within-ends : (least most : ℕ) (s : List ℕ) (at : ℕ) (l : LengthAnswer) → length_from least most s at ≡ done l
    → at ≤ length s → at + l.size ≤ length s
within-ends least most s at l e room = omega (arith, (length-done least most s at l e).sizes.inside, length-drop at s)

-- a packet, spare or message that reads
pub record Item (least most : ℕ) (s : List ℕ) (at : ℕ) (p : Part) : Type 0 where
  pub length : LengthAnswer
  pub read : length_at (drop at s) ≡ done length
  pub start : p.start ≡ at + length.size
  pub size : p.size ≡ length.value
  pub low : least ≤ p.size
  pub high : p.size ≤ most
  pub inside : at ≤ lib.ListN.length s → after p ≤ lib.ListN.length s

pub item-done : (least most : ℕ) (s : List ℕ) (at : ℕ) (p : Part) → item_at least most s at ≡ done p → Item least most s at p
unfolding item_at
item-done least most s at p e =
    let found = bind_done (length_from least most s at) _ p e in
    let l = found.0 in
    let fits = length-done least most s at found.0 found.1 in
    let some = cond-past (ltb (length s - (at + found.0.size)) found.0.value) _ _ p found.2 in
    let room = ltb-false (length s - (at + found.0.size)) found.0.value some.0 in
    let same : ◌≡◌ {A = Part} (record { start = at + found.0.size; size = found.0.value }) p = done-same some.1 in
    let start = ap (λ (q : Part). q.start) same in
    let size = ap (λ (q : Part). q.size) same in
    record {
      length = found.0;
      read = fits.read;
      start = sym start;
      size = sym size;
      low = rw (← size) fits.low;
      high = rw (← size) fits.high;
      inside = λ h. omega (arith, within-ends least most s at found.0 found.1 h);
    }

-- so many items that read
pub record Items (least most : ℕ) (s : List ℕ) (at count : ℕ) (ps : List Part) : Type 0 where
  pub counted : length ps ≡ count
  pub inside : at ≤ length s → end_of at ps ≤ length s

pub items-done : (least most : ℕ) (s : List ℕ) (at count : ℕ) (ps : List Part) → items_at least most s at count ≡ done ps
    → Items least most s at count ps
unfolding items_at end_of
items-done least most s at zero ps e =
    let same : [] ≡ ps = done-same e in
    rw (← same) (record { counted = refl; inside = λ h. h })
items-done least most s at (suc left) ps e =
    let found = bind_done (item_at least most s at) _ ps e in
    let more = bind_done (items_at least most s (after found.0) left) _ ps found.2 in
    let same : (found.0 ∷ more.0) ≡ ps = done-same more.2 in
    let rest = items-done least most s (after found.0) left more.0 more.1 in
    rw (← same)
    (record { counted = ap suc rest.counted; inside = λ h. rest.inside ((item-done least most s at found.0 found.1).inside h) })

-- every one of them lies within the octets
pub items-each : (least most : ℕ) (s : List ℕ) (at count : ℕ) (ps : List Part) → at ≤ length s → items_at least most s at count ≡ done ps
    → (j : ℕ) → j < length ps → PartInside least most s (get_or ps j nowhere)
unfolding items_at
items-each least most s at zero ps room e j more =
    let same : [] ≡ ps = done-same e in
    let none : j < length {A = Part} [] = rw (← same) at more in
    absurd (omega arith)
items-each least most s at (suc left) ps room e j more =
    let found = bind_done (item_at least most s at) _ ps e in
    let rest = bind_done (items_at least most s (after found.0) left) _ ps found.2 in
    let same : (found.0 ∷ rest.0) ≡ ps = done-same rest.2 in
    let i = item-done least most s at found.0 found.1 in
    rw (← same) (pick found.0 rest.0 j (record { low = i.low; high = i.high; inside = i.inside room })
    (items-each least most s (after found.0) left rest.0 (i.inside room) rest.1)
    (rw (← same) at more)) where
      pick : (p : Part) (ps : List Part) (j : ℕ) → PartInside least most s p
          → ((i : ℕ) → i < length ps → PartInside least most s (get_or ps i nowhere)) → j < length (p ∷ ps)
          → PartInside least most s (get_or (p ∷ ps) j nowhere)
      pick p ps zero one others less = one
      pick p ps (suc i) one others less = others i (omega arith)

-- what follows the newest packet, up to the items
pub record Extra (s : List ℕ) (h : ExtraHead) : Type 0 where
  pub inside : h.first ≤ length s
  pub counted : count_inside h.kind h.count ≡ true

spares-done : (s : List ℕ) (at : ℕ) (h : ExtraHead) → at ≤ length s → spares_at s at ≡ done h → Extra s h
unfolding spares_at
spares-done s at h room e =
    let found = bind_done (length_from spares_least spares_limit s at) _ h e in
    let fits = length-done spares_least spares_limit s at found.0 found.1 in
    rw (← done-same found.2)
    (record {
      inside = within-ends spares_least spares_limit s at found.0 found.1 room;
      counted = le-leb found.0.value spares_limit fits.high;
    })

parity-done : (s : List ℕ) (at : ℕ) (h : ExtraHead) → at ≤ length s → parity_at s at ≡ done h → Extra s h
unfolding parity_at
parity-done s at h room e =
    let one = bind_done (octet_at 1 1 s at) _ h e in
    let n = bind_done (octet_at covered_least covered_limit s (at + 1)) _ h one.2 in
    let m = bind_done (length_from messages_least messages_limit s (at + 2)) _ h n.2 in
    let next = octet-done covered_least covered_limit s (at + 1) n.0 n.1 in
    let some = next.inside in
    let fits = length-done messages_least messages_limit s (at + 2) m.0 m.1 in
    rw (← done-same m.2)
    (record {
      inside = within-ends messages_least messages_limit s (at + 2) m.0 m.1 (omega arith);
      counted =
          rw (
            true-within covered_least covered_limit n.0.value next.low next.high,
            true-within messages_least messages_limit m.0.value fits.low fits.high,
          );
    })

pub extra-done : (s : List ℕ) (at : ℕ) (h : ExtraHead) → extra_at s at ≡ done h → Extra s h
unfolding extra_at
extra-done s at h e =
    let some = cond-past (leb (length s) at) _ _ h e in
    let clear = cond-kept (eqb (get_or s at 0 % 128) 0) _ _ h some.1 in
    let room : at + 1 ≤ length s = omega (arith, leb-false (length s) at some.0) in
    pick (ltb (get_or s at 0) 128) room clear.1 where
      pick : (t : Bool) → at + 1 ≤ length s → cond t (spares_at s (at + 1)) (parity_at s (at + 1)) ≡ done h → Extra s h
      pick true room q = spares-done s (at + 1) h room q
      pick false room q = parity-done s (at + 1) h room q
