-- What the functions of this crate do, on plain values: eight octets read and written as a number, and the two loops. Assumes nothing.
use Prim.Native.Nat.{ℕ, zero, suc, ◌+◌, ◌-◌, ◌*◌, ◌/◌, ◌%◌, ◌^◌, ◌≤◌, ◌<◌}
use mathlib.Core.Path.{◌≡◌, refl, sym, ap, ap₂, ◌∙◌}
use mathlib.Core.Logic.{⊎_elim}
use mathlib.Core.List.{List, [], ◌∷◌, ◌++◌}
use lib.ListN.{length, get_or, set, take, length-set, get_or-append}
use lib.Seq.{ext_get_or, get_or-set_same, get_or-set_other, get_or-append-add, length-take-le}
use lib.Bits.{bit_xor, xor_lt}
use native.Mathlib.Omega.{arith}
use borrow.Rule.Slice.PartMut.{put_mid, post_of}
use Rattle.std.specs.Int.{w64, from_le_bytes, to_le_bytes}
use Rattle.std.proofs.Common.{rules}
use Rattle.std.proofs.lemmas.List.{places}
use Rattle.octets.proofs.Laws.{below_or_not, same_or_not}
use Rattle.octets.specs.Words.{word_of, OctetsAt, Reads, Spells, both, AddsTo}
use Rattle.octets.proofs.Numbers.{octets-same, word-xor}
use Rattle.octets.proofs.WordsLaws.{length_both, both_at}

-- ---- eight octets
same-place : (s : List ℕ) {p q : ℕ} → p ≡ q → get_or s p 0 ≡ get_or s q 0
same-place s e = ap (λ (k : ℕ). get_or s k 0) e

byte-small : (w j : ℕ) → get_or (to_le_bytes w64 w) j 0 < 256
byte-small w zero = omega arith
byte-small w (suc zero) = omega arith
byte-small w (suc (suc zero)) = omega arith
byte-small w (suc (suc (suc zero))) = omega arith
byte-small w (suc (suc (suc (suc zero)))) = omega arith
byte-small w (suc (suc (suc (suc (suc zero))))) = omega arith
byte-small w (suc (suc (suc (suc (suc (suc zero)))))) = omega arith
byte-small w (suc (suc (suc (suc (suc (suc (suc zero))))))) = omega arith
byte-small w (suc (suc (suc (suc (suc (suc (suc (suc j)))))))) = omega arith

module _ (s : List ℕ) (at : ℕ) where
  abbrev octet : ℕ → ℕ
  octet j = get_or s (at + j) 0

  word-eight : word_of 8 s at
      ≡ get_or s at 0 + octet 1 * 256 + octet 2 * 65536 + octet 3 * 16777216 + octet 4 * 4294967296 + octet 5 * 1099511627776
      + octet 6 * 281474976710656 + octet 7 * 72057594037927936
  unfolding word_of
  word-eight =
      let e1 = same-place s {p = suc at} {q = at + 1} (omega arith) in
      let e2 = same-place s {p = suc (suc at)} {q = at + 2} (omega arith) in
      let e3 = same-place s {p = suc (suc (suc at))} {q = at + 3} (omega arith) in
      let e4 = same-place s {p = suc (suc (suc (suc at)))} {q = at + 4} (omega arith) in
      let e5 = same-place s {p = suc (suc (suc (suc (suc at))))} {q = at + 5} (omega arith) in
      let e6 = same-place s {p = suc (suc (suc (suc (suc (suc at)))))} {q = at + 6} (omega arith) in
      let e7 = same-place s {p = suc (suc (suc (suc (suc (suc (suc at))))))} {q = at + 7} (omega arith) in
      omega (arith, e1, e2, e3, e4, e5, e6, e7)

  pub reads-eight : {r : ℕ} → OctetsAt 8 s at
      → r ≡ from_le_bytes w64 (get_or s at 0 ∷ octet 1 ∷ octet 2 ∷ octet 3 ∷ octet 4 ∷ octet 5 ∷ octet 6 ∷ octet 7 ∷ [])
      → Reads 8 s at r
  reads-eight {r} all e =
      let number : r ≡ get_or s at 0 + octet 1 * 256 + octet 2 * 65536 + octet 3 * 16777216 + octet 4 * 4294967296
      + octet 5 * 1099511627776 + octet 6 * 281474976710656 + octet 7 * 72057594037927936 = e in
      let o0 = all at (omega arith) (omega arith) in
      let o1 = all (at + 1) (omega arith) (omega arith) in
      let o2 = all (at + 2) (omega arith) (omega arith) in
      let o3 = all (at + 3) (omega arith) (omega arith) in
      let o4 = all (at + 4) (omega arith) (omega arith) in
      let o5 = all (at + 5) (omega arith) (omega arith) in
      let o6 = all (at + 6) (omega arith) (omega arith) in
      let o7 = all (at + 7) (omega arith) (omega arith) in
      record { number = number ∙ sym word-eight; below = omega (arith, number, o0, o1, o2, o3, o4, o5, o6, o7); octets = all }

module _ (old : List ℕ) (at w : ℕ) {ys : List ℕ} (room : at + 8 ≤ length old) (small : w < 2 ^ 64) (is : ys ≡ to_le_bytes w64 w) where
  abbrev laid : List ℕ
  laid = put_mid at (at + 8 - at) old ys

  long-take : length (take at old) ≡ at
  long-take = length-take-le at old (omega arith)

  eight-long : length ys ≡ 8
  eight-long = ap length is

  same-byte : (j : ℕ) → get_or ys j 0 ≡ get_or (to_le_bytes w64 w) j 0
  same-byte j = ap (λ (l : List ℕ). get_or l j 0) is

  laid-at : (j : ℕ) → j < 8 → get_or laid (at + j) 0 ≡ get_or ys j 0
  laid-at j low =
      ap (λ (k : ℕ). get_or laid (k + j) 0) (sym long-take)
      ∙ get_or-append-add (take at old) (ys ++ post_of at (at + 8 - at) old) j 0
      ∙ get_or-append ys (post_of at (at + 8 - at) old) 0 j (omega (arith, eight-long))

  pub spells-eight : Spells 8 w old at laid
  spells-eight =
      let o0 : get_or laid at 0 ≡ w % 256 = same-place laid {p = at} {q = at + 0} (omega arith) ∙ laid-at 0 (omega arith) ∙ same-byte 0 in
      let o1 : get_or laid (at + 1) 0 ≡ w / 256 % 256 = laid-at 1 (omega arith) ∙ same-byte 1 in
      let o2 : get_or laid (at + 2) 0 ≡ w / 65536 % 256 = laid-at 2 (omega arith) ∙ same-byte 2 in
      let o3 : get_or laid (at + 3) 0 ≡ w / 16777216 % 256 = laid-at 3 (omega arith) ∙ same-byte 3 in
      let o4 : get_or laid (at + 4) 0 ≡ w / 4294967296 % 256 = laid-at 4 (omega arith) ∙ same-byte 4 in
      let o5 : get_or laid (at + 5) 0 ≡ w / 1099511627776 % 256 = laid-at 5 (omega arith) ∙ same-byte 5 in
      let o6 : get_or laid (at + 6) 0 ≡ w / 281474976710656 % 256 = laid-at 6 (omega arith) ∙ same-byte 6 in
      let o7 : get_or laid (at + 7) 0 ≡ w / 72057594037927936 % 256 = laid-at 7 (omega arith) ∙ same-byte 7 in
      let number = word-eight laid at in
      record {
        number = omega (arith, number, o0, o1, o2, o3, o4, o5, o6, o7);
        octets =
            λ j from to.
            let e : j ≡ at + (j - at) = omega arith in
            rw (same-place laid e ∙ laid-at (j - at) (omega arith) ∙ same-byte (j - at)) (byte-small w (j - at));
        before = λ j low. search (rules, places, arith, eight-long);
        past = λ j high. search (rules, places, arith, eight-long);
        long = search (rules, places, arith, eight-long);
      }

-- ---- what is added so far
-- a word more
adds-word : {src start sum new : List ℕ} {at a b : ℕ} → AddsTo src start sum at → at + 8 ≤ length sum → Reads 8 sum at a → Reads 8 src at b
    → Spells 8 (bit_xor a b) sum at new → AddsTo src start new (at + 8)
adds-word {src} {start} {sum} {new} {at} {a} {b} s room ra rb w =
    record {
      added =
          λ j low.
          ⊎_elim (λ below. w.before j below ∙ s.added j below)
          (λ from.
          word j from low ∙ ap (λ (x : ℕ). bit_xor x (get_or src j 0)) (s.rest j from))
          (below_or_not j at);
      rest = λ j past. w.past j past ∙ s.rest j (omega arith);
      long = w.long ∙ s.long;
    }
  where
    each : (j : ℕ) → at ≤ j → j < at + 8 → get_or (both src sum) j 0 ≡ bit_xor (get_or sum j 0) (get_or src j 0)
    each j from to = both_at src sum j (omega arith)

    octets : OctetsAt 8 (both src sum) at
    octets j from to = rw (each j from to) (xor_lt 8 (get_or sum j 0) (get_or src j 0) (ra.octets j from to) (rb.octets j from to))

    word : (j : ℕ) → at ≤ j → j < at + 8 → get_or new j 0 ≡ bit_xor (get_or sum j 0) (get_or src j 0)
    word j from to =
        octets-same 8 new (both src sum) at w.octets octets
        (w.number ∙ ap₂ bit_xor ra.number rb.number ∙ sym (word-xor 8 sum src (both src sum) at ra.octets rb.octets each))
        j from to
        ∙ each j from to

-- an octet more
adds-octet : {src start sum : List ℕ} {at : ℕ} → AddsTo src start sum at → at < length sum
    → AddsTo src start (set sum at (bit_xor (get_or sum at 0) (get_or src at 0))) (at + 1)
adds-octet {src} {start} {sum} {at} s inside =
    record {
      added =
          λ j low.
          ⊎_elim
          (λ e.
          rw e
          (get_or-set_same sum at (bit_xor (get_or sum at 0) (get_or src at 0)) 0 inside
          ∙ ap (λ (x : ℕ). bit_xor x (get_or src at 0)) (s.rest at (omega arith))))
          (λ other. get_or-set_other sum at j _ 0 other ∙ s.added j (omega arith))
          (same_or_not j at);
      rest = λ j past. get_or-set_other sum at j _ 0 (λ e. omega arith) ∙ s.rest j (omega arith);
      long = length-set sum at _ ∙ s.long;
    }

adds-all : {src start sum : List ℕ} {k : ℕ} → AddsTo src start sum k → length start ≤ k → sum ≡ both src start
adds-all {src} {start} {sum} {k} s all =
    ext_get_or 0 sum (both src start) (s.long ∙ sym (length_both src start))
    (λ j below.
    let low : j < length start = omega (arith, s.long) in
    s.added j (omega arith) ∙ sym (both_at src start j low))

-- ---- the loop over words
pub record Wording (src start sum : List ℕ) (k : ℕ) : Type 0 where
  pub adds : AddsTo src start sum (k * 8)
  pub few : k ≤ length src / 8
  pub long : length sum ≡ length src

pub wording-start : (src sum : List ℕ) → length src ≡ length sum → Wording src sum sum 0
wording-start src sum same =
    record {
      adds = record { added = λ j low. absurd (omega arith); rest = λ j past. refl; long = refl };
      few = omega arith;
      long = sym same;
    }

pub wording-turn : {src start sum new : List ℕ} {k a b : ℕ} → Wording src start sum k → k < length src / 8 → Reads 8 sum (k * 8) a
    → Reads 8 src (k * 8) b → Spells 8 (bit_xor a b) sum (k * 8) new → Wording src start new (k + 1)
wording-turn {src} {start} {sum} {new} {k} s more ra rb w =
    let next : k * 8 + 8 ≡ (k + 1) * 8 = omega arith in
    record {
      adds = rw next at (adds-word s.adds (omega (arith, s.long)) ra rb w);
      few = omega arith;
      long = w.long ∙ s.long;
    }

pub wording-done : {src start sum : List ℕ} {k : ℕ} → Wording src start sum k → length src / 8 ≤ k
    → AddsTo src start sum (length src / 8 * 8)
wording-done {src} {start} {sum} {k} s done =
    let all : k ≡ length src / 8 = omega (arith, s.few) in
    rw all at s.adds

-- ---- the loop over the tail: what the words left goes on
pub record Finishing (src words sum : List ℕ) (from tail t : ℕ) : Type 0 where
  pub adds : (start : List ℕ) → AddsTo src start words from → AddsTo src start sum (from + t)
  pub few : t ≤ tail
  pub long : length sum ≡ length words
  pub room : from + tail ≤ length words

pub finishing-start : (src sum : List ℕ) (from tail : ℕ) → from + tail ≤ length sum → Finishing src sum sum from tail 0
finishing-start src sum from tail room =
    let e : from ≡ from + 0 = omega arith in
    record { adds = λ start s. rw e at s; few = omega arith; long = refl; room = room }

pub finishing-turn : {src words sum : List ℕ} {from tail t : ℕ} → Finishing src words sum from tail t → t < tail
    → Finishing src words (set sum (from + t) (bit_xor (get_or sum (from + t) 0) (get_or src (from + t) 0))) from tail (t + 1)
finishing-turn {src} {words} {sum} {from} {tail} {t} s more =
    let next : from + t + 1 ≡ from + (t + 1) = omega arith in
    record {
      adds = λ start w. rw next at (adds-octet (s.adds start w) (omega (arith, s.long, s.room)));
      few = omega arith;
      long = length-set sum (from + t) _ ∙ s.long;
      room = s.room;
    }

pub finishing-done : {src start words sum : List ℕ} {t : ℕ} → Finishing src words sum (length src - length src % 8) (length src % 8) t
    → length src % 8 ≤ t → AddsTo src start words (length src / 8 * 8) → length src ≡ length start → sum ≡ both src start
finishing-done {src} {start} s done w same =
    let e : length src / 8 * 8 ≡ length src - length src % 8 = omega arith in
    adds-all (s.adds start (rw e at w)) (omega (arith, s.few))
