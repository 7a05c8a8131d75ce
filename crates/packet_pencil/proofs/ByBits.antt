-- A length, and a number in two octets, taken bit by bit from an octet edge on, are what the octets there say. Assumes nothing.
use Prim.Native.Nat.{ℕ, ◌+◌, ◌-◌, ◌*◌, ◌/◌, ◌%◌, ◌^◌, ◌≤◌, ◌<◌}
use mathlib.Core.Path.{◌≡◌, refl, sym, ap, ◌∙◌}
use mathlib.Core.Bool.{Bool, true, false, not, cond}
use mathlib.Core.List.{List}
use lib.ListN.{length, get_or, drop, length-drop}
use lib.Seq.{get_or-drop}
use lib.Dec.{leb, ltb}
use native.Mathlib.Omega.{arith}
use borrow.Author.Tests.{lt-ltb, le-ltb, le-leb, lt-leb, ltb-true, ltb-false}
use Rattle.length.specs.Refusals.{refusal, refusal_at, further, ends_early, bad_form, outside_sizes}
use Rattle.length.specs.Answers.{Answer, done, refused, refuse, LengthAnswer}
use Rattle.length.specs.Answers as answers
use Rattle.length.specs.Length.{length_at, within, allowed, length_within}
use Rattle.length.specs.Claims.{Octets}
use Rattle.length.specs.declared.Reason.{Reason}
use Rattle.format.specs.Reading.{Finding, found, stopped, and_then, found_from, bit_at}
use Rattle.format.specs.Reading as reading
use Rattle.format.specs.Format.{two_front}
use Rattle.format.proofs.Laws.{flag-some, flag-cut, bits_in, bits-at, bits-cut}
use Rattle.packet_pencil.specs.Items.{long_bits, length_bits}

-- a length that was read from an octet edge on
abbrev pub length_from : ℕ → Answer LengthAnswer → Finding ℕ
length_from q (done l) = found l.value (8 * l.size + q)
length_from q (refused r) = stopped (further (q / 8) r)

-- refused at the front of the octets from an octet on
front : {A : Type 0} (at : ℕ) (n : Reason) → ◌≡◌ {A = Finding A} (stopped (refusal_at at n)) (stopped (further at (refusal n)))
front at n = let here : at ≡ at + 0 = omega arith in ap (λ (k : ℕ). stopped (refusal_at k n)) here

module _ (s : List ℕ) (q : ℕ) (octets : Octets s) (on : q % 8 ≡ 0) where
  first : get_or (drop (q / 8) s) 0 0 ≡ get_or s (q / 8) 0
  first = get_or-drop (q / 8) s 0 0 ∙ ap (λ (k : ℕ). get_or s k 0) (omega arith)

  second : get_or (drop (q / 8) s) 1 0 ≡ get_or s (q / 8 + 1) 0
  second = get_or-drop (q / 8) s 1 0

  left : length (drop (q / 8) s) ≡ length s - q / 8
  left = length-drop (q / 8) s

  -- the length in two octets
  abbrev both-are : ℕ
  both-are = (get_or s (q / 8) 0 - 128) * 256 + get_or s (q / 8 + 1) 0

  -- the first bit of an octet, and the second
  bit-first : bit_at s q ≡ get_or s (q / 8) 0 / 128 % 2
  bit-first = let high : 7 - q % 8 ≡ 7 = omega arith in rw high

  bit-second : bit_at s (1 + q) ≡ get_or s (q / 8) 0 / 64 % 2
  bit-second =
      let high : 7 - (1 + q) % 8 ≡ 6 = omega arith in
      let same : (1 + q) / 8 ≡ q / 8 = omega arith in
      rw (high, same)

  -- no octet is there
  none : length s ≤ q / 8 → length_bits s (q / 8) q ≡ length_from q (length_at (drop (q / 8) s))
  unfolding length_bits length_at
  none past =
      rw (flag-cut s (q / 8) q (omega arith), lt-ltb (length (drop (q / 8) s)) 1 (omega (arith, left))) (front (q / 8) ends_early)

  module _ (some : q / 8 < length s) where
    one : ltb (length (drop (q / 8) s)) 1 ≡ false
    one = le-ltb (length (drop (q / 8) s)) 1 (omega (arith, left))

    -- one octet
    short : get_or s (q / 8) 0 < 128 → length_bits s (q / 8) q ≡ length_from q (length_at (drop (q / 8) s))
    unfolding length_bits length_at
    short small =
        let clear : bit_at s q ≡ 0 = bit-first ∙ omega arith in
        let flag : reading.flag s (q / 8) q ≡ found false (1 + q)
        = flag-some s (q / 8) q (omega arith) ∙ ap (λ (b : ℕ). found (ltb 0 b) (1 + q)) clear in
        let same : (1 + q) / 8 ≡ q / 8 = omega arith in
        let low : 8 - ((1 + q) % 8 + 7) ≡ 0 = omega arith in
        let value : get_or s (q / 8) 0 / 2 ^ 0 % 2 ^ 7 ≡ get_or s (q / 8) 0 = omega arith in
        let next : 7 + (1 + q) ≡ 8 * 1 + q = omega arith in
        rw (
          flag,
          bits_in 7 s (q / 8) (1 + q) (omega arith) (omega arith),
          same,
          low,
          value,
          next,
          one,
          first,
          lt-ltb (get_or s (q / 8) 0) 128 small,
        )

    module _ (large : 128 ≤ get_or s (q / 8) 0) where
      flag-long : reading.flag s (q / 8) q ≡ found true (1 + q)
      flag-long =
          let set : bit_at s q ≡ 1 = bit-first ∙ omega (arith, octets (q / 8)) in
          flag-some s (q / 8) q (omega arith) ∙ ap (λ (b : ℕ). found (ltb 0 b) (1 + q)) set

      not_short : ltb (get_or s (q / 8) 0) 128 ≡ false
      not_short = le-ltb (get_or s (q / 8) 0) 128 large

      -- another form
      longer : 192 ≤ get_or s (q / 8) 0 → length_bits s (q / 8) q ≡ length_from q (length_at (drop (q / 8) s))
      unfolding length_bits long_bits length_at
      longer more =
          let set : bit_at s (1 + q) ≡ 1 = bit-second ∙ omega (arith, octets (q / 8)) in
          let flag : reading.flag s (q / 8) (1 + q) ≡ found true (1 + (1 + q))
          = flag-some s (q / 8) (1 + q) (omega arith) ∙ ap (λ (b : ℕ). found (ltb 0 b) (1 + (1 + q))) set in
          rw (flag-long, flag, one, first, not_short, le-leb 192 (get_or s (q / 8) 0) more) (front (q / 8) bad_form)

      module _ (less : get_or s (q / 8) 0 < 192) where
        flag-two : reading.flag s (q / 8) (1 + q) ≡ found false (1 + (1 + q))
        flag-two =
            let clear : bit_at s (1 + q) ≡ 0 = bit-second ∙ omega arith in
            flag-some s (q / 8) (1 + q) (omega arith) ∙ ap (λ (b : ℕ). found (ltb 0 b) (1 + (1 + q))) clear

        not-longer : leb 192 (get_or s (q / 8) 0) ≡ false
        not-longer = lt-leb 192 (get_or s (q / 8) 0) less

        -- the second octet is missing
        half : length s ≤ q / 8 + 1 → length_bits s (q / 8) q ≡ length_from q (length_at (drop (q / 8) s))
        unfolding length_bits long_bits length_at
        half past =
            rw (
              flag-long,
              flag-two,
              bits-cut 13 s (q / 8) (1 + (1 + q)) (omega arith),
              one,
              first,
              not_short,
              not-longer,
              lt-ltb (length (drop (q / 8) s)) 2 (omega (arith, left)),
            ) (front (q / 8) ends_early)

        -- both are there
        two : q / 8 + 1 < length s → length_bits s (q / 8) q ≡ length_from q (length_at (drop (q / 8) s))
        unfolding length_bits long_bits length_at
        two both =
            let at : (1 + (1 + q)) / 8 ≡ q / 8 = omega arith in
            let low : 16 - ((1 + (1 + q)) % 8 + 14) ≡ 0 = omega arith in
            let value : (get_or s (q / 8) 0 * 256 + get_or s (q / 8 + 1) 0 % 256) / 2 ^ 0 % 2 ^ 14 ≡ both-are
            = omega (arith, octets (q / 8), octets (q / 8 + 1)) in
            let bits : reading.bits 14 s (q / 8) (1 + (1 + q)) ≡ found both-are (8 * 2 + q)
            = bits-at 14 s (q / 8) (1 + (1 + q)) (omega arith) (omega arith)
            ∙ rw (at, low, value) (ap (λ (k : ℕ). found both-are k) (omega arith)) in
            rw (
              flag-long,
              flag-two,
              bits,
              one,
              first,
              second,
              not_short,
              not-longer,
              le-ltb (length (drop (q / 8) s)) 2 (omega (arith, left)),
            ) (by both-are (ltb both-are 128) refl) where
              by : (v : ℕ) (t : Bool) → ltb v 128 ≡ t
                  → reading.◌>>=◌ (reading.check bad_form (leb 128 v)) (λ (x : Unit {0}). reading.give v) s (q / 8) (8 * 2 + q)
                  ≡ length_from q (cond (ltb v 128) (refuse bad_form) (done (record { value = v; size = 2 })))
              by v true e = rw (e, lt-leb 128 v (ltb-true v 128 e)) (front (q / 8) bad_form)
              by v false e = rw (e, le-leb 128 v (ltb-false v 128 e))

  -- a length by bits is the length of the octets from there on
  pub length-bits : length_bits s (q / 8) q ≡ length_from q (length_at (drop (q / 8) s))
  length-bits = by (ltb (q / 8) (length s)) refl where
    there : q / 8 < length s → (a b c : Bool) → ltb (get_or s (q / 8) 0) 128 ≡ a → ltb (get_or s (q / 8) 0) 192 ≡ b
        → ltb (q / 8 + 1) (length s) ≡ c
        → length_bits s (q / 8) q ≡ length_from q (length_at (drop (q / 8) s))
    there some true b c e f g = short some (ltb-true (get_or s (q / 8) 0) 128 e)
    there some false false c e f g = longer some (ltb-false (get_or s (q / 8) 0) 128 e) (ltb-false (get_or s (q / 8) 0) 192 f)
    there some false true false e f g =
        half some (ltb-false (get_or s (q / 8) 0) 128 e) (ltb-true (get_or s (q / 8) 0) 192 f) (ltb-false (q / 8 + 1) (length s) g)
    there some false true true e f g =
        two some (ltb-false (get_or s (q / 8) 0) 128 e) (ltb-true (get_or s (q / 8) 0) 192 f) (ltb-true (q / 8 + 1) (length s) g)

    by : (t : Bool) → ltb (q / 8) (length s) ≡ t → length_bits s (q / 8) q ≡ length_from q (length_at (drop (q / 8) s))
    by true e =
        there (ltb-true (q / 8) (length s) e) (ltb (get_or s (q / 8) 0) 128) (ltb (get_or s (q / 8) 0) 192) (ltb (q / 8 + 1) (length s))
        refl refl refl
    by false e = none (ltb-false (q / 8) (length s) e)

-- ---- within its sizes
-- a number that was found, if it is within its sizes; otherwise 4 at the octet i
abbrev pub kept : ℕ → (ℕ → Bool) → Finding ℕ → Finding ℕ
kept i test (found v z) = cond (test v) (found v z) (stopped (refusal_at i outside_sizes))
kept i test (stopped x) = stopped x

pub within-from : (least most q : ℕ) (s : List ℕ)
    → length_from q (length_within least most s) ≡ kept (q / 8) (within least most) (length_from q (length_at s))
unfolding length_within allowed
within-from least most q s = by (length_at s) where
  tested : (l : LengthAnswer) (t : Bool) → length_from q (cond t (done l) (refuse outside_sizes))
      ≡ cond t (found l.value (8 * l.size + q)) (stopped (refusal_at (q / 8) outside_sizes))
  tested l true = refl
  tested l false = sym (front (q / 8) outside_sizes)

  by : (a : Answer LengthAnswer) → length_from q (answers.◌>>=◌ a (allowed least most)) ≡ kept (q / 8) (within least most) (length_from q a)
  by (done l) = tested l (within least most l.value)
  by (refused r) = refl

module _ (s : List ℕ) (q : ℕ) (octets : Octets s) (on : q % 8 ≡ 0) where
  -- two octets by bits are the number of the two octets from there on
  pub two-bits : (most : ℕ) → and_then (found_from (q / 8) (two_front most (drop (q / 8) s))) (λ a n. found a (8 * n + q))
      ≡ kept (q / 8) (λ v. leb v most) (reading.bits 16 s (q / 8) q)
  unfolding two_front
  two-bits most = by (ltb (length (drop (q / 8) s)) 2) refl where
    tested : (v : ℕ) (t : Bool)
        → and_then (found_from (q / 8) (cond t (found v 2) (stopped (refusal outside_sizes)))) (λ a n. found a (8 * n + q))
        ≡ cond t (found v (8 * 2 + q)) (stopped (refusal_at (q / 8) outside_sizes))
    tested v true = refl
    tested v false = sym (front (q / 8) outside_sizes)

    by : (t : Bool) → ltb (length (drop (q / 8) s)) 2 ≡ t
        → and_then (found_from (q / 8) (two_front most (drop (q / 8) s))) (λ a n. found a (8 * n + q))
        ≡ kept (q / 8) (λ v. leb v most) (reading.bits 16 s (q / 8) q)
    by true e =
        let few = ltb-true (length (drop (q / 8) s)) 2 e in
        rw (e, bits-cut 15 s (q / 8) q (omega (arith, length-drop (q / 8) s))) (sym (front (q / 8) ends_early))
    by false e =
        let some = ltb-false (length (drop (q / 8) s)) 2 e in
        let low : 16 - (q % 8 + 16) ≡ 0 = omega arith in
        let all : (get_or s (q / 8) 0 * 256 + get_or s (q / 8 + 1) 0 % 256) / 2 ^ 0 % 2 ^ 16 ≡ get_or s (q / 8) 0 * 256 + get_or s (q / 8 + 1) 0
        = omega (arith, octets (q / 8), octets (q / 8 + 1)) in
        let next : 16 + q ≡ 8 * 2 + q = omega arith in
        let bits : reading.bits 16 s (q / 8) q ≡ found (get_or s (q / 8) 0 * 256 + get_or s (q / 8 + 1) 0) (8 * 2 + q)
        = bits-at 16 s (q / 8) q (omega arith) (omega (arith, length-drop (q / 8) s)) ∙ rw (low, all, next) in
        rw (e, bits, first s q octets on, second s q octets on)
        (tested (get_or s (q / 8) 0 * 256 + get_or s (q / 8 + 1) 0) (leb (get_or s (q / 8) 0 * 256 + get_or s (q / 8 + 1) 0) most))
