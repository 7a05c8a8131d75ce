-- One law for each answer of the functions that read the count of fields and a length of data, in the words of the code: the tests that
-- led there give the promise. Assumes nothing.
use Rattle.std.proofs.Common.{Result, Ok, Err}
use Prim.Native.Nat.{ℕ, ◌+◌, ◌-◌, ◌*◌, ◌≤◌, ◌<◌, ◌^◌}
use mathlib.Core.Path.{◌≡◌, sym, ap, ◌∙◌}
use mathlib.Core.Bool.{Bool, true, false, not, cond}
use mathlib.Core.List.{List}
use lib.ListN.{length, get_or}
use lib.Dec.{ltb}
use native.Mathlib.Omega.{arith}
use borrow.Author.Tests.{lt-ltb, le-ltb, not-true, not-false}
use Rattle.packet_laws.proofs.Laws.{rest, rest-is}
use Rattle.length.specs.Refusals.{further, ends_early, outside_sizes}
use Rattle.length.specs.Answers.{Answer, done, refused, refuse, refuse_at, length_outcome, refusal_of}
use Rattle.length.specs.Length.{length_within}
use Rattle.length.specs.Promise.{Octet, RefusalMade, RefusalPlaced, RefusalTold, WithinRead}
use Rattle.length.proofs.Laws.{within-done, within-front, refused-same}
use Rattle.length.specs.declared.Length.{Length}
use Rattle.length.specs.declared.Refusal.{Refusal}
use Rattle.length.specs.declared.Reason.{Reason}
use Rattle.datagram.specs.Sizes.{packet_limit}
use Rattle.packet.specs.Packet.{fields_least, fields_limit}
use Rattle.packet_laws.specs.Octets.{count_at, size_at}
use Rattle.packet_reader.specs.Items.{OctetIn, CountTold, SizeTold}

-- ---- the count of fields
-- a count that reads, from the answer and its case
within-is : {s : List ℕ} {r : Result Length Refusal} {l : Length} → WithinRead fields_least fields_limit s r → r ≡ Ok l
    → length_within fields_least fields_limit s ≡ done (record { value = l.value; size = l.size })
within-is read is = sym read.answer ∙ ap length_outcome is

module _ {s : List ℕ} {r : Result Length Refusal} {l : Length} (read : WithinRead fields_least fields_limit s r) (is : r ≡ Ok l) where
  -- it takes an octet or two, so that the sums fit
  count_fits : l.size ≤ 2
  count_fits = (within-done fields_least fields_limit s _ (within-is read is)).sizes.few

  module _ {t : List ℕ} {at : ℕ} (inside : OctetIn t at) where
    pub octets-fit : at + l.size < 2 ^ 64
    octets-fit = omega (arith, count_fits, inside.few, inside.here)

    pub place-fits : 8 * (at + l.size) < 2 ^ 64
    place-fits = omega (arith, count_fits, inside.few, inside.here)

-- a count that is refused begins at the front, so that its place fits
pub count-place : {s t : List ℕ} {at : ℕ} {r : Result Length Refusal} {why x : Refusal} → OctetIn t at → WithinRead fields_least fields_limit s r
    → r ≡ Err why → RefusalTold r x → at + x.place < 2 ^ 64
count-place {s} {why = why} {x} inside read is told =
    let same : x ≡ why = told.answer ∙ ap refusal_of is in
    let front = (within-front fields_least fields_limit s).front why (sym read.answer ∙ ap length_outcome is) in
    omega (arith, ap (λ (y : Refusal). y.place) same, inside.few, inside.here)

module _ {s : List ℕ} {at : ℕ} {b : Bool} where
  pub count_none : not b ≡ true → CountTold s at b (Ok (0, 8 * at))
  unfolding count_at
  count_none absent = record { answer = rw (not-true b absent) }

  pub count-refused : {r : Result Length Refusal} {why x y : Refusal} → not b ≡ false → WithinRead fields_least fields_limit (rest at s) r
      → r ≡ Err why → RefusalTold r x → y ≡ further at x → CountTold s at b (Err y)
  unfolding count_at
  count-refused present read is told on =
      record { answer = rw (on, told.answer, is, not-false b present, ← rest-is at s, sym read.answer ∙ ap length_outcome is) }

  pub count-read : {r : Result Length Refusal} {l : Length} → not b ≡ false → WithinRead fields_least fields_limit (rest at s) r
      → r ≡ Ok l → CountTold s at b (Ok (l.value, 8 * (at + l.size)))
  unfolding count_at
  count-read present read is = record { answer = rw (not-false b present, ← rest-is at s, within-is read is) }

pub ruleset counts = (octets-fit, place-fits, count-place, count_none, count-refused, count-read)

-- ---- the length of its data
module _ {s : List ℕ} where
  pub size-empty : {r : Refusal} → RefusalMade ends_early r → length s < 2 → SizeTold s (Err r)
  unfolding size_at
  size-empty made short = record { answer = rw (made.answer, lt-ltb (length s) 2 short) }

  pub size-over : {r : Refusal} {a b : ℕ} → RefusalMade outside_sizes r → 2 ≤ length s → Octet (get_or s 0 0) a → Octet (get_or s 1 0) b
      → packet_limit < a * 256 + b + 1 → SizeTold s (Err r)
  unfolding size_at
  size-over made two high low over =
      let h : packet_limit < get_or s 0 0 * 256 + get_or s 1 0 + 1 = rw (high.same, low.same) at over in
      record { answer = rw (made.answer, le-ltb (length s) 2 two, lt-ltb packet_limit _ h) }

  pub size-cut : {r : Refusal} {a b : ℕ} → RefusalPlaced ends_early 2 r → 2 ≤ length s → Octet (get_or s 0 0) a → Octet (get_or s 1 0) b
      → a * 256 + b + 1 ≤ packet_limit → length s - 2 < a * 256 + b + 1 → SizeTold s (Err r)
  unfolding size_at
  size-cut made two high low few short =
      let h : get_or s 0 0 * 256 + get_or s 1 0 + 1 ≤ packet_limit = rw (high.same, low.same) at few in
      let k : length s - 2 < get_or s 0 0 * 256 + get_or s 1 0 + 1 = rw (high.same, low.same) at short in
      record { answer = rw (made.answer, le-ltb (length s) 2 two, le-ltb packet_limit _ h, lt-ltb (length s - 2) _ k) }

  pub size-read : {a b : ℕ} → 2 ≤ length s → Octet (get_or s 0 0) a → Octet (get_or s 1 0) b
      → a * 256 + b + 1 ≤ packet_limit → a * 256 + b + 1 ≤ length s - 2 → SizeTold s (Ok (a * 256 + b + 1))
  unfolding size_at
  size-read two high low few all =
      let h : get_or s 0 0 * 256 + get_or s 1 0 + 1 ≤ packet_limit = rw (high.same, low.same) at few in
      let k : get_or s 0 0 * 256 + get_or s 1 0 + 1 ≤ length s - 2 = rw (high.same, low.same) at all in
      record { answer = rw (high.same, low.same, le-ltb (length s) 2 two, le-ltb packet_limit _ h, le-ltb (length s - 2) _ k) }

-- a length that is refused is refused at its two octets, or behind them
pub size-near : (s : List ℕ) (x : Refusal) → size_at s ≡ refused x → x.place ≤ 2
unfolding size_at
size-near s x e =
    let n = get_or s 0 0 * 256 + get_or s 1 0 + 1 in
    by n (ltb (length s) 2) (ltb packet_limit n) (ltb (length s - 2) n) e where
      place_is : {A : Type 0} (p : ℕ) (n : Reason) → ◌≡◌ {A = Answer A} (refuse_at p n) (refused x) → p ≡ x.place
      place_is p n e = ap (λ (y : Refusal). y.place) (refused-same e)

      by : (n : ℕ) (a b c : Bool)
          → cond a (refuse ends_early) (cond b (refuse outside_sizes) (cond c (refuse_at 2 ends_early) (done n))) ≡ refused x → x.place ≤ 2
      by n true b c e = omega (arith, place_is 0 ends_early e)
      by n false true c e = omega (arith, place_is 0 outside_sizes e)
      by n false false true e = omega (arith, place_is 2 ends_early e)
      by n false false false e = let z : ◌≡◌ {A = ℕ} 0 1 = cc in absurd (omega arith)

pub ruleset sizes = (size-empty, size-over, size-cut, size-read)
