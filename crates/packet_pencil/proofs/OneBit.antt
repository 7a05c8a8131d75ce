-- One law for each answer of the functions that take a bit, a flag or an octet edge, in the words of the code. Assumes nothing.
use Rattle.std.proofs.Common.{Result, Ok, Err}
use Prim.Native.Nat.{ℕ, ◌+◌, ◌-◌, ◌*◌, ◌/◌, ◌%◌, ◌^◌, ◌≤◌, ◌<◌}
use mathlib.Core.Path.{◌≡◌, refl}
use mathlib.Core.Logic.{◌≢◌}
use mathlib.Core.List.{List}
use lib.ListN.{length, get_or}
use lib.Dec.{ltb}
use native.Mathlib.Omega.{arith}
use borrow.Author.Tests.{lt-ltb, le-ltb, eq-eqb, ne_eqb}
use Rattle.length.specs.Refusals.{ends_early, spare_bit}
use Rattle.length.specs.Promise.{Octet, RefusalPlaced}
use Rattle.length.specs.declared.Refusal.{Refusal}
use Rattle.format.specs.Reading as reading
use Rattle.format.specs.Places.{Place}
use Rattle.format.proofs.Laws.{gap-past}
use Rattle.packet_pencil.specs.Bits.{BitTaken, BitsTaken, FlagTaken, EdgeTaken}

module _ {s : List ℕ} {i : ℕ} {p : Place} where
  -- ---- a bit
  pub bit_cut : {r : Refusal} → RefusalPlaced ends_early i r → length s ≤ p / 8 → BitTaken s i p (Err r)
  unfolding reading.bit
  bit_cut made none = record { answer = rw (le-ltb p (8 * length s) (omega arith), made.answer); past = tt }

  pub bit_found : {w : ℕ} → p / 8 < length s → Octet (get_or s (p / 8) 0) w → BitTaken s i p (Ok ((w / 2 ^ (7 - p % 8) % 2), (p + 1)))
  unfolding reading.bit
  bit_found some octet =
      let next : 1 + p ≡ p + 1 = omega arith in
      record { answer = rw (lt-ltb p (8 * length s) (omega arith), octet.same, next); past = refl }

  -- ---- a flag
  pub flag-refused : {n : Result (ℕ × ℕ) Refusal} {r : Refusal} → BitTaken s i p n → n ≡ Err r → FlagTaken s i p (Err r)
  unfolding reading.flag
  flag-refused bit is = record { answer = rw (bit.answer, is) }

  pub flag-found : {n : Result (ℕ × ℕ) Refusal} {b q : ℕ} → BitTaken s i p n → n ≡ Ok (b, q) → FlagTaken s i p (Ok ((ltb 0 b), q))
  unfolding reading.flag
  flag-found bit is = record { answer = rw (bit.answer, is) }

-- ---- an octet edge
module _ {s : List ℕ} {p : Place} {n : Result (ℕ × ℕ) Refusal} (bits : BitsTaken ((8 - p % 8) % 8) s (p / 8) p n) where
  pub edge-refused : {r : Refusal} → n ≡ Err r → EdgeTaken s p (Err r)
  unfolding reading.align
  edge-refused is = record { answer = λ i. rw (bits.answer, is); on = tt }

  module _ {v q : ℕ} (is : n ≡ Ok (v, q)) where
    pub edge-found : v ≡ 0 → EdgeTaken s p (Ok q)
    unfolding reading.align
    edge-found zeros =
        let past : q ≡ p + (8 - p % 8) % 8 = rw is at bits.past in
        record { answer = λ i. rw (bits.answer, is, eq-eqb v 0 zeros); on = omega (arith, gap-past p) }

    pub edge-set : {r : Refusal} → v ≢ 0 → RefusalPlaced spare_bit (p / 8) r → EdgeTaken s p (Err r)
    unfolding reading.align
    edge-set set made = record { answer = λ i. rw (bits.answer, is, ne_eqb v 0 set, made.answer); on = tt }

pub ruleset ones = (bit_cut, bit_found, flag-refused, flag-found, edge-refused, edge-found, edge-set)
