-- Bits that are cut from the octets at once: the highest of them and the others, and a value before the extension mark, whose bit for
-- extension is 0. Assumes nothing.
use Prim.Native.Nat.{ℕ, suc, ◌+◌, ◌*◌, ◌/◌, ◌%◌, ◌^◌, ◌≤◌, ◌<◌}
use mathlib.Core.Path.{◌≡◌, refl, sym, ap, ◌∙◌}
use mathlib.Core.Bool.{Bool, true, false, cond}
use mathlib.Core.List.{List}
use lib.ListN.{length}
use lib.Dec.{ltb}
use native.Mathlib.Nat.{mod-eq_of_lt, div-eq_of_lt}
use native.Mathlib.Omega.{arith}
use borrow.Author.Tests.{lt-ltb, le-ltb}
use Rattle.length.specs.Answers.{done}
use Rattle.format.specs.Reading as reading
use Rattle.format.specs.Places.{Place, bits_at}
use Rattle.format.proofs.Laws.{parted}
use Rattle.packet_laws.specs.Octets.{bit_set_at, Narrow, root_at, added_at, value_at, plain_width}
use Rattle.packet_laws.proofs.AtValue.{bit-here, bits-here}
use Rattle.packet.specs.declared.types.Enumerated.{Enumerated}

-- the highest of some bits, and the others
pub record PartedAt (w : ℕ) (s : List ℕ) (p : Place) : Type 0 where
  pub first : bit_set_at s p ≡ ltb 0 (bits_at (w + 1) s p / 2 ^ w % 2)
  pub others : bits_at w s (p + 1) ≡ bits_at (w + 1) s p % 2 ^ w

pub parted-at : (w : ℕ) (s : List ℕ) (p : Place) → w ≤ 7 → p + (w + 1) ≤ 8 * length s → PartedAt w s p
parted-at w s p few inside =
    let v = bits_at (w + 1) s p in
    let n : w + 1 ≡ suc w = omega arith in
    let read = ap (λ (k : ℕ). reading.bits k s 0 p) (sym n) ∙ bits-here s 0 p (w + 1) (omega arith) inside in
    let parts = parted w s 0 p v (p + (w + 1)) read in
    let bit = bit-here s 0 p (omega arith) in
    let rest = bits-here s 0 (p + 1) w (omega arith) (omega arith) in
    let one : 1 + p ≡ p + 1 = omega arith in
    let first : ltb 0 (v / 2 ^ w % 2) ≡ bit_set_at s p = cc (parts.first, bit) in
    let others : v % 2 ^ w ≡ bits_at w s (p + 1) = cc (parts.others, rest, one) in
    record { first = sym first; others = sym others }

module _ (e : Enumerated) (narrow : Narrow e) (i : ℕ) (s : List ℕ) (p : Place) where
  plain-root : (q : Place) (v : ℕ) → q + e.width ≤ 8 * length s → bits_at e.width s q ≡ v → v < e.assigned
      → root_at e i s q ≡ done (record { value = v; next = q + e.width })
  unfolding root_at
  plain-root q v inside is known = rw (le-ltb (8 * length s) (q + e.width) inside, is, lt-ltb v e.assigned known)

  -- a value before the extension mark, as one number with the bit for extension
  pub plain_at : p + plain_width e ≤ 8 * length s → bits_at (plain_width e) s p < e.assigned
      → value_at e i s p ≡ done (record { value = bits_at (plain_width e) s p; next = p + plain_width e })
  unfolding value_at
  plain_at = by e.extensible where
    next : p + 1 + e.width ≡ p + (e.width + 1)
    next = omega arith

    by : (x : Bool)
        → p + cond x (e.width + 1) e.width ≤ 8 * length s → bits_at (cond x (e.width + 1) e.width) s p < e.assigned
        → cond x (cond (bit_set_at s p) (added_at e i s (p + 1)) (root_at e i s (p + 1))) (root_at e i s p)
        ≡ done (record { value = bits_at (cond x (e.width + 1) e.width) s p; next = p + cond x (e.width + 1) e.width })
    by true inside known =
        let v = bits_at (e.width + 1) s p in
        let parts = parted-at e.width s p (omega (arith, narrow.few)) inside in
        let small : v < 2 ^ e.width = omega (arith, narrow.sound.wide) in
        let clear : bit_set_at s p ≡ false = parts.first ∙ ap (λ (x : ℕ). ltb 0 (x % 2)) (div-eq_of_lt small) in
        rw clear
        (plain-root (p + 1) v (omega arith) (parts.others ∙ mod-eq_of_lt small) known
        ∙ ap (λ (q : ℕ). done (record { value = bits_at (e.width + 1) s p; next = q })) next)
    by false inside known = plain-root p (bits_at e.width s p) inside refl known
