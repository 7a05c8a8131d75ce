-- A value that does not lie in a front of a packet: cut short there, it is refused with 1, and refused for another reason it stays so
-- whatever follows. Assumes nothing.
use Prim.Native.Nat.{ℕ, ◌+◌, ◌*◌, ◌≤◌, ◌<◌}
use mathlib.Core.Path.{◌≡◌, refl, sym, ap, subst, ◌∙◌}
use mathlib.Core.Logic.{◌⊎◌, inl, inr, ◌≢◌}
use mathlib.Core.Bool.{Bool, true, false, cond, ◌&&◌}
use mathlib.Core.List.{List, ◌++◌}
use mathlib.Core.Option.{none, some}
use lib.ListN.{length}
use lib.Dec.{ltb}
use native.Mathlib.Omega.{arith}
use borrow.Author.Tests.{ltb-true, ltb-false}
use Rattle.octets.proofs.Laws.{below_or_not}
use Rattle.length.specs.Refusals.{ends_early, not_assigned}
use Rattle.length.specs.Tables.{first}
use Rattle.format.specs.Places.{Place}
use Rattle.packet_laws.specs.Octets.{bit_set_at, Narrow}
use Rattle.packet.specs.declared.types.Enumerated.{Enumerated}
use Rattle.packet_laws.proofs.Laws.{bit_past}
use Rattle.demands.specs.Demand1.PacketItems.{is_added, behind_mark, value_ends, value_rows}
use Rattle.demands.specs.Demand1.PacketRefusals.{CutValue, Unassigned, none_added, not_zero}
use Rattle.demands.proofs.PacketRows.{none-given}
use Rattle.demands.proofs.PacketValues.{clash, ends_by, rows_by, cut-rows, unassigned-rows, bit-front, bit-there, and_same, and_parts}
use Rattle.demands.proofs.PacketValues.{rows-front}

-- a value that begins past the end
and-off : (x b : Bool) → b ≡ false → (x && b) ≡ false
and-off true b off = off
and-off false b off = refl

behind-mark : (e : Enumerated) (p : Place) → p ≤ behind_mark e p
behind-mark e p = by e.extensible where
  by : (x : Bool) → p ≤ cond x (p + 1) p
  by true = omega arith
  by false = omega arith

pub short_cut : (e : Enumerated) → Narrow e → (s : List ℕ) (p : Place) → 8 * length s ≤ p → CutValue e s p
unfolding ends_by
short_cut e narrow s p past =
    let is : is_added e s p ≡ false = and-off e.extensible (bit_set_at s p) (bit_past s 0 p past) in
    let over : 8 * length s < behind_mark e p + e.width = omega (arith, narrow.some, behind-mark e p) in
    record { cut = subst (λ (q : Place). 8 * length s < q) (ap (ends_by e s p) (sym is)) over; right_so_far = λ on. clash on is }

-- an added value that is not refused
passed-added : (e : Enumerated) (s : List ℕ) (p : Place) → first (value_rows e s p) ≡ none → is_added e s p ≡ true
    → (1 ≤ e.added) × (bit_set_at s (p + 1) ≡ false)
unfolding value_rows rows_by
passed-added e s p passed is =
    let given = ap (λ (b : Bool). first (rows_by e s p b)) (sym is) ∙ passed in
    let r₁ = none-given (ltb e.added 1) not_assigned _ given in
    let r₂ = none-given (bit_set_at s (p + 1)) not_assigned _ r₁.1 in
    (ltb-false e.added 1 r₁.0, r₂.0)

module _ (e : Enumerated) (narrow : Narrow e) (w more : List ℕ) (p : Place) where
  -- not refused in the whole and not all in the front: it is cut short there
  pub whole-cut : first (value_rows e (w ++ more) p) ≡ none → 8 * length w < value_ends e (w ++ more) p → CutValue e w p
  unfolding ends_by
  whole-cut passed over = by (below_or_not p (8 * length w)) where
    zero-there : bit_set_at (w ++ more) (p + 1) ≡ false → (p + 1 < 8 * length w) ⊎ (8 * length w ≤ p + 1) → bit_set_at w (p + 1) ≡ false
    zero-there off (inl there) = sym (bit-front w more (p + 1) there) ∙ off
    zero-there off (inr past) = bit_past w 0 (p + 1) past

    by : (p < 8 * length w) ⊎ (8 * length w ≤ p) → CutValue e w p
    by (inr past) = short_cut e narrow w p past
    by (inl there) =
        let same : is_added e w p ≡ is_added e (w ++ more) p =
        and_same e.extensible (bit_set_at w p) (bit_set_at (w ++ more) p) (λ _. sym (bit-front w more p there)) in
        record {
          cut = subst (λ (q : Place). 8 * length w < q) (ap (ends_by e w p) (sym same)) over;
          right_so_far = λ on.
              let right = passed-added e (w ++ more) p passed (sym same ∙ on) in
              (right.0, zero-there right.1 (below_or_not (p + 1) (8 * length w)));
        }

  -- not refused with 1: more octets change nothing
  pub value_stays : first (value_rows e w p) ≢ some ends_early → first (value_rows e (w ++ more) p) ≡ first (value_rows e w p)
  value_stays apart = by (below_or_not (8 * length w) (value_ends e w p)) where
    unassigned : Unassigned e (w ++ more) p → Unassigned e w p → first (value_rows e (w ++ more) p) ≡ first (value_rows e w p)
    unassigned whole front = unassigned-rows e (w ++ more) p whole ∙ sym (unassigned-rows e w p front)

    added : is_added e w p ≡ true → is_added e (w ++ more) p ≡ true
    added on =
        and_same e.extensible (bit_set_at (w ++ more) p) (bit_set_at w p)
        (λ _. bit-front w more p (bit-there w p (and_parts e.extensible (bit_set_at w p) on).1))
        ∙ on

    cut : 8 * length w < value_ends e w p → (few one : Bool) → ltb e.added 1 ≡ few → bit_set_at w (p + 1) ≡ one → (b : Bool)
        → is_added e w p ≡ b → first (value_rows e (w ++ more) p) ≡ first (value_rows e w p)
    cut over true one few-is one-is true on =
        let few = ltb-true e.added 1 few-is in
        unassigned (none_added (added on) few) (none_added on few)
    cut over false true few-is one-is true on =
        unassigned (not_zero (added on) (bit-front w more (p + 1) (bit-there w (p + 1) one-is) ∙ one-is)) (not_zero on one-is)
    cut over false false few-is one-is true on =
        absurd (apart (cut-rows e w p (record { cut = over; right_so_far = λ _. (ltb-false e.added 1 few-is, one-is) })))
    cut over few one few-is one-is false off =
        absurd (apart (cut-rows e w p (record { cut = over; right_so_far = λ on. clash on off })))

    by : (8 * length w < value_ends e w p) ⊎ (value_ends e w p ≤ 8 * length w)
        → first (value_rows e (w ++ more) p) ≡ first (value_rows e w p)
    by (inl over) = cut over (ltb e.added 1) (bit_set_at w (p + 1)) refl refl (is_added e w p) refl
    by (inr inside) = ap first (rows-front e narrow w more p inside)
