-- A wrong item stays wrong: refused for another reason than 1, octets are refused for the same reason whatever follows. Assumes
-- nothing.
use Prim.Native.Nat.{ℕ, suc, ◌*◌, ◌≤◌}
use mathlib.Core.Path.{◌≡◌, refl, sym, ap, ◌∙◌}
use mathlib.Core.Logic.{◌⊎◌, inl, inr, ◌≢◌}
use mathlib.Core.Bool.{Bool, true, false, ◌&&◌}
use mathlib.Core.List.{List, [], ◌∷◌, ◌++◌}
use mathlib.Core.Option.{some}
use lib.ListN.{length}
use lib.Dec.{eqb}
use native.Mathlib.Omega.{arith}
use borrow.Author.Tests.{ne_eqb}
use Rattle.length.specs.Refusals.{ends_early}
use Rattle.length.specs.Tables.{first}
use Rattle.length.specs.declared.Reason.{Reason}
use Rattle.format.specs.Places.{Place}
use Rattle.packet.specs.Edition.{Edition}
use Rattle.packet.specs.Packet.{every, all_zero, may_follow}
use Rattle.packet_laws.specs.Octets.{NarrowEdition}
use Rattle.packet.specs.declared.types.Ending.{Ending}
use Rattle.packet.specs.declared.types.Ending.TheVariants.{Whole, Repaired}
use Rattle.demands.specs.Demand1.PacketItems.{Item, end, octets_from, rows}
use Rattle.demands.specs.Demand1.PacketRefusals.{FirstWrong}
use Rattle.demands.proofs.PacketRows.{same_reason, end-wrong, wrong-end}
use Rattle.demands.proofs.PacketPlaces.{stands, due-inside}
use Rattle.demands.proofs.PacketInFront.{from_front}
use Rattle.demands.proofs.PacketFronts.{same_first, due-more}

-- ---- what is left over
zeros-fewer : (rest more : List ℕ) → all_zero rest ≡ false → all_zero (rest ++ more) ≡ false
unfolding every
zeros-fewer [] more e = let z : ◌≡◌ {A = ℕ} 0 1 = cc in absurd (omega arith)
zeros-fewer (x ∷ rest) more e =
    by (eqb x 0) (every (λ y. eqb y 0) rest) (every (λ y. eqb y 0) (rest ++ more)) (zeros-fewer rest more) e where
      by : (b c d : Bool) → (c ≡ false → d ≡ false) → (b && c) ≡ false → (b && d) ≡ false
      by true c d f e = f e
      by false c d f e = refl

left-more : (ending : Ending) (rest more : List ℕ) → may_follow ending rest ≡ false → may_follow ending (rest ++ more) ≡ false
left-more Whole [] more e = let z : ◌≡◌ {A = ℕ} 0 1 = cc in absurd (omega arith)
left-more Whole (x ∷ rest) more e = ne_eqb (suc (length (rest ++ more))) 0 (λ same. omega arith)
left-more Repaired rest more e = zeros-fewer rest more e

end_stays : (edition : Edition) (ending : Ending) (w more : List ℕ) (p : Place) (n : Reason) → p ≤ 8 * length w
    → first (rows edition ending end w p) ≡ some n
    → first (rows edition ending end (w ++ more) p) ≡ some n
end_stays edition ending w more p n inside e =
    let left = end-wrong edition ending w p n e in
    wrong-end edition ending (w ++ more) p
    (ap (λ (l : List ℕ). may_follow ending l) (from_front w more p inside) ∙ left-more ending (octets_from w p) more left.0)
    ∙ ap (λ (k : Reason). some k) left.1

-- ---- the first wrong item
pub wrong-more : {edition : Edition} → NarrowEdition edition → (ending : Ending) (w more : List ℕ) (n : Reason) → n ≢ ends_early
    → FirstWrong edition ending w n → FirstWrong edition ending (w ++ more) n
wrong-more {edition} narrow ending w more n apart f =
    record {
      item = f.item;
      place = f.place;
      due = due-more narrow f.due more;
      wrong = by (same_first narrow ending f.item w more f.place
          (stands f.due) (due-inside f.due) (λ cut. apart (same_reason (sym f.wrong ∙ cut))));
    } where
      by : (f.item ≡ end)
          ⊎ (first (rows edition ending f.item (w ++ more) f.place) ≡ first (rows edition ending f.item w f.place))
          → first (rows edition ending f.item (w ++ more) f.place) ≡ some n
      by (inl is-end) =
          ap (λ (i : Item). first (rows edition ending i (w ++ more) f.place)) is-end
          ∙ end_stays edition ending w more f.place n (due-inside f.due)
          (ap (λ (i : Item). first (rows edition ending i w f.place)) (sym is-end) ∙ f.wrong)
      by (inr same) = same ∙ f.wrong
