-- A value of an ENUMERATED type in a packet: what it is refused for, and what more octets change. One that lies in a front is there as in
-- the whole, and one that does not is cut short there. Assumes nothing.
use Prim.Native.Nat.{ℕ, ◌+◌, ◌*◌, ◌≤◌, ◌<◌}
use mathlib.Core.Path.{◌≡◌, refl, sym, ap, subst, ◌∙◌}
use mathlib.Core.Logic.{◌⊎◌, inl, inr}
use mathlib.Core.Bool.{Bool, true, false, not, cond, ◌&&◌}
use mathlib.Core.List.{List, [], ◌∷◌, ◌++◌}
use mathlib.Core.Option.{Option, some}
use lib.ListN.{length, length-append}
use lib.Dec.{ltb}
use native.Mathlib.Omega.{arith}
use borrow.Author.Tests.{lt-ltb, le-ltb, ltb-true, ltb-false, not-true}
use Rattle.octets.proofs.Laws.{below_or_not}
use Rattle.length.specs.Refusals.{ends_early, not_assigned}
use Rattle.length.specs.Tables.{when, first}
use Rattle.length.specs.declared.Reason.{Reason}
use Rattle.format.specs.Places.{Place, bits_at}
use Rattle.format.proofs.Laws.{bits-more}
use Rattle.packet.specs.Edition.{added_width}
use Rattle.packet_laws.specs.Octets.{bit_set_at, Narrow}
use Rattle.packet.specs.declared.types.Enumerated.{Enumerated}
use Rattle.packet_laws.proofs.Laws.{bit_past}
use Rattle.demands.specs.Demand1.PacketItems.{is_added, behind_mark, value_in, value_ends, added_rows, root_rows, value_rows}
use Rattle.demands.specs.Demand1.PacketRefusals.{CutValue, Unassigned, none_added, not_zero, past_added, past_root}
use Rattle.demands.proofs.PacketRows.{past_row, given-row, row, last}

pub clash : {A : Type 0} {b : Bool} → b ≡ true → b ≡ false → A
clash on off = let z : ◌≡◌ {A = ℕ} 0 1 = cc in absurd (omega arith)

-- ---- what a value is refused for
module _ (e : Enumerated) (s : List ℕ) (p : Place) where
  -- the place at which it ends, by whether it is an added one
  unfoldable pub ends_by : Bool → Place
  ends_by added = cond added (p + 1 + 1 + added_width) (behind_mark e p + e.width)

  unfoldable pub rows_by : Bool → List (Option Reason)
  rows_by added = cond added (added_rows e s (p + 1)) (root_rows e s (behind_mark e p))

  -- each row is one of the two cases
  pub value-wrong : (Case : Reason → Type 0) → (CutValue e s p → Case ends_early) → (Unassigned e s p → Case not_assigned) → (n : Reason)
      → first (value_rows e s p) ≡ some n → Case n
  unfolding value_rows ends_by rows_by
  value-wrong Case cut wrong n = by (is_added e s p) refl where
    by : (b : Bool) → is_added e s p ≡ b → first (rows_by b) ≡ some n → Case n
    by true is =
        let there : (q : Place) → q ≡ ends_by true → q ≡ value_ends e s p = λ q same. same ∙ ap ends_by (sym is) in
        let end : p + 1 + 1 + added_width ≡ value_ends e s p = there (p + 1 + 1 + added_width) refl in
        row Case (ltb e.added 1) not_assigned n _ (λ few. wrong (none_added is (ltb-true e.added 1 few)))
        (λ some.
        row Case (bit_set_at s (p + 1)) not_assigned n _ (λ one. wrong (not_zero is one))
        (λ zero.
        row Case (ltb (8 * length s) (p + 1 + 1 + added_width)) ends_early n _
        (λ short.
        cut (record {
          cut = subst (λ (q : Place). 8 * length s < q) end (ltb-true (8 * length s) (p + 1 + 1 + added_width) short);
          right_so_far = λ _. (ltb-false e.added 1 some, zero);
        }))
        (λ all.
        last Case (not (ltb (bits_at added_width s (p + 1 + 1)) e.added)) not_assigned n
        (λ past.
        wrong (past_added is (subst (λ (q : Place). q ≤ 8 * length s) end (ltb-false (8 * length s) (p + 1 + 1 + added_width) all))
        (ltb-false _ e.added (not-true (ltb (bits_at added_width s (p + 1 + 1)) e.added) past)))))))
    by false is =
        let q = behind_mark e p + e.width in
        let end : behind_mark e p + e.width ≡ value_ends e s p = ap ends_by (sym is) in
        row Case (ltb (8 * length s) q) ends_early n _
        (λ short.
        cut (record {
          cut = subst (λ (q : Place). 8 * length s < q) end (ltb-true (8 * length s) q short);
          right_so_far = λ on. clash on is;
        }))
        (λ all.
        last Case (not (ltb (bits_at e.width s (behind_mark e p)) e.assigned)) not_assigned n
        (λ past.
        wrong (past_root is (subst (λ (q : Place). q ≤ 8 * length s) end (ltb-false (8 * length s) q all))
        (ltb-false _ e.assigned (not-true (ltb (bits_at e.width s (behind_mark e p)) e.assigned) past)))))

  -- and the other way round
  pub cut-rows : CutValue e s p → first (value_rows e s p) ≡ some ends_early
  unfolding value_rows ends_by rows_by
  cut-rows c = by (is_added e s p) refl where
    by : (b : Bool) → is_added e s p ≡ b → first (rows_by b) ≡ some ends_early
    by true is =
        let right = c.right_so_far is in
        let over = subst (λ (q : Place). 8 * length s < q) (ap ends_by is) c.cut in
        past_row (ltb e.added 1) not_assigned ends_early _ (le-ltb e.added 1 right.0)
        (past_row (bit_set_at s (p + 1)) not_assigned ends_early _ right.1
        (given-row (ltb (8 * length s) (p + 1 + 1 + added_width)) ends_early _ (lt-ltb (8 * length s) (p + 1 + 1 + added_width) over)))
    by false is =
        let over = subst (λ (q : Place). 8 * length s < q) (ap ends_by is) c.cut in
        given-row (ltb (8 * length s) (behind_mark e p + e.width)) ends_early _ (lt-ltb (8 * length s) (behind_mark e p + e.width) over)

  four : (b₁ b₂ b₃ b₄ : Bool) → (b₁ ≡ false → b₂ ≡ false → (b₃ ≡ false) × (b₄ ≡ true))
      → first (when b₁ not_assigned ∷ when b₂ not_assigned ∷ when b₃ ends_early ∷ when b₄ not_assigned ∷ []) ≡ some not_assigned
  unfolding first
  four true b₂ b₃ b₄ else = refl
  four false true b₃ b₄ else = refl
  four false false b₃ b₄ else = rw ((else refl refl).0, (else refl refl).1)

  added-wrong : is_added e s p ≡ true
      → (ltb e.added 1 ≡ false → bit_set_at s (p + 1) ≡ false
      → (ltb (8 * length s) (p + 1 + 1 + added_width) ≡ false) × (not (ltb (bits_at added_width s (p + 1 + 1)) e.added) ≡ true))
      → first (value_rows e s p) ≡ some not_assigned
  unfolding value_rows rows_by
  added-wrong is else =
      ap (λ (b : Bool). first (rows_by b)) is
      ∙ four (ltb e.added 1) (bit_set_at s (p + 1)) (ltb (8 * length s) (p + 1 + 1 + added_width))
      (not (ltb (bits_at added_width s (p + 1 + 1)) e.added)) else

  pub unassigned-rows : Unassigned e s p → first (value_rows e s p) ≡ some not_assigned
  unfolding value_rows ends_by rows_by
  unassigned-rows (none_added is few) = added-wrong is (λ some zero. clash (lt-ltb e.added 1 few) some)
  unassigned-rows (not_zero is one) = added-wrong is (λ some zero. clash one zero)
  unassigned-rows (past_added is all past) =
      let inside = subst (λ (q : Place). q ≤ 8 * length s) (ap ends_by is) all in
      added-wrong is
      (λ some zero.
      (le-ltb (8 * length s) (p + 1 + 1 + added_width) inside, ap not (le-ltb (bits_at added_width s (p + 1 + 1)) e.added past)))
  unassigned-rows (past_root is all past) =
      let inside = subst (λ (q : Place). q ≤ 8 * length s) (ap ends_by is) all in
      let q = behind_mark e p in
      ap (λ (b : Bool). first (rows_by b)) is
      ∙ past_row (ltb (8 * length s) (q + e.width)) ends_early not_assigned _ (le-ltb (8 * length s) (q + e.width) inside)
      (given-row (not (ltb (bits_at e.width s q) e.assigned)) not_assigned _
      (ap not (le-ltb (bits_at e.width s q) e.assigned past)))

-- ---- in a front
pub bit-front : (w more : List ℕ) (p : Place) → p < 8 * length w → bit_set_at (w ++ more) p ≡ bit_set_at w p
bit-front w more p inside = ap (ltb 0) (bits-more 1 w more p (omega arith) (omega arith))

pub cut-front : (w more : List ℕ) (q : Place) → q ≤ 8 * length w → ltb (8 * length (w ++ more)) q ≡ ltb (8 * length w) q
cut-front w more q inside =
    le-ltb (8 * length (w ++ more)) q (omega (arith, length-append w more)) ∙ sym (le-ltb (8 * length w) q inside)

-- a bit that is set is there
pub bit-there : (s : List ℕ) (p : Place) → bit_set_at s p ≡ true → p < 8 * length s
bit-there s p on = by (below_or_not p (8 * length s)) where
  by : (p < 8 * length s) ⊎ (8 * length s ≤ p) → p < 8 * length s
  by (inl there) = there
  by (inr past) = clash on (bit_past s 0 p past)

-- where there is a mark, its bit lies before the end
marked-on : (e : Enumerated) (s : List ℕ) (p : Place) → e.extensible ≡ true → p < value_ends e s p
marked-on e s p = by e.extensible (bit_set_at s p) where
  by : (x b : Bool) → x ≡ true → p < cond (x && b) (p + 1 + 1 + added_width) (cond x (p + 1) p + e.width)
  by true true is = omega arith
  by true false is = omega arith
  by false b is = clash is refl

pub and_same : (x b c : Bool) → (x ≡ true → b ≡ c) → (x && b) ≡ (x && c)
and_same true b c same = same refl
and_same false b c same = refl

pub and_parts : (x b : Bool) → (x && b) ≡ true → (x ≡ true) × (b ≡ true)
and_parts true b is = (refl, is)
and_parts false b is = clash is refl

module _ (e : Enumerated) (narrow : Narrow e) (w more : List ℕ) (p : Place) where
  added-front : value_ends e w p ≤ 8 * length w → is_added e (w ++ more) p ≡ is_added e w p
  added-front inside =
      and_same e.extensible (bit_set_at (w ++ more) p) (bit_set_at w p)
      (λ marked. bit-front w more p (omega (arith, inside, marked-on e w p marked)))

  pub ends-front : value_ends e w p ≤ 8 * length w → value_ends e (w ++ more) p ≡ value_ends e w p
  unfolding ends_by
  ends-front inside = ap (ends_by e w p) (added-front inside)

  pub ends-whole : value_ends e (w ++ more) p ≤ 8 * length w → value_ends e w p ≡ value_ends e (w ++ more) p
  unfolding ends_by
  ends-whole inside =
      ap (ends_by e w p)
      (and_same e.extensible (bit_set_at w p) (bit_set_at (w ++ more) p)
      (λ marked. sym (bit-front w more p (omega (arith, inside, marked-on e (w ++ more) p marked)))))

  -- what its bits say, and its table
  six-front : p + 1 + 1 + added_width ≤ 8 * length w → bits_at added_width (w ++ more) (p + 1 + 1) ≡ bits_at added_width w (p + 1 + 1)
  six-front inside = bits-more added_width w more (p + 1 + 1) (omega arith) (omega arith)

  root-front : behind_mark e p + e.width ≤ 8 * length w
      → bits_at e.width (w ++ more) (behind_mark e p) ≡ bits_at e.width w (behind_mark e p)
  root-front inside =
      let q = behind_mark e p in
      let few = narrow.few in
      bits-more e.width w more q (omega arith) (omega (arith, inside))

  pub value-front : value_ends e w p ≤ 8 * length w → value_in e (w ++ more) p ≡ value_in e w p
  unfolding ends_by
  value-front inside =
      ap (λ (b : Bool). cond b (e.assigned + bits_at added_width (w ++ more) (p + 1 + 1)) (bits_at e.width (w ++ more) (behind_mark e p)))
      (added-front inside)
      ∙ by (is_added e w p) inside where
        by : (b : Bool) → ends_by e w p b ≤ 8 * length w
            → cond b (e.assigned + bits_at added_width (w ++ more) (p + 1 + 1)) (bits_at e.width (w ++ more) (behind_mark e p))
            ≡ cond b (e.assigned + bits_at added_width w (p + 1 + 1)) (bits_at e.width w (behind_mark e p))
        by true inside = ap (λ (v : ℕ). e.assigned + v) (six-front inside)
        by false inside = root-front inside

  added-same : p + 1 + 1 + added_width ≤ 8 * length w → added_rows e (w ++ more) (p + 1) ≡ added_rows e w (p + 1)
  added-same inside =
      rw (bit-front w more (p + 1) (omega arith), cut-front w more (p + 1 + 1 + added_width) inside, six-front inside)

  pub rows-front : value_ends e w p ≤ 8 * length w → value_rows e (w ++ more) p ≡ value_rows e w p
  unfolding value_rows ends_by rows_by
  rows-front inside = ap (rows_by e (w ++ more) p) (added-front inside) ∙ by (is_added e w p) inside where
    by : (b : Bool) → ends_by e w p b ≤ 8 * length w → rows_by e (w ++ more) p b ≡ rows_by e w p b
    by true inside = added-same inside
    by false inside = rw (cut-front w more (behind_mark e p + e.width) inside, root-front inside)
