-- Fronts of packets, and what more octets change: an item that lies in a front is there as in the whole, and one that does not is cut
-- short there and refused with 1, so every proper front of a packet is. An item refused for another reason stays so whatever
-- follows. Assumes nothing.
use Prim.Native.Nat.{ℕ, ◌+◌, ◌*◌, ◌/◌, ◌≤◌, ◌<◌}
use mathlib.Core.Path.{◌≡◌, refl, sym, ap, subst, ◌∙◌}
use mathlib.Core.Logic.{◌⊎◌, inl, inr, ◌≢◌}
use mathlib.Core.Bool.{Bool, true, false, not, ◌&&◌}
use mathlib.Core.List.{List, [], ◌∷◌, ◌++◌}
use mathlib.Core.Option.{Option, none, some}
use lib.ListN.{length, get_or, length-drop}
use lib.Dec.{leb, ltb}
use native.Mathlib.Omega.{arith}
use borrow.Author.Tests.{lt-ltb, le-ltb, ltb-false}
use Rattle.octets.proofs.Laws.{below_or_not}
use Rattle.length.specs.Refusals.{ends_early, bad_form, outside_sizes, wrong_data}
use Rattle.length.specs.Length.{of_two, within}
use Rattle.length.specs.Tables.{when, first}
use Rattle.length.specs.declared.Reason.{Reason}
use Rattle.format.specs.Places.{Place}
use Rattle.packet.specs.Edition.{Edition, values}
use Rattle.packet.specs.Packet.{fields_least, fields_limit}
use Rattle.packet_laws.specs.Octets.{NarrowEdition, kind_of}
use Rattle.packet.specs.declared.types.PacketKind.{PacketKind}
use Rattle.packet.specs.declared.types.Ending.{Ending}
use Rattle.packet.specs.declared.types.Ending.TheVariants.{Whole}
use Rattle.demands.specs.Demand1.Refusals.{length_rows}
use Rattle.demands.specs.Demand1.PacketItems.{Item, first_value, fields_allowed, count_of_fields, header, padding, data_length, field_data}
use Rattle.demands.specs.Demand1.PacketItems.{end}
use Rattle.demands.specs.Demand1.PacketItems.{rows, value_ends, value_rows, octets_from, first_values, data_fits, ends, due_after, Due}
use Rattle.demands.specs.Demand1.PacketItems.{begins}
use Rattle.demands.specs.Demand1.PacketItems.{goes_on}
use Rattle.demands.specs.Demand1.PacketRefusals.{FirstWrong, CutValue}
use Rattle.demands.proofs.PacketRows.{not-both, given-row, not-cut, first-front, first-later, both-none}
use Rattle.demands.proofs.PacketPlaces.{Standing, stands, value-inside, ends_on, count_rows, count-rows, passed-count, count-passes}
use Rattle.demands.proofs.PacketPlaces.{due-inside}
use Rattle.demands.proofs.PacketValues.{cut-rows}
use Rattle.demands.proofs.PacketCutValues.{short_cut, whole-cut, value_stays}
use Rattle.demands.proofs.PacketInFront.{from_front, octet-front, kind-front, ends_there, ends-here, after_front, fits-front}
use Rattle.demands.proofs.PacketInFront.{item-rows}

-- ---- more octets after an item that is not cut short
-- a count cut after its first octet: if that is not refused with 1, the second octet does not matter
one-octet : (b d x y z : Bool) (table : List (Option Reason))
    → first (when b bad_form ∷ when (d && true) ends_early ∷ when (d && y) bad_form ∷ table) ≢ some ends_early
    → first (when b bad_form ∷ when (d && x) ends_early ∷ when (d && z) bad_form ∷ table)
    ≡ first (when b bad_form ∷ when (d && true) ends_early ∷ when (d && y) bad_form ∷ table)
unfolding first
one-octet true d x y z table apart = refl
one-octet false true x y z table apart = absurd (apart refl)
one-octet false false x y z table apart = refl

count-stays : (rest more : List ℕ) → first (count_rows rest) ≢ some ends_early → first (count_rows (rest ++ more)) ≡ first (count_rows rest)
unfolding count_rows length_rows first
count-stays [] more apart = absurd (apart refl)
count-stays (a ∷ []) more apart =
    let some-there = le-ltb (length (a ∷ more)) 1 (omega arith) in
    rw some-there
    (one-octet (leb 0xC0 a) (leb 0x80 a) (ltb (length (a ∷ more)) 2) (ltb (of_two a 0) 0x80) (ltb (of_two a (get_or more 0 0)) 0x80)
    (when (not (within fields_least fields_limit a)) outside_sizes ∷ []) apart)
count-stays (a ∷ b ∷ rest) more apart =
    rw (
      le-ltb (length (a ∷ b ∷ (rest ++ more))) 1 (omega arith),
      le-ltb (length (a ∷ b ∷ rest)) 1 (omega arith),
      le-ltb (length (a ∷ b ∷ (rest ++ more))) 2 (omega arith),
      le-ltb (length (a ∷ b ∷ rest)) 2 (omega arith),
    )

-- a value, and a header
first-stays : {edition : Edition} → NarrowEdition edition → (ending : Ending) (w more : List ℕ) (p : Place)
    → first (rows edition ending first_value w p) ≢ some ends_early
    → first (rows edition ending first_value (w ++ more) p) ≡ first (rows edition ending first_value w p)
unfolding rows
first-stays {edition} narrow ending w more p apart = by (below_or_not 1 (8 * length w)) where
  by : (1 < 8 * length w) ⊎ (8 * length w ≤ 1)
      → first (value_rows (first_values edition (w ++ more)) (w ++ more) (p + 2)) ≡ first (value_rows (first_values edition w) w (p + 2))
  by (inl there) =
      ap (λ (k : PacketKind). first (value_rows (values edition k) (w ++ more) (p + 2))) (kind-front w more there)
      ∙ value_stays (first_values edition w) (narrow.of_kind (kind_of w)) w more (p + 2) apart
  by (inr none-there) =
      absurd (apart (cut-rows (first_values edition w) w (p + 2)
      (short_cut (first_values edition w) (narrow.of_kind (kind_of w)) w (p + 2) (omega arith))))

header-stays : {edition : Edition} → NarrowEdition edition → (ending : Ending) (left : ℕ) (w more : List ℕ) (p : Place)
    → first (rows edition ending (header left) w p) ≢ some ends_early
    → first (rows edition ending (header left) (w ++ more) p) ≡ first (rows edition ending (header left) w p)
unfolding rows
header-stays {edition} narrow ending left w more p apart = by (first (value_rows edition.types w (p + 1))) refl where
  same : first (value_rows edition.types (w ++ more) (p + 1)) ≡ first (value_rows edition.types w (p + 1))
  same = value_stays edition.types narrow.of_types w more (p + 1) (λ cut. apart (first-front _ _ ends_early cut))

  by : (o : Option Reason) → first (value_rows edition.types w (p + 1)) ≡ o
      → first (value_rows edition.types (w ++ more) (p + 1) ++ (when (not (data_fits edition (w ++ more) p)) wrong_data ∷ []))
      ≡ first (value_rows edition.types w (p + 1) ++ (when (not (data_fits edition w p)) wrong_data ∷ []))
  by (some n) given = first-front _ _ n (same ∙ given) ∙ sym (first-front _ _ n given)
  by none passed =
      first-later _ _ (same ∙ passed)
      ∙ ap (λ (b : Bool). first (when (not b) wrong_data ∷ [])) (fits-front narrow w more p (value-inside edition.types w (p + 1) passed))
      ∙ sym (first-later _ _ passed)

-- an item in a front that is not refused with 1 there: its table gives the same with octets more. (The end is never cut short)
module _ {edition : Edition} (narrow : NarrowEdition edition) where
  inside-same : (ending : Ending) (item : Item) (w more : List ℕ) (p : Place) → Standing item p → p ≤ 8 * length w
      → ends edition item w p ≤ 8 * length w → first (rows edition ending item w p) ≢ some ends_early
      → (item ≡ end) ⊎ (first (rows edition ending item (w ++ more) p) ≡ first (rows edition ending item w p))
  inside-same ending item w more p at begun inside apart = by (item-rows narrow w more p ending item at begun inside) where
    count : (item ≡ count_of_fields) → first (rows edition ending item (w ++ more) p) ≡ first (rows edition ending item w p)
    count is =
        let there : first (count_rows (octets_from w p)) ≢ some ends_early =
        λ e. apart (ap (λ (i : Item). first (rows edition ending i w p)) is ∙ ap first (count-rows edition ending w p) ∙ e) in
        ap (λ (i : Item). first (rows edition ending i (w ++ more) p)) is ∙ ap first (count-rows edition ending (w ++ more) p)
        ∙ ap (λ (l : List ℕ). first (count_rows l)) (from_front w more p begun)
        ∙ count-stays (octets_from w p) more there
        ∙ sym (ap (λ (i : Item). first (rows edition ending i w p)) is ∙ ap first (count-rows edition ending w p))

    by : (item ≡ end) ⊎ ((item ≡ count_of_fields) ⊎ (rows edition ending item (w ++ more) p ≡ rows edition ending item w p))
        → (item ≡ end) ⊎ (first (rows edition ending item (w ++ more) p) ≡ first (rows edition ending item w p))
    by (inl is-end) = inl is-end
    by (inr (inl is-count)) = inr (count is-count)
    by (inr (inr same)) = inr (ap first same)

  pub same_first : (ending : Ending) (item : Item) (w more : List ℕ) (p : Place) → Standing item p → p ≤ 8 * length w
      → first (rows edition ending item w p) ≢ some ends_early
      → (item ≡ end) ⊎ (first (rows edition ending item (w ++ more) p) ≡ first (rows edition ending item w p))
  unfolding rows count_rows length_rows Standing
  same_first ending first_value w more p at begun apart = inr (first-stays narrow ending w more p apart)
  same_first ending fields_allowed w more p at begun apart = inside-same ending fields_allowed w more p at begun begun apart
  same_first ending count_of_fields w more p at begun apart =
      let some = ltb-false (length (octets_from w p)) 1 (not-cut (ltb (length (octets_from w p)) 1) _ apart) in
      inside-same ending count_of_fields w more p at begun (omega (arith, length-drop (p / 8) w)) apart
  same_first ending (header left) w more p at begun apart = inr (header-stays narrow ending left w more p apart)
  same_first ending (padding next) w more p at begun apart = inside-same ending (padding next) w more p at begun (omega arith) apart
  same_first ending (data_length left) w more p at begun apart =
      inside-same ending (data_length left) w more p at begun
      (ltb-false (8 * length w) (p + 16) (not-cut (ltb (8 * length w) (p + 16)) _ apart)) apart
  same_first ending (field_data size left) w more p at begun apart =
      inside-same ending (field_data size left) w more p at begun
      (ltb-false (8 * length w) (p + 8 * size) (not-cut (ltb (8 * length w) (p + 8 * size)) _ apart)) apart
  same_first ending end w more p at begun apart = inl refl

  -- the end stays where it is
  at-end : {s : List ℕ} {p : Place} {item : Item} → item ≡ end → Due edition s p item → (t u : List ℕ)
      → Due edition s (ends edition item u p) (due_after item t p)
  at-end {s} {p} is-end due t u =
      subst (λ (i : Item). Due edition s (ends edition i u p) (due_after i t p)) (sym is-end)
      (subst (λ (i : Item). Due edition s p i) is-end due)

  pub due-more : {w : List ℕ} {p : Place} {item : Item} → Due edition w p item → (more : List ℕ) → Due edition (w ++ more) p item
  due-more begins more = begins
  due-more {w} (goes_on {p} {item} due passed) more =
      by (due-more due more) (same_first Whole item w more p (stands due) (due-inside due) (λ cut. not-both passed cut)) where
        by : Due edition (w ++ more) p item
            → (item ≡ end) ⊎ (first (rows edition Whole item (w ++ more) p) ≡ first (rows edition Whole item w p))
            → Due edition (w ++ more) (ends edition item w p) (due_after item w p)
        by d (inl is-end) = at-end is-end d w w
        by d (inr same) =
            let inside = due-inside (goes_on due passed) in
            subst (λ (q : Place). Due edition (w ++ more) q (due_after item w p)) (ends_there narrow w more p item inside)
            (subst (λ (i : Item). Due edition (w ++ more) (ends edition item (w ++ more) p) i)
            (after_front narrow w more p item (stands due) (due-inside due) inside)
            (goes_on d (same ∙ passed)))

  -- ---- the items that lie in a front
  -- one that is not refused in the whole and does not lie in the front is cut short there
  cut-given : (ending : Ending) (item : Item) (w more : List ℕ) (p : Place) → Standing item p → p ≤ 8 * length w
      → first (rows edition Whole item (w ++ more) p) ≡ none → 8 * length w < ends edition item (w ++ more) p
      → first (rows edition ending item w p) ≡ some ends_early
  unfolding rows length_rows Standing
  cut-given ending first_value w more p at begun passed over =
      cut-rows (first_values edition w) w (p + 2) (by (below_or_not 1 (8 * length w))) where
        by : (1 < 8 * length w) ⊎ (8 * length w ≤ 1) → CutValue (first_values edition w) w (p + 2)
        by (inl there) =
            let same = kind-front w more there in
            whole-cut (first_values edition w) (narrow.of_kind (kind_of w)) w more (p + 2)
            (ap (λ (k : PacketKind). first (value_rows (values edition k) (w ++ more) (p + 2))) (sym same) ∙ passed)
            (subst (λ (k : PacketKind). 8 * length w < value_ends (values edition k) (w ++ more) (p + 2)) same over)
        by (inr none-there) = short_cut (first_values edition w) (narrow.of_kind (kind_of w)) w (p + 2) (omega arith)
  cut-given ending fields_allowed w more p at begun passed over = absurd (omega arith)
  cut-given ending count_of_fields w more p at begun passed over =
      given-row _ ends_early _ (lt-ltb (length (octets_from w p)) 1 (omega (arith, length-drop (p / 8) w)))
  cut-given ending (header left) w more p at begun passed over =
      let e = edition.types in
      first-front _ _ ends_early
      (cut-rows e w (p + 1)
      (whole-cut e narrow.of_types w more (p + 1) (both-none (value_rows e (w ++ more) (p + 1)) _ passed).0 over))
  cut-given ending (padding next) w more p at begun passed over = absurd (omega arith)
  cut-given ending (data_length left) w more p at begun passed over = given-row _ ends_early _ (lt-ltb (8 * length w) (p + 16) over)
  cut-given ending (field_data size left) w more p at begun passed over =
      given-row _ ends_early _ (lt-ltb (8 * length w) (p + 8 * size) over)
  cut-given ending end w more p at begun passed over = absurd (omega arith)

  -- and one that does is there as in the whole
  passes-front : (item : Item) (w more : List ℕ) (p : Place) → Standing item p → p ≤ 8 * length w → ends edition item w p ≤ 8 * length w
      → first (rows edition Whole item (w ++ more) p) ≡ none → (item ≡ end) ⊎ (first (rows edition Whole item w p) ≡ none)
  passes-front item w more p at begun inside passed = by (item-rows narrow w more p Whole item at begun inside) where
    count : item ≡ count_of_fields → first (rows edition Whole item w p) ≡ none
    count is =
        let whole : first (count_rows (octets_from (w ++ more) p)) ≡ none =
        sym (ap (λ (i : Item). first (rows edition Whole i (w ++ more) p)) is ∙ ap first (count-rows edition Whole (w ++ more) p))
        ∙ passed in
        let inside-there : p + 8 ≤ 8 * length w = subst (λ (i : Item). ends edition i w p ≤ 8 * length w) is inside in
        let sizes = ap (λ (o : ℕ). within fields_least fields_limit o) (sym (octet-front w more p 0 (omega arith)))
        ∙ (passed-count (octets_from (w ++ more) p) whole).sizes in
        ap (λ (i : Item). first (rows edition Whole i w p)) is ∙ ap first (count-rows edition Whole w p)
        ∙ count-passes (octets_from w p) (record { some = there inside-there; sizes = sizes }) where
          there : p + 8 ≤ 8 * length w → 1 ≤ length (octets_from w p)
          there inside = omega (arith, length-drop (p / 8) w)

    by : (item ≡ end) ⊎ ((item ≡ count_of_fields) ⊎ (rows edition Whole item (w ++ more) p ≡ rows edition Whole item w p))
        → (item ≡ end) ⊎ (first (rows edition Whole item w p) ≡ none)
    by (inl is-end) = inl is-end
    by (inr (inl is-count)) = inr (count is-count)
    by (inr (inr same)) = inr (sym (ap first same) ∙ passed)

  -- an item that is due in the whole is due in the front too, or lies behind an item that is cut short there
  pub in-front : (ending : Ending) (w more : List ℕ) {q : Place} {item : Item} → Due edition (w ++ more) q item
      → Due edition w q item ⊎ ((8 * length w < q) × FirstWrong edition ending w ends_early)
  in-front ending w more begins = inl begins
  in-front ending w more (goes_on {p} {item} due passed) = by (in-front ending w more due) where
    After : Type 0
    After = Due edition w (ends edition item (w ++ more) p) (due_after item (w ++ more) p)

    on : Due edition w p item → ends edition item (w ++ more) p ≤ 8 * length w → After
    on d inside = go (passes-front item w more p (stands d) (due-inside d) within-w passed) where
      within-w : ends edition item w p ≤ 8 * length w
      within-w = subst (λ (q : Place). q ≤ 8 * length w) (sym (ends-here narrow w more p item inside)) inside

      go : (item ≡ end) ⊎ (first (rows edition Whole item w p) ≡ none) → After
      go (inl is-end) = at-end is-end d (w ++ more) (w ++ more)
      go (inr there) =
          subst (λ (q : Place). Due edition w q (due_after item (w ++ more) p)) (ends-here narrow w more p item inside)
          (subst (λ (i : Item). Due edition w (ends edition item w p) i)
          (sym (after_front narrow w more p item (stands d) (due-inside d) within-w)) (goes_on d there))

    here : Due edition w p item → (8 * length w < ends edition item (w ++ more) p) ⊎ (ends edition item (w ++ more) p ≤ 8 * length w)
        → After ⊎ ((8 * length w < ends edition item (w ++ more) p) × FirstWrong edition ending w ends_early)
    here d (inl over) =
        inr
        (over, record { item = item; place = p; due = d; wrong = cut-given ending item w more p (stands d) (due-inside d) passed over })
    here d (inr inside) = inl (on d inside)

    by : Due edition w p item ⊎ ((8 * length w < p) × FirstWrong edition ending w ends_early)
        → After ⊎ ((8 * length w < ends edition item (w ++ more) p) × FirstWrong edition ending w ends_early)
    by (inl d) = here d (below_or_not (8 * length w) (ends edition item (w ++ more) p))
    by (inr cut) = inr (omega (arith, cut.0, ends_on edition item (w ++ more) p), cut.1)
