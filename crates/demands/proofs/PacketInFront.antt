-- An item that lies in a front of a packet is there as in the whole: where it ends, what is due after it, and its table. Assumes nothing.
use Prim.Native.Nat.{ℕ, ◌+◌, ◌*◌, ◌/◌, ◌≤◌, ◌<◌}
use mathlib.Core.Path.{◌≡◌, refl, sym, ap, ◌∙◌}
use mathlib.Core.Logic.{◌⊎◌, inl, inr}
use mathlib.Core.Bool.{Bool, not, cond}
use mathlib.Core.List.{List, [], ◌∷◌, ◌++◌}
use mathlib.Core.Option.{Option}
use lib.ListN.{length, get_or, length-drop, get_or-append}
use lib.Seq.{drop-append-le}
use native.Mathlib.Omega.{arith}
use Rattle.length.specs.Refusals.{wrong_data}
use Rattle.length.specs.Tables.{when}
use Rattle.length.specs.declared.Reason.{Reason}
use Rattle.format.specs.Spelling.{gap}
use Rattle.format.specs.Places.{Place}
use Rattle.format.proofs.Laws.{bits-more, gap-past}
use Rattle.packet.specs.Edition.{Edition, values}
use Rattle.packet.specs.Packet.{right_data, right_fields}
use Rattle.packet_laws.specs.Octets.{NarrowEdition, bit_set_at, kind_of}
use Rattle.packet.specs.declared.types.PacketKind.{PacketKind}
use Rattle.packet.specs.declared.types.PacketKind.TheVariants.{Indicator, Data}
use Rattle.packet.specs.declared.types.Ending.{Ending}
use Rattle.demands.specs.Demand1.PacketItems.{Item, first_value, fields_allowed, count_of_fields, header, padding, data_length, field_data}
use Rattle.demands.specs.Demand1.PacketItems.{end}
use Rattle.demands.specs.Demand1.PacketItems.{fields, rows, value_in, value_ends, value_rows, octets_from, has_fields, first_values}
use Rattle.demands.specs.Demand1.PacketItems.{data_fits, ends}
use Rattle.demands.specs.Demand1.PacketItems.{due_after}
use Rattle.demands.proofs.PacketPlaces.{Standing, value_on}
use Rattle.demands.proofs.PacketValues.{bit-front, cut-front, ends-front, ends-whole, value-front, rows-front}

module _ (w more : List ℕ) (p : Place) where
  pub from_front : p ≤ 8 * length w → octets_from (w ++ more) p ≡ octets_from w p ++ more
  from_front inside = drop-append-le (p / 8) w more (omega arith)

  pub octet-front : (i : ℕ) → p + 8 * i + 8 ≤ 8 * length w → get_or (octets_from (w ++ more) p) i 0 ≡ get_or (octets_from w p) i 0
  octet-front i inside =
      ap (λ (l : List ℕ). get_or l i 0) (from_front (omega arith))
      ∙ get_or-append (octets_from w p) more 0 i (omega (arith, length-drop (p / 8) w))

-- the kind stands in the first octet
pub kind-front : (w more : List ℕ) → 1 < 8 * length w → kind_of (w ++ more) ≡ kind_of w
kind-front w more inside = ap (λ (b : Bool). cond b Data Indicator) (bit-front w more 1 inside)

module _ {edition : Edition} (narrow : NarrowEdition edition) (w more : List ℕ) (p : Place) where
  -- where it ends, if that lies in the front or in the front's part of the whole
  pub ends_there : (item : Item) → ends edition item w p ≤ 8 * length w → ends edition item (w ++ more) p ≡ ends edition item w p
  ends_there first_value inside =
      ap (λ (k : PacketKind). value_ends (values edition k) (w ++ more) (p + 2))
      (kind-front w more (omega (arith, inside, value_on (first_values edition w) w (p + 2))))
      ∙ ends-front (first_values edition w) (narrow.of_kind (kind_of w)) w more (p + 2) inside
  ends_there fields_allowed inside = refl
  ends_there count_of_fields inside = refl
  ends_there (header left) inside = ends-front edition.types narrow.of_types w more (p + 1) inside
  ends_there (padding next) inside = refl
  ends_there (data_length left) inside = refl
  ends_there (field_data size left) inside = refl
  ends_there end inside = refl

  pub ends-here : (item : Item) → ends edition item (w ++ more) p ≤ 8 * length w → ends edition item w p ≡ ends edition item (w ++ more) p
  ends-here first_value inside =
      let whole = first_values edition (w ++ more) in
      ap (λ (k : PacketKind). value_ends (values edition k) w (p + 2))
      (sym (kind-front w more (omega (arith, inside, value_on whole (w ++ more) (p + 2)))))
      ∙ ends-whole whole (narrow.of_kind (kind_of (w ++ more))) w more (p + 2) inside
  ends-here fields_allowed inside = refl
  ends-here count_of_fields inside = refl
  ends-here (header left) inside = ends-whole edition.types narrow.of_types w more (p + 1) inside
  ends-here (padding next) inside = refl
  ends-here (data_length left) inside = refl
  ends-here (field_data size left) inside = refl
  ends-here end inside = refl

  pub after_front : (item : Item) → Standing item p → p ≤ 8 * length w → ends edition item w p ≤ 8 * length w
      → due_after item (w ++ more) p ≡ due_after item w p
  unfolding Standing
  after_front first_value at begun inside = refl
  after_front fields_allowed at begun inside =
      ap (λ (b : Bool). cond b count_of_fields (padding end)) (bit-front w more 0 (omega (arith, at.1, inside)))
  after_front count_of_fields at begun inside = rw (octet-front w more p 0 (omega arith))
  after_front (header left) at begun inside =
      ap (λ (b : Bool). cond b (padding (data_length left)) (fields left))
      (bit-front w more p (omega (arith, inside, value_on edition.types w (p + 1))))
  after_front (padding next) at begun inside = refl
  after_front (data_length left) at begun inside = rw (octet-front w more p 0 (omega arith), octet-front w more p 1 (omega arith))
  after_front (field_data size left) at begun inside = refl
  after_front end at begun inside = refl

  pub fits-front : value_ends edition.types w (p + 1) ≤ 8 * length w → data_fits edition (w ++ more) p ≡ data_fits edition w p
  fits-front inside =
      ap (λ (b : Bool). right_data edition (value_in edition.types (w ++ more) (p + 1)) b)
      (bit-front w more p (omega (arith, inside, value_on edition.types w (p + 1))))
      ∙ ap (λ (v : ℕ). right_data edition v (bit_set_at w p)) (value-front edition.types narrow.of_types w more (p + 1) inside)

  -- the count and the end look further
  pub item-rows : (ending : Ending) (item : Item) → Standing item p → p ≤ 8 * length w → ends edition item w p ≤ 8 * length w
      → (item ≡ end) ⊎ ((item ≡ count_of_fields) ⊎ (rows edition ending item (w ++ more) p ≡ rows edition ending item w p))
  unfolding rows Standing
  item-rows ending first_value at begun inside =
      inr (inr
      (ap (λ (k : PacketKind). value_rows (values edition k) (w ++ more) (p + 2))
      (kind-front w more (omega (arith, inside, value_on (first_values edition w) w (p + 2))))
      ∙ rows-front (first_values edition w) (narrow.of_kind (kind_of w)) w more (p + 2) inside))
  item-rows ending fields_allowed at begun inside =
      inr (inr
      (ap (λ (k : PacketKind). when (not (right_fields k (has_fields (w ++ more)))) wrong_data ∷ [])
      (kind-front w more (omega (arith, at, inside)))
      ∙ ap (λ (b : Bool). when (not (right_fields (kind_of w) b)) wrong_data ∷ []) (bit-front w more 0 (omega (arith, at, inside)))))
  item-rows ending count_of_fields at begun inside = inr (inl refl)
  item-rows ending (header left) at begun inside =
      inr (inr
      (ap (λ (table : List (Option Reason)). table ++ (when (not (data_fits edition (w ++ more) p)) wrong_data ∷ []))
      (rows-front edition.types narrow.of_types w more (p + 1) inside)
      ∙ ap (λ (b : Bool). value_rows edition.types w (p + 1) ++ (when (not b) wrong_data ∷ [])) (fits-front inside)))
  item-rows ending (padding next) at begun inside =
      inr (inr (rw (bits-more (gap p) w more p (omega arith) (omega (arith, gap-past p)))))
  item-rows ending (data_length left) at begun inside =
      inr (inr (rw (cut-front w more (p + 16) inside, octet-front w more p 0 (omega arith), octet-front w more p 1 (omega arith))))
  item-rows ending (field_data size left) at begun inside = inr (inr (rw (cut-front w more (p + 8 * size) inside)))
  item-rows ending end at begun inside = inl refl
