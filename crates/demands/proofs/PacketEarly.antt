-- Octets that end early: they are a front of a packet, since one can be finished wherever an item is missing or data is cut, unless they
-- end inside a value or a length. And every proper front of a packet ends early. Assumes nothing.
use Prim.Native.Nat.{ℕ, ◌+◌, ◌-◌, ◌*◌, ◌/◌, ◌%◌, ◌≤◌, ◌<◌}
use mathlib.Core.Path.{◌≡◌, refl, ap, subst, ◌∙◌}
use mathlib.Core.Logic.{◌⊎◌, inl, inr}
use mathlib.Core.List.{List, [], ◌∷◌, ◌++◌}
use mathlib.Core.Option.{some}
use lib.ListN.{length, get_or, replicate, length-append, length-replicate, length-drop}
use lib.Dec.{ltb}
use native.Mathlib.Omega.{arith}
use borrow.Author.Tests.{le-ltb, lt-ltb, le-leb, lt-leb}
use Rattle.octets.proofs.Laws.{below_or_not}
use Rattle.length.specs.Refusals.{ends_early}
use Rattle.length.specs.Tables.{first}
use Rattle.format.specs.Places.{Place}
use Rattle.packet.specs.Edition.{Edition, edition_of}
use Rattle.packet_laws.specs.Octets.{NarrowEdition}
use Rattle.packet.specs.declared.types.Ending.{Ending}
use Rattle.packet.specs.declared.types.Named.{Named}
use Rattle.packet_laws.proofs.Laws.{narrow}
use Rattle.demands.specs.Demand1.Refusals.{length_rows}
use Rattle.demands.specs.Demand1.PacketItems.{Item, first_value, count_of_fields, header, data_length, field_data, end, rows, first_values}
use Rattle.demands.specs.Demand1.PacketItems.{octets_from, octet_here, Due, begins}
use Rattle.demands.specs.Demand1.PacketRefusals.{FirstWrong, CutValue, EndsEarly, front, in_count, in_length, in_first, in_header}
use Rattle.demands.proofs.PacketRows.{given-row, first-front}
use Rattle.demands.proofs.PacketPlaces.{due-count, due-length, due-data, due-inside, count_rows, count-rows}
use Rattle.demands.proofs.PacketValues.{cut-rows}
use Rattle.demands.proofs.PacketInFront.{from_front}
use Rattle.demands.proofs.PacketFronts.{due-more, in-front}
use Rattle.demands.proofs.PacketFinish.{one-octet, zeros-octets, two-zeros, lacking, finish-data, finish-sized, finish-length}
use Rattle.demands.proofs.PacketFinish.{finish-header, finish-fields}
use Rattle.demands.proofs.PacketFinish.{finish-count, finish-first}

-- ---- the item that is missing or cut
-- it is due at the end
at-the-end : {edition : Edition} {s : List ℕ} {p : Place} {item : Item} → Due edition s p item → p ≡ 8 * length s
    → Due edition s (8 * length s) item
at-the-end {edition} {s} {item = item} due is = subst (λ (q : Place). Due edition s q item) is due

pub early-first : (named : Named) (s : List ℕ) → CutValue (first_values (edition_of named) s) s 2 → EndsEarly (edition_of named) s
early-first named [] cut = lacking [] (0 ∷ []) (one-octet 0 (omega arith)) (omega arith) (finish-first named)
early-first named (a ∷ s) cut = in_first (omega arith) cut

-- a count is missing, or cut after the first of its two octets
pub early-count : (named : Named) (s : List ℕ) (p : Place) → Due (edition_of named) s p count_of_fields → length (octets_from s p) < 1
    → EndsEarly (edition_of named) s
early-count named s p due none-there =
    let here = due-count due in
    let inside = due-inside due in
    lacking s (1 ∷ []) (one-octet 1 (omega arith)) (omega arith) (finish-count named s (at-the-end due (omega (arith, length-drop (p / 8) s))))

some-there : (rest : List ℕ) → 0x80 ≤ get_or rest 0 0 → 1 ≤ length rest
some-there [] high = absurd (omega arith)
some-there (a ∷ rest) high = omega arith

pub cut-count : (named : Named) (s : List ℕ) (p : Place) → Due (edition_of named) s p count_of_fields → 0x80 ≤ octet_here s p
    → octet_here s p < 0xC0
    → length (octets_from s p) < 2 → EndsEarly (edition_of named) s
cut-count named s p due high low one =
    let here = due-count due in
    let some = some-there (octets_from s p) high in
    in_count p due (omega (arith, length-drop (p / 8) s)) high low

pub early-header : (named : Named) (left : ℕ) (s : List ℕ) (p : Place) → Due (edition_of named) s p (header left)
    → CutValue (edition_of named).types s (p + 1) → EndsEarly (edition_of named) s
early-header named left s p due cut = by (below_or_not p (8 * length s)) where
  by : (p < 8 * length s) ⊎ (8 * length s ≤ p) → EndsEarly (edition_of named) s
  by (inl begun) = in_header p left due begun cut
  by (inr missing) =
      lacking s (0x80 ∷ []) (one-octet 0x80 (omega arith)) (omega arith)
      (finish-header named left s (finish-fields named left) (at-the-end due (omega (arith, due-inside due))))

pub early-data : (named : Named) (size left : ℕ) (s : List ℕ) (p : Place) → Due (edition_of named) s p (field_data size left)
    → 8 * length s < p + 8 * size → EndsEarly (edition_of named) s
early-data named size left s p due cut =
    let edge = due-data size left due in
    let inside = due-inside due in
    let lack = size - (length s - p / 8) in
    lacking s (replicate lack 0) (zeros-octets lack) (omega (arith, length-replicate {A = ℕ} lack 0))
    (finish-data named size left s p lack (finish-fields named left) due (omega arith))

one_left : (rest : List ℕ) → length rest ≡ 1 → rest ≡ get_or rest 0 0 ∷ []
one_left [] e = absurd (omega arith)
one_left (a ∷ []) e = refl
one_left (a ∷ b ∷ rest) e = absurd (omega arith)

-- a data length is missing, or its second octet is: then it is outside the sizes, or its first octet is zero
pub early-size : (named : Named) (left : ℕ) (s : List ℕ) (p : Place) → Due (edition_of named) s p (data_length left)
    → 8 * length s < p + 16 → EndsEarly (edition_of named) s
early-size named left s p due cut = by (below_or_not p (8 * length s)) (below_or_not 0 (octet_here s p)) where
  edge : p % 8 ≡ 0
  edge = due-length left due

  inside : p ≤ 8 * length s
  inside = due-inside due

  by : (p < 8 * length s) ⊎ (8 * length s ≤ p) → (0 < octet_here s p) ⊎ (octet_here s p ≤ 0) → EndsEarly (edition_of named) s
  by (inr missing) first-octet =
      lacking s (0 ∷ 0 ∷ []) two-zeros (omega arith) (finish-length named left s (finish-fields named left) (at-the-end due (omega (arith, inside))))
  by (inl begun) (inl large) = in_length p left due (omega (arith, edge)) large
  by (inl begun) (inr nothing) =
      let zero-there : octet_here s p ≡ 0 = omega arith in
      let zeros : octets_from (s ++ 0 ∷ []) p ≡ 0 ∷ 0 ∷ [] =
      from_front s (0 ∷ []) p inside
      ∙ ap (λ (l : List ℕ). l ++ 0 ∷ [])
      (one_left (octets_from s p) (omega (arith, edge, length-drop (p / 8) s)) ∙ ap (λ (a : ℕ). a ∷ []) zero-there) in
      lacking s (0 ∷ []) (one-octet 0 (omega arith)) (omega arith)
      (finish-sized named left (s ++ 0 ∷ []) p (finish-fields named left) (due-more (narrow named) due (0 ∷ []))
      (omega (arith, edge, length-append s (0 ∷ []))) zeros)

-- ---- octets that end early are refused with 1
count-wrong : (rest : List ℕ) → length rest ≡ 1 → 0x80 ≤ get_or rest 0 0 → get_or rest 0 0 < 0xC0
    → first (count_rows rest) ≡ some ends_early
unfolding count_rows length_rows first
count-wrong rest one high low =
    rw (
      le-ltb (length rest) 1 (omega arith),
      lt-leb 0xC0 (get_or rest 0 0) low,
      le-leb 0x80 (get_or rest 0 0) high,
      lt-ltb (length rest) 2 (omega arith),
    )

proper : {edition : Edition} (ending : Ending) (s more : List ℕ) → 1 ≤ length more
    → Due edition s (8 * length (s ++ more)) end ⊎ ((8 * length s < 8 * length (s ++ more)) × FirstWrong edition ending s ends_early)
    → FirstWrong edition ending s ends_early
proper ending s more least (inl due) = absurd (omega (arith, due-inside due, length-append s more))
proper ending s more least (inr cut) = cut.1

pub of-early : {edition : Edition} → NarrowEdition edition → (ending : Ending) (s : List ℕ) → EndsEarly edition s
    → FirstWrong edition ending s ends_early
unfolding rows
of-early narrow ending s (front more octets least whole) = proper ending s more least (in-front narrow ending s more whole)
of-early {edition} narrow ending s (in_count p due there high low) =
    record {
      item = count_of_fields;
      place = p;
      due = due;
      wrong =
          ap first (count-rows edition ending s p)
          ∙ count-wrong (octets_from s p) (omega (arith, length-drop (p / 8) s, due-count due)) high low;
    }
of-early narrow ending s (in_length p left due there some_bits) =
    record {
      item = data_length left;
      place = p;
      due = due;
      wrong = given-row (ltb (8 * length s) (p + 16)) ends_early _ (lt-ltb (8 * length s) (p + 16) (omega arith));
    }
of-early {edition} narrow ending s (in_first there cut) =
    record { item = first_value; place = 0; due = begins; wrong = cut-rows (first_values edition s) s 2 cut }
of-early {edition} narrow ending s (in_header p left due begun cut) =
    record { item = header left; place = p; due = due; wrong = first-front _ _ ends_early (cut-rows edition.types s (p + 1) cut) }
