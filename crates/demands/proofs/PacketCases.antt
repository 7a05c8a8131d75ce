-- What octets are that are refused for a reason: each row of an item's table is one of the cases that `PacketRefusals` tells, where no
-- row before it is given. Assumes nothing.
use Prim.Native.Nat.{ℕ, ◌+◌, ◌*◌}
use mathlib.Core.Path.{◌≡◌, refl, sym, subst, ◌∙◌}
use mathlib.Core.Bool.{Bool, true, false, not, cond, ◌&&◌}
use mathlib.Core.List.{List}
use mathlib.Core.Option.{Option, none, some}
use lib.ListN.{length, get_or}
use lib.Dec.{leb, ltb, eqb}
use native.Mathlib.Omega.{arith}
use borrow.Author.Tests.{ltb-true, ltb-false, leb-true, leb-false, not-true}
use Rattle.octets.proofs.Laws.{and_left, and_right}
use Rattle.length.specs.Refusals.{ends_early, bad_form, outside_sizes, spare_bit, left_over, not_assigned, wrong_data, number_of}
use Rattle.length.specs.Length.{of_two, within}
use Rattle.length.specs.Tables.{first}
use Rattle.length.specs.declared.Reason.{Reason}
use Rattle.format.specs.Spelling.{gap}
use Rattle.format.specs.Places.{Place, bits_at}
use Rattle.datagram.specs.Sizes.{packet_limit}
use Rattle.packet.specs.Edition.{Edition, edition_of}
use Rattle.packet.specs.Packet.{fields_least, fields_limit, right_fields, may_follow}
use Rattle.packet_laws.specs.Octets.{kind_of}
use Rattle.packet.specs.declared.types.PacketKind.{PacketKind}
use Rattle.packet.specs.declared.types.PacketKind.TheVariants.{Indicator, Data}
use Rattle.packet.specs.declared.types.Named.{Named}
use Rattle.packet.specs.declared.types.Ending.{Ending}
use Rattle.demands.specs.Demand1.Refusals.{length_rows}
use Rattle.demands.specs.Demand1.PacketItems.{Item, first_value, fields_allowed, count_of_fields, header, padding, data_length, field_data}
use Rattle.demands.specs.Demand1.PacketItems.{end}
use Rattle.demands.specs.Demand1.PacketItems.{rows, value_rows, octets_from, octet_here, has_fields, first_values, data_fits, data_size}
use Rattle.demands.specs.Demand1.PacketItems.{Due}
use Rattle.demands.specs.Demand1.PacketRefusals.{FirstWrong, EndsEarly, NotAssigned, value, field_type, BadForm, OutsideSizes, count}
use Rattle.demands.specs.Demand1.PacketRefusals.{long_data}
use Rattle.demands.specs.Demand1.PacketRefusals.{SpareBit, WrongData, indicator, field}
use Rattle.demands.proofs.PacketRows.{not-given, no_rows, past_row, given-row, first-front, first-later, row, last}
use Rattle.demands.proofs.PacketPlaces.{due-first}
use Rattle.demands.proofs.PacketValues.{value-wrong}
use Rattle.demands.proofs.PacketEarly.{early-first, early-count, cut-count, early-header, early-size, early-data}

-- something is left over
pub record LeftOver (edition : Edition) (ending : Ending) (s : List ℕ) : Type 0 where
  pub place : Place
  pub due : Due edition s place end
  pub left : may_follow ending (octets_from s place) ≡ false

never-fields : (kind : PacketKind) (present : Bool) → right_fields kind present ≡ false → (kind ≡ Indicator) × (present ≡ true)
never-fields Indicator true e = (refl, refl)
never-fields Indicator false e = let z : ◌≡◌ {A = ℕ} 0 1 = cc in absurd (omega arith)
never-fields Data present e = let z : ◌≡◌ {A = ℕ} 0 1 = cc in absurd (omega arith)

module _ (named : Named) (ending : Ending) (s : List ℕ) where
  -- the case of each reason
  abbrev pub Case : Reason → Type 0
  Case n =
      cond (eqb (number_of n) (number_of ends_early)) (EndsEarly (edition_of named) s)
      (cond (eqb (number_of n) (number_of bad_form)) (BadForm (edition_of named) s)
      (cond (eqb (number_of n) (number_of outside_sizes)) (OutsideSizes (edition_of named) s)
      (cond (eqb (number_of n) (number_of spare_bit)) (SpareBit (edition_of named) s)
      (cond (eqb (number_of n) (number_of left_over)) (LeftOver (edition_of named) ending s)
      (cond (eqb (number_of n) (number_of not_assigned)) (NotAssigned (edition_of named) s) (WrongData (edition_of named) s))))))

  first-case : (n : Reason) → first (rows (edition_of named) ending first_value s 0) ≡ some n → Case n
  unfolding rows
  first-case n e = value-wrong (first_values (edition_of named) s) s 2 Case (early-first named s) value n e

  allowed-case : (p : Place) → Due (edition_of named) s p fields_allowed → (n : Reason)
      → first (rows (edition_of named) ending fields_allowed s p) ≡ some n → Case n
  unfolding rows
  allowed-case p due n =
      last Case (not (right_fields (kind_of s) (has_fields s))) wrong_data n
      (λ unfit.
      let k = never-fields (kind_of s) (has_fields s) (not-true (right_fields (kind_of s) (has_fields s)) unfit) in
      indicator p due k.0 k.1)

  -- a field type, then whether it has data as it must
  header-case : (left : ℕ) (p : Place) → Due (edition_of named) s p (header left) → (n : Reason)
      → first (rows (edition_of named) ending (header left) s p) ≡ some n
      → Case n
  unfolding rows
  header-case left p due n e = by (first (value_rows (edition_of named).types s (p + 1))) refl where
    by : (o : Option Reason) → first (value_rows (edition_of named).types s (p + 1)) ≡ o → Case n
    by (some m) given =
        value-wrong (edition_of named).types s (p + 1) Case (early-header named left s p due) (field_type p left due) n
        (given ∙ sym (first-front _ _ m given) ∙ e)
    by none passed =
        last Case (not (data_fits (edition_of named) s p)) wrong_data n
        (λ unfit. field p left due passed (not-true (data_fits (edition_of named) s p) unfit))
        (sym (first-later (value_rows (edition_of named).types s (p + 1)) _ passed) ∙ e)

  size-case : (left : ℕ) (p : Place) → Due (edition_of named) s p (data_length left) → (n : Reason)
      → first (rows (edition_of named) ending (data_length left) s p) ≡ some n → Case n
  unfolding rows
  size-case left p due n =
      row Case (ltb (8 * length s) (p + 16)) ends_early n _ (λ e. early-size named left s p due (ltb-true (8 * length s) (p + 16) e))
      (λ there.
      last Case (ltb packet_limit (data_size s p)) outside_sizes n
      (λ long. long_data p left due (ltb-false (8 * length s) (p + 16) there) (ltb-true packet_limit (data_size s p) long)))

  -- the count
  bad-count : (p : Place) → Due (edition_of named) s p count_of_fields → first (length_rows (octets_from s p)) ≡ some bad_form
      → BadForm (edition_of named) s
  bad-count p due form = record { place = p; due = due; form = form }

  count-case : (p : Place) → Due (edition_of named) s p count_of_fields → (n : Reason)
      → first (rows (edition_of named) ending count_of_fields s p) ≡ some n → Case n
  unfolding rows length_rows
  count-case p due n =
      let rest = octets_from s p in
      let o = octet_here s p in
      let two = leb 0x80 o && ltb (length rest) 2 in
      let small = leb 0x80 o && ltb (of_two o (get_or rest 1 0)) 0x80 in
      row Case (ltb (length rest) 1) ends_early n _ (λ e. early-count named s p due (ltb-true (length rest) 1 e))
      (λ some.
      row Case (leb 0xC0 o) bad_form n _
      (λ e. bad-count p due (past_row (ltb (length rest) 1) ends_early bad_form _ some (given-row (leb 0xC0 o) bad_form _ e)))
      (λ low.
      row Case two ends_early n _
      (λ e.
      cut-count named s p due (leb-true 0x80 o (and_left (leb 0x80 o) (ltb (length rest) 2) e)) (leb-false 0xC0 o low)
      (ltb-true (length rest) 2 (and_right (leb 0x80 o) (ltb (length rest) 2) e)))
      (λ both.
      row Case small bad_form n _
      (λ e.
      bad-count p due
      (past_row (ltb (length rest) 1) ends_early bad_form _ some
      (past_row (leb 0xC0 o) bad_form bad_form _ low (past_row two ends_early bad_form _ both (given-row small bad_form _ e)))))
      (λ large.
      last Case (not (within fields_least fields_limit o)) outside_sizes n
      (λ outside.
      count p due
      (not-given (ltb (length rest) 1) ends_early _ some
      (not-given (leb 0xC0 o) bad_form _ low (not-given two ends_early _ both (not-given small bad_form _ large no_rows))))
      (not-true (within fields_least fields_limit o) outside))))))

  item-case : (item : Item) (p : Place) → Due (edition_of named) s p item → (n : Reason)
      → first (rows (edition_of named) ending item s p) ≡ some n → Case n
  unfolding rows
  item-case first_value p due n e =
      first-case n (subst (λ (q : Place). first (rows (edition_of named) ending first_value s q) ≡ some n) (due-first due) e)
  item-case fields_allowed p due n e = allowed-case p due n e
  item-case count_of_fields p due n e = count-case p due n e
  item-case (header left) p due n e = header-case left p due n e
  item-case (padding next) p due n e =
      last Case (ltb 0 (bits_at (gap p) s p)) spare_bit n
      (λ on. record { place = p; next = next; due = due; set-bits = ltb-true 0 (bits_at (gap p) s p) on }) e
  item-case (data_length left) p due n e = size-case left p due n e
  item-case (field_data size left) p due n e =
      last Case (ltb (8 * length s) (p + 8 * size)) ends_early n
      (λ cut. early-data named size left s p due (ltb-true (8 * length s) (p + 8 * size) cut)) e
  item-case end p due n e =
      last Case (not (may_follow ending (octets_from s p))) left_over n
      (λ left. record { place = p; due = due; left = not-true (may_follow ending (octets_from s p)) left }) e

  pub case-of : (n : Reason) → FirstWrong (edition_of named) ending s n → Case n
  case-of n w = item-case w.item w.place w.due n w.wrong
