-- The places at which items of a packet are due: the first value at the packet's begin, headers anywhere, the count, data lengths, data and
-- the end at octet edges; and each inside the octets. Assumes nothing.
use Prim.Native.Nat.{ℕ, zero, suc, ◌+◌, ◌*◌, ◌/◌, ◌%◌, ◌≤◌}
use mathlib.Core.Path.{◌≡◌, refl, ap}
use mathlib.Core.Bool.{Bool, true, false, not, cond, ◌&&◌}
use mathlib.Core.List.{List, [], ◌∷◌, ◌++◌}
use mathlib.Core.Option.{Option, none}
use lib.ListN.{length, get_or, length-drop}
use lib.Dec.{leb, ltb}
use native.Mathlib.Omega.{arith}
use borrow.Author.Tests.{le-ltb, lt-leb, ltb-false, not-false}
use Rattle.length.specs.Refusals.{ends_early, bad_form, outside_sizes, not_assigned}
use Rattle.length.specs.Length.{of_two, within}
use Rattle.length.specs.Tables.{when, first}
use Rattle.length.proofs.Laws.{within-true}
use Rattle.length.specs.declared.Reason.{Reason}
use Rattle.format.specs.Places.{Place, edge}
use Rattle.packet.specs.Edition.{added_width, Edition}
use Rattle.packet.specs.Packet.{fields_least, fields_limit}
use Rattle.packet_laws.specs.Octets.{bit_set_at}
use Rattle.packet.specs.declared.types.Enumerated.{Enumerated}
use Rattle.packet.specs.declared.types.Ending.{Ending}
use Rattle.packet.specs.declared.types.Ending.TheVariants.{Whole}
use Rattle.demands.specs.Demand1.Refusals.{length_rows}
use Rattle.demands.specs.Demand1.PacketItems.{Item, first_value, fields_allowed, count_of_fields, header, padding, data_length, field_data}
use Rattle.demands.specs.Demand1.PacketItems.{end}
use Rattle.demands.specs.Demand1.PacketItems.{fields, rows, is_added, behind_mark, value_ends, added_rows, root_rows, value_rows}
use Rattle.demands.specs.Demand1.PacketItems.{octets_from}
use Rattle.demands.specs.Demand1.PacketItems.{octet_here, has_fields, first_values, ends, due_after, Due, begins, goes_on}
use Rattle.demands.proofs.PacketRows.{not-given, none-given, no_rows, both-none}

-- a value never ends before it begins, nor does an item
either-least : (b : Bool) (p q r : ℕ) → p ≤ q → p ≤ r → p ≤ cond b q r
either-least true p q r here there = here
either-least false p q r here there = there

pub value_on : (e : Enumerated) (s : List ℕ) (p : Place) → p ≤ value_ends e s p
value_on e s p =
    let behind = either-least e.extensible p (p + 1) p (omega arith) (omega arith) in
    either-least (is_added e s p) p (p + 1 + 1 + added_width) (behind_mark e p + e.width) (omega arith) (omega (arith, behind))

-- ---- where an item stands
unfoldable pub Standing : Item → Place → Type 0
Standing first_value p = p ≡ 0
Standing fields_allowed p = (p % 8 ≡ 0) × (1 ≤ p)
Standing count_of_fields p = p % 8 ≡ 0
Standing (header left) p = p ≤ p
Standing (padding next) p = Standing next (8 * edge p)
Standing (data_length left) p = p % 8 ≡ 0
Standing (field_data size left) p = p % 8 ≡ 0
Standing end p = p % 8 ≡ 0

at_edge : (p : Place) → 8 * edge p % 8 ≡ 0
at_edge p = omega arith

fields-stand : (n : ℕ) (p : Place) → Standing (fields n) p
unfolding Standing
fields-stand zero p = at_edge p
fields-stand (suc n) p = omega arith

either-stands : (b : Bool) (one other : Item) (p : Place) → Standing one p → Standing other p → Standing (cond b one other) p
either-stands true one other p here there = here
either-stands false one other p here there = there

after-stands : (edition : Edition) (item : Item) (s : List ℕ) (p : Place) → Standing item p
    → Standing (due_after item s p) (ends edition item s p)
unfolding Standing
after-stands edition first_value s p at =
    let q = value_ends (first_values edition s) s (p + 2) in
    (at_edge q, omega (arith, value_on (first_values edition s) s (p + 2)))
after-stands edition fields_allowed s p at = either-stands (has_fields s) count_of_fields (fields 0) p at.0 (fields-stand 0 p)
after-stands edition count_of_fields s p at = fields-stand (octet_here s p) (p + 8)
after-stands edition (header left) s p at =
    let q = value_ends edition.types s (p + 1) in
    either-stands (bit_set_at s p) (padding (data_length left)) (fields left) q (at_edge q) (fields-stand left q)
after-stands edition (padding next) s p at = at
after-stands edition (data_length left) s p at = omega arith
after-stands edition (field_data size left) s p at = fields-stand left (p + 8 * size)
after-stands edition end s p at = at

pub stands : {edition : Edition} {s : List ℕ} {p : Place} {item : Item} → Due edition s p item → Standing item p
unfolding Standing
stands begins = refl
stands {edition} {s} (goes_on {p} {item} due passed) = after-stands edition item s p (stands due)

module _ {edition : Edition} {s : List ℕ} {p : Place} where
  pub due-first : Due edition s p first_value → p ≡ 0
  unfolding Standing
  due-first due = stands due

  pub due-count : Due edition s p count_of_fields → p % 8 ≡ 0
  unfolding Standing
  due-count due = stands due

  pub due-length : (left : ℕ) → Due edition s p (data_length left) → p % 8 ≡ 0
  unfolding Standing
  due-length left due = stands due

  pub due-data : (size left : ℕ) → Due edition s p (field_data size left) → p % 8 ≡ 0
  unfolding Standing
  due-data size left due = stands due

  pub due-end : Due edition s p end → p % 8 ≡ 0
  unfolding Standing
  due-end due = stands due

pub ends_on : (edition : Edition) (item : Item) (s : List ℕ) (p : Place) → p ≤ ends edition item s p
ends_on edition first_value s p = omega (arith, value_on (first_values edition s) s (p + 2))
ends_on edition fields_allowed s p = omega arith
ends_on edition count_of_fields s p = omega arith
ends_on edition (header left) s p = omega (arith, value_on edition.types s (p + 1))
ends_on edition (padding next) s p = omega arith
ends_on edition (data_length left) s p = omega arith
ends_on edition (field_data size left) s p = omega arith
ends_on edition end s p = omega arith

-- ---- the count
pub record CountPassed (rest : List ℕ) : Type 0 where
  pub some : 1 ≤ length rest
  pub sizes : within fields_least fields_limit (get_or rest 0 0) ≡ true

unfoldable pub count_rows : List ℕ → List (Option Reason)
count_rows rest = length_rows rest ++ (when (not (within fields_least fields_limit (get_or rest 0 0))) outside_sizes ∷ [])

pub count-rows : (edition : Edition) (ending : Ending) (s : List ℕ) (p : Place)
    → rows edition ending count_of_fields s p ≡ count_rows (octets_from s p)
unfolding rows count_rows
count-rows edition ending s p = refl

pub passed-count : (rest : List ℕ) → first (count_rows rest) ≡ none → CountPassed rest
unfolding count_rows length_rows
passed-count rest e =
    let o = get_or rest 0 0 in
    let r₁ = none-given (ltb (length rest) 1) ends_early _ e in
    let r₂ = none-given (leb 0xC0 o) bad_form _ r₁.1 in
    let r₃ = none-given (leb 0x80 o && ltb (length rest) 2) ends_early _ r₂.1 in
    let r₄ = none-given (leb 0x80 o && ltb (of_two o (get_or rest 1 0)) 0x80) bad_form _ r₃.1 in
    let r₅ = none-given (not (within fields_least fields_limit o)) outside_sizes _ r₄.1 in
    record { some = ltb-false (length rest) 1 r₁.0; sizes = not-false (within fields_least fields_limit o) r₅.0 }

pub count-passes : (rest : List ℕ) → CountPassed rest → first (count_rows rest) ≡ none
unfolding count_rows length_rows
count-passes rest c =
    let o = get_or rest 0 0 in
    let few = within-true fields_least fields_limit (get_or rest 0 0) c.sizes in
    let low : leb 0x80 o ≡ false = lt-leb 0x80 o (omega (arith, few)) in
    not-given (ltb (length rest) 1) ends_early _ (le-ltb (length rest) 1 c.some)
    (not-given (leb 0xC0 o) bad_form _ (lt-leb 0xC0 o (omega (arith, few)))
    (not-given (leb 0x80 o && ltb (length rest) 2) ends_early _ (rw low)
    (not-given (leb 0x80 o && ltb (of_two o (get_or rest 1 0)) 0x80) bad_form _ (rw low)
    (not-given (not (within fields_least fields_limit o)) outside_sizes _ (ap not c.sizes) no_rows))))

-- ---- inside the octets
-- a value that is not refused ends there, and so does each item
pub value-inside : (e : Enumerated) (s : List ℕ) (p : Place) → first (value_rows e s p) ≡ none → value_ends e s p ≤ 8 * length s
unfolding value_rows
value-inside e s p = by (is_added e s p) where
  by : (b : Bool) → first (cond b (added_rows e s (p + 1)) (root_rows e s (behind_mark e p))) ≡ none
      → cond b (p + 1 + 1 + added_width) (behind_mark e p + e.width) ≤ 8 * length s
  by true given =
      let r₁ = none-given (ltb e.added 1) not_assigned _ given in
      let r₂ = none-given (bit_set_at s (p + 1)) not_assigned _ r₁.1 in
      let r₃ = none-given (ltb (8 * length s) (p + 1 + 1 + added_width)) ends_early _ r₂.1 in
      ltb-false (8 * length s) (p + 1 + 1 + added_width) r₃.0
  by false given =
      ltb-false (8 * length s) (behind_mark e p + e.width)
      (none-given (ltb (8 * length s) (behind_mark e p + e.width)) ends_early _ given).0

pub ends-inside : (edition : Edition) (ending : Ending) (item : Item) (s : List ℕ) (p : Place) → Standing item p → p ≤ 8 * length s
    → first (rows edition ending item s p) ≡ none → ends edition item s p ≤ 8 * length s
unfolding Standing rows count_rows
ends-inside edition ending first_value s p at inside passed = value-inside (first_values edition s) s (p + 2) passed
ends-inside edition ending fields_allowed s p at inside passed = inside
ends-inside edition ending count_of_fields s p at inside passed =
    let some = (passed-count (octets_from s p) passed).some in
    omega (arith, length-drop (p / 8) s)
ends-inside edition ending (header left) s p at inside passed =
    value-inside edition.types s (p + 1) (both-none (value_rows edition.types s (p + 1)) _ passed).0
ends-inside edition ending (padding next) s p at inside passed = omega arith
ends-inside edition ending (data_length left) s p at inside passed =
    ltb-false (8 * length s) (p + 16) (none-given (ltb (8 * length s) (p + 16)) ends_early _ passed).0
ends-inside edition ending (field_data size left) s p at inside passed =
    ltb-false (8 * length s) (p + 8 * size) (none-given (ltb (8 * length s) (p + 8 * size)) ends_early _ passed).0
ends-inside edition ending end s p at inside passed = inside

pub due-inside : {edition : Edition} {s : List ℕ} {p : Place} {item : Item} → Due edition s p item → p ≤ 8 * length s
due-inside begins = omega arith
due-inside {edition} {s} (goes_on {p} {item} due passed) = ends-inside edition Whole item s p (stands due) (due-inside due) passed
