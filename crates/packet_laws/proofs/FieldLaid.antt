-- What the description spells for a field, packed into octets after the bits that wait, is what is laid there. Assumes nothing.
use Prim.Native.Nat.{ℕ, ◌+◌, ◌-◌, ◌*◌, ◌/◌, ◌%◌, ◌<◌}
use mathlib.Core.Path.{◌≡◌, refl, sym, ap, ◌∙◌}
use mathlib.Core.Bool.{Bool, true, false, cond}
use mathlib.Core.List.{List, [], ◌++◌, append_assoc}
use lib.ListN.{length, length-append}
use lib.Dec.{ltb}
use native.Mathlib.Omega.{arith}
use Rattle.format.specs.Spelling.{Letter, spelt, whole, wide, packed, gap}
use Rattle.format.specs.Places.{edge}
use Rattle.format.specs.Waiting.{Waiting, none_wait, Waits, full_octets, left, closed}
use Rattle.format.specs.Format.{flag_bit, known}
use Rattle.format.proofs.Laws.{wide-append, wide-spelt, wide-whole, gap-past, none-waits, waits-left, left_at, packed-spelt}
use Rattle.format.proofs.Laws.{packed-closed, packed-whole, full_octets-long, closed-long}
use Rattle.packet.specs.Edition.{many, Edition}
use Rattle.packet.specs.Packet.{Content, header, size, field_data, field}
use Rattle.packet.specs.Write.{with_data}
use Rattle.packet.specs.declared.types.Enumerated.{Enumerated}
use Rattle.packet.proofs.Laws.{edge-wide}
use Rattle.packet_laws.specs.Octets.{Narrow}
use Rattle.packet_laws.specs.Laid.{value_width, value_bits, size_octets, with_flag, with_type, header_octets}
use Rattle.packet_laws.specs.Laid.{header_left, field_octets, after_field, header_width, past_field}
use Rattle.packet_laws.proofs.ValueLaid.{flag_small, value-few, value-small, value-spelt}

-- ---- a field as it is laid
-- what waits after it, and how many octets it fills, from a place on
pub flag-waits : (w : Waiting) → Waits w → (b : Bool) → Waits (left (with_flag w b))
flag-waits w waits b = waits-left w waits 1 (flag_bit b) (omega arith) (flag_small b)

module _ (e : Enumerated) (narrow : Narrow e) (w : Waiting) (waits : Waits w) where
  pub header-waits : (k : ℕ) (b : Bool) → k < many e → Waits (header_left e w k b)
  unfolding header_left
  header-waits k b right =
      waits-left (left (with_flag w b)) (flag-waits w waits b) (value_width e k) (value_bits e k) (value-few e narrow k)
      (value-small e narrow k right)

  pub after-waits : (k : ℕ) (l : List ℕ) → k < many e → Waits (after_field e w k l)
  unfolding after_field
  after-waits k l right = by (with_data (length l)) where
    by : (b : Bool) → Waits (cond b none_wait (header_left e w k b))
    by true = none-waits
    by false = header-waits k false right

  module _ (p : ℕ) (at : p % 8 ≡ w.width) (k : ℕ) where
    flag_at : (b : Bool) → (1 + p) % 8 ≡ (left (with_flag w b)).width
    flag_at b = left_at w waits p at 1 (flag_bit b) (omega arith)

    pub header-at : (b : Bool) → (p + header_width e k) % 8 ≡ (header_left e w k b).width
    unfolding header_left
    header-at b =
        let swap : p + header_width e k ≡ value_width e k + (1 + p) = omega arith in
        ap (λ (n : ℕ). n % 8) swap
        ∙ left_at (left (with_flag w b)) (flag-waits w waits b) (1 + p) (flag_at b) (value_width e k) (value_bits e k) (value-few e narrow k)

    pub header-long : (b : Bool) → p / 8 + length (header_octets e w k b) ≡ (p + header_width e k) / 8
    unfolding header_octets
    header-long b =
        omega (
          arith,
          length-append (full_octets (with_flag w b)) (full_octets (with_type e w k b)),
          full_octets-long w waits p at 1 (flag_bit b) (omega arith),
          full_octets-long (left (with_flag w b)) (flag-waits w waits b) (1 + p) (flag_at b) (value_width e k) (value_bits e k)
              (value-few e narrow k),
        )

    module _ (l : List ℕ) where
      pub after-at : past_field e p k (length l) % 8 ≡ (after_field e w k l).width
      unfolding after_field
      after-at = by (with_data (length l)) where
        by : (b : Bool) → (cond b (8 * (edge (p + header_width e k) + 2 + length l)) (p + header_width e k)) % 8
            ≡ (cond b none_wait (header_left e w k b)).width
        by true = omega arith
        by false = header-at false

      pub field-long : k < many e → p / 8 + length (field_octets e w k l) ≡ past_field e p k (length l) / 8
      unfolding field_octets
      field-long right = by (with_data (length l)) where
        by : (b : Bool)
            → p / 8 + length (header_octets e w k b ++ cond b (closed (header_left e w k b) ++ (size_octets (length l) ++ l)) [])
            ≡ (cond b (8 * (edge (p + header_width e k) + 2 + length l)) (p + header_width e k)) / 8
        by true =
            let rest = closed (header_left e w k true) ++ (size_octets (length l) ++ l) in
            omega (
              arith,
              header-long true,
              closed-long (header_left e w k true) (header-waits k true right) (p + header_width e k) (header-at true),
              length-append (header_octets e w k true) rest,
              length-append (closed (header_left e w k true)) (size_octets (length l) ++ l),
            )
        by false = omega (arith, header-long false, length-append (header_octets e w k false) [])

-- ---- as the description spells it
module _ (edition : Edition) (narrow : Narrow edition.types) (k : ℕ) (right : k < many edition.types) (p : ℕ) where
  header-spelt : (b : Bool)
      → (header edition).spelling (record { type = k; present = b }) p
      ≡ spelt 1 (flag_bit b) ++ spelt (value_width edition.types k) (value_bits edition.types k)
  unfolding header spelt
  header-spelt true = ap (λ (l : List Letter). spelt 1 1 ++ l) (value-spelt edition.types narrow k right _)
  header-spelt false = ap (λ (l : List Letter). spelt 1 0 ++ l) (value-spelt edition.types narrow k right _)

  pub header-wide : (b : Bool) → wide ((header edition).spelling (record { type = k; present = b }) p) ≡ header_width edition.types k
  header-wide b =
      let e = edition.types in
      ap wide (header-spelt b)
      ∙ omega (
        arith,
        wide-append (spelt 1 (flag_bit b)) (spelt (value_width edition.types k) (value_bits edition.types k)),
        wide-spelt 1 (flag_bit b),
        wide-spelt (value_width edition.types k) (value_bits edition.types k),
      )

  module _ (w : Waiting) (waits : Waits w) where
    header-packed : (b : Bool) (more : List Letter)
        → packed w.value w.width ((header edition).spelling (record { type = k; present = b }) p ++ more)
        ≡ header_octets edition.types w k b
        ++ packed (header_left edition.types w k b).value (header_left edition.types w k b).width more
    unfolding header_octets header_left
    header-packed b more =
        let n = value_width edition.types k in
        let x = value_bits edition.types k in
        let f = with_flag w b in
        let all = with_type edition.types w k b in
        ap (λ (l : List Letter). packed w.value w.width (l ++ more)) (header-spelt b)
        ∙ ap (packed w.value w.width) (append_assoc (spelt 1 (flag_bit b)) (spelt n x) more)
        ∙ packed-spelt w waits 1 (flag_bit b) (spelt n x ++ more) (omega arith) (flag_small b)
        ∙ ap (λ (l : List ℕ). full_octets f ++ l)
        (packed-spelt (left (with_flag w b)) (flag-waits w waits b) n x more (value-few edition.types narrow k)
        (value-small edition.types narrow k right))
        ∙ sym (append_assoc (full_octets f) (full_octets all) _)

-- no padding at an edge
pub edge-whole : (p : ℕ) → p % 8 ≡ 0 → (l : List ℕ) → spelt (gap p) 0 ++ whole l ≡ whole l
unfolding spelt
edge-whole p edge l =
    let none : (8 - p % 8) % 8 ≡ 0 = omega arith in
    rw none

-- from a place on, its octet edge, the length and the data
data-spelt : (from : ℕ) (l : List ℕ) (p : ℕ)
    → field_data.spelling (from, l) p ≡ spelt (gap p) 0 ++ (whole (size_octets (length l)) ++ whole l)
unfolding field_data size wide
data-spelt from l p =
    let w = size_octets (length l) in
    let on : (0 + (wide (spelt (gap p) 0 ++ whole w) + p)) % 8 ≡ 0 = omega (arith, edge-wide p w) in
    ap (λ (c : List Letter). (spelt (gap p) 0 ++ whole w) ++ c) (edge-whole (0 + (wide (spelt (gap p) 0 ++ whole w) + p)) on l)
    ∙ append_assoc (spelt (gap p) 0) (whole w) (whole l)

-- what follows a header, from a place on
module _ (from : ℕ) (l : List ℕ) (p : ℕ) where
  rest-wide : (b : Bool) → wide ((cond b field_data (known (0, []))).spelling (from, l) p) + p
      ≡ cond b (8 * (edge p + 2 + length l)) p
  unfolding wide
  rest-wide true =
      let w = size_octets (length l) in
      omega (
        arith,
        ap wide (data-spelt from l p),
        wide-append (spelt (gap p) 0) (whole w ++ whole l),
        wide-append (whole w) (whole l),
        wide-spelt (gap p) 0,
        wide-whole w,
        wide-whole l,
        gap-past p,
      )
  rest-wide false = omega arith

  rest-packed : (w : Waiting) → Waits w → p % 8 ≡ w.width → (b : Bool) (more : List Letter)
      → packed w.value w.width ((cond b field_data (known (0, []))).spelling (from, l) p ++ more)
      ≡ cond b (closed w ++ (size_octets (length l) ++ l)) [] ++ packed (cond b none_wait w).value (cond b none_wait w).width more
  rest-packed w waits at true more =
      let n = size_octets (length l) in
      let end = packed 0 0 more in
      ap (λ (c : List Letter). packed w.value w.width (c ++ more)) (data-spelt from l p)
      ∙ ap (packed w.value w.width)
      (append_assoc (spelt (gap p) 0) (whole n ++ whole l) more
      ∙ ap (λ (c : List Letter). spelt (gap p) 0 ++ c) (append_assoc (whole n) (whole l) more))
      ∙ packed-closed w waits p at (whole n ++ (whole l ++ more))
      ∙ ap (λ (m : List ℕ). closed w ++ m)
      (packed-whole n (whole l ++ more) ∙ ap (λ (m : List ℕ). n ++ m) (packed-whole l more) ∙ sym (append_assoc n l end))
      ∙ sym (append_assoc (closed w) (n ++ l) end)
  rest-packed w waits at false more = refl

module _ (edition : Edition) (narrow : Narrow edition.types) (c : Content) (p : ℕ) (right : c.type < many edition.types) where
  pub field-wide : wide ((field edition).spelling c p) + p ≡ past_field edition.types p c.type (length c.octets)
  unfolding field
  field-wide =
      let b = ltb 0 (length c.octets) in
      let h = (header edition).spelling (record { type = c.type; present = b }) p in
      let q = wide h + p in
      let rest = (cond b field_data (known (0, []))).spelling (c.start, c.octets) (wide h + p) in
      let on : wide h + p ≡ p + header_width edition.types c.type
      = omega (arith, header-wide edition narrow c.type right p b) in
      let all : wide (h ++ rest) + p ≡ wide rest + q = omega (arith, wide-append h rest) in
      all ∙ rest-wide c.start c.octets q b
      ∙ ap (λ (r : ℕ). cond b (8 * (edge r + 2 + length c.octets)) r) on

  module _ (w : Waiting) (waits : Waits w) (at : p % 8 ≡ w.width) where
    pub field-packed : (more : List Letter)
        → packed w.value w.width ((field edition).spelling c p ++ more)
        ≡ field_octets edition.types w c.type c.octets
        ++ packed (after_field edition.types w c.type c.octets).value (after_field edition.types w c.type c.octets).width
        more
    unfolding field field_octets after_field
    field-packed more =
        let e = edition.types in
        let b = ltb 0 (length c.octets) in
        let h = (header edition).spelling (record { type = c.type; present = b }) p in
        let rest = (cond b field_data (known (0, []))).spelling (c.start, c.octets) (wide h + p) in
        let next = header_left edition.types w c.type b in
        let on : wide h + p ≡ p + header_width edition.types c.type
        = omega (arith, header-wide edition narrow c.type right p b) in
        ap (packed w.value w.width) (append_assoc h rest more)
        ∙ header-packed edition narrow c.type right p w waits b (rest ++ more)
        ∙ ap (λ (l : List ℕ). header_octets edition.types w c.type b ++ l)
        (rest-packed c.start c.octets (wide h + p) next (header-waits edition.types narrow w waits c.type b right)
        (ap (λ (n : ℕ). n % 8) on ∙ header-at edition.types narrow w waits p at c.type b) b more)
        ∙ sym (append_assoc (header_octets edition.types w c.type b) _ _)
