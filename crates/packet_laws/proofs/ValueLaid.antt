-- What the description spells for a value and for the first item, packed into octets after the bits that wait, is what is laid there.
-- Assumes nothing.
use Prim.Native.Nat.{ℕ, ◌+◌, ◌-◌, ◌*◌, ◌%◌, ◌^◌, ◌≤◌, ◌<◌}
use mathlib.Core.Path.{◌≡◌, refl, sym, ap, ◌∙◌}
use mathlib.Core.Bool.{Bool, true, false, cond, false≢true}
use mathlib.Core.List.{List, [], ◌++◌, append_assoc, append-nil}
use lib.ListN.{length, length-append}
use lib.Dec.{leb}
use lib.Pow.{pow_mono}
use native.Mathlib.Omega.{arith}
use borrow.Author.Tests.{leb-true, leb-false}
use Rattle.format.specs.Spelling.{Letter, spelt, wide, packed, gap}
use Rattle.format.specs.Waiting.{waiting, Waits, joined, full_octets, left, closed}
use Rattle.format.specs.Format.{flag_bit, flag, known}
use Rattle.format.proofs.Laws.{wide-append, wide-spelt, gap-past, waits-left, left_at, spelt-join, packed-spelt}
use Rattle.format.proofs.Laws.{packed-closed, full_octets-long, closed-long}
use Rattle.packet.specs.Edition.{many, added_width, Edition, values}
use Rattle.packet.specs.Packet.{First, addition, root, enumerated, type_of_msg, start}
use Rattle.packet_laws.specs.Octets.{Narrow}
use Rattle.packet_laws.specs.Laid.{mark_width, value_width, value_bits, first_lead, first_octets, first_size}
use Rattle.packet.specs.declared.types.PacketKind.{PacketKind}
use Rattle.packet.specs.declared.types.PacketKind.TheVariants.{Indicator, Data}
use Rattle.packet.specs.declared.types.Enumerated.{Enumerated}

pub flag_small : (b : Bool) → flag_bit b < 2 ^ 1
flag_small true = omega arith
flag_small false = omega arith

pub lead-waits : (x : ℕ) → x < 4 → Waits (waiting 2 x)
lead-waits x small = record { few = omega arith; small = omega arith }

module _ (e : Enumerated) (narrow : Narrow e) where
  -- ---- a value
  pub value-few : (v : ℕ) → value_width e v ≤ 8
  unfolding value_width
  value-few v = by (leb e.assigned v) e.extensible where
    by : (b m : Bool) → cond b (2 + added_width) (mark_width m + e.width) ≤ 8
    by true m = omega arith
    by false true = omega (arith, narrow.few)
    by false false = omega (arith, narrow.few)

  module _ (v : ℕ) (right : v < many e) where
    pub value-small : value_bits e v < 2 ^ value_width e v
    unfolding value_width value_bits
    value-small = by (leb e.assigned v) refl e.extensible where
      by : (b : Bool) → leb e.assigned v ≡ b → (m : Bool)
          → cond b (2 * 2 ^ added_width + (v - e.assigned)) v < 2 ^ (cond b (2 + added_width) (mark_width m + e.width))
      by true is m =
          let few = narrow.sound.few in
          let high = leb-true e.assigned v is in
          omega arith
      by false is true =
          let low = leb-false e.assigned v is in
          let wide = narrow.sound.wide in
          let more : 2 ^ e.width ≤ 2 ^ (1 + e.width) = pow_mono {j = 1 + e.width} (omega arith) in
          omega arith
      by false is false =
          let low = leb-false e.assigned v is in
          let wide = narrow.sound.wide in
          let same : 0 + e.width ≡ e.width = omega arith in
          rw same (omega arith)

    -- as the description spells it
    pub value-spelt : (p : ℕ) → (enumerated e).spelling v p ≡ spelt (value_width e v) (value_bits e v)
    unfolding enumerated addition root spelt value_width value_bits
    value-spelt p =
        by (leb e.assigned v) refl e.extensible (λ h. narrow.sound.marked (omega (arith, leb-true e.assigned v h))) p _ where
          by : (b : Bool) → leb e.assigned v ≡ b → (m : Bool) → (b ≡ true → m ≡ true) → (p q : ℕ)
              → (cond m flag (known false)).spelling b p ++ (cond b (addition e) (root e)).spelling v q
              ≡ spelt (cond b (2 + added_width) (mark_width m + e.width)) (cond b (2 * 2 ^ added_width + (v - e.assigned)) v)
          by true is true marked p q =
              let few = narrow.sound.few in
              let high = leb-true e.assigned v is in
              sym (spelt-join 2 6 2 (v - e.assigned) (omega arith))
          by true is false marked p q = absurd (false≢true (marked refl))
          by false is true marked p q =
              let low = leb-false e.assigned v is in
              let wide = narrow.sound.wide in
              let same : 0 * 2 ^ e.width + v ≡ v = omega arith in
              sym (ap (spelt (1 + e.width)) (sym same) ∙ spelt-join 1 e.width 0 v (omega arith))
          by false is false marked p q =
              let same : 0 + e.width ≡ e.width = omega arith in
              rw same

    -- after two bits, to the octet edge
    module _ (x : ℕ) (small : x < 4) where
      rest-waits : Waits (left (joined (waiting 2 x) (value_width e v) (value_bits e v)))
      rest-waits = waits-left (waiting 2 x) (lead-waits x small) (value_width e v) (value_bits e v) (value-few v) value-small

      rest_at : (value_width e v + 2) % 8 ≡ (left (joined (waiting 2 x) (value_width e v) (value_bits e v))).width
      rest_at = left_at (waiting 2 x) (lead-waits x small) 2 refl (value_width e v) (value_bits e v) (value-few v)

      value-closed : (q g : ℕ) → g ≡ wide ((enumerated e).spelling v q) + 2 → (more : List Letter)
          → packed x 2 (((enumerated e).spelling v q ++ (spelt (gap g) 0 ++ [])) ++ more)
          ≡ (full_octets (joined (waiting 2 x) (value_width e v) (value_bits e v))
          ++ closed (left (joined (waiting 2 x) (value_width e v) (value_bits e v))))
          ++ packed 0 0 more
      value-closed q g is more =
          let n = value_width e v in
          let y = value_bits e v in
          let all = joined (waiting 2 x) (value_width e v) (value_bits e v) in
          let end = spelt (gap g) 0 in
          let on : g ≡ value_width e v + 2 = omega (arith, ap wide (value-spelt q), wide-spelt (value_width e v) (value_bits e v)) in
          ap (λ (l : List Letter). packed x 2 ((l ++ (end ++ [])) ++ more)) (value-spelt q)
          ∙ ap (λ (l : List Letter). packed x 2 ((spelt n y ++ l) ++ more)) (append-nil end)
          ∙ ap (packed x 2) (append_assoc (spelt n y) end more)
          ∙ packed-spelt (waiting 2 x) (lead-waits x small) n y (end ++ more) (value-few v) value-small
          ∙ ap (λ (l : List ℕ). full_octets all ++ l)
          (packed-closed (left all) rest-waits g (ap (λ (k : ℕ). k % 8) on ∙ rest_at) more)
          ∙ sym (append_assoc (full_octets all) (closed (left all)) (packed 0 0 more))

      pub value-long : length (full_octets (joined (waiting 2 x) (value_width e v) (value_bits e v))
          ++ closed (left (joined (waiting 2 x) (value_width e v) (value_bits e v)))) ≡ first_size e v
      value-long =
          let n = value_width e v in
          let all = joined (waiting 2 x) (value_width e v) (value_bits e v) in
          omega (
            arith,
            length-append (full_octets all) (closed (left all)),
            full_octets-long (waiting 2 x) (lead-waits x small) 2 refl n (value_bits e v) (value-few v),
            closed-long (left all) rest-waits (n + 2) rest_at,
          )

-- ---- the first item
pub lead-small : (f : First) → first_lead f < 4
lead-small f = by f.kind f.present where
  by : (k : PacketKind) (b : Bool) → first_lead (record { kind = k; value = 0; present = b }) < 4
  by Indicator true = omega arith
  by Indicator false = omega arith
  by Data true = omega arith
  by Data false = omega arith

module _ (edition : Edition) where
  module _ (v : ℕ) (more : List Letter) where
    pub start-packed : (k : PacketKind) (b : Bool) → Narrow (values edition k) → v < many (values edition k)
        → packed 0 0 ((start edition).spelling (record { kind = k; value = v; present = b }) 0 ++ more)
        ≡ first_octets (values edition k) (record { kind = k; value = v; present = b }) ++ packed 0 0 more
    unfolding start type_of_msg wide packed first_octets
    start-packed Indicator true narrow known' =
        value-closed edition.indicators narrow v known' 2 (omega arith) _ _ (omega arith) more
    start-packed Indicator false narrow known' =
        value-closed edition.indicators narrow v known' 0 (omega arith) _ _ (omega arith) more
    start-packed Data true narrow known' = value-closed edition.kinds narrow v known' 3 (omega arith) _ _ (omega arith) more
    start-packed Data false narrow known' = value-closed edition.kinds narrow v known' 1 (omega arith) _ _ (omega arith) more

  -- it ends at an octet edge
  pub start-edge : (f : First) → wide ((start edition).spelling f 0) % 8 ≡ 0
  unfolding start
  start-edge f =
      let letters = (type_of_msg edition).spelling f 0 in
      let q = wide ((type_of_msg edition).spelling f 0) + 0 in
      omega (
        arith,
        wide-append letters (spelt (gap q) 0 ++ []),
        ap wide (append-nil (spelt (gap q) 0)),
        wide-spelt (gap q) 0,
        gap-past q,
      )

pub first-long : (e : Enumerated) → Narrow e → (f : First) → f.value < many e → length (first_octets e f) ≡ first_size e f.value
unfolding first_octets
first-long e narrow f right = value-long e narrow f.value right (first_lead f) (lead-small f)
