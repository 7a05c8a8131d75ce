-- Every part of a packet's description has both laws, what is spelt reads and what reads is spelt, in every edition: put together from
-- the laws of its parts. Assumes nothing.
use Prim.Native.Nat.{ℕ, ◌+◌, ◌-◌, ◌≤◌, ◌<◌}
use mathlib.Core.Path.{◌≡◌, refl, ap}
use mathlib.Core.Bool.{Bool, true, false, not, cond}
use mathlib.Core.List.{List, []}
use lib.ListN.{length}
use lib.Dec.{leb, ltb}
use native.Mathlib.Omega.{arith}
use borrow.Author.Tests.{lt-ltb, le-leb, lt-leb, ltb-true, leb-true}
use Rattle.length.specs.Refusals.{not_assigned, wrong_data}
use Rattle.length.proofs.Laws.{both}
use Rattle.format.specs.Format.{known}
use Rattle.format.proofs.Laws.{Lawful, lawful-known, lawful-item, lawful-guarded, lawful-demand, lawful_then, lawful-made, lawful-either}
use Rattle.format.proofs.Laws.{lawful-sequence-of, lawful-flag, lawful-bits, lawful-align, lawful-here, lawful-octets, lawful-two-octets}
use Rattle.format.proofs.Laws.{lawful-length-rule}
use Rattle.datagram.specs.Sizes.{packet_limit}
use Rattle.packet.specs.Edition.{Enumerated, Edition, values}
use Rattle.packet.specs.Packet.{root, addition, enumerated, chosen, is_data, type_of_msg, right_fields, start, count, fields_least}
use Rattle.packet.specs.Packet.{fields_limit, Header, header, size, Content, field_data, field, data_field, packet}

-- ---- a value of an ENUMERATED type
module _ (e : Enumerated) where
  lawful-root : Lawful (root e)
  unfolding root
  lawful-root = lawful-guarded not_assigned _ (lawful-bits e.width)

  root-low : (v p : ℕ) → (root e).fits v p → leb e.assigned v ≡ false
  unfolding root
  root-low v p fits = lt-leb e.assigned v (ltb-true v e.assigned fits.1)

  lawful-addition : Lawful (addition e)
  unfolding addition
  lawful-addition =
      lawful-made (λ x. e.assigned + x.1.1) (λ v. (tt, (false, v - e.assigned)))
      (λ x p fits. back x.1.0 x.1.1 (e.assigned + x.1.1 - e.assigned) fits.1.0.1 (omega arith))
      (lawful_then _ (lawful-demand not_assigned (ltb 0 e.added))
      (λ _.
      lawful_then _ (lawful-guarded not_assigned not lawful-flag)
      (λ _. lawful-guarded not_assigned (λ v. ltb v e.added) (lawful-bits 6)))) where
        back : (b : Bool) (v w : ℕ) → not b ≡ true → w ≡ v → ◌≡◌ {A = Unit {0} × (Bool × ℕ)} (tt, (false, w)) (tt, (b, v))
        back true v w z e = cc
        back false v w z e = ap (λ (n : ℕ). (tt, (false, n))) e

  addition-high : (v p : ℕ) → (addition e).fits v p → leb e.assigned v ≡ true
  unfolding addition
  addition-high v p fits = le-leb e.assigned v (omega (arith, fits.1))

  pub lawful-enumerated : Lawful (enumerated e)
  unfolding enumerated
  lawful-enumerated =
      lawful-made _ _ (λ x p fits. back x.0 x.1 _ fits.1)
      (lawful_then _ (lawful-either e.extensible lawful-flag (lawful-known false))
      (λ more. lawful-either more lawful-addition lawful-root)) where
        back : (more : Bool) (v p : ℕ) → (cond more (addition e) (root e)).fits v p → ◌≡◌ {A = Bool × ℕ} (leb e.assigned v, v) (more, v)
        back true v p fits = ap (λ (b : Bool). (b, v)) (addition-high v p fits)
        back false v p fits = ap (λ (b : Bool). (b, v)) (root-low v p fits)

-- ---- lengths
lawful-count : Lawful count
unfolding count
lawful-count = lawful-length-rule fields_least fields_limit

lawful-size : Lawful size
unfolding size
lawful-size = lawful-made _ _ (λ n p fits. omega arith) (lawful-two-octets (packet_limit - 1))

pub size-some : (n p : ℕ) → size.fits n p → 1 ≤ n
unfolding size
size-some n p fits = omega (arith, fits.1)

-- ---- the data of a field
lawful-field-data : Lawful field_data
unfolding field_data
lawful-field-data =
    lawful-made _ _ (λ x p fits. back x.0 x.1 fits.1.1)
    (lawful_then _ lawful-size (λ n. lawful_then _ lawful-here (λ _. lawful-octets n))) where
      back : (n : ℕ) (part : ℕ × List ℕ) → length part.1 ≡ n → ◌≡◌ {A = ℕ × (ℕ × List ℕ)} (length part.1, part) (n, part)
      back n part e = ap (λ (k : ℕ). (k, part)) e

data-some : (part : ℕ × List ℕ) (p : ℕ) → field_data.fits part p → 0 < length part.1
unfolding field_data
data-some part p fits = size-some (length part.1) _ fits.0.0

module _ (edition : Edition) where
  -- ---- the first item
  lawful-first : Lawful (type_of_msg edition)
  unfolding type_of_msg
  lawful-first =
      lawful-made (λ x. record { kind = chosen x.1.0; value = x.1.1; present = x.0 })
      (λ f. (f.present, (is_data f.kind, f.value)))
      (λ x p fits. back x.0 x.1.0 x.1.1)
      (lawful_then _ lawful-flag (λ _. lawful_then _ lawful-flag (λ choice. lawful-enumerated (values edition (chosen choice))))) where
        back : (present choice : Bool) (v : ℕ)
            → ◌≡◌ {A = Bool × (Bool × ℕ)} (present, (is_data (chosen choice), v)) (present, (choice, v))
        back present true v = refl
        back present false v = refl

  lawful-start : Lawful (start edition)
  unfolding start
  lawful-start =
      lawful-made _ _ (λ x p fits. refl)
      (lawful-item
      (lawful_then _ lawful-first
      (λ f. lawful_then _ lawful-align (λ _. lawful-demand wrong_data (right_fields f.kind f.present)))))

  -- ---- a field
  lawful-header : Lawful (header edition)
  unfolding header
  lawful-header =
      lawful-guarded wrong_data _
      (lawful-made (λ x. record { type = x.1; present = x.0 }) (λ h. (h.present, h.type)) (λ x p fits. refl)
      (lawful_then _ lawful-flag (λ _. lawful-enumerated edition.types)))

  pub lawful-field : Lawful (field edition)
  unfolding field
  lawful-field =
      lawful-made (λ x. record { type = x.0.type; start = x.1.0; octets = x.1.1 })
      (λ c. (record { type = c.type; present = ltb 0 (length c.octets) }, (c.start, c.octets)))
      (λ x p fits. back x.0.present x.0.type x.1 _ fits.1)
      (lawful_then _ (lawful-item lawful-header) (λ h. lawful-either h.present lawful-field-data (lawful-known (0, [])))) where
        back : (present : Bool) (kind : ℕ) (part : ℕ × List ℕ) (p : ℕ) → (cond present field_data (known (0, []))).fits part p
            → ◌≡◌ {A = Header × (ℕ × List ℕ)} (record { type = kind; present = ltb 0 (length part.1) }, part)
            (record { type = kind; present = present }, part)
        back true kind part p fits = ap (λ (b : Bool). (record { type = kind; present = b }, part)) (lt-ltb 0 _ (data-some part p fits))
        back false kind part p fits =
            ap (λ (b : Bool). (record { type = kind; present = b }, part)) (ap (λ (x : ℕ × List ℕ). ltb 0 (length x.1)) fits)

  -- ---- the packet
  lawful-data-field : Lawful (data_field edition)
  unfolding data_field
  lawful-data-field =
      lawful-made _ _ (λ x p fits. ap (λ (n : ℕ). (n, x.1)) fits.1.1)
      (lawful_then _ lawful-count (λ n. lawful-sequence-of n lawful-field))

  fields-some : (present : Bool) (contents : List Content) (p : ℕ) → (cond present (data_field edition) (known [])).fits contents p
      → ltb 0 (length contents) ≡ present
  unfolding data_field count
  fields-some true contents p fits =
      lt-ltb 0 (length contents)
      (leb-true 1 (length contents) (both (leb 1 (length contents)) (leb (length contents) fields_limit) fits.0.0.1).0)
  fields-some false contents p fits = ap (λ (x : List Content). ltb 0 (length x)) fits

  pub lawful-packet : Lawful (packet edition)
  unfolding packet
  lawful-packet =
      lawful-made (λ x. record { kind = x.0.kind; value = x.0.value; contents = x.1.0 })
      (λ p. (record { kind = p.kind; value = p.value; present = ltb 0 (length p.contents) }, (p.contents, tt)))
      (λ x p fits.
      ap (λ (b : Bool). (record { kind = x.0.kind; value = x.0.value; present = b }, x.1))
      (fields-some x.0.present x.1.0 _ fits.1.0))
      (lawful_then _ lawful-start
      (λ f. lawful_then _ (lawful-either f.present lawful-data-field (lawful-known [])) (λ _. lawful-align)))
