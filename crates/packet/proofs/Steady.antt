-- Every part of a packet's description keeps to the octets that it is read from, in every edition: put together from its parts. Assumes
-- nothing.
use Prim.Native.Nat.{◌+◌, ◌-◌}
use mathlib.Core.Bool.{Bool, false, not, cond}
use mathlib.Core.List.{[]}
use lib.ListN.{length}
use lib.Dec.{ltb}
use Rattle.length.specs.Refusals.{not_assigned, wrong_data}
use Rattle.format.specs.Format.{known}
use Rattle.format.proofs.Laws.{Steady, steady-known, steady-item, steady-guarded, steady-demand, steady_then, steady-made, steady-either}
use Rattle.format.proofs.Laws.{steady-sequence-of, steady-flag, steady-bits, steady-align, steady-here, steady-octets, steady-two-octets}
use Rattle.format.proofs.Laws.{steady-length-rule}
use Rattle.datagram.specs.Sizes.{packet_limit}
use Rattle.packet.specs.Edition.{Enumerated, added_width, Edition, values}
use Rattle.packet.specs.Packet.{root, addition, enumerated, chosen, is_data, type_of_msg, right_fields, start, count, fields_least}
use Rattle.packet.specs.Packet.{fields_limit, header, size, field_data, field, data_field, packet}

module _ (e : Enumerated) where
  steady-root : Steady (root e)
  unfolding root
  steady-root = steady-guarded not_assigned _ (steady-bits e.width)

  steady-addition : Steady (addition e)
  unfolding addition
  steady-addition =
      steady-made (λ x. e.assigned + x.1.1) (λ v. (tt, (false, v - e.assigned)))
      (steady_then _ (steady-demand not_assigned (ltb 0 e.added))
      (λ _.
      steady_then _ (steady-guarded not_assigned not steady-flag)
      (λ _. steady-guarded not_assigned (λ v. ltb v e.added) (steady-bits added_width))))

  steady-enumerated : Steady (enumerated e)
  unfolding enumerated
  steady-enumerated =
      steady-made _ _
      (steady_then _ (steady-either e.extensible steady-flag (steady-known _)) (λ more. steady-either more steady-addition steady-root))

pub steady-count : Steady count
unfolding count
steady-count = steady-length-rule fields_least fields_limit

steady-size : Steady size
unfolding size
steady-size = steady-made _ _ (steady-two-octets (packet_limit - 1))

steady-field-data : Steady field_data
unfolding field_data
steady-field-data = steady-made _ _ (steady_then _ steady-size (λ n. steady_then _ steady-here (λ _. steady-octets n)))

module _ (edition : Edition) where
  steady-first : Steady (type_of_msg edition)
  unfolding type_of_msg
  steady-first =
      steady-made (λ x. record { kind = chosen x.1.0; value = x.1.1; present = x.0 })
      (λ f. (f.present, (is_data f.kind, f.value)))
      (steady_then _ steady-flag (λ _. steady_then _ steady-flag (λ choice. steady-enumerated (values edition (chosen choice)))))

  pub steady-start : Steady (start edition)
  unfolding start
  steady-start =
      steady-made (λ x. x.0) (λ f. (f, (tt, tt)))
      (steady-item
      (steady_then _ steady-first
      (λ f. steady_then _ steady-align (λ _. steady-demand wrong_data (right_fields f.kind f.present)))))

  pub steady-header : Steady (header edition)
  unfolding header
  steady-header =
      steady-guarded wrong_data _
      (steady-made (λ x. record { type = x.1; present = x.0 }) (λ h. (h.present, h.type))
      (steady_then _ steady-flag (λ _. steady-enumerated edition.types)))

  pub steady-field : Steady (field edition)
  unfolding field
  steady-field =
      steady-made (λ x. record { type = x.0.type; start = x.1.0; octets = x.1.1 })
      (λ c. (record { type = c.type; present = ltb 0 (length c.octets) }, (c.start, c.octets)))
      (steady_then _ (steady-item steady-header) (λ h. steady-either h.present steady-field-data (steady-known _)))

  pub steady-fields : (present : Bool) → Steady (cond present (data_field edition) (known []))
  unfolding data_field
  steady-fields present =
      steady-either present
      (steady-made _ _ (steady_then _ steady-count (λ n. steady-sequence-of n steady-field)))
      (steady-known [])

  pub steady-packet : Steady (packet edition)
  unfolding packet
  steady-packet =
      steady-made (λ x. record { kind = x.0.kind; value = x.0.value; contents = x.1.0 })
      (λ p. (record { kind = p.kind; value = p.value; present = ltb 0 (length p.contents) }, (p.contents, tt)))
      (steady_then _ steady-start (λ f. steady_then _ (steady-fields f.present) (λ _. steady-align)))
