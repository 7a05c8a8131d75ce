-- What the description spells by an edition, packed into octets, is the packet octet by octet. Assumes nothing.
use Prim.Native.Nat.{ℕ, suc, ◌+◌, ◌-◌, ◌%◌, ◌<◌}
use mathlib.Core.Path.{◌≡◌, refl, sym, ap, ◌∙◌}
use mathlib.Core.Bool.{Bool, true, false, cond}
use mathlib.Core.List.{List, [], ◌∷◌, ◌++◌, append_assoc, append-nil}
use lib.ListN.{length, take, drop}
use lib.Dec.{leb, ltb}
use native.Mathlib.Omega.{arith}
use borrow.Author.Tests.{leb-true}
use Rattle.length.specs.Length.{length_octets}
use Rattle.length.proofs.Laws.{both}
use Rattle.format.specs.Spelling.{Letter, spelt, whole, wide, packed, gap}
use Rattle.format.specs.Waiting.{Waiting, none_wait, Waits}
use Rattle.format.specs.Format.{known, sequence_spelt}
use Rattle.format.proofs.Laws.{wide-append, wide-whole, none-waits}
use Rattle.format.proofs.Laws.{packed-closed, packed-whole}
use Rattle.packet.specs.Edition.{many, SoundEnumerated, Edition, values}
use Rattle.packet.specs.Write.{contents_of, packet_octets}
use Rattle.packet.specs.Packet.{many_values, types_limit, every, Content, start, count}
use Rattle.packet.specs.Packet.{field, data_field, packet}
use Rattle.packet_laws.specs.Octets.{NarrowEdition}
use Rattle.packet_laws.specs.Laid.{first_octets, field_octets, after_field, fields_octets, laid_octets}
use Rattle.packet.specs.declared.types.PacketKind.{PacketKind}
use Rattle.packet.specs.declared.types.Enumerated.{Enumerated}
use Rattle.packet_laws.proofs.ValueLaid.{start-packed, start-edge}
use Rattle.packet_laws.proofs.FieldLaid.{edge-whole, after-waits, after-at, field-wide, field-packed}

-- ---- the fields
pub contents-long : (ts ns d : List ℕ) → length ts ≡ length ns → length (contents_of ts ns d) ≡ length ts
unfolding contents_of
contents-long [] ns d same = refl
contents-long (t ∷ ts) [] d same = absurd (omega arith)
contents-long (t ∷ ts) (n ∷ ns) d same = ap suc (contents-long ts ns (drop n d) (omega arith))

pub type-known : (e : Enumerated) → SoundEnumerated e → (t : ℕ) (ts : List ℕ) → every (λ k. leb k (many e - 1)) (t ∷ ts) ≡ true
    → (t < many e) × (every (λ k. leb k (many e - 1)) ts ≡ true)
unfolding every
type-known e sound t ts all =
    let parts = both (leb t (many e - 1)) (every (λ k. leb k (many e - 1)) ts) all in
    let some = sound.some in
    (omega (arith, leb-true t (many e - 1) parts.0), parts.1)

module _ (edition : Edition) (narrow : NarrowEdition edition) where
  fields-packed : (ts ns d : List ℕ) (w : Waiting) (p : ℕ) (more : List Letter) → every (λ t. leb t (types_limit edition)) ts ≡ true
      → Waits w → p % 8 ≡ w.width
      → packed w.value w.width
      (sequence_spelt (field edition) (contents_of ts ns d) p
      ++ (spelt (gap (wide (sequence_spelt (field edition) (contents_of ts ns d) p) + p)) 0 ++ more))
      ≡ fields_octets edition.types w ts ns d ++ packed 0 0 more
  unfolding contents_of sequence_spelt fields_octets wide
  fields-packed [] ns d w p more all waits at =
      let e : 0 + p ≡ p = omega arith in
      rw e (packed-closed w waits p at more)
  fields-packed (t ∷ ts) [] d w p more all waits at =
      let e : 0 + p ≡ p = omega arith in
      rw e (packed-closed w waits p at more)
  fields-packed (t ∷ ts) (n ∷ ns) d w p more all waits at =
      let c : Content = record { type = t; start = 0; octets = take n d } in
      let letters = (field edition).spelling (record { type = t; start = 0; octets = take n d }) p in
      let known' = type-known edition.types narrow.of_types.sound t ts all in
      let q = wide letters + p in
      let rest = sequence_spelt (field edition) (contents_of ts ns (drop n d)) (wide letters + p) in
      let octets = field_octets edition.types w t (take n d) in
      let next = after_field edition.types w t (take n d) in
      let same : wide (letters ++ rest) + p ≡ wide rest + q = omega (arith, wide-append letters rest) in
      let on : q % 8 ≡ next.width
      = ap (λ (k : ℕ). k % 8) (field-wide edition narrow.of_types c p known'.0)
      ∙ after-at edition.types narrow.of_types w waits p at t (take n d) in
      ap (λ (k : ℕ). packed w.value w.width ((letters ++ rest) ++ (spelt (gap k) 0 ++ more))) same
      ∙ ap (packed w.value w.width) (append_assoc letters rest (spelt (gap (wide rest + q)) 0 ++ more))
      ∙ field-packed edition narrow.of_types c p known'.0 w waits at (rest ++ (spelt (gap (wide rest + q)) 0 ++ more))
      ∙ ap (λ (l : List ℕ). octets ++ l)
      (fields-packed ts ns (drop n d) next q more known'.1
      (after-waits edition.types narrow.of_types w waits t (take n d) known'.0) on)
      ∙ sym (append_assoc octets (fields_octets edition.types next ts ns (drop n d)) (packed 0 0 more))

  -- ---- the packet
  module _ (ts ns d : List ℕ) (all : every (λ t. leb t (types_limit edition)) ts ≡ true) (same : length ts ≡ length ns) where
    -- the count and the fields, from an edge on
    counted-spelt : (p : ℕ) → p % 8 ≡ 0 → (data_field edition).spelling (contents_of ts ns d) p
        ≡ whole (length_octets (length ts)) ++ sequence_spelt (field edition) (contents_of ts ns d)
        (wide (whole (length_octets (length ts))) + p)
    unfolding data_field count
    counted-spelt p edge =
        rw (contents-long ts ns d same, edge-whole p edge (length_octets (length ts)))

    -- all that follows the first item, up to the packet's end
    after-start : (b : Bool) (p : ℕ) → p % 8 ≡ 0
        → packed 0 0 ((cond b (data_field edition) (known [])).spelling (contents_of ts ns d) p
        ++ spelt (gap (wide ((cond b (data_field edition) (known [])).spelling (contents_of ts ns d) p) + p)) 0)
        ≡ cond b (length_octets (length ts) ++ fields_octets edition.types none_wait ts ns d) []
    unfolding packed wide spelt
    after-start true p edge =
        let w = length_octets (length ts) in
        let q = wide (whole w) + p in
        let letters = sequence_spelt (field edition) (contents_of ts ns d) (wide (whole w) + p) in
        let end = spelt (gap (wide letters + q)) 0 in
        let on : (wide (whole w) + p) % 8 ≡ 0 = omega (arith, wide-whole w) in
        let same : wide (whole w ++ letters) + p ≡ wide letters + q = omega (arith, wide-append (whole w) letters) in
        ap (λ (l : List Letter). packed 0 0 (l ++ spelt (gap (wide l + p)) 0)) (counted-spelt p edge)
        ∙ ap (λ (k : ℕ). packed 0 0 ((whole w ++ letters) ++ spelt (gap k) 0)) same
        ∙ ap (packed 0 0) (append_assoc (whole w) letters end) ∙ packed-whole w (letters ++ end)
        ∙ ap (λ (l : List ℕ). w ++ l)
        (ap (λ (l : List Letter). packed 0 0 (letters ++ l)) (sym (append-nil end))
        ∙ fields-packed ts ns d none_wait q [] all none-waits on ∙ append-nil (fields_octets edition.types none_wait ts ns d))
    after-start false p edge =
        let none : (8 - (0 + p) % 8) % 8 ≡ 0 = omega arith in
        rw none

    module _ (k : PacketKind) (v : ℕ) (known' : v < many_values edition k) where
      -- the packet's octets are those laid one after the other
      pub packet-laid : packet_octets edition k v ts ns d ≡ laid_octets edition k v ts ns d
      unfolding packet_octets packet laid_octets
      packet-laid =
          let b = ltb 0 (length ts) in
          let letters = (start edition).spelling (record { kind = k; value = v; present = b }) 0 in
          let rest = (cond b (data_field edition) (known [])).spelling (contents_of ts ns d) (wide letters + 0) in
          let edge = start-edge edition (record { kind = k; value = v; present = b }) in
          rw (contents-long ts ns d same)
          (start-packed edition v (rest ++ spelt (gap (wide rest + (wide letters + 0))) 0) k b (narrow.of_kind k) known'
          ∙ ap (λ (l : List ℕ). first_octets (values edition k) (record { kind = k; value = v; present = b }) ++ l)
          (after-start b (wide letters + 0) (omega arith)))
