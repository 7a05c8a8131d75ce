-- What passes the writer's tests fits the description of an edition, each field's data at its place. Assumes nothing.
use Prim.Native.Nat.{ℕ, suc, ◌+◌, ◌-◌, ◌*◌, ◌/◌, ◌%◌, ◌≤◌, ◌<◌}
use mathlib.Core.Path.{◌≡◌, refl, sym, ap, subst, ◌∙◌}
use mathlib.Core.Bool.{Bool, true, false, cond}
use mathlib.Core.List.{List, [], ◌∷◌, ◌++◌}
use lib.ListN.{length, take, drop}
use lib.Dec.{leb, ltb}
use native.Mathlib.Omega.{arith}
use borrow.Author.Tests.{lt-ltb, le-leb, ltb-true, ltb-false, leb-true, leb-false}
use Rattle.length.proofs.Laws.{both}
use Rattle.format.specs.Spelling.{spelt, whole, wide, gap}
use Rattle.format.specs.Places.{edge}
use Rattle.format.specs.Format.{flag, known, sequence_fits}
use Rattle.format.proofs.Laws.{wide-append, wide-whole, wide-spelt, gap-past}
use Rattle.datagram.specs.Sizes.{packet_limit}
use Rattle.packet.specs.Edition.{Enumerated, many, SoundEnumerated, Edition, SoundEdition, values, edition98, edition02}
use Rattle.packet.specs.Packet.{many_values, types_limit, fields_limit, right_fields, right_data, every, root, addition, enumerated}
use Rattle.packet.specs.Packet.{type_of_msg, start, count, header, size, Content, field_data, field, data_field, packet}
use Rattle.packet.specs.Write.{with_data, right_types}
use Rattle.packet.specs.declared.types.PacketKind.{PacketKind}
use Rattle.packet.specs.declared.types.PacketKind.TheVariants.{Indicator, Data}

-- ---- a value of an ENUMERATED type
mark-fits : (m b : Bool) (p : ℕ) → (b ≡ true → m ≡ true) → (cond m flag (known false)).fits b p
mark-fits true b p h = tt
mark-fits false true p h = sym (h refl)
mark-fits false false p h = refl

module _ (e : Enumerated) (v : ℕ) (sound : SoundEnumerated e) (right : v < many e) where
  value-fits : (b : Bool) → leb e.assigned v ≡ b → (q : ℕ) → (cond b (addition e) (root e)).fits v q
  unfolding addition root
  value-fits true h q =
      let high : e.assigned ≤ v = leb-true e.assigned v h in
      let few = sound.few in (
        (lt-ltb 0 e.added (omega arith), ((tt, refl), (omega arith, lt-ltb (v - e.assigned) e.added (omega arith)))),
        omega arith,
      )
  value-fits false h q =
      let low : v < e.assigned = leb-false e.assigned v h in
      let wide = sound.wide in
      (omega arith, lt-ltb v e.assigned low)

  enumerated-fits : (p : ℕ) → (enumerated e).fits v p
  unfolding enumerated
  enumerated-fits p = (
    (
      mark-fits e.extensible (leb e.assigned v) p (λ h. sound.marked (omega (arith, leb-true e.assigned v h))),
      value-fits (leb e.assigned v) refl _,
    ),
    refl,
  )

-- both editions' values can be told apart
pub sound98 : SoundEdition edition98
sound98 = record { of_kind = by; of_types = types } where
  types : SoundEnumerated edition98.types
  types = record { some = omega arith; wide = omega arith; few = omega arith; marked = λ h. absurd (omega arith) }

  by : (k : PacketKind) → SoundEnumerated (values edition98 k)
  by Indicator = record { some = omega arith; wide = omega arith; few = omega arith; marked = λ h. refl }
  by Data = record { some = omega arith; wide = omega arith; few = omega arith; marked = λ h. refl }

pub sound02 : SoundEdition edition02
sound02 = record { of_kind = by; of_types = types } where
  types : SoundEnumerated edition02.types
  types = record { some = omega arith; wide = omega arith; few = omega arith; marked = λ h. refl }

  by : (k : PacketKind) → SoundEnumerated (values edition02 k)
  by Indicator = record { some = omega arith; wide = omega arith; few = omega arith; marked = λ h. refl }
  by Data = record { some = omega arith; wide = omega arith; few = omega arith; marked = λ h. refl }

-- ---- the data of a field
-- whole octets go on from the next octet edge
pub edge-wide : (p : ℕ) (l : List ℕ) → wide (spelt (gap p) 0 ++ whole l) + p ≡ 8 * (edge p + length l)
edge-wide p l = omega (arith, wide-append (spelt (gap p) 0) (whole l), wide-spelt (gap p) 0, wide-whole l, gap-past p)

data-fits : (l : List ℕ) (p : ℕ) → 0 < length l → length l ≤ packet_limit → field_data.fits (edge p + 2, l) p
unfolding field_data size
data-fits l p some few =
    let two : List ℕ = ((length l - 1) / 256) ∷ ((length l - 1) % 256) ∷ [] in
    let at : edge p + 2 ≡ (wide (size.spelling (length l) p) + p) / 8 = omega (arith, edge-wide p two) in
    (((omega arith, omega arith), (at, refl)), refl)

rest-fits : (l : List ℕ) (p : ℕ) (b : Bool) → ltb 0 (length l) ≡ b → length l ≤ packet_limit
    → (cond b field_data (known (0, []))).fits (cond b (edge p + 2) 0, l) p
rest-fits l p true e few = data-fits l p (ltb-true 0 (length l) e) few
rest-fits [] p false e few = refl
rest-fits (x ∷ l) p false e few = absurd (omega (arith, ltb-false 0 (length (x ∷ l)) e))

-- each length of its data
unfoldable pub Cut : List ℕ → List ℕ → Type 0
Cut [] d = Unit {0}
Cut (n ∷ ns) d = (length (take n d) ≡ n) × Cut ns (drop n d)

count_fits : (n p : ℕ) → 1 ≤ n → n ≤ fields_limit → count.fits n p
unfolding count
count_fits n p some few = (omega arith, rw (le-leb 1 n some, le-leb n fields_limit few))

-- where the first field begins: after the count, from a place on
abbrev pub fields_from : ℕ → ℕ → ℕ
fields_from n p = wide (count.spelling n p) + p

module _ (edition : Edition) where
  -- the place after a header at a place
  abbrev pub past_header : ℕ → Bool → ℕ → ℕ
  past_header kind present p = wide ((header edition).spelling (record { type = kind; present = present }) p) + p

  -- the field whose header begins at p, with its data where it comes to stand
  abbrev pub placed_at : ℕ → List ℕ → ℕ → Content
  placed_at kind octets p = record {
    type = kind;
    start = cond (with_data (length octets)) (edge (past_header kind (with_data (length octets)) p) + 2) 0;
    octets = octets;
  }

  -- ---- all fields
  unfoldable pub placed : List ℕ → List ℕ → List ℕ → ℕ → List Content
  placed [] ns d p = []
  placed (t ∷ ts) [] d p = []
  placed (t ∷ ts) (n ∷ ns) d p = placed_at t (take n d) p ∷ placed ts ns (drop n d)
      (wide ((field edition).spelling (placed_at t (take n d) p) p) + p)

  pub placed-long : (ts ns d : List ℕ) (p : ℕ) → length ts ≡ length ns → length (placed ts ns d p) ≡ length ts
  unfolding placed
  placed-long [] ns d p same = refl
  placed-long (t ∷ ts) [] d p same = absurd (omega arith)
  placed-long (t ∷ ts) (n ∷ ns) d p same = ap suc (placed-long ts ns (drop n d) _ (omega arith))

  placed-none : (ts ns d : List ℕ) (p : ℕ) → ltb 0 (length ts) ≡ false → placed ts ns d p ≡ []
  unfolding placed
  placed-none [] ns d p e = refl
  placed-none (t ∷ ts) ns d p e = absurd (omega (arith, ltb-false 0 (length (t ∷ ts)) e))

  -- where the first field of so many begins: after the first item and the count
  abbrev pub first_field : PacketKind → ℕ → ℕ → ℕ
  first_field kind value n =
      fields_from n (wide ((start edition).spelling (record { kind = kind; value = value; present = ltb 0 n }) 0) + 0)

  module _ (sound : SoundEdition edition) where
    field_fits : (t : ℕ) (l : List ℕ) (p : ℕ) → t ≤ types_limit edition → right_data edition t (with_data (length l)) ≡ true
        → length l ≤ packet_limit
        → (field edition).fits (placed_at t l p) p
    unfolding field header
    field_fits t l p known' right few =
        let b = ltb 0 (length l) in
        let some = sound.of_types.some in (
          (
            (((tt, enumerated-fits edition.types t sound.of_types (omega arith) _), refl), right),
            rest-fits l (past_header t b p) b refl few,
          ),
          refl,
        )

    fields_fit : (ts ns d : List ℕ) (p : ℕ) → Cut ns d → every (λ t. leb t (types_limit edition)) ts ≡ true
        → every (λ n. leb n packet_limit) ns ≡ true
        → right_types edition ts ns ≡ true → sequence_fits (field edition) (placed ts ns d p) p
    unfolding placed sequence_fits every right_types Cut
    fields_fit [] ns d p cut types short right = tt
    fields_fit (t ∷ ts) [] d p cut types short right = tt
    fields_fit (t ∷ ts) (n ∷ ns) d p cut types short right =
        let known' = both (leb t (types_limit edition)) (every (λ k. leb k (types_limit edition)) ts) types in
        let few = both (leb n packet_limit) (every (λ k. leb k packet_limit) ns) short in
        let so = both (right_data edition t (with_data n)) (right_types edition ts ns) right in
        let long = cut.0 in (
          field_fits t (take n d) p (leb-true t (types_limit edition) known'.0)
              (ap (λ (k : ℕ). right_data edition t (with_data k)) long ∙ so.0)
              (omega (arith, leb-true n packet_limit few.0)),
          fields_fit ts ns (drop n d) _ cut.1 known'.1 few.1 so.1,
        )

    -- ---- the packet
    first_fits : (k : PacketKind) (v : ℕ) (b : Bool) → v < many_values edition k
        → (type_of_msg edition).fits (record { kind = k; value = v; present = b }) 0
    unfolding type_of_msg
    first_fits Indicator v b known' =
        ((tt, (tt, enumerated-fits (values edition Indicator) v (sound.of_kind Indicator) (omega arith) _)), refl)
    first_fits Data v b known' = ((tt, (tt, enumerated-fits (values edition Data) v (sound.of_kind Data) (omega arith) _)), refl)

    module _ (ts ns d : List ℕ) (same : length ts ≡ length ns) where
      after-fits : (b : Bool) (p : ℕ) → ltb 0 (length ts) ≡ b → length ts ≤ fields_limit → Cut ns d
          → every (λ t. leb t (types_limit edition)) ts ≡ true
          → every (λ n. leb n packet_limit) ns ≡ true → right_types edition ts ns ≡ true
          → (cond b (data_field edition) (known [])).fits (placed ts ns d (fields_from (length ts) p)) p
      unfolding data_field
      after-fits true p e few cut types short right =
          let long = placed-long ts ns d (fields_from (length ts) p) same in (
            (
              subst (λ (n : ℕ). count.fits n p) (sym long) (count_fits (length ts) p (ltb-true 0 (length ts) e) few),
              (
                subst (λ (n : ℕ). sequence_fits (field edition) (placed ts ns d (fields_from (length ts) p)) (fields_from n p)) (sym long)
                    (fields_fit ts ns d (fields_from (length ts) p) cut types short right),
                refl,
              ),
            ),
            refl,
          )
      after-fits false p e few cut types short right = placed-none ts ns d (fields_from (length ts) p) e

      -- what passes the writer's tests fits: its fields are placed behind the first item
      pub packet-fits : (k : PacketKind) (v : ℕ) → v < many_values edition k → length ts ≤ fields_limit → Cut ns d
          → every (λ t. leb t (types_limit edition)) ts ≡ true → every (λ n. leb n packet_limit) ns ≡ true
          → right_types edition ts ns ≡ true → right_fields k (ltb 0 (length ts)) ≡ true
          → (packet edition).fits (record { kind = k; value = v; contents = placed ts ns d (first_field k v (length ts)) }) 0
      unfolding packet start
      packet-fits k v known' few cut types short right fields =
          let contents = placed ts ns d (first_field k v (length ts)) in
          let b = ltb 0 (length ts) in
          let after : ℕ = wide ((start edition).spelling (record { kind = k; value = v; present = ltb 0 (length ts) }) 0) + 0 in
          let long : b ≡ ltb 0 (length contents) = ap (ltb 0) (sym (placed-long ts ns d (first_field k v (length ts)) same)) in (
            subst
                (λ (x : Bool).
                ((start edition).fits (record { kind = k; value = v; present = x }) 0)
                × (((cond x (data_field edition) (known [])).fits (placed ts ns d (first_field k v (length ts)))
                (wide ((start edition).spelling (record { kind = k; value = v; present = x }) 0) + 0)) × Unit {0}))
                long (
                  ((first_fits k v b known', (tt, fields)), refl),
                  (after-fits b after refl few cut types short right, tt),
                ),
            refl,
          )
