-- Laws of a packet as it is laid by an edition, for this crate and those above: the octets of a field and of a packet, and how many they
-- are. Assumes nothing.
use Prim.Native.Nat.{ℕ, ◌+◌, ◌-◌, ◌*◌, ◌/◌, ◌%◌, ◌≤◌, ◌<◌}
use mathlib.Core.Path.{◌≡◌, sym, ap, ◌∙◌}
use mathlib.Core.Bool.{Bool, true, false, cond}
use mathlib.Core.List.{List, [], ◌∷◌, ◌++◌, append-nil}
use lib.ListN.{length, take, drop, length-append, length-drop}
use lib.Seq.{length-take-le}
use lib.Dec.{leb, ltb}
use native.Mathlib.Omega.{arith}
use borrow.Author.Tests.{lt-ltb, le-ltb, ltb-true, lt-leb}
use Rattle.length.specs.Length.{length_octets}
use Rattle.length.proofs.Laws.{length_octets-one, both}
use Rattle.length.specs.Answers.{done}
use Rattle.format.specs.Places.{edge}
use Rattle.format.specs.Waiting.{Waiting, none_wait, Waits, closed}
use Rattle.format.proofs.Laws.{none-waits, closed-long}
use Rattle.packet.specs.Edition.{many, Edition, values, edition98}
use Rattle.packet.specs.Packet.{fields_limit, types_limit, many_values, every}
use Rattle.packet.specs.Write.{with_data, packet_octets, lengths_sum, total, one_each, all_assigned, packet_to_write}
use Rattle.packet_laws.specs.Octets.{Narrow, NarrowEdition}
use Rattle.packet_laws.specs.Laid.{value_width, first_octets, size_octets, header_octets, header_left}
use Rattle.packet_laws.specs.Laid.{field_octets, after_field, fields_octets, counted_fields, laid_octets, past_field, past_fields}
use Rattle.packet_laws.specs.Laid.{header_width, first_size, packet_size}
use Rattle.packet_laws.specs.Claims.{own_size, NeverLonger}
use Rattle.packet.specs.declared.types.PacketKind.{PacketKind}
use Rattle.packet.specs.declared.types.PacketKind.TheVariants.{Indicator, Data}
use Rattle.packet.specs.declared.types.Named.TheVariants.{Old}
use Rattle.packet.specs.declared.types.Enumerated.{Enumerated}
use Rattle.packet_laws.proofs.ValueLaid.{first-long}
use Rattle.packet_laws.proofs.FieldLaid.{after-waits, after-at, field-long}
use Rattle.packet_laws.proofs.Laid.{type-known, packet-laid}
use Rattle.packet.proofs.Laws.{each-sum, each-length, write-form}
use Rattle.packet_laws.proofs.Editions as editions

-- ---- the size
-- the fields, from a place on, end at the octet edge next to the place after them
module _ (e : Enumerated) (narrow : Narrow e) where
  fields-length : (ts ns d : List ℕ) (w : Waiting) (p : ℕ) → every (λ t. leb t (many e - 1)) ts ≡ true → length ts ≡ length ns
      → lengths_sum ns ≡ length d → Waits w → p % 8 ≡ w.width
      → p / 8 + length (fields_octets e w ts ns d) ≡ edge (past_fields e p ts ns)
  unfolding fields_octets past_fields total
  fields-length [] ns d w p known same all waits at = closed-long w waits p at
  fields-length (t ∷ ts) [] d w p known same all waits at = absurd (omega arith)
  fields-length (t ∷ ts) (n ∷ ns) d w p known same all waits at =
      let here = take n d in
      let next = after_field e w t (take n d) in
      let known' = type-known e narrow.sound t ts known in
      let long : past_field e p t (length (take n d)) ≡ past_field e p t n = ap (past_field e p t) (length-take-le n d (omega arith)) in
      let on : past_field e p t n % 8 ≡ next.width = ap (λ (q : ℕ). q % 8) (sym long) ∙ after-at e narrow w waits p at t here in
      omega (
        arith,
        length-append (field_octets e w t here) (fields_octets e next ts ns (drop n d)),
        field-long e narrow w waits p at t here known'.0,
        ap (λ (q : ℕ). q / 8) long,
        fields-length ts ns (drop n d) next (past_field e p t n) known'.1 (omega arith) (omega (arith, length-drop n d))
            (after-waits e narrow w waits t here known'.0) on,
      )

module _ (edition : Edition) (narrow : NarrowEdition edition) (k : PacketKind) (v : ℕ) (ts ns d : List ℕ) where
  packet-length : v < many_values edition k → length ts ≤ fields_limit → length ts ≡ length ns → lengths_sum ns ≡ length d
      → every (λ t. leb t (types_limit edition)) ts ≡ true
      → length (laid_octets edition k v ts ns d) ≡ packet_size edition k v ts ns
  unfolding laid_octets
  packet-length right few same all known = by (ltb 0 (length ts)) (ltb 0 (length ts)) where
    by : (c b : Bool)
        → length (first_octets (values edition k) (record { kind = k; value = v; present = c })
        ++ cond b (counted_fields edition.types ts ns d) [])
        ≡ cond b (edge (past_fields edition.types (8 * (first_size (values edition k) v + 1)) ts ns)) (first_size (values edition k) v)
    by c true =
        let first = first_octets (values edition k) (record { kind = k; value = v; present = c }) in
        let p = 8 * (first_size (values edition k) v + 1) in
        let fields = fields-length edition.types narrow.of_types ts ns d none_wait p known same all none-waits (omega arith) in
        let count : length (length_octets (length ts)) ≡ 1 = ap length (length_octets-one (length ts) (omega arith)) in
        omega (
          arith,
          length-append first (counted_fields edition.types ts ns d),
          first-long (values edition k) (narrow.of_kind k) (record { kind = k; value = v; present = c }) right,
          length-append (length_octets (length ts)) (fields_octets edition.types none_wait ts ns d),
        )
    by c false =
        let first = first_octets (values edition k) (record { kind = k; value = v; present = c }) in
        omega (
          arith,
          length-append first [],
          first-long (values edition k) (narrow.of_kind k) (record { kind = k; value = v; present = c }) right,
        )

  -- the octets that the description spells are as many
  pub packet-size : length ts ≤ fields_limit → one_each ts ns d ≡ true → all_assigned edition k v ts ≡ true
      → length (packet_octets edition k v ts ns d) ≡ packet_size edition k v ts ns
  unfolding all_assigned
  packet-size few each known =
      let parts = both (ltb v (many_values edition k)) (every (λ t. leb t (types_limit edition)) ts) known in
      let right = ltb-true v (many_values edition k) parts.0 in
      ap length (packet-laid edition narrow ts ns d parts.1 (each-length ts ns d each) k v right)
      ∙ packet-length right few (each-length ts ns d each) (each-sum ts ns d each) parts.1

  -- what is written is laid so
  pub write-laid : (w : List ℕ) → packet_to_write edition k v ts ns d ≡ done w → w ≡ laid_octets edition k v ts ns d
  write-laid w e =
      let form = write-form edition k v ts ns d w e in
      form.is ∙ packet-laid edition narrow ts ns d form.types form.same k v form.known

-- ---- the octets of a field and what waits after it, without data and with it
module _ (e : Enumerated) (w : Waiting) (k : ℕ) (d : List ℕ) where
  pub field-bare : length d < 1 → field_octets e w k d ≡ header_octets e w k false
  unfolding field_octets
  field-bare none = rw (le-ltb 0 (length d) (omega arith)) (append-nil (header_octets e w k false))

  pub after-bare : length d < 1 → after_field e w k d ≡ header_left e w k false
  unfolding after_field
  after-bare none = rw (le-ltb 0 (length d) (omega arith))

  pub field-full : 1 ≤ length d
      → field_octets e w k d ≡ header_octets e w k true ++ (closed (header_left e w k true) ++ (size_octets (length d) ++ d))
  unfolding field_octets
  field-full some = rw (lt-ltb 0 (length d) some)

  pub after-full : 1 ≤ length d → after_field e w k d ≡ none_wait
  unfolding after_field
  after-full some = rw (lt-ltb 0 (length d) some)

-- ---- the octets of a packet, without fields and with them
module _ (edition : Edition) (k : PacketKind) (v : ℕ) (ts ns d : List ℕ) where
  pub packet-bare : ltb 0 (length ts) ≡ false
      → laid_octets edition k v ts ns d
      ≡ first_octets (values edition k) (record { kind = k; value = v; present = ltb 0 (length ts) })
  unfolding laid_octets
  packet-bare none =
      let first = first_octets (values edition k) (record { kind = k; value = v; present = ltb 0 (length ts) }) in
      ap (λ (b : Bool). first ++ cond b (counted_fields edition.types ts ns d) []) none ∙ append-nil first

  pub packet-full : ltb 0 (length ts) ≡ true
      → laid_octets edition k v ts ns d
      ≡ first_octets (values edition k) (record { kind = k; value = v; present = ltb 0 (length ts) })
      ++ counted_fields edition.types ts ns d
  unfolding laid_octets
  packet-full some =
      let first = first_octets (values edition k) (record { kind = k; value = v; present = ltb 0 (length ts) }) in
      ap (λ (b : Bool). first ++ cond b (counted_fields edition.types ts ns d) []) some

-- ---- no packet of the edition of 06/98 is longer than with a header on an octet of its own
old-header : (t : ℕ) → t < 8 → header_width edition98.types t ≡ 4
unfolding value_width
old-header t low = rw (lt-leb 8 t low)

old-first : (k : PacketKind) (v : ℕ) → v < many_values edition98 k → first_size (values edition98 k) v ≡ 1
unfolding value_width
old-first Indicator v low = rw (lt-leb 16 v low)
old-first Data v low = rw (lt-leb 9 v low)

past-shorter : (ts ns : List ℕ) (p : ℕ) → every (λ t. leb t (types_limit edition98)) ts ≡ true → p % 4 ≡ 0
    → past_fields edition98.types p ts ns ≤ p + 8 * total own_size ns
unfolding past_fields total
past-shorter [] ns p known half = omega arith
past-shorter (t ∷ ts) [] p known half = omega arith
past-shorter (t ∷ ts) (n ∷ ns) p known half =
    let known' = type-known edition98.types (editions.narrow Old).of_types.sound t ts known in
    let one = by (with_data n) (header_width edition98.types t) (old-header t known'.0) in
    omega (arith, one.0, past-shorter ts ns (past_field edition98.types p t n) known'.1 one.1) where
      by : (b : Bool) (h : ℕ) → h ≡ 4
          → (cond b (8 * (edge (p + h) + 2 + n)) (p + h) ≤ p + 8 * cond b (3 + n) 1)
          × (cond b (8 * (edge (p + h) + 2 + n)) (p + h) % 4 ≡ 0)
      by true h is = (omega arith, omega arith)
      by false h is = (omega arith, omega arith)

pub never-longer : NeverLonger
never-longer k v ts ns d w e =
    let form = write-form edition98 k v ts ns d w e in
    let size : length w ≡ packet_size edition98 k v ts ns
    = ap length (write-laid edition98 (editions.narrow Old) k v ts ns d w e)
    ∙ packet-length edition98 (editions.narrow Old) k v ts ns d form.known form.few form.same form.all form.types in
    rw (size, ← form.same) (by (ltb 0 (length ts)) form.types (old-first k v form.known)) where
      by : (b : Bool) → every (λ t. leb t (types_limit edition98)) ts ≡ true → first_size (values edition98 k) v ≡ 1
          → cond b (edge (past_fields edition98.types (8 * (first_size (values edition98 k) v + 1)) ts ns))
          (first_size (values edition98 k) v)
          ≤ cond b (2 + total own_size ns) 1
      by true known one =
          let short = past-shorter ts ns (8 * (first_size (values edition98 k) v + 1)) known (omega arith) in
          omega arith
      by false known one = omega arith
