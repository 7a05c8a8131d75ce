-- What the writer puts into the lent buffer for the first item, for a header and for a field, after the bits that wait: one law for each
-- answer. Assumes nothing.
use Prim.Native.Nat.{ℕ, ◌+◌, ◌-◌, ◌*◌, ◌≤◌, ◌<◌}
use mathlib.Core.Path.{◌≡◌, sym, ap, ap₂, subst, ◌∙◌}
use mathlib.Core.Bool.{Bool, true, false}
use mathlib.Core.List.{List, ◌++◌, append_assoc}
use lib.ListN.{length, length-append}
use native.Mathlib.Omega.{arith}
use borrow.Rule.Slice.PartMut.{put_mid}
use Rattle.length.specs.Promise.{Put}
use Rattle.length.proofs.Laws.{put_next, put-long, room-left}
use Rattle.format.specs.Waiting.{Waiting, waiting, joined, full_octets, left, closed}
use Rattle.format.proofs.Laws.{waits-left}
use Rattle.packet.specs.Packet.{is_data}
use Rattle.packet_laws.specs.Laid.{value_bits, first_lead, first_bits, first_octets, size_octets, with_flag, with_type}
use Rattle.packet_laws.specs.Laid.{header_octets, header_left, field_octets}
use Rattle.packet_laws.specs.Items.{BitIs, ValueWide, BitsFit, BitsPut, EdgeFits, DataFits, FirstFits, HeaderFits, HeaderPut}
use Rattle.packet_laws.specs.Items.{FieldFits, FieldPut}
use Rattle.packet.specs.declared.types.Enumerated.{Enumerated}
use Rattle.packet.specs.declared.types.PacketKind.{PacketKind}
use Rattle.packet_laws.proofs.Laws.{rest, flag_small, value-small, lead-small, lead-waits, flag-waits, header-waits}
use Rattle.packet_laws.proofs.Laws.{field-bare, after-bare, field-full, after-full}

-- ---- the first item
module _ {e : Enumerated} {kind : PacketKind} {v p q n x : ℕ} {b : Bool} {old : List ℕ}
    (fits : FirstFits e (record { kind = kind; value = v; present = b }) old) (is_bit : BitIs b p) (is_kind : BitIs (is_data kind) q)
    (is_wide : ValueWide e v n) (is_bits : x ≡ value_bits e v) where
  lead_is : 2 * p + q ≡ first_lead (record { kind = kind; value = v; present = b })
  lead_is = rw (is_bit.same, is_kind.same)

  first-all : joined (waiting 2 (2 * p + q)) n x ≡ first_bits e (record { kind = kind; value = v; present = b })
  first-all = rw (lead_is, is_wide.same, is_bits)

  first-long : length (full_octets (joined (waiting 2 (2 * p + q)) n x)) + length (closed (left (joined (waiting 2 (2 * p + q)) n x)))
      ≤ length old
  unfolding first_octets
  first-long =
      let all = first_bits e (record { kind = kind; value = v; present = b }) in
      rw first-all (omega (arith, fits.room, length-append (full_octets all) (closed (left all))))

  pub first-bits : BitsFit (waiting 2 (2 * p + q)) n x old
  first-bits =
      record {
        waits = lead-waits (2 * p + q) (rw lead_is (lead-small (record { kind = kind; value = v; present = b })));
        few = is_wide.few;
        small = rw (is_wide.same, is_bits) (value-small e fits.value.narrow v fits.value.known);
        room = omega (arith, first-long);
      }

  module _ {mid : List ℕ} {r y z : ℕ} (bits : BitsPut (waiting 2 (2 * p + q)) n x old mid r y z) where
    pub first_edge : EdgeFits (waiting y z) (rest r mid)
    first_edge =
        rw bits.waits
        (record {
          waits = waits-left (waiting 2 (2 * p + q)) first-bits.waits n x is_wide.few first-bits.small;
          room = room-left mid r _ (omega (arith, first-long, bits.put.answer, put-long bits.put));
        })

    pub first-put : {part : List ℕ} {m : ℕ} → Put (closed (waiting y z)) (rest r mid) part m
        → Put (first_octets e (record { kind = kind; value = v; present = b })) old (put_mid r (length mid - r) mid part) (r + m)
    unfolding first_octets
    first-put {part} {m} put = rw (← first-all) (put_next bits.put (rw bits.waits at put))

pub ruleset firsts = (first-bits, first_edge, first-put)

-- ---- a header
module _ {e : Enumerated} {k v t f : ℕ} {b : Bool} {old : List ℕ} (fits : HeaderFits e (waiting k v) t b old) (is_flag : BitIs b f) where
  header-long : length (full_octets (with_flag (waiting k v) b)) + length (full_octets (with_type e (waiting k v) t b)) ≤ length old
  unfolding header_octets
  header-long =
      omega (arith, fits.room, length-append (full_octets (with_flag (waiting k v) b)) (full_octets (with_type e (waiting k v) t b)))

  pub header-flag : BitsFit (waiting k v) 1 f old
  header-flag =
      rw is_flag.same
      (record { waits = fits.waits; few = omega arith; small = flag_small b; room = omega (arith, header-long) })

  module _ {mid : List ℕ} {r y z n x : ℕ} (flag : BitsPut (waiting k v) 1 f old mid r y z) (is_wide : ValueWide e t n)
      (is_bits : x ≡ value_bits e t) where
    flagged : waiting y z ≡ left (with_flag (waiting k v) b)
    flagged = flag.waits ∙ ap (λ (g : ℕ). left (joined (waiting k v) 1 g)) is_flag.same

    flag-long : r ≡ length (full_octets (with_flag (waiting k v) b))
    flag-long = flag.put.answer ∙ ap (λ (g : ℕ). length (full_octets (joined (waiting k v) 1 g))) is_flag.same

    pub header-type : BitsFit (waiting y z) n x (rest r mid)
    header-type =
        rw (flagged, is_wide.same, is_bits)
        (record {
          waits = flag-waits (waiting k v) fits.waits b;
          few = omega (arith, is_wide.few, is_wide.same);
          small = value-small e fits.type.narrow t fits.type.known;
          room = room-left mid r _ (omega (arith, header-long, flag-long, put-long flag.put));
        })

    pub header-fills : {part : List ℕ} {m y' z' : ℕ} → BitsPut (waiting y z) n x (rest r mid) part m y' z'
        → HeaderPut e (waiting k v) t b old (put_mid r (length mid - r) mid part) (r + m) y' z'
    unfolding header_octets header_left
    header-fills {part} {m} {y'} {z'} type =
        let all : joined (waiting y z) n x ≡ with_type e (waiting k v) t b
        = ap (λ (g : Waiting). joined g n x) flagged ∙ ap₂ (joined (left (with_flag (waiting k v) b))) is_wide.same is_bits in
        let same : full_octets (joined (waiting k v) 1 f) ++ full_octets (joined (waiting y z) n x) ≡ header_octets e (waiting k v) t b
        = ap₂ (λ (g h : Waiting). full_octets g ++ full_octets h) (ap (joined (waiting k v) 1) is_flag.same) all in
        record {
          put = subst (λ (l : List ℕ). Put l old (put_mid r (length mid - r) mid part) (r + m)) same (put_next flag.put type.put);
          waits = type.waits ∙ ap left all;
        }

pub ruleset headers = (header-flag, header-type, header-fills)

-- ---- a field
module _ {e : Enumerated} {k v t : ℕ} {d old : List ℕ} (fits : FieldFits e (waiting k v) t d old) where
  -- without data it is its header
  module _ (none : length d < 1) where
    pub bare-header : HeaderFits e (waiting k v) t false old
    bare-header =
        record {
          waits = fits.waits;
          type = fits.type;
          room = omega (arith, fits.room, ap length (field-bare e (waiting k v) t d none));
        }

    pub bare-fills : {new : List ℕ} {r x y : ℕ} → HeaderPut e (waiting k v) t false old new r x y
        → FieldPut e (waiting k v) t d old new r x y
    bare-fills fills = rw (field-bare e (waiting k v) t d none, after-bare e (waiting k v) t d none) fills

  -- with data an octet edge, the length and the data follow
  module _ (some : 1 ≤ length d) where
    full-long : length (header_octets e (waiting k v) t true) + (length (closed (header_left e (waiting k v) t true)) + (2 + length d))
        ≤ length old
    full-long =
        let next = header_left e (waiting k v) t true in
        omega (
          arith,
          fits.room,
          ap length (field-full e (waiting k v) t d some),
          length-append (header_octets e (waiting k v) t true) (closed next ++ (size_octets (length d) ++ d)),
          length-append (closed next) (size_octets (length d) ++ d),
        )

    pub full-header : HeaderFits e (waiting k v) t true old
    full-header = record { waits = fits.waits; type = fits.type; room = omega (arith, full-long) }

    module _ {mid : List ℕ} {r x y : ℕ} (header : HeaderPut e (waiting k v) t true old mid r x y) where
      pub full-edge : EdgeFits (waiting x y) (rest r mid)
      full-edge =
          rw header.waits
          (record {
            waits = header-waits e fits.type.narrow (waiting k v) fits.waits t true fits.type.known;
            room = room-left mid r _ (omega (arith, full-long, header.put.answer, put-long header.put));
          })

      module _ {part : List ℕ} {m : ℕ} (edge : Put (closed (waiting x y)) (rest r mid) part m) where
        edged : Put (header_octets e (waiting k v) t true ++ closed (header_left e (waiting k v) t true)) old
            (put_mid r (length mid - r) mid part) (r + m)
        edged = put_next header.put (rw header.waits at edge)

        pub full-data : DataFits d (rest (r + m) (put_mid r (length mid - r) mid part))
        full-data =
            record {
              some = some;
              short = fits.short;
              room =
                  room-left (put_mid r (length mid - r) mid part) (r + m) (2 + length d)
                  (omega (
                    arith,
                    full-long,
                    edged.answer,
                    length-append (header_octets e (waiting k v) t true) (closed (header_left e (waiting k v) t true)),
                    put-long edged,
                  ));
            }

        pub full-fills : {end : List ℕ} {n : ℕ}
            → Put (size_octets (length d) ++ d) (rest (r + m) (put_mid r (length mid - r) mid part)) end n
            → FieldPut e (waiting k v) t d old
            (put_mid (r + m) (length (put_mid r (length mid - r) mid part) - (r + m)) (put_mid r (length mid - r) mid part) end) (r + m + n)
            0 0
        full-fills {end} {n} put =
            let header' = header_octets e (waiting k v) t true in
            let close = closed (header_left e (waiting k v) t true) in
            let whole : (header' ++ close) ++ (size_octets (length d) ++ d) ≡ field_octets e (waiting k v) t d
            = append_assoc header' close (size_octets (length d) ++ d) ∙ sym (field-full e (waiting k v) t d some) in
            record { put = rw whole at (put_next edged put); waits = sym (after-full e (waiting k v) t d some) }

-- the laws of putting a field
pub ruleset fields = (bare-header, bare-fills, full-header, full-edge, full-data, full-fills)
