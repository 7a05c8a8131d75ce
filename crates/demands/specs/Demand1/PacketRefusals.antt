-- What the packet reader refuses in the edition that the caller names, for which reason and at which place, as received (`Whole`) and as
-- repaired. It refuses octets for the reason of their first wrong item (`first_wrong`, over the tables of PacketItems; rule 6.13), at
-- that item's place (rule 2.27). The other fields say in plain terms what this means for each reason. Statements only.
use Rattle.std.specs.Prelude.{Result, ℕ, ◌+◌, ◌*◌, ◌≤◌, ◌<◌, ◌≡◌, ◌↔◌, ◌≢◌, true, false, List, ◌++◌, length}
use Rattle.std.proofs.Math.Option.{none, some}
use Rattle.length.specs.Refusals as reason
use Rattle.length.specs.Answers.{refused}
use Rattle.length.specs.declared.Refusal.{Refusal}
use Rattle.length.specs.Length.{within}
use Rattle.length.specs.Claims.{Octets}
use Rattle.format.specs.Spelling.{gap}
use Rattle.format.specs.Places.{Place, bits_at}
use Rattle.datagram.specs.Sizes.{packet_limit}
use Rattle.packet.specs.Edition.{added_width, Edition, edition_of}
use Rattle.packet.specs.Packet.{fields_least, fields_limit, all_zero}
use Rattle.packet_laws.specs.Octets.{bit_set_at, kind_of}
use Rattle.packet.specs.Promise.{packet_outcome, ReadBy}
use Rattle.packet.specs.declared.types.PacketKind.TheVariants.{Indicator}
use Rattle.packet.specs.declared.types.Named.{Named}
use Rattle.packet.specs.declared.types.Enumerated.{Enumerated}
use Rattle.packet.specs.declared.types.Ending.{Ending}
use Rattle.packet.specs.declared.types.Ending.TheVariants.{Whole, Repaired}
use Rattle.packet.specs.declared.types.PacketRead.{PacketRead}
use Rattle.length.specs.Tables.{first, refusal_in}
use Rattle.length.specs.declared.Reason.{Reason}
use Rattle.demands.specs.Demand1.Refusals.{length_rows}
use Rattle.demands.specs.Demand1.PacketItems.{Item, fields_allowed, count_of_fields, header, padding, data_length, end, Due, Packet, rows}
use Rattle.demands.specs.Demand1.PacketItems.{octet_of, is_added, behind_mark, value_ends, value_rows, octets_from, octet_here, has_fields}
use Rattle.demands.specs.Demand1.PacketItems.{first_values}
use Rattle.demands.specs.Demand1.PacketItems.{data_fits, data_size}

-- the first wrong item: its table gives this reason
pub record FirstWrong (edition : Edition) (ending : Ending) (octets : List ℕ) (n : Reason) : Type 0 where
  pub item : Item
  pub place : Place
  pub due : Due edition octets place item
  pub wrong : first (rows edition ending item octets place) ≡ some n

-- the octets begin with a whole packet, and this follows it
pub record PacketThen (edition : Edition) (octets rest : List ℕ) : Type 0 where
  pub place : Place
  pub due : Due edition octets place end
  pub is : rest ≡ octets_from octets place

-- the octets end inside a value that is not refused so far: either it is not an added one, or the type has added ones and there is no 1
-- in place of the 0 bit (rules 7.5 to 7.7)
pub record CutValue (e : Enumerated) (octets : List ℕ) (p : Place) : Type 0 where
  pub cut : 8 * length octets < value_ends e octets p
  pub right_so_far : is_added e octets p ≡ true → (1 ≤ e.added) × (bit_set_at octets (p + 1) ≡ false)

-- 1: the octets end early (rule 2.1)
pub data EndsEarly (edition : Edition) (octets : List ℕ) : Type 0 where
  -- with more octets behind them they are a packet, which may be one over the packet limit
  front : (more : List ℕ) → Octets more → 1 ≤ length more → Packet edition (octets ++ more) → EndsEarly edition octets
  -- or they end inside a length that is outside the sizes whatever follows: a count of fields after the first of two octets, or a data
  -- length after its first octet, if that is not zero (rules 3.6 and 6.9)
  in_count : (p : Place) → Due edition octets p count_of_fields → p + 8 ≡ 8 * length octets → 0x80 ≤ octet_here octets p
      → octet_here octets p < 0xC0
      → EndsEarly edition octets
  in_length : (p : Place) (left : ℕ) → Due edition octets p (data_length left) → p + 8 ≡ 8 * length octets → 1 ≤ octet_here octets p
      → EndsEarly edition octets
  -- or inside the first value or a header, some of it being there; such octets need not be a front of a packet (`2F` and `A0` in the
  -- edition of 2002; rules 7.7 and 26.26)
  in_first : 1 ≤ length octets → CutValue (first_values edition octets) octets 2 → EndsEarly edition octets
  in_header : (p : Place) (left : ℕ) → Due edition octets p (header left) → p < 8 * length octets → CutValue edition.types octets (p + 1)
      → EndsEarly edition octets

-- 12: a value is not assigned: an added value in an edition without any, a 1 in place of the 0 bit, a value past the last added one, or
-- past the last of the others (rules 6.3 and 7.6 to 7.8)
pub data Unassigned (e : Enumerated) (octets : List ℕ) (p : Place) : Type 0 where
  none_added : is_added e octets p ≡ true → e.added < 1 → Unassigned e octets p
  not_zero : is_added e octets p ≡ true → bit_set_at octets (p + 1) ≡ true → Unassigned e octets p
  past_added : is_added e octets p ≡ true → value_ends e octets p ≤ 8 * length octets → e.added ≤ bits_at added_width octets (p + 1 + 1)
      → Unassigned e octets p
  past_root : is_added e octets p ≡ false → value_ends e octets p ≤ 8 * length octets
      → e.assigned ≤ bits_at e.width octets (behind_mark e p) → Unassigned e octets p

-- so is the first value, or a field type
pub data NotAssigned (edition : Edition) (octets : List ℕ) : Type 0 where
  value : Unassigned (first_values edition octets) octets 2 → NotAssigned edition octets
  field_type : (p : Place) (left : ℕ) → Due edition octets p (header left) → Unassigned edition.types octets (p + 1)
      → NotAssigned edition octets

-- 3: the first value is right and has fields, and the count behind it has a form that is not allowed (rules 3.3 and 3.4)
pub record BadForm (edition : Edition) (octets : List ℕ) : Type 0 where
  pub place : Place
  pub due : Due edition octets place count_of_fields
  pub form : first (length_rows (octets_from octets place)) ≡ some reason.bad_form

-- 4: a count of fields has a right form and is not 1 to 16, or a data length is over the packet limit (rules 6.4 and 6.9)
pub data OutsideSizes (edition : Edition) (octets : List ℕ) : Type 0 where
  count : (p : Place) → Due edition octets p count_of_fields → first (length_rows (octets_from octets p)) ≡ none
      → within fields_least fields_limit (octet_here octets p) ≡ false → OutsideSizes edition octets
  long_data : (p : Place) (left : ℕ) → Due edition octets p (data_length left) → p + 16 ≤ 8 * length octets
      → packet_limit < data_size octets p
      → OutsideSizes edition octets

-- 5: a bit set in padding, also in that behind the first value (rule 5.4)
pub record SpareBit (edition : Edition) (octets : List ℕ) : Type 0 where
  pub place : Place
  pub next : Item
  pub due : Due edition octets place (padding next)
  pub set-bits : 1 ≤ bits_at (gap place) octets place

-- 14: an indicator with fields, or a field that carries data, or none, against its type (rules 6.6 and 6.10)
pub data WrongData (edition : Edition) (octets : List ℕ) : Type 0 where
  indicator : (p : Place) → Due edition octets p fields_allowed → kind_of octets ≡ Indicator → has_fields octets ≡ true
      → WrongData edition octets
  field : (p : Place) (left : ℕ) → Due edition octets p (header left) → first (value_rows edition.types octets (p + 1)) ≡ none
      → data_fits edition octets p ≡ false → WrongData edition octets

-- whatever the call returned, for at most the packet limit: it refused for this reason exactly in this case
abbrev pub Exactly : ℕ → Reason → (List ℕ → Type 0) → Type 0
Exactly octet n Case = (ending : Ending) (octets : List ℕ) (r : Result PacketRead Refusal)
    → ReadBy octet ending octets r → length octets ≤ packet_limit
    → (refusal_in (packet_outcome r) ≡ some n) ↔ Case octets

-- of an octet that names an edition
pub record PacketRefusals (octet : ℕ) (named : Named) : Type 0 where
  -- over the packet limit it is 4 (rule 6.13); the fields below are about the other octets
  pub over_limit : (ending : Ending) (octets : List ℕ) {r : Result PacketRead Refusal} → ReadBy octet ending octets r
      → packet_limit < length octets
      → refusal_in (packet_outcome r) ≡ some reason.outside_sizes
  -- then reading order: refused exactly if there is a first wrong item, for its reason (rule 6.13)
  pub first_wrong : (ending : Ending) (octets : List ℕ) {r : Result PacketRead Refusal} (n : Reason) → ReadBy octet ending octets r
      → length octets ≤ packet_limit
      → (refusal_in (packet_outcome r) ≡ some n) ↔ FirstWrong (edition_of named) ending octets n
  -- the place of the refusal is the octet at which the first wrong item begins, and there is only one such item (rule 2.27); 4 for the
  -- whole packet has place 0 (rule 2.30)
  pub place : (ending : Ending) (octets : List ℕ) {r : Result PacketRead Refusal} {why : Refusal} {n : Reason}
      → ReadBy octet ending octets r
      → length octets ≤ packet_limit
      → packet_outcome r ≡ refused why → (w : FirstWrong (edition_of named) ending octets n)
      → why ≡ reason.refusal_at (octet_of w.item w.place) n
  pub over_place : (ending : Ending) (octets : List ℕ) {r : Result PacketRead Refusal} {why : Refusal} → ReadBy octet ending octets r
      → packet_limit < length octets
      → packet_outcome r ≡ refused why → why.place ≡ 0
  -- not refused exactly if the octets are a packet; as repaired, one with only zeros behind it (rules 6.11 and 6.12). `is_packet` and
  -- `is_repaired` of Demand1 say that these are what the packet writer writes
  pub received : (octets : List ℕ) {r : Result PacketRead Refusal} → ReadBy octet Whole octets r → length octets ≤ packet_limit
      → (refusal_in (packet_outcome r) ≡ none) ↔ Packet (edition_of named) octets
  pub repaired : (octets : List ℕ) {r : Result PacketRead Refusal} → ReadBy octet Repaired octets r → length octets ≤ packet_limit
      → (refusal_in (packet_outcome r) ≡ none) ↔ ((rest : List ℕ) × PacketThen (edition_of named) octets rest × (all_zero rest ≡ true))
  -- 6 exactly if the octets begin with a whole packet and something follows it; as repaired, something that is not all zeros
  pub left_over : (octets : List ℕ) {r : Result PacketRead Refusal} → ReadBy octet Whole octets r → length octets ≤ packet_limit
      → (refusal_in (packet_outcome r) ≡ some reason.left_over)
      ↔ ((rest : List ℕ) × PacketThen (edition_of named) octets rest × (1 ≤ length rest))
  pub left_over_repaired : (octets : List ℕ) {r : Result PacketRead Refusal} → ReadBy octet Repaired octets r → length octets ≤ packet_limit
      → (refusal_in (packet_outcome r) ≡ some reason.left_over)
      ↔ ((rest : List ℕ) × PacketThen (edition_of named) octets rest × (all_zero rest ≡ false))
  -- 1, 3, 4, 5, 12 and 14, each exactly in its case; so every proper front of a packet is refused with 1
  pub ends_early : Exactly octet reason.ends_early (EndsEarly (edition_of named))
  pub bad_form : Exactly octet reason.bad_form (BadForm (edition_of named))
  pub outside_sizes : Exactly octet reason.outside_sizes (OutsideSizes (edition_of named))
  pub spare_bit : Exactly octet reason.spare_bit (SpareBit (edition_of named))
  pub not_assigned : Exactly octet reason.not_assigned (NotAssigned (edition_of named))
  pub wrong_data : Exactly octet reason.wrong_data (WrongData (edition_of named))
  -- more octets can only help against 1: octets refused for another reason are also refused with any octets behind them, ..
  pub never : (ending : Ending) (octets : List ℕ) (more : List ℕ) {r t : Result PacketRead Refusal} {n : Reason}
      → ReadBy octet ending octets r
      → ReadBy octet ending (octets ++ more) t → refusal_in (packet_outcome r) ≡ some n → n ≢ reason.ends_early
      → refusal_in (packet_outcome t) ≡ none → ⊥
  -- .. and for the same reason, up to the packet limit
  pub stays : (ending : Ending) (octets : List ℕ) (more : List ℕ) {r t : Result PacketRead Refusal} {n : Reason}
      → ReadBy octet ending octets r
      → ReadBy octet ending (octets ++ more) t → length (octets ++ more) ≤ packet_limit → refusal_in (packet_outcome r) ≡ some n
      → n ≢ reason.ends_early → refusal_in (packet_outcome t) ≡ some n
  -- read as received and as repaired, the same octets differ only in 6 (rule 6.12)
  pub either_way : (octets : List ℕ) {r t : Result PacketRead Refusal} {n : Reason} → ReadBy octet Whole octets r
      → ReadBy octet Repaired octets t
      → n ≢ reason.left_over
      → (refusal_in (packet_outcome r) ≡ some n) ↔ (refusal_in (packet_outcome t) ≡ some n)
