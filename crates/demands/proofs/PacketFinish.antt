-- Wherever an item is due at the end of some octets, a packet can be finished from there, with fields of type 0 and data of zeros.
-- Assumes nothing.
use Prim.Native.Nat.{ℕ, zero, suc, ◌+◌, ◌-◌, ◌*◌, ◌/◌, ◌%◌, ◌≤◌, ◌<◌}
use mathlib.Core.Path.{◌≡◌, refl, sym, ap, subst, ◌∙◌}
use mathlib.Core.Bool.{Bool, true, false, not, cond}
use mathlib.Core.List.{List, [], ◌∷◌, ◌++◌, append_assoc, append-nil}
use mathlib.Core.Option.{none}
use lib.ListN.{length, get_or, drop, replicate, length-append, length-replicate}
use lib.Seq.{drop-append_seam}
use lib.Dec.{ltb}
use native.Mathlib.Omega.{arith}
use borrow.Author.Tests.{le-ltb, lt-ltb}
use Rattle.length.specs.Refusals.{ends_early, outside_sizes, spare_bit, not_assigned, wrong_data}
use Rattle.length.specs.Tables.{first}
use Rattle.length.specs.Claims.{Octets}
use Rattle.format.specs.Spelling.{gap}
use Rattle.format.specs.Places.{Place, bits_at}
use Rattle.datagram.specs.Sizes.{packet_limit}
use Rattle.packet.specs.Edition.{Edition, edition_of}
use Rattle.packet.specs.Packet.{right_data}
use Rattle.packet_laws.specs.Octets.{bit_set_at}
use Rattle.packet.specs.declared.types.Ending.TheVariants.{Whole}
use Rattle.packet.specs.declared.types.Named.{Named}
use Rattle.packet.specs.declared.types.Named.TheVariants.{Old, New}
use Rattle.packet_laws.proofs.Laws.{narrow}
use Rattle.demands.specs.Demand1.PacketItems.{Item, count_of_fields, header, padding, data_length, field_data, end, fields, rows}
use Rattle.demands.specs.Demand1.PacketItems.{is_added, behind_mark, value_ends, value_rows, type_in, octets_from, data_fits, data_size}
use Rattle.demands.specs.Demand1.PacketItems.{Due}
use Rattle.demands.specs.Demand1.PacketItems.{begins}
use Rattle.demands.specs.Demand1.PacketItems.{goes_on, Packet}
use Rattle.demands.specs.Demand1.PacketRefusals.{EndsEarly, front}
use Rattle.demands.proofs.PacketBits.{bits-behind}
use Rattle.demands.proofs.PacketRows.{not-given, no_rows, first-later}
use Rattle.demands.proofs.PacketPlaces.{count_rows, count-rows, count-passes}
use Rattle.demands.proofs.PacketValues.{ends_by, rows_by}
use Rattle.demands.proofs.PacketFronts.{due-more}

-- ---- lists of octets
octets-none : Octets []
octets-none i = omega arith

octets-put : (x : ℕ) (l : List ℕ) → x < 256 → Octets l → Octets (x ∷ l)
octets-put x l small rest zero = small
octets-put x l small rest (suc i) = rest i

octets-join : (a b : List ℕ) → Octets a → Octets b → Octets (a ++ b)
octets-join [] b p q = q
octets-join (x ∷ a) b p q = octets-put x (a ++ b) (p 0) (octets-join a b (λ i. p (suc i)) q)

pub one-octet : (x : ℕ) → x < 256 → Octets (x ∷ [])
one-octet x small = octets-put x [] small octets-none

pub zeros-octets : (n : ℕ) → Octets (replicate n 0)
zeros-octets zero = octets-none
zeros-octets (suc n) = octets-put 0 (replicate n 0) (omega arith) (zeros-octets n)

pub two-zeros : Octets (0 ∷ 0 ∷ [])
two-zeros = octets-put 0 (0 ∷ []) (omega arith) (one-octet 0 (omega arith))

-- ---- a packet can be finished wherever an item is due at the end
pub record Finished (edition : Edition) (s : List ℕ) : Type 0 where
  pub more : List ℕ
  pub octets : Octets more
  pub whole : Packet edition (s ++ more)

-- some octets, and then the finish
and_then : {edition : Edition} (s octets : List ℕ) → Octets octets → Finished edition (s ++ octets) → Finished edition s
and_then {edition} s octets small f =
    record {
      more = octets ++ f.more;
      octets = octets-join octets f.more small f.octets;
      whole = subst (Packet edition) (append_assoc s octets f.more) f.whole;
    }

-- so octets that lack some are a front of a packet
pub lacking : {edition : Edition} (s octets : List ℕ) → Octets octets → 1 ≤ length octets → Finished edition (s ++ octets)
    → EndsEarly edition s
unfolding and_then
lacking s octets small least f =
    front (octets ++ f.more) (octets-join octets f.more small f.octets) (omega (arith, length-append octets f.more))
    (and_then s octets small f).whole

-- octets put at the end stand there
at-end : (s octets : List ℕ) → octets_from (s ++ octets) (8 * length s) ≡ octets
at-end s octets =
    let here : 8 * length s / 8 ≡ length s = omega arith in
    ap (λ (k : ℕ). drop k (s ++ octets)) here ∙ drop-append_seam s octets

-- data that ends there
data-ends : {edition : Edition} (size left : ℕ) (s : List ℕ) (p : Place) → Due edition s p (field_data size left)
    → p + 8 * size ≡ 8 * length s
    → Due edition s (8 * length s) (fields left)
unfolding rows
data-ends {edition} size left s p due there =
    subst (λ (q : Place). Due edition s q (fields left)) there
    (goes_on due (not-given (ltb (8 * length s) (p + 8 * size)) ends_early [] (le-ltb (8 * length s) (p + 8 * size) (omega arith)) no_rows))

-- padding at an octet edge is nothing
edge-passes : {edition : Edition} (s : List ℕ) (next : Item) → Due edition s (8 * length s) (padding next)
    → Due edition s (8 * length s) next
unfolding rows
edge-passes {edition} s next due =
    let bits_none : (8 - 8 * length s % 8) % 8 ≡ 0 = omega arith in
    let here : 8 * ((8 * length s + 7) / 8) ≡ 8 * length s = omega arith in
    let p : Place = 8 * length s in
    subst (λ (q : Place). Due edition s q next) here
    (goes_on due (not-given (ltb 0 (bits_at (gap p) s p)) spare_bit [] (le-ltb 0 _ (none-there bits_none)) no_rows)) where
      none-there : gap (8 * length s) ≡ 0 → bits_at (gap (8 * length s)) s (8 * length s) ≤ 0
      none-there e = rw e (omega arith)

-- a data length of 1 that ends there
length-ends : {edition : Edition} (left : ℕ) (s : List ℕ) (p : Place) → Due edition s p (data_length left) → p + 16 ≡ 8 * length s
    → octets_from s p ≡ 0 ∷ 0 ∷ []
    → Due edition s (8 * length s) (field_data 1 left)
unfolding rows
length-ends {edition} left s p due there zeros =
    let size : data_size s p ≡ 1 = ap (λ (l : List ℕ). get_or l 0 0 * 256 + get_or l 1 0 + 1) zeros in
    subst (λ (q : Place). Due edition s q (field_data 1 left)) there
    (subst (λ (n : ℕ). Due edition s (p + 16) (field_data n left)) size
    (goes_on due
    (not-given (ltb (8 * length s) (p + 16)) ends_early _ (le-ltb (8 * length s) (p + 16) (omega arith))
    (not-given (ltb packet_limit (data_size s p)) outside_sizes [] (le-ltb packet_limit (data_size s p) (omega arith)) no_rows))))

-- the place behind a header whose type is not an added one
abbrev behind_header : Edition → Place → Place
behind_header edition p = behind_mark edition.types (p + 1) + edition.types.width

-- a header of type 0 with data, whose padding ends the octets
module _ {edition : Edition} (left : ℕ) (t : List ℕ) (p : Place) where
  header-on : Due edition t p (header left) → is_added edition.types t (p + 1) ≡ false → bit_set_at t p ≡ true
      → bits_at edition.types.width t (behind_mark edition.types (p + 1)) ≡ 0 → 1 ≤ edition.types.assigned
      → right_data edition 0 true ≡ true → behind_header edition p ≤ 8 * length t
      → bits_at (gap (behind_header edition p)) t (behind_header edition p) ≡ 0
      → 8 * ((behind_header edition p + 7) / 8) ≡ 8 * length t → Due edition t (8 * length t) (data_length left)
  unfolding rows value_rows rows_by ends_by
  header-on due plain present zero-type least fits inside zeros last =
      let e = edition.types in
      let q = behind_header edition p in
      let there : value_ends edition.types t (p + 1) ≡ behind_header edition p = ap (ends_by e t (p + 1)) plain in
      let type-0 : type_in edition t p ≡ 0 =
      ap (λ (b : Bool). cond b (e.assigned + bits_at 6 t (p + 1 + 1 + 1)) (bits_at e.width t (behind_mark e (p + 1)))) plain ∙ zero-type in
      let right : data_fits edition t p ≡ true =
      ap (λ (v : ℕ). right_data edition v (bit_set_at t p)) type-0 ∙ ap (right_data edition 0) present ∙ fits in
      let assigned-there : ltb (bits_at e.width t (behind_mark e (p + 1))) e.assigned ≡ true =
      ap (λ (v : ℕ). ltb v e.assigned) zero-type ∙ lt-ltb 0 e.assigned least in
      let passed : first (value_rows e t (p + 1)) ≡ none =
      ap (λ (b : Bool). first (rows_by e t (p + 1) b)) plain
      ∙ not-given (ltb (8 * length t) q) ends_early _ (le-ltb (8 * length t) q inside)
      (not-given (not (ltb (bits_at e.width t (behind_mark e (p + 1))) e.assigned)) not_assigned [] (ap not assigned-there) no_rows) in
      let padded : Due edition t q (padding (data_length left)) =
      subst (λ (r : Place). Due edition t r (padding (data_length left))) there
      (subst (λ (b : Bool). Due edition t (value_ends e t (p + 1)) (cond b (padding (data_length left)) (fields left))) present
      (goes_on due
      (first-later (value_rows e t (p + 1)) _ passed ∙ not-given (not (data_fits edition t p)) wrong_data [] (ap not right) no_rows))) in
      subst (λ (r : Place). Due edition t r (data_length left)) last
      (goes_on padded (not-given (ltb 0 (bits_at (gap q) t q)) spare_bit [] (ap (ltb 0) zeros) no_rows))

-- in both editions `80` is one
header-then : (named : Named) (left : ℕ) (s : List ℕ) → Due (edition_of named) s (8 * length s) (header left)
    → Due (edition_of named) (s ++ 0x80 ∷ []) (8 * length (s ++ 0x80 ∷ [])) (data_length left)
header-then named left s due = by named (due-more (narrow named) due (0x80 ∷ [])) where
  t : List ℕ
  t = s ++ 0x80 ∷ []

  -- bits of the octet
  here : (n k : ℕ) (q : Place) → q ≡ 8 * length s + k → bits_at n (s ++ 0x80 ∷ []) q ≡ bits_at n (0x80 ∷ []) k
  here n k q same = ap (λ (q : Place). bits_at n (s ++ 0x80 ∷ []) q) same ∙ bits-behind n s (0x80 ∷ []) k

  spare : (k : ℕ) (q : Place) → q ≡ 8 * length s + k → (8 * length s + k) % 8 ≡ k
      → bits_at (gap q) (s ++ 0x80 ∷ []) q ≡ bits_at ((8 - k) % 8) (0x80 ∷ []) k
  spare k q same low =
      ap (λ (q : Place). bits_at (gap q) (s ++ 0x80 ∷ []) q) same
      ∙ ap (λ (r : ℕ). bits_at ((8 - r) % 8) (s ++ 0x80 ∷ []) (8 * length s + k)) low
      ∙ bits-behind ((8 - k) % 8) s (0x80 ∷ []) k

  long : length (s ++ 0x80 ∷ []) ≡ length s + 1
  long = length-append s (0x80 ∷ [])

  by : (named : Named) → Due (edition_of named) (s ++ 0x80 ∷ []) (8 * length s) (header left)
      → Due (edition_of named) (s ++ 0x80 ∷ []) (8 * length (s ++ 0x80 ∷ [])) (data_length left)
  by Old due =
      header-on left (s ++ 0x80 ∷ []) (8 * length s) due refl (ap (ltb 0) (here 1 0 (8 * length s) (omega arith)))
      (here 3 1 (8 * length s + 1) refl) (omega arith) refl (omega (arith, long))
      (spare 4 (8 * length s + 1 + 3) (omega arith) (omega arith)) (omega (arith, long))
  by New due =
      header-on left (s ++ 0x80 ∷ []) (8 * length s) due (ap (ltb 0) (here 1 1 (8 * length s + 1) refl))
      (ap (ltb 0) (here 1 0 (8 * length s) (omega arith)))
      (here 3 2 (8 * length s + 1 + 1) (omega arith)) (omega arith) refl (omega (arith, long))
      (spare 5 (8 * length s + 1 + 1 + 3) (omega arith) (omega arith)) (omega (arith, long))

pub finish-data : (named : Named) (size left : ℕ) (s : List ℕ) (p : Place) (lack : ℕ)
    → ((t : List ℕ) → Due (edition_of named) t (8 * length t) (fields left) → Finished (edition_of named) t)
    → Due (edition_of named) s p (field_data size left) → p + 8 * size ≡ 8 * length s + 8 * lack
    → Finished (edition_of named) (s ++ replicate lack 0)
finish-data named size left s p lack on due there =
    let zeros : List ℕ = replicate lack 0 in
    let long : length (s ++ replicate lack 0) ≡ length s + lack =
    length-append s (replicate lack 0) ∙ ap (λ (n : ℕ). length s + n) (length-replicate {A = ℕ} lack 0) in
    on (s ++ zeros) (data-ends size left (s ++ zeros) p (due-more (narrow named) due zeros) (omega arith))

-- a length of 1 that ends here, and one octet of data
pub finish-sized : (named : Named) (left : ℕ) (s : List ℕ) (p : Place)
    → ((t : List ℕ) → Due (edition_of named) t (8 * length t) (fields left) → Finished (edition_of named) t)
    → Due (edition_of named) s p (data_length left) → p + 16 ≡ 8 * length s → octets_from s p ≡ 0 ∷ 0 ∷ [] → Finished (edition_of named) s
finish-sized named left s p on due there zeros =
    and_then s (0 ∷ []) (one-octet 0 (omega arith)) (finish-data named 1 left s (8 * length s) 1 on (length-ends left s p due there zeros) (omega arith))

pub finish-length : (named : Named) (left : ℕ) (s : List ℕ)
    → ((t : List ℕ) → Due (edition_of named) t (8 * length t) (fields left) → Finished (edition_of named) t)
    → Due (edition_of named) s (8 * length s) (data_length left) → Finished (edition_of named) (s ++ 0 ∷ 0 ∷ [])
finish-length named left s on due =
    let t : List ℕ = s ++ 0 ∷ 0 ∷ [] in
    finish-sized named left t (8 * length s) on (due-more (narrow named) due (0 ∷ 0 ∷ []))
    (omega (arith, length-append s (0 ∷ 0 ∷ []))) (at-end s (0 ∷ 0 ∷ []))

pub finish-header : (named : Named) (left : ℕ) (s : List ℕ)
    → ((t : List ℕ) → Due (edition_of named) t (8 * length t) (fields left) → Finished (edition_of named) t)
    → Due (edition_of named) s (8 * length s) (header left) → Finished (edition_of named) (s ++ 0x80 ∷ [])
finish-header named left s on due =
    let t : List ℕ = s ++ 0x80 ∷ [] in
    and_then t (0 ∷ 0 ∷ []) two-zeros (finish-length named left t on (header-then named left s due))

pub finish-fields : (named : Named) (n : ℕ) (s : List ℕ) → Due (edition_of named) s (8 * length s) (fields n)
    → Finished (edition_of named) s
finish-fields named zero s due =
    record { more = []; octets = octets-none; whole = subst (Packet (edition_of named)) (sym (append-nil s)) (edge-passes s end due) }
finish-fields named (suc n) s due =
    and_then s (0x80 ∷ []) (one-octet 0x80 (omega arith)) (finish-header named n s (finish-fields named n) due)

-- a count of 1, and the first value of indicator 0
pub finish-count : (named : Named) (s : List ℕ) → Due (edition_of named) s (8 * length s) count_of_fields
    → Finished (edition_of named) (s ++ 1 ∷ [])
finish-count named s due =
    let t : List ℕ = s ++ 1 ∷ [] in
    let there : 8 * length s + 8 ≡ 8 * length (s ++ 1 ∷ []) = omega (arith, length-append s (1 ∷ [])) in
    let one : octets_from t (8 * length s) ≡ 1 ∷ [] = at-end s (1 ∷ []) in
    let passed : first (rows (edition_of named) Whole count_of_fields t (8 * length s)) ≡ none =
    ap first (count-rows (edition_of named) Whole t (8 * length s)) ∙ ap (λ (l : List ℕ). first (count_rows l)) one
    ∙ count-passes (1 ∷ []) (record { some = omega arith; sizes = refl }) in
    finish-fields named 1 t
    (subst (λ (q : Place). Due (edition_of named) t q (fields 1)) there
    (subst (λ (l : List ℕ). Due (edition_of named) t (8 * length s + 8) (fields (get_or l 0 0))) one
    (goes_on (due-more (narrow named) due (1 ∷ [])) passed)))

pub finish-first : (named : Named) → Finished (edition_of named) (0 ∷ [])
unfolding rows value_rows first
finish-first Old = finish-fields Old 0 (0 ∷ []) (goes_on (goes_on (goes_on begins refl) refl) refl)
finish-first New = finish-fields New 0 (0 ∷ []) (goes_on (goes_on (goes_on begins refl) refl) refl)
