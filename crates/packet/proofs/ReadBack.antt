-- What reads as received writes back to the same octets, in any edition: what the description read fits it, so it passes the writer's
-- tests, and it is spelt as it was read. Assumes nothing.
use Prim.Native.Nat.{ℕ, ◌-◌, ◌*◌, ◌/◌, ◌≤◌, ◌<◌}
use mathlib.Core.Path.{◌≡◌, refl, sym, ap, subst, ◌∙◌}
use mathlib.Core.Bool.{Bool, true, false, cond}
use mathlib.Core.List.{List, [], ◌∷◌, map}
use lib.ListN.{length, drop, length-append, length-drop, length-map}
use lib.Seq.{take_at, drop_at}
use lib.Dec.{leb, ltb}
use native.Mathlib.Omega.{arith}
use borrow.Author.Tests.{le-leb, ltb-true, leb-true, eqb-true}
use Rattle.length.specs.Answers.{done}
use Rattle.length.specs.Claims.{Octets}
use Rattle.length.proofs.Laws.{both}
use Rattle.format.specs.Spelling.{wide, in_octets}
use Rattle.format.specs.Reading.{found}
use Rattle.format.specs.Format.{known, sequence_fits}
use Rattle.format.proofs.Laws.{found-written}
use Rattle.datagram.specs.Sizes.{packet_limit}
use Rattle.packet.specs.Edition.{Enumerated, many, Edition, values}
use Rattle.packet.specs.Packet.{many_values, types_limit, fields_limit, right_fields, right_data, every, enumerated, root, addition}
use Rattle.packet.specs.Packet.{First, chosen, is_data, type_of_msg, start, count, header, size, Content, field_data, field}
use Rattle.packet.specs.Packet.{data_field, IfpPacket, packet, field_of, PacketAnswer, read_packet, all_data}
use Rattle.packet.specs.Write.{with_data, contents_of, packet_octets, lengths_sum, total, right_types, packet_to_write}
use Rattle.packet.specs.Claims.{ReadWrites}
use Rattle.packet.specs.declared.types.PacketKind.{PacketKind}
use Rattle.packet.specs.declared.types.PacketKind.TheVariants.{Indicator, Data}
use Rattle.packet.specs.declared.types.Ending.TheVariants.{Whole}
use Rattle.packet.proofs.Described.{lawful-packet}
use Rattle.packet.proofs.Written.{write-of}
use Rattle.packet.proofs.Inside.{all_octets, packet-in, packet-read}
use Rattle.packet.proofs.RoundTrips.{bare, packet-bare, kinds, sizes}

-- ---- what fits passes the tests
-- a value of an ENUMERATED type is one that it has
module _ (e : Enumerated) (v : ℕ) where
  one_of : (b : Bool) (p : ℕ) → (cond b (addition e) (root e)).fits v p → v < many e
  unfolding addition root
  one_of true p fits =
      let low = ltb-true (v - e.assigned) e.added fits.0.1.1.1 in
      let same = fits.1 in
      omega arith
  one_of false p fits = let low = ltb-true v e.assigned fits.1 in omega arith

  value-known : (p : ℕ) → (enumerated e).fits v p → v < many e
  unfolding enumerated
  value-known p fits = one_of (leb e.assigned v) _ fits.0.1

rest-short : (b : Bool) (start : ℕ) (l : List ℕ) (p : ℕ) → (cond b field_data (known (0, []))).fits (start, l) p → length l ≤ packet_limit
unfolding field_data size
rest-short true start l p fits = omega (arith, fits.0.0.0, fits.0.0.1)
rest-short false start l p fits = omega (arith, ap (λ (x : ℕ × List ℕ). length x.1) fits)

module _ (edition : Edition) where
  record FieldRight (c : Content) : Type 0 where
    type : c.type ≤ types_limit edition
    right : right_data edition c.type (with_data (length c.octets)) ≡ true
    short : length c.octets ≤ packet_limit

  field-right : (c : Content) (p : ℕ) → (field edition).fits c p → FieldRight c
  unfolding field header
  field-right c p fits =
      record {
        type = omega (arith, value-known edition.types c.type _ fits.0.0.0.0.1);
        right = fits.0.0.1;
        short = rest-short (ltb 0 (length c.octets)) c.start c.octets _ fits.0.1;
      }

  record FieldsRight (cs : List Content) : Type 0 where
    types : every (λ t. leb t (types_limit edition)) (kinds cs) ≡ true
    short : every (λ n. leb n packet_limit) (sizes cs) ≡ true
    right : right_types edition (kinds cs) (sizes cs) ≡ true
    all : lengths_sum (sizes cs) ≡ length (all_octets cs)
    contents : contents_of (kinds cs) (sizes cs) (all_octets cs) ≡ map bare cs

  fields-right : (cs : List Content) (p : ℕ) → sequence_fits (field edition) cs p → FieldsRight cs
  unfolding every right_types total contents_of all_octets sequence_fits
  fields-right [] p fits = record { types = refl; short = refl; right = refl; all = refl; contents = refl }
  fields-right (c ∷ cs) p fits =
      let one = field-right c p fits.0 in
      let rest = fields-right cs _ fits.1 in
      let l = c.octets in
      record {
        types = rw (le-leb c.type (types_limit edition) one.type) rest.types;
        short = rw (le-leb (length l) packet_limit one.short) rest.short;
        right = rw one.right rest.right;
        all = omega (arith, rest.all, length-append l (all_octets cs));
        contents =
            rw (take_at l (all_octets cs) (length l) refl, drop_at l (all_octets cs) (length l) refl)
            (ap (λ (m : List Content). record { type = c.type; start = 0; octets = l } ∷ m) rest.contents);
      }

  -- ---- the packet
  record PacketRight (x : IfpPacket) : Type 0 where
    known : x.value < many_values edition x.kind
    few : length x.contents ≤ fields_limit
    fields : right_fields x.kind (ltb 0 (length x.contents)) ≡ true
    right : FieldsRight x.contents

  first-known : (f : First) → (type_of_msg edition).fits f 0 → f.value < many_values edition f.kind
  unfolding type_of_msg wide
  first-known f fits = by f.kind refl fits.0.1.1 where
    by : (k : PacketKind) → f.kind ≡ k → (enumerated (values edition (chosen (is_data k)))).fits f.value 2
        → f.value < many_values edition f.kind
    by Indicator is e = rw is (value-known (values edition Indicator) f.value 2 e)
    by Data is e = rw is (value-known (values edition Data) f.value 2 e)

  after-right : (b : Bool) (cs : List Content) (p : ℕ) → (cond b (data_field edition) (known [])).fits cs p → (length cs ≤ fields_limit)
      × FieldsRight cs
  unfolding data_field count sequence_fits
  after-right true cs p fits = (
    leb-true (length cs) fields_limit (both (leb 1 (length cs)) (leb (length cs) fields_limit) fits.0.0.1).1,
    fields-right cs _ fits.0.1.0,
  )
  after-right false cs p fits =
      let none : length cs ≡ 0 = ap length fits in
      (omega arith, subst FieldsRight (sym fits) (fields-right [] p tt))

  packet-right : (x : IfpPacket) → (packet edition).fits x 0 → PacketRight x
  unfolding packet start
  packet-right x fits =
      let after = after-right (ltb 0 (length x.contents)) x.contents _ fits.0.1.0 in
      record { known = first-known _ fits.0.0.0.0; few = after.0; fields = fits.0.0.0.1.1; right = after.1 }

  -- what was read as received: a packet up to the last octet
  record Received (s : List ℕ) (p : PacketAnswer) : Type 0 where
    fits : length s ≤ packet_limit
    content : IfpPacket
    reads : (packet edition).read s 0 0 ≡ found content (8 * length s)
    is : p ≡ record { kind = content.kind; value = content.value; fields = map field_of content.contents }

  received : (s : List ℕ) (p : PacketAnswer) → read_packet edition Whole s ≡ done p → Received s p
  received s p e =
      let r = packet-read edition s Whole p e in
      let i = packet-in edition s 0 r.content r.end r.reads in
      let none : length (drop (r.end / 8) s) ≡ 0 = eqb-true _ _ r.follows in
      let all : r.end ≡ 8 * length s = omega (arith, i.is, i.inside, length-drop (r.end / 8) s) in
      record { fits = r.fits; content = r.content; reads = r.reads ∙ ap (found r.content) all; is = r.is }

  writes-of : (s : List ℕ) (x : IfpPacket) → Octets s → length s ≤ packet_limit → (packet edition).read s 0 0 ≡ found x (8 * length s)
      → packet_to_write edition x.kind x.value (kinds x.contents) (sizes x.contents) (all_data s (map field_of x.contents))
      ≡ done s
  unfolding packet_octets
  writes-of s x octets fits reads =
      let cs = x.contents in
      let k = x.kind in
      let v = x.value in
      let ts = kinds cs in
      let ns = sizes cs in
      let back = found-written (lawful-packet edition) s 0 x octets reads in
      let right = packet-right x back.0 in
      let fields = right.right in
      let data' : all_data s (map field_of cs) ≡ all_octets cs = (packet-in edition s 0 x (8 * length s) reads).contents.octets in
      let many' : length ts ≡ length cs = length-map (map field_of cs) (λ f. f.kind) ∙ length-map cs field_of in
      let same : length ts ≡ length ns = many' ∙ sym (length-map (map field_of cs) (λ f. f.size) ∙ length-map cs field_of) in
      let is : packet_octets edition k v ts ns (all_octets cs) ≡ s
      = ap (λ (l : List Content). in_octets ((packet edition).spelling (record { kind = k; value = v; contents = l }) 0)) fields.contents
      ∙ ap in_octets (sym (packet-bare edition k v cs)) ∙ back.1 in
      ap (packet_to_write edition k v ts ns) data'
      ∙ write-of edition k v ts ns (all_octets cs)
      (record {
        few = omega (arith, right.few);
        same = same;
        all = fields.all;
        known = right.known;
        types = fields.types;
        fields = ap (λ (n : ℕ). right_fields k (ltb 0 n)) many' ∙ right.fields;
        right = fields.right;
        short = fields.short;
        size = rw is fits;
        is = refl;
      })
      ∙ ap (λ (l : List ℕ). done l) is

pub packet-read-writes : ReadWrites
packet-read-writes edition s p octets e =
    let r = received edition s p e in
    rw r.is (writes-of edition s r.content octets r.fits r.reads)
