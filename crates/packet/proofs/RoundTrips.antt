-- What is written reads back, received and repaired, in any edition: from the laws of the description. Assumes nothing.
use Prim.Native.Nat.{ℕ, zero, suc, ◌+◌, ◌*◌, ◌/◌, ◌%◌, ◌≤◌}
use mathlib.Core.Path.{◌≡◌, refl, sym, ap, ap₂, ◌∙◌}
use mathlib.Core.Bool.{Bool, true, false, cond}
use mathlib.Core.List.{List, [], ◌∷◌, ◌++◌, map, append-nil}
use lib.ListN.{length, take, drop, replicate, length-append, length-drop, length-map, length-replicate, take-append-drop}
use lib.Seq.{length-take-le, drop_at}
use lib.Dec.{ltb, eqb}
use native.Mathlib.Omega.{arith}
use borrow.Author.Tests.{le-ltb}
use Rattle.format.specs.Spelling.{Letter, spelt, wide, gap, in_octets}
use Rattle.format.specs.Reading.{found}
use Rattle.format.specs.Format.{known, sequence_spelt}
use Rattle.format.proofs.Laws.{wide-append, wide-spelt, gap-past, written-found}
use Rattle.datagram.specs.Sizes.{packet_limit}
use Rattle.packet.specs.Edition.{Edition, SoundEdition}
use Rattle.packet.specs.Packet.{every, Content, start, count, header, field_data, field, data_field, IfpPacket, packet}
use Rattle.packet.specs.Packet.{whole_packet, may_follow, field_of, read_packet}
use Rattle.packet.specs.Write.{contents_of, packet_octets, lengths_sum, total}
use Rattle.packet.specs.Claims.{PacketReadsAs, WrittenReads, RepairedReads}
use Rattle.packet.specs.declared.types.PacketKind.{PacketKind}
use Rattle.packet.specs.declared.types.Ending.{Ending}
use Rattle.packet.specs.declared.types.Ending.TheVariants.{Whole, Repaired}
use Rattle.packet.proofs.Described.{lawful-packet}
use Rattle.packet.proofs.Written.{WriteForm, write-form}
use Rattle.packet.proofs.Inside.{all_octets, packet-in}
use Rattle.packet.proofs.Fitting.{placed_at, placed, Cut, first_field, packet-fits}

-- in any edition the end of a packet is at an octet edge
packet-edge : (edition : Edition) (x : IfpPacket) → wide ((packet edition).spelling x 0) % 8 ≡ 0
unfolding packet
packet-edge edition x =
    let b = ltb 0 (length x.contents) in
    let letters = (start edition).spelling (record { kind = x.kind; value = x.value; present = b }) 0 in
    let rest = (cond b (data_field edition) (known [])).spelling x.contents (wide letters + 0) in
    let q = wide rest + (wide letters + 0) in
    omega (arith, wide-append letters (rest ++ spelt (gap q) 0), wide-append rest (spelt (gap q) 0), wide-spelt (gap q) 0, gap-past q)

-- a field without the place of its data
abbrev pub bare : Content → Content
bare c = record { type = c.type; start = 0; octets = c.octets }

module _ (edition : Edition) where
  -- where the data begins is not spelt
  field-same : (c : Content) (start p : ℕ) → (field edition).spelling c p
      ≡ (field edition).spelling (record { type = c.type; start = start; octets = c.octets }) p
  unfolding field field_data
  field-same c start p = by (ltb 0 (length c.octets)) where
    by : (b : Bool) → (header edition).spelling (record { type = c.type; present = b }) p
        ++ (cond b field_data (known (0, []))).spelling (c.start, c.octets)
        (wide ((header edition).spelling (record { type = c.type; present = b }) p) + p)
        ≡ (header edition).spelling (record { type = c.type; present = b }) p
        ++ (cond b field_data (known (0, []))).spelling (start, c.octets)
        (wide ((header edition).spelling (record { type = c.type; present = b }) p) + p)
    by true = refl
    by false = refl

  sequence-bare : (cs : List Content) (p : ℕ) → sequence_spelt (field edition) cs p ≡ sequence_spelt (field edition) (map bare cs) p
  unfolding sequence_spelt
  sequence-bare [] p = refl
  sequence-bare (c ∷ cs) p =
      let letters = (field edition).spelling c p in
      ap (λ (l : List Letter). letters ++ l) (sequence-bare cs (wide letters + p))
      ∙ ap (λ (l : List Letter). l ++ sequence_spelt (field edition) (map bare cs) (wide l + p)) (field-same c 0 p)

  pub packet-bare : (k : PacketKind) (v : ℕ) (cs : List Content)
      → (packet edition).spelling (record { kind = k; value = v; contents = cs }) 0
      ≡ (packet edition).spelling (record { kind = k; value = v; contents = map bare cs }) 0
  unfolding packet data_field
  packet-bare k v cs =
      let first = (start edition).spelling (record { kind = k; value = v; present = ltb 0 (length cs) }) 0 in
      rw (length-map cs bare)
      (ap (λ (l : List Letter). first ++ (l ++ spelt (gap (wide l + (wide first + 0))) 0)) (by (ltb 0 (length cs)) (wide first + 0))) where
        by : (b : Bool) (p : ℕ)
            → (cond b (data_field edition) (known [])).spelling cs p ≡ (cond b (data_field edition) (known [])).spelling (map bare cs) p
        by true p =
            let n = count.spelling (length cs) p in
            rw (length-map cs bare) (ap (λ (l : List Letter). n ++ l) (sequence-bare cs (wide n + p)))
        by false p = refl

-- ---- what is written
cut_of : (ns d : List ℕ) → lengths_sum ns ≡ length d → Cut ns d
unfolding Cut total
cut_of [] d all = tt
cut_of (n ∷ ns) d all = (length-take-le n d (omega arith), cut_of ns (drop n d) (omega (arith, length-drop n d)))

abbrev pub kinds : List Content → List ℕ
kinds cs = map (λ f. f.kind) (map field_of cs)

abbrev pub sizes : List Content → List ℕ
sizes cs = map (λ f. f.size) (map field_of cs)

record Same (ts ns d : List ℕ) (cs : List Content) : Type 0 where
  types : kinds cs ≡ ts
  lengths : sizes cs ≡ ns
  octets : all_octets cs ≡ d
  contents : map bare cs ≡ contents_of ts ns d

empty : (d : List ℕ) → 0 ≡ length d → [] ≡ d
empty [] e = refl
empty (x ∷ d) e = absurd (omega arith)

placed_same : (edition : Edition) (ts ns d : List ℕ) (p : ℕ) → length ts ≡ length ns → lengths_sum ns ≡ length d
    → Same ts ns d (placed edition ts ns d p)
unfolding placed contents_of total all_octets
placed_same edition [] [] d p same all = record { types = refl; lengths = refl; octets = empty d all; contents = refl }
placed_same edition [] (n ∷ ns) d p same all = absurd (omega arith)
placed_same edition (t ∷ ts) [] d p same all = absurd (omega arith)
placed_same edition (t ∷ ts) (n ∷ ns) d p same all =
    let rest =
    placed_same edition ts ns (drop n d) (wide ((field edition).spelling (placed_at edition t (take n d) p) p) + p) (omega arith)
    (omega (arith, length-drop n d)) in
    record {
      types = ap (λ (l : List ℕ). t ∷ l) rest.types;
      lengths = ap₂ (λ (a : ℕ) (l : List ℕ). a ∷ l) (length-take-le n d (omega arith)) rest.lengths;
      octets = ap (λ (l : List ℕ). take n d ++ l) rest.octets ∙ take-append-drop n d;
      contents = ap (λ (l : List Content). record { type = t; start = 0; octets = take n d } ∷ l) rest.contents;
    }

module _ (edition : Edition) (sound : SoundEdition edition) where
  packet-back : (e : Ending) (k : PacketKind) (v : ℕ) (ts ns d w more : List ℕ) → WriteForm edition k v ts ns d w → may_follow e more ≡ true
      → length (w ++ more) ≤ packet_limit → PacketReadsAs edition e (w ++ more) k v ts ns d
  unfolding read_packet whole_packet packet_octets
  packet-back e k v ts ns d w more form follows room =
      let from = first_field edition k v (length ts) in
      let cs = placed edition ts ns d (first_field edition k v (length ts)) in
      let x : IfpPacket = record { kind = k; value = v; contents = cs } in
      let same = placed_same edition ts ns d from form.same form.all in
      let fits =
      packet-fits edition sound ts ns d form.same k v form.known form.few (cut_of ns d form.all) form.types form.short
      form.right form.fields in
      let same-spelt : (packet edition).spelling x 0 ≡ (packet edition).spelling
      (record { kind = k; value = v; contents = contents_of ts ns d }) 0
      = packet-bare edition k v cs ∙ ap (λ (l : List Content). (packet edition).spelling (record { kind = k; value = v; contents = l }) 0)
      same.contents in
      let is : in_octets ((packet edition).spelling x 0) ≡ w = ap in_octets same-spelt ∙ sym form.is in
      let reads : (packet edition).read (w ++ more) 0 0 ≡ found x (8 * length w) = rw is at
      (written-found (lawful-packet edition) x 0 more fits (packet-edge edition x)) in
      let at : 8 * length w / 8 ≡ length w = omega arith in
      record {
        packet = record { kind = k; value = v; fields = map field_of cs };
        reads = rw (le-ltb packet_limit (length (w ++ more)) room, reads, at, drop_at w more (length w) refl, follows);
        kind_same = refl;
        value_same = refl;
        types_same = same.types;
        lengths_same = same.lengths;
        octets_same = (packet-in edition (w ++ more) 0 x (8 * length w) reads).contents.octets ∙ same.octets;
      }

pub packet-written-reads : WrittenReads
packet-written-reads edition sound k v ts ns d w e =
    let form = write-form edition k v ts ns d w e in
    let alone : w ++ [] ≡ w = append-nil w in
    rw alone at (packet-back edition sound Whole k v ts ns d w [] form refl (rw alone form.size))

pub zeros-all : (n : ℕ) → every (λ x. eqb x 0) (replicate n 0) ≡ true
unfolding every
zeros-all zero = refl
zeros-all (suc n) = zeros-all n

pub packet-repaired-reads : RepairedReads
packet-repaired-reads edition sound k v ts ns d w n e room =
    packet-back edition sound Repaired k v ts ns d w (replicate n 0) (write-form edition k v ts ns d w e) (zeros-all n)
    (omega (arith, length-append w (replicate n 0), length-replicate {A = ℕ} n 0))
