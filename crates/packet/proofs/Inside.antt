-- A packet that reads, in any edition, lies inside the octets: it ends at an octet edge there, and its data is where its fields say.
-- Assumes nothing.
use Prim.Native.Nat.{ℕ, zero, suc, ◌+◌, ◌-◌, ◌*◌, ◌/◌, ◌%◌, ◌≤◌}
use mathlib.Core.Path.{◌≡◌, refl, sym, ap, ap₂, subst, ◌∙◌}
use mathlib.Core.Bool.{Bool, true, false, cond}
use mathlib.Core.List.{List, [], ◌∷◌, ◌++◌, map}
use lib.ListN.{length, get_or, take, drop, length-drop}
use lib.Seq.{length-take-le}
use lib.Dec.{leb, ltb}
use native.Mathlib.Omega.{arith}
use borrow.Author.Tests.{le-ltb, ltb-false}
use Rattle.length.specs.Refusals.{refusal, ends_early, outside_sizes, left_over}
use Rattle.length.specs.Answers.{Answer, done, refused}
use Rattle.length.proofs.Laws.{cond-done}
use Rattle.format.specs.Reading.{Finding, found, stopped, and_then, found_from}
use Rattle.format.specs.Reading as reading
use Rattle.format.specs.Format.{Format, align, here, octets_front, octets, two_front, two_octets, known, item, ◌⊳◌, sequence_of}
use Rattle.format.specs.Places.{edge_at}
use Rattle.format.proofs.Laws.{onward, octetwise-at, octetwise-edge, stepped, then_found, made_found, steady-item, steady-align}
use Rattle.format.proofs.Laws.{align-edge}
use Rattle.datagram.specs.Sizes.{packet_limit}
use Rattle.packet.specs.Edition.{Edition}
use Rattle.packet.specs.Packet.{First, Header, header, Content, size, field_data, field, data_field, count, start, IfpPacket, packet}
use Rattle.packet.specs.Packet.{field_of}
use Rattle.packet.specs.declared.types.Field.{Field}
use Rattle.packet.specs.Packet.{no_field, all_data, may_follow, whole_packet, PacketAnswer, answer_of, read_packet}
use Rattle.packet.specs.declared.types.Ending.{Ending}
use Rattle.packet.proofs.Steady.{steady-start, steady-header, steady-field, steady-count, steady-fields}

-- ---- the data of a field
record DataIn (s : List ℕ) (start : ℕ) (octets : List ℕ) : Type 0 where
  within : start + length octets ≤ length s
  is : take (length octets) (drop start s) ≡ octets

-- some octets from an octet edge on
octets-in : (s : List ℕ) (n i at : ℕ) (l : List ℕ) (q : ℕ) → 1 ≤ n → (octets n).read s i (8 * at) ≡ found l q → DataIn s at l
unfolding octets_front
octets-in s n i at l q some e =
    by (ltb (length (drop at s)) n) refl (sym (octetwise-edge (octets_front n) (λ x. x) (λ x. length x ≡ n) s i at) ∙ e) where
      by : (b : Bool) → ltb (length (drop at s)) n ≡ b
          → and_then (found_from at (cond b (stopped (refusal ends_early)) (found (take n (drop at s)) n))) (λ x k. found x (8 * k + 8 * at))
          ≡ found l q
          → DataIn s at l
      by true short e = let z : ◌≡◌ {A = ℕ} 0 1 = cc in absurd (omega arith)
      by false all e =
          let room = ltb-false (length (drop at s)) n all in
          let long : length (take n (drop at s)) ≡ n = length-take-le n (drop at s) room in
          let is : take n (drop at s) ≡ l = cc in
          subst (DataIn s at) is
          (record { within = omega (arith, length-drop at s); is = ap (λ (k : ℕ). take k (drop at s)) long })

-- the two octets of the length end at an octet edge
record AtEdge (p : ℕ) : Type 0 where
  at : ℕ
  is : p ≡ 8 * at

two-edge : (s : List ℕ) (most i p v q : ℕ) → p ≤ 8 * length s → (two_octets most).read s i p ≡ found v q → AtEdge q
unfolding two_front
two-edge s most i p v q from e =
    by (edge_at s p) (sym (octetwise-at (two_front most) (λ v. (v / 256) ∷ (v % 256) ∷ []) (λ v. v ≤ most) s i p from) ∙ e) where
      told : (at : ℕ) (a b : Bool)
          → and_then (found_from at
          (cond a (stopped (refusal ends_early))
          (cond b (found (get_or (drop at s) 0 0 * 256 + get_or (drop at s) 1 0) 2) (stopped (refusal outside_sizes)))))
          (λ x k. found x (8 * k + 8 * at))
          ≡ found v q
          → AtEdge q
      told at true b e = let z : ◌≡◌ {A = ℕ} 0 1 = cc in absurd (omega arith)
      told at false true e = let is : 8 * 2 + 8 * at ≡ q = cc in record { at = 2 + at; is = omega arith }
      told at false false e = let z : ◌≡◌ {A = ℕ} 0 1 = cc in absurd (omega arith)

      by : (x : Answer ℕ)
          → onward x (λ at. and_then (found_from at (two_front most (drop at s))) (λ x k. found x (8 * k + 8 * at))) ≡ found v q → AtEdge q
      by (done at) e = told at (ltb (length (drop at s)) 2) (leb (get_or (drop at s) 0 0 * 256 + get_or (drop at s) 1 0) most) e
      by (refused r) e = let z : ◌≡◌ {A = ℕ} 0 1 = cc in absurd (omega arith)

module _ (s : List ℕ) (start : ℕ) (l : List ℕ) (q : ℕ) where
  data-in : (i p : ℕ) → p ≤ 8 * length s → field_data.read s i p ≡ found (start, l) q → DataIn s start l
  unfolding field_data size
  data-in i p from e =
      let rest : ℕ → Format (ℕ × List ℕ) = λ n. here ⊳ λ _. octets n in
      let m = made_found {A = ℕ × (ℕ × List ℕ)} (λ x. x.1) (size ⊳ rest) s i p (start, l) q e in
      let t = then_found size rest s i p m.part q m.was in
      let n = made_found {A = ℕ} (λ v. v + 1) (two_octets (packet_limit - 1)) s i p m.part.0 t.middle t.first in
      let edge = two-edge s (packet_limit - 1) i p n.part t.middle from n.was in
      let u = then_found here (λ _. octets m.part.0) s i t.middle m.part.1 q t.second in
      let first : found (t.middle / 8) t.middle ≡ found m.part.1.0 u.middle = u.first in
      let same : t.middle ≡ u.middle = cc in
      let begins : t.middle / 8 ≡ m.part.1.0 = cc in
      let there : u.middle ≡ 8 * m.part.1.0 = omega (arith, edge.is) in
      let read : (octets m.part.0).read s i (8 * m.part.1.0) ≡ found m.part.1.1 q
      = subst (λ (k : ℕ). (octets m.part.0).read s i k ≡ found m.part.1.1 q) there u.second in
      subst (λ (x : ℕ × List ℕ). DataIn s x.0 x.1) m.is
      (octets-in s m.part.0 i m.part.1.0 m.part.1.1 q (omega (arith, n.is)) read)

  -- without data there is nothing
  rest_in : (b : Bool) (i p : ℕ) → p ≤ 8 * length s → (cond b field_data (known (0, []))).read s i p ≡ found (start, l) q → DataIn s start l
  rest_in true i p from e = data-in i p from e
  rest_in false i p from e =
      let none : DataIn s 0 [] = record { within = omega arith; is = refl } in
      let is : ◌≡◌ {A = ℕ × List ℕ} (0, []) (start, l) = cc in
      subst (λ (x : ℕ × List ℕ). DataIn s x.0 x.1) is none

-- ---- all fields
-- the data of some fields, one after the other
unfoldable pub all_octets : List Content → List ℕ
all_octets [] = []
all_octets (c ∷ cs) = c.octets ++ all_octets cs

pub record ContentsIn (s : List ℕ) (cs : List Content) : Type 0 where
  pub parts : (j : ℕ) → (get_or (map field_of cs) j no_field).start + (get_or (map field_of cs) j no_field).size ≤ length s
  pub octets : all_data s (map field_of cs) ≡ all_octets cs

-- the parts of one more field
pub parts-cons : (s : List ℕ) (f : Field) (l : List Field) → f.start + f.size ≤ length s
    → ((i : ℕ) → (get_or l i no_field).start + (get_or l i no_field).size ≤ length s)
    → (i : ℕ) → (get_or (f ∷ l) i no_field).start + (get_or (f ∷ l) i no_field).size ≤ length s
parts-cons s f l here more zero = here
parts-cons s f l here more (suc i) = more i

none_in : (s : List ℕ) → ContentsIn s []
unfolding all_data all_octets
none_in s = record { parts = λ j. omega arith; octets = refl }

one_more : (s : List ℕ) (c : Content) (cs : List Content) → DataIn s c.start c.octets → ContentsIn s cs → ContentsIn s (c ∷ cs)
unfolding all_data all_octets
one_more s c cs here rest =
    record {
      parts = parts-cons s (field_of c) (map field_of cs) here.within rest.parts;
      octets = ap₂ (λ (a b : List ℕ). a ++ b) here.is rest.octets;
    }

module _ (edition : Edition) (s : List ℕ) where
  field_in : (i p : ℕ) (c : Content) (q : ℕ) → p ≤ 8 * length s → (field edition).read s i p ≡ found c q → DataIn s c.start c.octets
  unfolding field
  field_in i p c q from e =
      let to : Header × (ℕ × List ℕ) → Content = λ x. record { type = x.0.type; start = x.1.0; octets = x.1.1 } in
      let rest : Header → Format (ℕ × List ℕ) = λ h. cond h.present field_data (known (0, [])) in
      let m = made_found to (item (header edition) ⊳ rest) s i p c q e in
      let t = then_found (item (header edition)) rest s i p m.part q m.was in
      let on = (steady-item (steady-header edition)).inside s i p m.part.0 t.middle from t.first in
      subst (λ (d : Content). DataIn s d.start d.octets) m.is
      (rest_in s m.part.1.0 m.part.1.1 q m.part.0.present i t.middle on t.second)

  fields_in : (n i p : ℕ) (cs : List Content) (q : ℕ) → p ≤ 8 * length s → reading.sequence_of n (field edition).read s i p ≡ found cs q
      → ContentsIn s cs
  unfolding reading.sequence_of
  fields_in zero i p cs q from e =
      let is : [] ≡ cs = cc in
      subst (ContentsIn s) is (none_in s)
  fields_in (suc n) i p cs q from e =
      let one = stepped ((field edition).read s i p) _ cs q e in
      let more = stepped (reading.sequence_of n (field edition).read s i one.at) _ cs q one.gave in
      let on = (steady-field edition).inside s i p one.value one.at from one.was in
      let is : one.value ∷ more.value ≡ cs = cc in
      subst (ContentsIn s) is
      (one_more s one.value more.value (field_in i p one.value one.at from one.was)
      (fields_in n i one.at more.value more.at on more.was))

  contents-in : (b : Bool) (i p : ℕ) (cs : List Content) (q : ℕ) → p ≤ 8 * length s
      → (cond b (data_field edition) (known [])).read s i p ≡ found cs q
      → ContentsIn s cs
  unfolding data_field
  contents-in true i p cs q from e =
      let rest : ℕ → Format (List Content) = λ n. sequence_of n (field edition) in
      let m = made_found {A = ℕ × List Content} (λ x. x.1) (count ⊳ rest) s i p cs q e in
      let t = then_found count rest s i p m.part q m.was in
      let on = steady-count.inside s i p m.part.0 t.middle from t.first in
      subst (ContentsIn s) m.is (fields_in m.part.0 i t.middle m.part.1 q on t.second)
  contents-in false i p cs q from e = subst (ContentsIn s) (cc) (none_in s)

  -- ---- the packet
  pub record PacketIn (x : IfpPacket) (q : ℕ) : Type 0 where
    pub next : ℕ
    pub is : q ≡ 8 * next
    pub inside : next ≤ length s
    pub contents : ContentsIn s x.contents

  pub packet-in : (i : ℕ) (x : IfpPacket) (q : ℕ) → (packet edition).read s i 0 ≡ found x q → PacketIn x q
  unfolding packet
  packet-in i x q e =
      let fields : First → Format (List Content) = λ f. cond f.present (data_field edition) (known []) in
      let last : First → Format (List Content × Unit {0}) = λ f. cond f.present (data_field edition) (known []) ⊳ λ _. align in
      let to : First × (List Content × Unit {0}) → IfpPacket
      = λ y. record { kind = y.0.kind; value = y.0.value; contents = y.1.0 } in
      let m = made_found to (start edition ⊳ last) s i 0 x q e in
      let t = then_found (start edition) last s i 0 m.part q m.was in
      let f = m.part.0 in
      let u = then_found (fields f) (λ _. align) s i t.middle m.part.1 q t.second in
      let begins = (steady-start edition).inside s i 0 f t.middle (omega arith) t.first in
      let ends = (steady-fields edition f.present).inside s i t.middle m.part.1.0 u.middle begins u.first in
      let inside = steady-align.inside s i u.middle m.part.1.1 q ends u.second in
      let edge = align-edge s i u.middle m.part.1.1 q u.second in
      record {
        next = q / 8;
        is = omega arith;
        inside = omega arith;
        contents =
            subst (λ (y : IfpPacket). ContentsIn s y.contents) m.is
            (contents-in f.present i t.middle m.part.1.0 u.middle begins u.first);
      }

  -- what reads, with what may follow it
  pub record PacketRead (e : Ending) (p : PacketAnswer) : Type 0 where
    pub fits : length s ≤ packet_limit
    pub content : IfpPacket
    pub end : ℕ
    pub reads : (packet edition).read s 0 0 ≡ found content end
    pub follows : may_follow e (drop (end / 8) s) ≡ true
    pub is : p ≡ record { kind = content.kind; value = content.value; fields = map field_of content.contents }

  pub packet-read : (e : Ending) (p : PacketAnswer) → read_packet edition e s ≡ done p → PacketRead e p
  unfolding read_packet whole_packet
  packet-read e p was =
      let short = cond-done (ltb packet_limit (length s)) outside_sizes _ p was in
      by ((packet edition).read s 0 0) refl (ltb-false packet_limit (length s) short.0) short.1 where
        ended : (x : IfpPacket) (q : ℕ) (b : Bool) → (packet edition).read s 0 0 ≡ found x q → length s ≤ packet_limit
            → may_follow e (drop (q / 8) s) ≡ b
            → answer_of (and_then (reading.check left_over b s (q / 8) q) (λ _ r. found x r)) ≡ done p
            → PacketRead e p
        ended x q true reads few follows told =
            record { fits = few; content = x; end = q; reads = reads; follows = follows; is = sym (cc told) }
        ended x q false reads few follows told = let z : ◌≡◌ {A = ℕ} 0 1 = cc in absurd (omega arith)

        by : (y : Finding IfpPacket) → (packet edition).read s 0 0 ≡ y → length s ≤ packet_limit
            → answer_of (and_then y
            (λ x q. and_then (reading.check left_over (may_follow e (drop (q / 8) s)) s (q / 8) q) (λ _ r. found x r))) ≡ done p
            → PacketRead e p
        by (found x q) reads few told = ended x q (may_follow e (drop (q / 8) s)) reads few refl told
        by (stopped r) reads few told = let z : ◌≡◌ {A = ℕ} 0 1 = cc in absurd (omega arith)

  -- and back
  pub packet-reads : (e : Ending) (x : IfpPacket) (q : ℕ) → length s ≤ packet_limit → (packet edition).read s 0 0 ≡ found x q
      → may_follow e (drop (q / 8) s) ≡ true
      → read_packet edition e s ≡ done (record { kind = x.kind; value = x.value; fields = map field_of x.contents })
  unfolding read_packet whole_packet
  packet-reads e x q few reads follows = rw (le-ltb packet_limit (length s) few, reads, follows)
