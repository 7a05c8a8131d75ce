-- A packet without fields and without an added value is the same in both editions: they differ in the values behind the extension mark and
-- in the fields' headers alone. Assumes nothing.
use Prim.Native.Nat.{ℕ, zero, suc, ◌+◌, ◌/◌, ◌≤◌, ◌<◌}
use mathlib.Core.Path.{◌≡◌, refl, sym, ap, subst, ◌∙◌}
use mathlib.Core.Bool.{Bool, true, false, not, cond}
use mathlib.Core.List.{List, [], ◌∷◌, map}
use lib.ListN.{length, drop}
use lib.Dec.{ltb}
use native.Mathlib.Omega.{arith}
use Rattle.length.specs.Refusals.{not_assigned, wrong_data}
use Rattle.length.specs.Answers.{Answer, done, refused, LengthAnswer}
use Rattle.length.specs.Length.{length_within}
use Rattle.length.proofs.Laws.{within-done}
use Rattle.format.specs.Reading.{found}
use Rattle.format.specs.Reading as reading
use Rattle.format.specs.Format.{Format, flag, bits, align, guarded, demand, known, item, length_found, ◌⊳◌, sequence_of}
use Rattle.format.proofs.Laws.{stepped, from_found, then_found, made_found}
use Rattle.packet.specs.Edition.{Enumerated, added_width, Edition, values, edition98, edition02}
use Rattle.packet.specs.Packet.{many_values, root, addition, enumerated, First, chosen, type_of_msg, right_fields, start, count}
use Rattle.packet.specs.Packet.{fields_least}
use Rattle.packet.specs.Packet.{fields_limit, Content, field, data_field, IfpPacket, packet, field_of, PacketAnswer, read_packet}
use Rattle.packet.specs.Claims.{PlainAlike}
use Rattle.packet.specs.declared.types.Ending.{Ending}
use Rattle.packet.proofs.Inside.{packet-read, packet-reads}

-- ---- a value before the extension mark
-- an ENUMERATED type of packets, by how many values stand before the mark and how many were added
abbrev with : ℕ → ℕ → Enumerated
with many_values added = record { extensible = true; width = 4; assigned = many_values; added = added }

module _ (a n m : ℕ) (s : List ℕ) (i v q : ℕ) (low : v < a) where
  root_alike : (more : Bool) (p : ℕ) → (cond more (addition (with a n)) (root (with a n))).read s i p ≡ found v q
      → (cond more (addition (with a m)) (root (with a m))).read s i p ≡ found v q
  unfolding addition root
  root_alike true p e =
      let last : Format ℕ = guarded not_assigned (λ w. ltb w n) (bits added_width) in
      let bit : Format (Bool × ℕ) = guarded not_assigned not flag ⊳ λ _. last in
      let six : Format (Unit {0} × (Bool × ℕ)) = demand not_assigned (ltb 0 n) ⊳ λ _. bit in
      let to : Unit {0} × (Bool × ℕ) → ℕ = λ x. a + x.1.1 in
      let high : to (made_found to six s i p v q e).part ≡ v = (made_found to six s i p v q e).is in
      absurd (omega arith)
  root_alike false p e = e

  value-alike : (p : ℕ) → (enumerated (with a n)).read s i p ≡ found v q → (enumerated (with a m)).read s i p ≡ found v q
  unfolding enumerated
  value-alike p e =
      let rest : Bool → Format ℕ = λ more. cond more (addition (with a n)) (root (with a n)) in
      let made' = made_found {A = Bool × ℕ} (λ x. x.1) (flag ⊳ rest) s i p v q e in
      let parts = then_found flag rest s i p made'.part q made'.was in
      let read = root_alike made'.part.0 parts.middle (parts.second ∙ ap (λ (w : ℕ). found w q) made'.is) in
      rw (parts.first, read)

-- ---- the first item
-- what the one edition reads the other reads too
record Reads (d e : Edition) : Type 0 where
  values : (c : Bool) (s : List ℕ) (i p v q : ℕ) → v < many_values edition98 (chosen c)
      → (enumerated (values d (chosen c))).read s i p ≡ found v q
      → (enumerated (values e (chosen c))).read s i p ≡ found v q

old-new : Reads edition98 edition02
old-new = record { values = by } where
  by : (c : Bool) (s : List ℕ) (i p v q : ℕ) → v < many_values edition98 (chosen c)
      → (enumerated (values edition98 (chosen c))).read s i p ≡ found v q
      → (enumerated (values edition02 (chosen c))).read s i p ≡ found v q
  by true s i p v q low e = value-alike 9 0 6 s i v q (omega arith) p e
  by false s i p v q low e = value-alike 16 0 7 s i v q (omega arith) p e

new-old : Reads edition02 edition98
new-old = record { values = by } where
  by : (c : Bool) (s : List ℕ) (i p v q : ℕ) → v < many_values edition98 (chosen c)
      → (enumerated (values edition02 (chosen c))).read s i p ≡ found v q
      → (enumerated (values edition98 (chosen c))).read s i p ≡ found v q
  by true s i p v q low e = value-alike 9 6 0 s i v q (omega arith) p e
  by false s i p v q low e = value-alike 16 7 0 s i v q (omega arith) p e

module _ (d e : Edition) (reads : Reads d e) (s : List ℕ) where
  type-alike : (i p : ℕ) (f : First) (q : ℕ) → f.value < many_values edition98 f.kind → (type_of_msg d).read s i p ≡ found f q
      → (type_of_msg e).read s i p ≡ found f q
  unfolding type_of_msg
  type-alike i p f q low was =
      let value : Bool → Format ℕ = λ c. enumerated (values d (chosen c)) in
      let choice : Bool → Format (Bool × ℕ) = λ _. flag ⊳ value in
      let to : Bool × (Bool × ℕ) → First = λ x. record { kind = chosen x.1.0; value = x.1.1; present = x.0 } in
      let m = made_found to (flag ⊳ choice) s i p f q was in
      let t = then_found flag choice s i p m.part q m.was in
      let u = then_found flag value s i t.middle m.part.1 q t.second in
      let small = subst (λ (g : First). g.value < many_values edition98 g.kind) (sym m.is) low in
      let read = reads.values m.part.1.0 s i u.middle m.part.1.1 q small u.second in
      rw (t.first, u.first, read) (ap (λ (g : First). found g q) m.is)

  start-alike : (i : ℕ) (f : First) (q : ℕ) → f.value < many_values edition98 f.kind → (start d).read s i 0 ≡ found f q
      → (start e).read s i 0 ≡ found f q
  unfolding start
  start-alike i f q low was =
      let right : First → Format (Unit {0}) = λ g. demand wrong_data (right_fields g.kind g.present) in
      let rest : First → Format (Unit {0} × Unit {0}) = λ g. align ⊳ λ _. right g in
      let m = made_found {A = First × (Unit {0} × Unit {0})} (λ x. x.0) (item (type_of_msg d ⊳ rest)) s i 0 f q was in
      let t = then_found (type_of_msg d) rest s 0 0 m.part q m.was in
      let u = then_found align (λ _. right m.part.0) s 0 t.middle m.part.1 q t.second in
      let small = subst (λ (g : First). g.value < many_values edition98 g.kind) (sym m.is) low in
      let read = type-alike 0 0 m.part.0 t.middle small t.first in
      rw (read, u.first, u.second) (ap (λ (g : First). found g q) m.is)

-- ---- no fields
-- a count that reads is not 0
count-some : (s : List ℕ) (i p n q : ℕ) → count.read s i p ≡ found n q → 1 ≤ n
unfolding count reading.octetwise
count-some s i p n q e =
    let edge = stepped (reading.align s i p) _ n q e in
    let at = edge.at / 8 in
    let front = stepped (reading.found_from at (length_found (length_within fields_least fields_limit (drop at s)))) _ n q edge.gave in
    let was =
    from_found at (length_found (length_within fields_least fields_limit (drop at s))) front.value front.at front.was in
    let is : front.value ≡ n = cc in
    omega (arith, by (drop at s) front.value front.at (length_within fields_least fields_limit (drop at s)) refl was) where
      by : (t : List ℕ) (v k : ℕ) (x : Answer LengthAnswer) → length_within fields_least fields_limit t ≡ x → length_found x ≡ found v k → 1 ≤ v
      by t v k (done a) was e = let is : a.value ≡ v = cc in omega (arith, (within-done fields_least fields_limit t a was).low)
      by t v k (refused r) was e = let z : ◌≡◌ {A = ℕ} 0 1 = cc in absurd (omega arith)

-- and then there is a field
fields-some : (edition : Edition) (s : List ℕ) (i p q : ℕ) → (data_field edition).read s i p ≡ found [] q → ⊥
unfolding data_field reading.sequence_of
fields-some edition s i p q e =
    let rest : ℕ → Format (List Content) = λ n. sequence_of n (field edition) in
    let m = made_found {A = ℕ × List Content} (λ x. x.1) (count ⊳ rest) s i p [] q e in
    let t = then_found count rest s i p m.part q m.was in
    by m.part.0 (count-some s i p m.part.0 t.middle t.first) t.middle m.part.1 m.is t.second where
      by : (n : ℕ) → 1 ≤ n → (k : ℕ) (cs : List Content) → cs ≡ [] → reading.sequence_of n (field edition).read s i k ≡ found cs q → ⊥
      by zero some k cs none e = omega arith
      by (suc n) some k cs none e =
          let one = stepped ((field edition).read s i k) _ cs q e in
          let more = stepped (reading.sequence_of n (field edition).read s i one.at) _ cs q one.gave in
          let is : one.value ∷ more.value ≡ cs = cc in
          let long : length (one.value ∷ more.value) ≡ 0 = ap length (is ∙ none) in
          omega arith

-- ---- the packet
module _ (d e : Edition) (reads : Reads d e) (s : List ℕ) where
  packet-alike : (x : IfpPacket) (q : ℕ) → x.contents ≡ [] → x.value < many_values edition98 x.kind → (packet d).read s 0 0 ≡ found x q
      → (packet e).read s 0 0 ≡ found x q
  unfolding packet
  packet-alike x q none low was =
      let last : First → Format (List Content × Unit {0}) = λ f. cond f.present (data_field d) (known []) ⊳ λ _. align in
      let to : First × (List Content × Unit {0}) → IfpPacket
      = λ y. record { kind = y.0.kind; value = y.0.value; contents = y.1.0 } in
      let m = made_found to (start d ⊳ last) s 0 0 x q was in
      let t = then_found (start d) last s 0 0 m.part q m.was in
      let f = m.part.0 in
      let u = then_found (cond f.present (data_field d) (known [])) (λ _. align) s 0 t.middle m.part.1 q t.second in
      let empty : m.part.1.0 ≡ [] = ap (λ (y : IfpPacket). y.contents) m.is ∙ none in
      let small = subst (λ (y : IfpPacket). y.value < many_values edition98 y.kind) (sym m.is) low in
      let begins = start-alike d e reads s 0 f t.middle small t.first in
      let after = by f.present t.middle m.part.1.0 u.middle empty u.first in
      rw (begins, after, u.second) (ap (λ (y : IfpPacket). found y q) m.is) where
        by : (b : Bool) (k : ℕ) (cs : List Content) (r : ℕ) → cs ≡ [] → (cond b (data_field d) (known [])).read s 0 k ≡ found cs r
            → (cond b (data_field e) (known [])).read s 0 k ≡ found cs r
        by true k cs r is e = absurd (fields-some d s 0 k r (e ∙ ap (λ (l : List Content). found l r) is))
        by false k cs r is e = e

  plain-one : (ending : Ending) (p : PacketAnswer) → p.fields ≡ [] → p.value < many_values edition98 p.kind
      → read_packet d ending s ≡ done p
      → read_packet e ending s ≡ done p
  plain-one ending p none low was =
      let r = packet-read d s ending p was in
      let empty = no-contents r.content.contents (sym (ap (λ (a : PacketAnswer). a.fields) r.is) ∙ none) in
      let small = subst (λ (a : PacketAnswer). a.value < many_values edition98 a.kind) r.is low in
      packet-reads e s ending r.content r.end r.fits (packet-alike r.content r.end empty small r.reads) r.follows
      ∙ ap (λ (a : PacketAnswer). done a) (sym r.is) where
        no-contents : (cs : List Content) → map field_of cs ≡ [] → cs ≡ []
        no-contents [] e = refl
        no-contents (c ∷ cs) e = let z : length (map field_of (c ∷ cs)) ≡ 0 = ap length e in absurd (omega arith)

pub plain-alike : PlainAlike
plain-alike ending s p none low =
    (plain-one edition98 edition02 old-new s ending p none low, plain-one edition02 edition98 new-old s ending p none low)
