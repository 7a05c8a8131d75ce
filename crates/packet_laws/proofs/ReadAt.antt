-- The fields and the whole packet: what the description reads is the packet read octet by octet. Assumes nothing.
use Prim.Native.Nat.{ℕ, zero, suc, ◌+◌, ◌*◌, ◌/◌, ◌≤◌}
use mathlib.Core.Path.{◌≡◌, refl, sym, ap, ap₂}
use mathlib.Core.Bool.{Bool, true, false, cond}
use mathlib.Core.List.{List, [], ◌∷◌, map}
use lib.ListN.{length, get_or, take, drop, length-drop}
use lib.Seq.{length-take-le}
use lib.Dec.{ltb}
use native.Mathlib.Omega.{arith}
use Rattle.length.specs.Refusals.{outside_sizes, left_over}
use Rattle.length.specs.Answers.{Answer, done, refused, refuse, refuse_at, ◌>>=◌}
use Rattle.length.specs.declared.Refusal.{Refusal}
use Rattle.format.specs.Reading.{Finding, found, stopped, and_then}
use Rattle.format.specs.Reading as reading
use Rattle.format.specs.Format.{known}
use Rattle.format.specs.Places.{Place, edge_at}
use Rattle.format.proofs.Laws.{onward, edge-at}
use Rattle.datagram.specs.Sizes.{packet_limit}
use Rattle.packet.specs.Edition.{Edition}
use Rattle.packet.specs.Packet.{First, Content, field, data_field, IfpPacket, packet, field_of, PacketAnswer, answer_of, no_field}
use Rattle.packet.specs.Packet.{data_of, may_follow, whole_packet, read_packet}
use Rattle.packet_laws.specs.Octets.{NarrowEdition, FirstAnswer, first_at, Count, count_at, HeaderAnswer, header_at, size_at}
use Rattle.packet_laws.specs.Octets.{FieldAnswer, after_header, field_at, FieldsAnswer, fields_at, end_at, packet_by_octets}
use Rattle.packet.specs.declared.types.Field.{Field}
use Rattle.packet.specs.declared.types.Ending.{Ending}
use Rattle.packet_laws.proofs.AtFirst.{start-at}
use Rattle.packet_laws.proofs.AtOctets.{count_at_lem, header-at, data-at}
use Rattle.packet_laws.proofs.ReadLaws.{first_ends, header-ends}
use Rattle.packet_laws.proofs.ReadEnds.{count-within, FieldsInside, fields-inside}

-- a field with its data in s
abbrev pub content_in : List ℕ → Field → Content
content_in s f = record { type = f.kind; start = f.start; octets = data_of s f }

module _ (edition : Edition) (narrow : NarrowEdition edition) where
  field-at : (s : List ℕ) (i : ℕ) (p : Place)
      → (field edition).read s i p ≡ onward (field_at edition s p) (λ f. found (content_in s f.field) f.next)
  unfolding field field_at after_header
  field-at s i p = by (header_at edition s p) refl where
    sized : (h : HeaderAnswer) (at : ℕ) (x : Answer ℕ) → header_at edition s p ≡ done h → h.header.present ≡ true → h.next ≤ 8 * length s
        → edge_at s h.next ≡ done at → size_at (drop at s) ≡ x
        → (field edition).read s i p ≡ onward (field_at edition s p) (λ f. found (content_in s f.field) f.next)
    sized h at (done n) e present inside edges size =
        rw (header-at edition narrow s p, e, present, data-at s i h.next inside, edges, size)
    sized h at (refused r) e present inside edges size =
        rw (header-at edition narrow s p, e, present, data-at s i h.next inside, edges, size)

    told : (h : HeaderAnswer) (b : Bool) (x : Answer ℕ) → header_at edition s p ≡ done h → h.header.present ≡ b → h.next ≤ 8 * length s
        → edge_at s h.next ≡ x
        → (field edition).read s i p ≡ onward (field_at edition s p) (λ f. found (content_in s f.field) f.next)
    told h true (done at) e present inside edges = sized h at (size_at (drop at s)) e present inside edges refl
    told h true (refused r) e present inside edges = rw (header-at edition narrow s p, e, present, data-at s i h.next inside, edges)
    told h false x e present inside edges = rw (header-at edition narrow s p, e, present)

    by : (x : Answer HeaderAnswer) → header_at edition s p ≡ x
        → (field edition).read s i p ≡ onward (field_at edition s p) (λ f. found (content_in s f.field) f.next)
    by (done h) e = told h h.header.present (edge_at s h.next) e refl (header-ends edition s p h e) refl
    by (refused r) e = rw (header-at edition narrow s p, e)

  fields-at : (n : ℕ) (s : List ℕ) (i : ℕ) (p : Place)
      → reading.sequence_of n (field edition).read s i p
      ≡ onward (fields_at edition n s p) (λ a. found (map (content_in s) a.fields) a.next)
  unfolding reading.sequence_of fields_at
  fields-at zero s i p = refl
  fields-at (suc n) s i p = rw (field-at s i p) (by (field_at edition s p) (λ q. fields-at n s i q)) where
    after : (f : FieldAnswer) (x : Answer FieldsAnswer)
        → and_then (onward x (λ a. found (map (content_in s) a.fields) a.next)) (λ l q. found (content_in s f.field ∷ l) q)
        ≡ onward {A = FieldsAnswer} (◌>>=◌ x (λ rest. done (record { fields = f.field ∷ rest.fields; next = rest.next })))
        (λ a. found (map (content_in s) a.fields) a.next)
    after f (done a) = refl
    after f (refused r) = refl

    by : (x : Answer FieldAnswer)
        → ((q : ℕ)
        → reading.sequence_of n (field edition).read s i q ≡ onward (fields_at edition n s q)
        (λ a. found (map (content_in s) a.fields) a.next))
        → and_then (onward x (λ f. found (content_in s f.field) f.next))
        (λ c q. and_then (reading.sequence_of n (field edition).read s i q) (λ l r. found (c ∷ l) r))
        ≡ onward {A = FieldsAnswer}
        (◌>>=◌ x
        (λ f. ◌>>=◌ (fields_at edition n s f.next) (λ rest. done (record { fields = f.field ∷ rest.fields; next = rest.next }))))
        (λ a. found (map (content_in s) a.fields) a.next)
    by (done f) rest = rw (rest f.next) (after f (fields_at edition n s f.next))
    by (refused r) rest = refl

-- the count and the fields, if there are any
abbrev fields_found : Edition → List ℕ → ℕ → Bool → Finding (List Content)
fields_found edition s at present =
    onward (count_at s at present)
    (λ c. onward (fields_at edition c.value s c.next) (λ a. found (map (content_in s) a.fields) a.next))

module _ (edition : Edition) (narrow : NarrowEdition edition) where
  contents-at : (s : List ℕ) (i at : ℕ) (present : Bool)
      → (cond present (data_field edition) (known [])).read s i (8 * at) ≡ fields_found edition s at present
  unfolding data_field count_at fields_at
  contents-at s i at false = refl
  contents-at s i at true = rw (count_at_lem s i at) (by (count_at s at true)) where
    after : (n : ℕ) (x : Answer FieldsAnswer)
        → and_then (and_then {B = ℕ × List Content} (onward x (λ a. found (map (content_in s) a.fields) a.next))
        (λ l q. found (n, l) q)) (λ a q. found a.1 q)
        ≡ onward x (λ a. found (map (content_in s) a.fields) a.next)
    after n (done a) = refl
    after n (refused r) = refl

    by : (x : Answer Count)
        → and_then
        (and_then {B = ℕ × List Content} (onward x (λ c. found c.value c.next))
        (λ n q. and_then (reading.sequence_of n (field edition).read s i q) (λ l r. found (n, l) r)))
        (λ a q. found a.1 q)
        ≡ onward x (λ c. onward (fields_at edition c.value s c.next) (λ a. found (map (content_in s) a.fields) a.next))
    by (done c) = rw (fields-at edition narrow c.value s i c.next) (after c.value (fields_at edition c.value s c.next))
    by (refused r) = refl

-- ---- the packet
-- a field whose data lies inside is the field of its content
contents-same : (s : List ℕ) (l : List Field) → ((i : ℕ) → (get_or l i no_field).start + (get_or l i no_field).size ≤ length s)
    → map field_of (map (content_in s) l) ≡ l
contents-same s [] inside = refl
contents-same s (f ∷ l) inside =
    let here : f.start + f.size ≤ length s = inside 0 in
    let long : length (take f.size (drop f.start s)) ≡ f.size
    = length-take-le f.size (drop f.start s) (omega (arith, length-drop f.start s)) in
    ap₂ (λ (n : ℕ) (m : List Field). record { kind = f.kind; start = f.start; size = n } ∷ m) long
    (contents-same s l (λ i. inside (suc i)))

-- the description's packet at the front of s, told by the octets
abbrev packet_in : List ℕ → First → FieldsAnswer → IfpPacket
packet_in s f a = record { kind = f.kind; value = f.value; contents = map (content_in s) a.fields }

-- what follows the first item, and what follows the count
abbrev count_for : List ℕ → FirstAnswer → Answer Count
count_for s f = count_at s f.octets f.first.present

abbrev fields_for : Edition → List ℕ → Count → Answer FieldsAnswer
fields_for edition s c = fields_at edition c.value s c.next

-- its fields lie within its octets
pub inside-packet : (edition : Edition) (s : List ℕ) (f : FirstAnswer) (c : Count) (a : FieldsAnswer) → first_at edition s ≡ done f
    → count_for s f ≡ done c
    → fields_for edition s c ≡ done a → FieldsInside c.value s a
inside-packet edition s f c a first count fields =
    fields-inside edition c.value s c.next a
    (count-within s f.octets f.first.present c (first_ends edition s f first) count) fields

-- the packet by octets, of a length that may be
abbrev walked : Edition → Ending → List ℕ → Answer PacketAnswer
walked edition e s = do
  first ← first_at edition s
  count ← count_at s first.octets first.first.present
  all ← fields_at edition count.value s count.next
  end_at e s all.next (record { kind = first.first.kind; value = first.first.value; fields = all.fields })

-- the steps to the packet's end, all done or one refused, and what the description reads then
data Steps (edition : Edition) (s : List ℕ) : Type 0 where
  taken : (f : FirstAnswer) (c : Count) (a : FieldsAnswer) (at : ℕ) → first_at edition s ≡ done f → count_for s f ≡ done c
      → fields_for edition s c ≡ done a → edge_at s a.next ≡ done at
      → ((i : ℕ) → (packet edition).read s i 0 ≡ found (packet_in s f.first a) (8 * at)) → Steps edition s
  broken : (r : Refusal) → ((i : ℕ) → (packet edition).read s i 0 ≡ stopped r) → ((e : Ending) → walked edition e s ≡ refused r)
      → Steps edition s

steps : (edition : Edition) → NarrowEdition edition → (s : List ℕ) → Steps edition s
unfolding packet end_at
steps edition narrow s = first (first_at edition s) refl where
  follow : (i : ℕ) (f : FirstAnswer) → (cond f.first.present (data_field edition) (known [])).read s i (8 * f.octets)
      ≡ fields_found edition s f.octets f.first.present
  follow i f = contents-at edition narrow s i f.octets f.first.present

  end : (f : FirstAnswer) (c : Count) (a : FieldsAnswer) (x : Answer ℕ) → first_at edition s ≡ done f → count_for s f ≡ done c
      → fields_for edition s c ≡ done a → edge_at s a.next ≡ x → a.next ≤ 8 * length s → Steps edition s
  end f c a (done at) fe ce ae ee inside =
      taken f c a at fe ce ae ee
      (λ i. rw (start-at edition narrow s i, fe, follow i f, ce, ae, edge-at s i a.next inside, ee))
  end f c a (refused r) fe ce ae ee inside =
      broken r (λ i. rw (start-at edition narrow s i, fe, follow i f, ce, ae, edge-at s i a.next inside, ee))
      (λ e. rw (fe, ce, ae, ee))

  fields : (f : FirstAnswer) (c : Count) (x : Answer FieldsAnswer) → first_at edition s ≡ done f → count_for s f ≡ done c
      → fields_for edition s c ≡ x → Steps edition s
  fields f c (done a) fe ce ae = end f c a (edge_at s a.next) fe ce ae refl (inside-packet edition s f c a fe ce ae).next
  fields f c (refused r) fe ce ae = broken r (λ i. rw (start-at edition narrow s i, fe, follow i f, ce, ae)) (λ e. rw (fe, ce, ae))

  count : (f : FirstAnswer) (x : Answer Count) → first_at edition s ≡ done f → count_for s f ≡ x → Steps edition s
  count f (done c) fe ce = fields f c (fields_for edition s c) fe ce refl
  count f (refused r) fe ce = broken r (λ i. rw (start-at edition narrow s i, fe, follow i f, ce)) (λ e. rw (fe, ce))

  first : (x : Answer FirstAnswer) → first_at edition s ≡ x → Steps edition s
  first (done f) fe = count f (count_for s f) fe refl
  first (refused r) fe = broken r (λ i. rw (start-at edition narrow s i, fe)) (λ e. rw fe)

-- what follows it, and the answer
module _ (edition : Edition) (narrow : NarrowEdition edition) (e : Ending) (s : List ℕ) where
  ended : (f : FirstAnswer) (a : FieldsAnswer) (at : ℕ) (b : Bool) → may_follow e (drop at s) ≡ b
      → map field_of (map (content_in s) a.fields) ≡ a.fields
      → answer_of
      (and_then (reading.check left_over (may_follow e (drop (8 * at / 8) s)) s (8 * at / 8) (8 * at))
      (λ _ q. found (packet_in s f.first a) q))
      ≡ cond (may_follow e (drop at s)) (done (record { kind = f.first.kind; value = f.first.value; fields = a.fields }))
      (refuse_at at left_over)
  ended f a at true so same =
      let octet : 8 * at / 8 ≡ at = omega arith in
      rw (octet, so, same)
  ended f a at false so same =
      let octet : 8 * at / 8 ≡ at = omega arith in
      rw (octet, so)

  told : Steps edition s → answer_of (whole_packet edition e s 0 0) ≡ walked edition e s
  unfolding whole_packet end_at
  told (taken f c a at fe ce ae ee reads) =
      rw (reads 0, fe, ce, ae, ee)
      (ended f a at (may_follow e (drop at s)) refl (contents-same s a.fields (inside-packet edition s f c a fe ce ae).parts))
  told (broken r reads walks) = rw (reads 0) (sym (walks e))

  pub read_at : read_packet edition e s ≡ packet_by_octets edition e s
  unfolding read_packet packet_by_octets
  read_at = ap (cond (ltb packet_limit (length s)) (refuse outside_sizes)) (told (steps edition narrow s))
