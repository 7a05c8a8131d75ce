-- An offer of octets that read to the same parts reaches the same places: of a datagram only its number, how many spares it carries, and
-- the members and lengths of its messages count. Assumes nothing.
use Rattle.std.proofs.Common.{Result, Ok, Err}
use Rattle.length.specs.declared.Refusal.{Refusal}
use Prim.Native.Nat.{ℕ, ◌-◌, ◌%◌, ◌≤◌, ◌<◌, min}
use mathlib.Core.Path.{◌≡◌, refl, sym, ap, ap₂, subst, ◌∙◌}
use mathlib.Core.List.{List, [], ◌∷◌, map, Memᴰ as Among}
use mathlib.Core.Option.{Option, some, none}
use lib.ListN.{length, get_or, drop, length-take, length-drop, length-map, get_or-map}
use native.Mathlib.Omega.{arith}
use Rattle.length.specs.Answers.{done}
use Rattle.datagram.specs.Carried.{Carried}
use Rattle.datagram.specs.Read.{DatagramParts, octets_of, read_datagram, carried_by}
use Rattle.datagram.specs.declared.reader.Part.{Part}
use Rattle.datagram.specs.declared.kind.Kind.{Kind}
use Rattle.datagram.specs.declared.kind.Kind.TheVariants as kind
use Rattle.datagram.specs.Write.{extra_of}
use Rattle.session.specs.Members.{members_of}
use Rattle.session.specs.Held.{message_at}
use Rattle.session.specs.Repair.{Message}
use Rattle.session.specs.View.{numbers}
use Rattle.session.specs.Offer.{held_by}
use Rattle.demands.specs.Common.Calls.{Calls, offer, ◌then◌, accepted_in, left_by}
use Rattle.demands.specs.Demand2.ReachedBy.{spares_in, Accepts, Arrived, now, before, HeldBy, ReachedBy, before_first, packet, spare}
use Rattle.demands.specs.Demand2.ReachedBy.{repaired, together, earlier}

-- ---- two datagrams with the same parts
pub record SameShape (c d : Carried) : Type 0 where
  pub number : c.number ≡ d.number
  pub spares : spares_in c.extra ≡ spares_in d.extra
  pub n : (held_by c.extra).n ≡ (held_by d.extra).n
  pub messages : map length (held_by c.extra).messages ≡ map length (held_by d.extra).messages

octets-long : (s t : List ℕ) → length s ≡ length t → (p : Part) → length (octets_of s p) ≡ length (octets_of t p)
octets-long s t long p =
    length-take p.size (drop p.start s) ∙ ap (min p.size) (length-drop p.start s ∙ ap (λ (k : ℕ). k - p.start) long)
    ∙ sym (length-take p.size (drop p.start t) ∙ ap (min p.size) (length-drop p.start t))

items-long : (s t : List ℕ) → length s ≡ length t → (ps : List Part)
    → map length (map (octets_of s) ps) ≡ map length (map (octets_of t) ps)
items-long s t long [] = refl
items-long s t long (p ∷ ps) = ap₂ (λ (a : ℕ) (l : List ℕ). a ∷ l) (octets-long s t long p) (items-long s t long ps)

many : (s t : List ℕ) (ps : List Part) → length (map (octets_of s) ps) ≡ length (map (octets_of t) ps)
many s t ps = length-map ps (octets_of s) ∙ sym (length-map ps (octets_of t))

same_shape : (s t : List ℕ) → length s ≡ length t → (d : DatagramParts) → SameShape (carried_by s d) (carried_by t d)
unfolding carried_by
same_shape s t long d = by d.kind where
  by : (k : Kind)
      → SameShape (record { number = d.number; packet = octets_of s d.packet; extra = extra_of k (map (octets_of s) d.items) })
      (record { number = d.number; packet = octets_of t d.packet; extra = extra_of k (map (octets_of t) d.items) })
  by kind.Spares = record { number = refl; spares = many s t d.items; n = refl; messages = refl }
  by (kind.Parity n) = record { number = refl; spares = refl; n = refl; messages = items-long s t long d.items }

-- one of two lists of the same lengths
sizes-at : (xs ys : List (List ℕ)) → map length xs ≡ map length ys → (i : ℕ) → length (get_or xs i []) ≡ length (get_or ys i [])
sizes-at xs ys same i = sym (size-at xs i) ∙ ap (λ (l : List ℕ). get_or l i 0) same ∙ size-at ys i where
  size-at : (zs : List (List ℕ)) (i : ℕ) → get_or (map length zs) i 0 ≡ length (get_or zs i [])
  size-at zs i = get_or-map (λ (l : List ℕ). length l) zs i []

-- ---- the same octets but inside packets, offered with the same answer
module _ (calls : Calls) (s t : List ℕ) (r : Result (Unit {0}) Refusal) (reads : read_datagram s ≡ read_datagram t) (long : length s ≡ length t) where
  -- what such an offer carries
  accepted-other : {octets : List ℕ} → accepted_in (offer s r) ≡ some octets → (octets ≡ s) × (accepted_in (offer t r) ≡ some t)
  accepted-other e = by r e where
    by : (x : Result (Unit {0}) Refusal) {octets : List ℕ} → accepted_in (offer s x) ≡ some octets
        → (octets ≡ s) × (accepted_in (offer t x) ≡ some t)
    by (Ok x) e = (ap (λ (o : Option (List ℕ)). from o) (sym e), refl) where
      from : Option (List ℕ) → List ℕ
      from (some l) = l
      from none = []
    by (Err why) e = let z : ◌≡◌ {A = ℕ} 0 1 = cc in absurd (omega arith)

  pub record Other (S : ℕ) (c : Carried) : Type 0 where
    pub datagram : Carried
    pub shape : SameShape c datagram
    pub accepts : Accepts calls (offer t r) S datagram

  other : {S : ℕ} {c : Carried} → Accepts calls (offer s r) S c → Other S c
  other {S} {c} a =
      let both = accepted-other a.accepted in
      let parts = a.reads.parts in
      let read : read_datagram s ≡ done parts = ap read_datagram (sym both.0) ∙ a.reads.read in
      let carried : carried_by s parts ≡ c = ap (λ (l : List ℕ). carried_by l parts) (sym both.0) ∙ a.reads.carried in
      let shape : SameShape c (carried_by t parts) =
      subst (λ (c : Carried). SameShape c (carried_by t parts)) carried (same_shape s t long parts) in
      record {
        datagram = carried_by t parts;
        shape = shape;
        accepts = record {
          octets = t;
          accepted = both.1;
          reads = record { parts = parts; read = sym reads ∙ read; carried = refl };
          from = a.from;
          near = a.near;
          number = ap (λ (n : ℕ). n % numbers) (sym shape.number) ∙ a.number;
        };
      }

  pub record ArrivedOther (S : ℕ) (c : Carried) : Type 0 where
    pub datagram : Carried
    pub shape : SameShape c datagram
    pub arrived : Arrived (calls then offer t r) S datagram

  itself : (c : Carried) → SameShape c c
  itself c = record { number = refl; spares = refl; n = refl; messages = refl }

  arrived-other : {S : ℕ} {c : Carried} → Arrived (calls then offer s r) S c → ArrivedOther S c
  arrived-other (now a) = let o = other a in record { datagram = o.datagram; shape = o.shape; arrived = now o.accepts }
  arrived-other {S} {c} (before a) = record { datagram = c; shape = itself c; arrived = before a }

  pub record HeldOther (m : Message) : Type 0 where
    pub message : Message
    pub held : HeldBy (calls then offer t r) message
    pub members : m.members ≡ message.members
    pub octets : length m.octets ≡ length message.octets

  count_same : {c d : Carried} → SameShape c d → length (held_by c.extra).messages ≡ length (held_by d.extra).messages
  count_same {c} {d} shape =
      sym (length-map (held_by c.extra).messages length) ∙ ap length shape.messages
      ∙ length-map (held_by d.extra).messages length

  held-other : {m : Message} → HeldBy (calls then offer s r) m → HeldOther m
  unfolding left_by
  held-other {m} h =
      let o = arrived-other h.arrived in
      let shape = o.shape in
      let count = count_same shape in
      record {
        message = message_at h.S (held_by o.datagram.extra) h.i;
        held = record {
          S = h.S;
          datagram = o.datagram;
          arrived = o.arrived;
          stays = h.stays;
          i = h.i;
          low = subst (λ (k : ℕ). h.i < k) count h.low;
          is = refl;
        };
        members = ap (λ (m : Message). m.members) h.is ∙ ap₂ (λ (n k : ℕ). members_of h.S n k h.i) shape.n count;
        octets = ap (λ (m : Message). length m.octets) h.is ∙ sizes-at (held_by h.datagram.extra).messages (held_by o.datagram.extra).messages
            shape.messages h.i;
      }

  pub reached-alike : {p : ℕ} → ReachedBy (calls then offer s r) p → ReachedBy (calls then offer t r) p
  reached-alike (before_first low) = before_first low
  reached-alike (packet a) = packet (arrived-other a).arrived
  reached-alike (spare a j has) =
      let o = arrived-other a in
      spare o.arrived j (has.0, subst (λ (k : ℕ). j ≤ k) o.shape.spares has.1)
  reached-alike {p} (repaired a m held least among others) =
      let o = held-other held in
      repaired (other a).accepts o.message o.held (subst (λ (k : ℕ). 1 ≤ k) o.octets least)
      (subst (λ (l : List ℕ). Among p l) o.members among)
      (λ q inside apart. reached-alike (others q (subst (λ (l : List ℕ). Among q l) (sym o.members) inside) apart))
  reached-alike (together fills view marked known one) = let z : ◌≡◌ {A = ℕ} 0 1 = cc in absurd (omega arith)
  reached-alike (earlier known) = earlier known
