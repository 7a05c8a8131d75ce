-- A datagram that reads is spelt in one way: what it carries gives its octets, and what stands behind the packet gives the spares or the
-- messages. Assumes nothing.
use Prim.Native.Nat.{ℕ}
use mathlib.Core.Path.{◌≡◌, refl, sym, ap, ◌∙◌}
use mathlib.Core.List.{List, ◌++◌}
use mathlib.Core.Logic.{◌↔◌}
use Rattle.length.specs.Answers as answers
use Rattle.length.specs.Answers.{Answer, done, refused}
use Rattle.length.specs.Claims.{Octets}
use Rattle.length.proofs.Laws.{not_done, done-same}
use Rattle.datagram.specs.Carried.{Extra, Carried}
use Rattle.datagram.specs.Write.{number_octets, item_octets, extra_octets, extra_of, cut, carried_of, datagram_octets, datagram_to_write}
use Rattle.datagram.specs.Read.{DatagramParts, octets_of, read_datagram, carried_by}
use Rattle.datagram.specs.Claims.{lengths_of, run_of}
use Rattle.datagram.specs.declared.kind.Kind.{Kind}
use Rattle.datagram.proofs.Claims as datagrams
use Rattle.datagram.proofs.Laws.{Allowed, allowed-written, written-allowed}
use Rattle.trace_compare.specs.Traces.{datagram_of}
use Rattle.trace_compare.specs.Claims.{OctetForOctet}

mapped-done : {A B : Type 0} (f : A → B) (m : Answer A) (b : B) → answers.mapped f m ≡ done b → (a : A) × (m ≡ done a) × (f a ≡ b)
mapped-done f (done a) b e = (a, refl, done-same e)
mapped-done f (refused why) b e = absurd (not_done e)

-- what was read of octets that carry something
pub parts-of : (s : List ℕ) (a : Carried) → datagram_of s ≡ done a → (d : DatagramParts) × (read_datagram s ≡ done d) × (carried_by s d ≡ a)
unfolding datagram_of
parts-of s a e = mapped-done (carried_by s) (read_datagram s) a e

-- the octets are those that the writer writes
record Spelt (s : List ℕ) (a : Carried) : Type 0 where
  kind : Kind
  lengths : List ℕ
  run : List ℕ
  allowed : Allowed a.packet kind lengths run
  extra : a.extra ≡ extra_of kind (cut lengths run)
  octets : datagram_octets a ≡ s

-- octets that the writer wrote carry what it was given
written-carries : (number : ℕ) (packet : List ℕ) (k : Kind) (lengths run s : List ℕ) → datagram_to_write number packet k lengths run ≡ done s
    → datagram_of s ≡ done (carried_of number packet k lengths run)
unfolding datagram_of
written-carries number packet k lengths run s e =
    let back = (datagrams.claims).written_reads number packet k lengths run s e in
    ap (answers.mapped (carried_by s)) back.read ∙ ap (λ (c : Carried). done c) back.carried

spelt : (s : List ℕ) (a : Carried) → Octets s → datagram_of s ≡ done a → Spelt s a
unfolding carried_by
spelt s a octets e =
    let read = parts-of s a e in
    let d = read.0 in
    let written = (datagrams.claims).read_writes s d octets read.1 in
    let so = written-allowed d.number (octets_of s d.packet) d.kind (lengths_of d) (run_of s d) s written in
    let is : a ≡ carried_of d.number (octets_of s d.packet) d.kind (lengths_of d) (run_of s d) =
    done-same (sym e ∙ written-carries d.number (octets_of s d.packet) d.kind (lengths_of d) (run_of s d) s written) in
    let packets : octets_of s d.packet ≡ a.packet = sym (ap (λ (c : Carried). c.packet) is) in
    record {
      kind = d.kind;
      lengths = lengths_of d;
      run = run_of s d;
      allowed = rw packets at so.0;
      extra = ap (λ (c : Carried). c.extra) is;
      octets = ap datagram_octets is ∙ sym so.1;
    }

pub carried-octets : (s : List ℕ) (a : Carried) → Octets s → datagram_of s ≡ done a → datagram_octets a ≡ s
carried-octets s a octets e = (spelt s a octets e).octets

-- so equal datagrams are equal octet for octet
pub octet-for-octet : OctetForOctet
octet-for-octet s t a b left right first second = (
  λ is. sym (carried-octets s a left first) ∙ ap datagram_octets is ∙ carried-octets t b right second,
  λ is. done-same (sym first ∙ ap datagram_of is ∙ second),
)

-- what stands behind the packet tells the spares or messages: those of another datagram that end alike are the same
pub extras-same : (s t : List ℕ) (a b : Carried) → Octets s → Octets t → datagram_of s ≡ done a → datagram_of t ≡ done b
    → extra_octets a.extra ≡ extra_octets b.extra → a.extra ≡ b.extra
unfolding datagram_octets
extras-same s t a b left right first second alike =
    let x = spelt s a left first in
    let y = spelt t b right second in
    let allowed : Allowed a.packet y.kind y.lengths y.run =
    record {
      counted = y.allowed.counted;
      summed = y.allowed.summed;
      newest = x.allowed.newest;
      items = y.allowed.items;
    } in
    let octets : datagram_octets (carried_of a.number a.packet y.kind y.lengths y.run) ≡ s =
    ap (λ (e : Extra). number_octets a.number ++ (item_octets a.packet ++ extra_octets e)) (sym y.extra)
    ∙ ap (λ (l : List ℕ). number_octets a.number ++ (item_octets a.packet ++ l)) (sym alike)
    ∙ x.octets in
    let written = allowed-written a.number allowed ∙ ap (λ (l : List ℕ). done l) octets in
    let is = done-same (sym first ∙ written-carries a.number a.packet y.kind y.lengths y.run s written) in
    ap (λ (c : Carried). c.extra) is ∙ sym y.extra
