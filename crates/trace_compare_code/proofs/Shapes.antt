-- Where the packet of a datagram stands in its octets, and what stands behind it. Assumes nothing.
use Rattle.std.proofs.Common.{Result, Ok, Err}
use Prim.Native.Nat.{ℕ, ◌+◌, ◌-◌, ◌≤◌}
use mathlib.Core.Path.{◌≡◌, refl, sym, ap, ◌∙◌}
use mathlib.Core.Bool.{Bool, true}
use mathlib.Core.List.{List, ◌++◌, append_assoc, map}
use lib.ListN.{length, get_or, take, drop, length-append}
use lib.Seq.{length-take-le, drop_at, get_or-drop}
use native.Mathlib.Omega.{arith}
use Rattle.length.specs.Answers as answers
use Rattle.length.specs.Answers.{Answer, done, refused}
use Rattle.length.specs.Length.{length_octets}
use Rattle.length.specs.Claims.{Octets}
use Rattle.length.specs.declared.Refusal.{Refusal}
use Rattle.length.proofs.Laws.{not_done, done-same, read-writes, sizes-read}
use Rattle.datagram.specs.Sizes.{packet_least, packet_limit}
use Rattle.datagram.specs.Carried.{Carried}
use Rattle.datagram.specs.Write.{number_octets, item_octets, extra_octets, extra_of, datagram_octets}
use Rattle.datagram.specs.Read.{DatagramParts, after, octets_of, read_datagram, carried_by}
use Rattle.datagram.specs.Promise.{DatagramReads}
use Rattle.datagram.specs.declared.kind.Kind.{Kind}
use Rattle.datagram.specs.declared.kind.Kind.TheVariants as kind
use Rattle.datagram.specs.declared.reader.Part.{Part}
use Rattle.datagram.specs.declared.reader.DatagramRead.{DatagramRead}
use Rattle.datagram.proofs.Laws.{read_done, item-done, read-inside, number-length, item-length, refused-read, accepted-read}
use Rattle.trace_compare.specs.Traces.{datagram_of}
use Rattle.trace_compare.proofs.Laws.{carried-octets}
use Rattle.trace_compare_code.specs.Rows.{is_spares, has_spares, Shaped, ShapeOf}

spares-told : (k : Kind) (items : List (List ℕ)) → is_spares k ≡ has_spares (extra_of k items)
spares-told kind.Spares items = refl
spares-told (kind.Parity n) items = refl

-- ---- octets that read
module _ (s : List ℕ) (octets : Octets s) (d : DatagramParts) (read : read_datagram s ≡ done d) where
  -- what they carry
  carries : (a : Carried) → datagram_of s ≡ done a → carried_by s d ≡ a
  unfolding datagram_of
  carries a e = done-same (sym (ap (answers.mapped (carried_by s)) read) ∙ e)

  -- the octets before what stands behind the packet
  front-size : length (octets_of s d.packet) ≡ d.packet.size → 2 + length (item_octets (octets_of s d.packet)) ≡ after d.packet
  front-size long =
      let i = item-done packet_least packet_limit s 2 d.packet (read_done s d read).packet in
      let behind : Octets (drop 2 s) = λ k. rw (get_or-drop 2 s k 0) (octets (2 + k)) in
      let written = read-writes (drop 2 s) i.length behind i.read in
      let size : length (length_octets i.length.value) ≡ i.length.size =
      ap length written ∙ length-take-le i.length.size (drop 2 s) (sizes-read (drop 2 s) i.length i.read).inside in
      let value : length (octets_of s d.packet) ≡ i.length.value = long ∙ i.size in
      let same : length (length_octets (length (octets_of s d.packet))) ≡ i.length.size =
      ap (λ (n : ℕ). length (length_octets n)) value ∙ size in
      omega (arith, item-length (octets_of s d.packet), i.start)

  pub inside : after d.packet ≤ length s
  inside = (read-inside s d read).newest.inside

  packet-long : length (octets_of s d.packet) ≡ d.packet.size
  packet-long =
      length-take-le d.packet.size (drop d.packet.start s)
      (omega (arith, inside, lib.ListN.length-drop d.packet.start s))

  shaped : (told : Bool) → told ≡ is_spares d.kind → (a : Carried) → datagram_of s ≡ done a
      → Shaped s a (record { start = d.packet.start; end = after d.packet; spares = told })
  unfolding carried_by datagram_octets
  shaped told is a e =
      let so = carries a e in
      let packet : octets_of s d.packet ≡ a.packet = ap (λ (c : Carried). c.packet) so in
      let size : d.packet.start + d.packet.size - d.packet.start ≡ d.packet.size = omega arith in
      let whole = carried-octets s a octets e in
      let front = number_octets a.number ++ item_octets a.packet in
      let long : length front ≡ after d.packet =
      length-append (number_octets a.number) (item_octets a.packet)
      ∙ ap (λ (n : ℕ). n + length (item_octets a.packet)) (number-length a.number)
      ∙ ap (λ (l : List ℕ). 2 + length (item_octets l)) (sym packet)
      ∙ front-size packet-long in
      record {
        packet = ap (λ (n : ℕ). take n (drop d.packet.start s)) size ∙ packet;
        behind =
            ap (drop (after d.packet)) (sym whole ∙ sym (append_assoc (number_octets a.number) (item_octets a.packet)
            (extra_octets a.extra)))
            ∙ drop_at front (extra_octets a.extra) (after d.packet) long;
        spares = is ∙ spares-told d.kind (map (octets_of s) d.items) ∙ ap (λ (c : Carried). has_spares c.extra) so;
      }

-- ---- by what the reader found
module _ {s : List ℕ} {r : Result DatagramRead Refusal} (reads : DatagramReads s r) (octets : Octets s) where
  module _ {d : DatagramRead} (is : r ≡ Ok d) where
    pub end-inside : d.packet.start + d.packet.size ≤ length s
    end-inside = inside s octets _ (accepted-read reads is)

    pub shape-read : {told : Bool} → told ≡ is_spares d.kind
        → ShapeOf s (record { start = d.packet.start; end = d.packet.start + d.packet.size; spares = told })
    shape-read {told} so =
        record {
          low = omega arith;
          high = end-inside;
          shaped = shaped s octets _ (accepted-read reads is) told so;
        }

  pub shape-refused : {why : Refusal} → r ≡ Err why → ShapeOf s (record { start = 0; end = 0; spares = true })
  unfolding datagram_of
  shape-refused {why} is =
      record {
        low = omega arith;
        high = omega arith;
        shaped = λ a e. absurd (not_done (sym (ap (answers.mapped (carried_by s)) (refused-read reads is)) ∙ e));
      }
