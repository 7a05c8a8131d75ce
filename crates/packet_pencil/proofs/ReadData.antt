-- One law for each answer of the functions that take a field's data and its length, in the words of the code. Assumes nothing.
use Rattle.std.proofs.Common.{Result, Ok, Err}
use Prim.Native.Nat.{ℕ, ◌+◌, ◌-◌, ◌*◌, ◌/◌, ◌%◌, ◌^◌, ◌≤◌, ◌<◌}
use mathlib.Core.Path.{◌≡◌, sym, ap, ◌∙◌}
use mathlib.Core.List.{List}
use lib.ListN.{length, take, drop, length-drop}
use lib.Seq.{length-take-le}
use lib.Dec.{leb}
use native.Mathlib.Omega.{arith}
use borrow.Author.Tests.{lt-ltb, le-ltb, le-leb, lt-leb}
use Rattle.length.specs.Refusals.{refusal, refusal_at, further, ends_early, outside_sizes}
use Rattle.length.specs.Claims.{Octets}
use Rattle.length.specs.Promise.{RefusalPlaced}
use Rattle.length.specs.declared.Refusal.{Refusal}
use Rattle.length.specs.declared.Reason.{Reason}
use Rattle.datagram.specs.Sizes.{packet_limit}
use Rattle.format.specs.Reading.{Finding, found, stopped, and_then}
use Rattle.format.specs.Reading as reading
use Rattle.format.specs.Places.{Place}
use Rattle.format.specs.Format.{octets_front}
use Rattle.packet.specs.Packet as description
use Rattle.packet_pencil.specs.Bits.{finding, BitsTaken, EdgeTaken}
use Rattle.packet_pencil.specs.Items.{OctetTaken, SizeTaken, DataLength, PartTaken}
use Rattle.packet_pencil.proofs.ByBits.{kept, two-bits}
use Rattle.packet_pencil.proofs.ReadSizes.{octet-is}

-- refused at the front of the octets from an octet on
front_at : {A : Type 0} (at : ℕ) (n : Reason) {r : Refusal} → RefusalPlaced n at r → ◌≡◌ {A = Finding A} (stopped (further at (refusal n))) (stopped r)
front_at at n made =
    let here : at + 0 ≡ at = omega arith in
    ap (λ (k : ℕ). stopped (refusal_at k n)) here ∙ ap (λ (x : Refusal). stopped x) (sym made.answer)

-- ---- the length
module _ {s : List ℕ} {p : Place} {e : Result ℕ Refusal} (told : EdgeTaken s p e) where
  pub size-edge : {r : Refusal} → e ≡ Err r → SizeTaken s p (Err r)
  unfolding description.size
  size-edge is = record { answer = λ i. rw (told.answer i, is); sized = tt }

  module _ {q : ℕ} {r : Result (ℕ × ℕ) Refusal} (octets : Octets s) (is : e ≡ Ok q) (bits : BitsTaken 16 s (q / 8) q r) where
    edge_on : q % 8 ≡ 0
    edge_on = rw is at told.on

    size_is : {n : Result (ℕ × ℕ) Refusal} → r ≡ n → (i : ℕ)
        → (description.size).read s i p ≡ and_then (kept (q / 8) (λ v. leb v (packet_limit - 1)) (finding n)) (λ v z. found (v + 1) z)
    unfolding description.size reading.octetwise
    size_is same i =
        rw (told.answer i, is)
        (ap (λ (x : Finding ℕ). and_then x (λ v z. found (v + 1) z))
        (two-bits s q octets edge_on (packet_limit - 1) ∙ ap (kept (q / 8) (λ v. leb v (packet_limit - 1))) (bits.answer ∙ ap finding same)))

    pub size-refused : {x : Refusal} → r ≡ Err x → SizeTaken s p (Err x)
    size-refused why = record { answer = size_is why; sized = tt }

    module _ {v z : ℕ} (value : r ≡ Ok (v, z)) where
      pub size-over : {x : Refusal} → packet_limit ≤ v → RefusalPlaced outside_sizes (q / 8) x → SizeTaken s p (Err x)
      size-over over made =
          let large = lt-leb v (packet_limit - 1) (omega arith) in
          record { answer = λ i. size_is value i ∙ rw (large, made.answer); sized = tt }

      pub size-found : v < packet_limit → SizeTaken s p (Ok ((v + 1), z))
      size-found few =
          let past : z ≡ q + 16 = rw value at bits.past in
          record {
            answer = λ i. size_is value i ∙ rw (le-leb v (packet_limit - 1) (omega arith));
            sized = record { some = omega arith; few = omega arith; on = omega (arith, past, edge_on) };
          }

-- ---- the data
-- at an octet edge no bits are left before it
align-edge : (s : List ℕ) (i q : ℕ) → q % 8 ≡ 0 → reading.align s i q ≡ found tt q
unfolding reading.align reading.bits
align-edge s i q on = let none : (8 - q % 8) % 8 ≡ 0 = omega arith in rw none

module _ {s : List ℕ} {p : Place} {r : Result (ℕ × ℕ) Refusal} (told : SizeTaken s p r) where
  pub data-refused : {x : Refusal} → r ≡ Err x → PartTaken s p (Err x)
  unfolding description.field_data
  data-refused is = record { answer = λ i. rw (told.answer i, is) }

  module _ {n q start : ℕ} (is : r ≡ Ok (n, q)) (octet : OctetTaken s q start) where
    sized : DataLength n q
    sized = rw is at told.sized

    pub data-cut : {x : Refusal} → length s - start < n → RefusalPlaced ends_early (q / 8) x → PartTaken s p (Err x)
    unfolding description.field_data reading.octetwise octets_front
    data-cut short made =
        let few = lt-ltb (length (drop start s)) n (omega (arith, length-drop start s)) in
        record {
          answer =
              λ i.
              rw (told.answer i, is, align-edge s i q sized.on, ← octet.rest, few) (front_at (q / 8) ends_early made);
        }

    module _ (all : n ≤ length s - start) where
      data-start : start ≡ q / 8
      data-start = octet-is octet (omega (arith, sized.some))

      pub data-found : PartTaken s p (Ok (start, n, q + 8 * n))
      unfolding description.field_data reading.octetwise octets_front
      data-found =
          let some = le-ltb (length (drop start s)) n (omega (arith, length-drop start s)) in
          let many : length (take n (drop start s)) ≡ n = length-take-le n (drop start s) (omega (arith, length-drop start s)) in
          let next : 8 * n + q ≡ q + 8 * n = omega arith in
          record { answer = λ i. rw (told.answer i, is, align-edge s i q sized.on, ← octet.rest, some, many, next, ← data-start) }

      -- it lies inside the octets, so that the sums fit
      pub data-size : 8 * n < 2 ^ 64
      data-size = omega (arith, sized.few)

      pub data-fits : length s ≤ packet_limit → q + 8 * n < 2 ^ 64
      data-fits few = omega (arith, data-start, sized.some, sized.few, few)

pub ruleset parts = (data-refused, data-cut, data-found, data-size, data-fits)
