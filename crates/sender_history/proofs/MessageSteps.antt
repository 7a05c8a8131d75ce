-- Messages, in the words of the code: the loop that finds the size, and the loop that adds the members up. Each says: what
-- the members so far give. Assumes nothing.
use Rattle.std.proofs.Common.{◌≡◌, ℕ, suc, ◌+◌, ◌-◌, ◌*◌, ◌%◌, ◌<◌, ◌≤◌, max, List, [], ◌∷◌, ◌++◌, length, get_or, take, drop, replicate, sym, refl, ap, ◌∙◌, ap₂, arith, length-append, length-drop, take_at}
use lib.ListN.{length-replicate, replicate-append-replicate}
use lib.Bits.{bit_xor}
use Rattle.octets.specs.Place.{tab}
use Rattle.octets.specs.ExclusiveOr.{exclusive_or, longest}
use Rattle.octets.proofs.Laws.{tab-ext, longest-more, length-exclusive_or, exclusive_or-none, exclusive_or-more}
use Rattle.datagram.specs.Sizes.{packet_limit}
use Rattle.session_slots.specs.Store.{added}
use Rattle.session_slots.proofs.Laws.{length-added}
use Rattle.session.specs.Members.{members_of}
use Rattle.session.specs.View.{numbers}
use Rattle.sender.specs.Sending.{history_kept}
use Rattle.sender.specs.Sender.{history_slot, length_in, packet_in}
use Rattle.sender.specs.Inner.Held.{Sizes, Stored}
use Rattle.sender.specs.Inner.Items.{Reach, members_in, MessageSize, MessageSum}
use Rattle.sender.proofs.Laws.{length-packet, packet-octet}
use Rattle.sender_history.proofs.Walk.{Standing, standing-start, standing-turn, standing-slot, place_inside, members-more}

-- ---- message_size
pub record Sizing (number : ℕ) (sizes : List ℕ) (n m i at size t : ℕ) : Type 0 where
  pub standing : Standing number m i at t
  pub bound : t ≤ n
  pub small : size ≤ packet_limit
  pub so : (o : List ℕ) → Stored sizes o → size ≡ longest (members_in number sizes o t m i)

pub sizing-start : (number : ℕ) (sizes : List ℕ) (n m i at : ℕ) → at ≡ (number + i) % numbers → Sizing number sizes n m i at 0 0
unfolding longest members_of tab
sizing-start number sizes n m i at e =
    record { standing = standing-start number m i at e; bound = omega arith; small = omega arith; so = λ o stored. refl }

module _ {number : ℕ} {sizes : List ℕ} {n m i at size t : ℕ} (v : Sizing number sizes n m i at size t) where
  pub sizing-turn : {r slot s g : ℕ} → Sizes sizes → Reach n m i → t < n → (r + m) % numbers ≡ at → slot ≡ r % history_kept
      → s ≡ length_in sizes slot → g ≡ max size s → Sizing number sizes n m i r g (t + 1)
  sizing-turn {r} {slot} {s} {g} lengths reach more back found at_slot most =
      let inside = place_inside reach number t more in
      let same : slot ≡ history_slot number ((history_kept + i) - suc t * m) = found
      ∙ standing-slot reach number t more v.standing r back in
      record {
        standing = standing-turn reach number t more v.standing r back;
        bound = omega arith;
        small =
            (let low : slot < history_kept = omega arith in
            let one : s ≤ packet_limit = rw at_slot (lengths.small slot low) in
            let before = v.small in
            omega arith);
        so = λ o stored.
            most
            ∙ ap₂ max (v.so o stored)
            (at_slot ∙ ap (length_in sizes) same
            ∙ sym (length-packet stored (history_slot number ((history_kept + i) - suc t * m)) (omega arith)))
            ∙ sym (ap longest (members-more number sizes o t m i inside) ∙ longest-more (members_in number sizes o t m i) _);
      }

  pub sizing-done : n ≤ t → MessageSize number sizes n m i size
  sizing-done end =
      let all : t ≡ n = (let few = v.bound in omega arith) in
      record { small = v.small; answer = λ o stored. v.so o stored ∙ ap (λ (k : ℕ). longest (members_in number sizes o k m i)) all }

pub ruleset sizings = (sizing-start, sizing-turn, sizing-done)

-- ---- message_sum
pub record Summing (number : ℕ) (o : List ℕ) (n m i size at : ℕ) (sum : List ℕ) (t : ℕ) : Type 0 where
  pub standing : Standing number m i at t
  pub bound : t ≤ n
  pub long : length sum ≡ packet_limit
  pub front : length (take size sum) ≡ size
  pub so : (sizes : List ℕ) → Stored sizes o → take size sum ≡ exclusive_or size (members_in number sizes o t m i)

-- zeros, cut
take-zeros : (size limit : ℕ) → size ≤ limit → take {A = ℕ} size (replicate limit 0) ≡ replicate size 0
take-zeros size limit few =
    let e : limit ≡ size + (limit - size) = omega arith in
    ap (λ (k : ℕ). take {A = ℕ} size (replicate k 0)) e
    ∙ ap (take {A = ℕ} size) (sym (replicate-append-replicate size (limit - size) 0))
    ∙ take_at (replicate size 0) (replicate (limit - size) 0) size (length-replicate {A = ℕ} size 0)

pub summing_start : (number : ℕ) (o : List ℕ) (n m i size at : ℕ) → size ≤ packet_limit → at ≡ (number + i) % numbers
    → Summing number o n m i size at (replicate packet_limit 0) 0
unfolding members_of tab
summing_start number o n m i size at few e =
    record {
      standing = standing-start number m i at e;
      bound = omega arith;
      long = length-replicate {A = ℕ} packet_limit 0;
      front = ap (λ (l : List ℕ). length l) (take-zeros size packet_limit few) ∙ length-replicate {A = ℕ} size 0;
      so = λ sizes stored. take-zeros size packet_limit few ∙ exclusive_or-none size;
    }

-- a slot added is its packet added
added-packet : {sizes o : List ℕ} → Stored sizes o → (size : ℕ) → size ≤ packet_limit → (ls : List (List ℕ)) (i : ℕ) → i < history_kept
    → added (exclusive_or size ls) o i ≡ exclusive_or size (ls ++ (packet_in sizes o i ∷ []))
unfolding added
added-packet {sizes} {o} stored size few ls i small =
    ap (λ (n : ℕ). tab n (λ j. bit_xor (get_or (exclusive_or size ls) j 0) (get_or o (i * packet_limit + j) 0))) (length-exclusive_or size ls)
    ∙ tab-ext size (λ j. bit_xor (get_or (exclusive_or size ls) j 0) (get_or o (i * packet_limit + j) 0))
    (λ k. bit_xor (get_or (exclusive_or size ls) k 0) (get_or (packet_in sizes o i) k 0))
    (λ k low. ap (bit_xor (get_or (exclusive_or size ls) k 0)) (sym (packet-octet stored i small k (omega arith))))
    ∙ sym (exclusive_or-more size ls (packet_in sizes o i))

module _ {number : ℕ} {o : List ℕ} {n m i size at : ℕ} {sum : List ℕ} {t : ℕ} (v : Summing number o n m i size at sum t) where
  pub summing-turn : {r slot : ℕ} {front : List ℕ} → size ≤ packet_limit → Reach n m i → t < n → (r + m) % numbers ≡ at
      → slot ≡ r % history_kept → front ≡ added (take size sum) o slot → Summing number o n m i size r (front ++ drop size sum) (t + 1)
  summing-turn {r} {slot} {front} few reach more back found plus =
      let inside = place_inside reach number t more in
      let same : slot ≡ history_slot number ((history_kept + i) - suc t * m) = found
      ∙ standing-slot reach number t more v.standing r back in
      let long : length front ≡ size = ap (λ (l : List ℕ). length l) plus ∙ length-added (take size sum) o slot ∙ v.front in
      let cut : take size (front ++ drop size sum) ≡ front = take_at front (drop size sum) size long in
      record {
        standing = standing-turn reach number t more v.standing r back;
        bound = omega arith;
        long = length-append front (drop size sum) ∙ omega (arith, long, length-drop size sum, v.long);
        front = ap (λ (l : List ℕ). length l) cut ∙ long;
        so = λ sizes stored.
            cut ∙ plus
            ∙ ap₂ (λ (l : List ℕ) (k : ℕ). added l o k) (v.so sizes stored) same
            ∙ added-packet stored size few (members_in number sizes o t m i) (history_slot number ((history_kept + i) - suc t * m))
            (omega arith)
            ∙ sym (ap (exclusive_or size) (members-more number sizes o t m i inside));
      }

  pub summing-done : n ≤ t → MessageSum number o n m i size sum
  summing-done end =
      let all : t ≡ n = (let few = v.bound in omega arith) in
      record {
        long = v.long;
        answer = λ sizes stored. v.so sizes stored
            ∙ ap (λ (k : ℕ). exclusive_or size (members_in number sizes o k m i)) all;
      }

pub ruleset summings = (summing_start, summing-done)
