-- Spares and messages written, in the words of the code: one law for each answer, and for what each writer asks.
-- Assumes nothing.
use Rattle.std.proofs.Common.{◌≡◌, ℕ, suc, ◌+◌, ◌-◌, ◌*◌, ◌<◌, ◌≤◌, true, List, length, take, drop, sym, ap, ◌∙◌, arith, length-take-le}
use Rattle.octets.specs.ExclusiveOr.{exclusive_or, longest}
use Rattle.octets.proofs.Laws.{length-exclusive_or}
use Rattle.length.specs.Length.{length_limit, within}
use Rattle.length.proofs.Laws.{both, within-true}
use Rattle.length.specs.Promise.{Put}
use Rattle.datagram.specs.Sizes.{packet_limit, covered_least, covered_limit, messages_least, messages_limit}
use Rattle.datagram.specs.Write.{item_octets, count_inside}
use Rattle.datagram.specs.Inner.Heads.{item_size}
use Rattle.datagram.specs.declared.kind.Kind.{Kind}
use Rattle.datagram.specs.declared.kind.Kind.TheVariants as kind
use Rattle.datagram.proofs.Laws.{count-few}
use Rattle.session_slots.specs.Store.{part}
use Rattle.sender.specs.Sending.{history_kept}
use Rattle.sender.specs.Sender.{history_slot, length_in}
use Rattle.sender.specs.Inner.Held.{Sizes}
use Rattle.sender.specs.Inner.Items.{Reach, members_in, parity_in, MessageSize, MessageSum, MessageAsked, spare_in, SpareSize, SpareAsked}
use Rattle.sender.specs.Inner.Items.{item_in, ItemOf, ItemSize, ItemAsked}
use Rattle.sender.proofs.Laws.{slot_small, history-at, length-packet, packet-short, item-spare, item-message}

-- ---- a spare
pub spare-told : (number j slot : ℕ) (sizes : List ℕ) {size : ℕ} → Sizes sizes → slot ≡ history_slot number (history_kept - suc j)
    → size ≡ length_in sizes slot → SpareSize number sizes j size
spare-told number j slot sizes lengths found told =
    let low : slot < history_kept = omega arith in
    record { small = rw told (lengths.small slot low); answer = told ∙ ap (length_in sizes) found }

-- a spare as the part of the store that the code takes
abbrev pub slot_part : List ℕ → ℕ → ℕ → List ℕ
slot_part o slot size = take ((slot * packet_limit + size) - slot * packet_limit) (drop (slot * packet_limit) o)

module _ {number : ℕ} {sizes o : List ℕ} {j : ℕ} {out : List ℕ} (asked : SpareAsked number sizes o j out) (slot : ℕ) {size : ℕ}
    (found : slot ≡ history_slot number (history_kept - suc j)) (told : SpareSize number sizes j size) where
  spare-part : slot_part o slot size ≡ spare_in number sizes o j
  unfolding part
  spare-part =
      let near = asked.near in
      let all : (slot * packet_limit + size) - slot * packet_limit ≡ length_in sizes (history_slot number (history_kept - suc j)) =
      (let is = told.answer in omega arith) in
      rw (all, found) (sym (history-at number sizes o (history_kept - suc j) (omega arith)))

  pub spare-asked : (length (slot_part o slot size) ≤ length_limit) × (item_size (length (slot_part o slot size)) ≤ length out)
  spare-asked =
      let short = packet-short asked.stored number (history_kept - suc j) in
      rw spare-part (omega arith, asked.room)

  pub spare-put : {new : List ℕ} {n : ℕ} → Put (item_octets (slot_part o slot size)) out new n
      → Put (item_octets (spare_in number sizes o j)) out new n
  spare-put p = rw spare-part at p

-- ---- a message
pub message-count : (number : ℕ) (sizes o : List ℕ) (n m i : ℕ) {size : ℕ} {sum : List ℕ} → MessageSize number sizes n m i size
    → MessageSum number o n m i size sum → size ≡ length (take size sum)
message-count number sizes o n m i {size} {sum} told summed =
    sym (length-take-le size sum (rw summed.long told.small))

module _ {number : ℕ} {sizes o : List ℕ} {n m i : ℕ} {out : List ℕ} (asked : MessageAsked number sizes o n m i out) {size : ℕ}
    {sum : List ℕ} (told : MessageSize number sizes n m i size) (summed : MessageSum number o n m i size sum) where
  message-made : take size sum ≡ parity_in number sizes o n m i
  message-made =
      summed.answer sizes asked.stored
      ∙ ap (λ (k : ℕ). exclusive_or k (members_in number sizes o n m i)) (told.answer o asked.stored)

  pub message-asked : (length (take size sum) ≤ length_limit) × (item_size (length (take size sum)) ≤ length out)
  message-asked =
      let small = told.small in
      let same = message-count number sizes o n m i told summed in
      (omega arith, rw message-made asked.room)

  pub message-put : {new : List ℕ} {r : ℕ} → Put (item_octets (take size sum)) out new r
      → Put (item_octets (parity_in number sizes o n m i)) out new r
  message-put p = rw message-made at p

pub ruleset one_puts = (spare-told, spare-put, message-count, message-put)

-- ---- either
pub one-near : (k : Kind) (count j : ℕ) → ItemOf k count j → j < history_kept
one-near k count j one =
    let few = count-few k count one.counted in
    let below = one.below in
    omega arith

pub one-reach : (k : Kind) {n count j : ℕ} → k ≡ kind.Parity n → ItemOf k count j → Reach n count j
one-reach k {n} {count} e one =
    let inside : count_inside (kind.Parity n) count ≡ true = rw e at one.counted in
    let t = both (within covered_least covered_limit n) (within messages_least messages_limit count) inside in
    record {
      covered = (within-true covered_least covered_limit n t.0).1;
      messages = (within-true messages_least messages_limit count t.1).1;
      one = one.below;
    }

module _ {k : Kind} {count number : ℕ} {sizes : List ℕ} {j : ℕ} where
  pub one-spare : {r : ℕ} → k ≡ kind.Spares → ItemOf k count j → SpareSize number sizes j r → ItemSize k count number sizes j r
  one-spare e one told =
      record {
        small = told.small;
        answer = λ o stored.
            told.answer
            ∙ sym (ap length
            (item-spare k count number sizes o j e one.below
            ∙ history-at number sizes o (history_kept - suc j) (let near = one-near k count j one in omega arith))
            ∙ length-packet stored (history_slot number (history_kept - suc j)) (slot_small number (history_kept - suc j)));
      }

  pub one-message : {n r : ℕ} → k ≡ kind.Parity n → ItemOf k count j → MessageSize number sizes n count j r
      → ItemSize k count number sizes j r
  one-message {n} e one told =
      record {
        small = told.small;
        answer = λ o stored.
            told.answer o stored
            ∙ sym (ap length (item-message k count number sizes o j e one.below)
            ∙ length-exclusive_or (longest (members_in number sizes o n count j)) (members_in number sizes o n count j));
      }

module _ {k : Kind} {count number : ℕ} {sizes o : List ℕ} {j : ℕ} {out : List ℕ} (asked : ItemAsked k count number sizes o j out) where
  pub put-spare-asked : k ≡ kind.Spares → SpareAsked number sizes o j out
  put-spare-asked e =
      record {
        near = one-near k count j asked.one;
        stored = asked.stored;
        room = rw (item-spare k count number sizes o j e asked.one.below) at asked.room;
      }

  pub put-message-asked : {n : ℕ} → k ≡ kind.Parity n → MessageAsked number sizes o n count j out
  put-message-asked e =
      record {
        reach = one-reach k e asked.one;
        stored = asked.stored;
        room = rw (item-message k count number sizes o j e asked.one.below) at asked.room;
      }

  pub put-spare-one : {new : List ℕ} {r : ℕ} → k ≡ kind.Spares → Put (item_octets (spare_in number sizes o j)) out new r
      → Put (item_octets (item_in k count number sizes o j)) out new r
  put-spare-one e p = rw (item-spare k count number sizes o j e asked.one.below) p

  pub put-message-one : {n : ℕ} {new : List ℕ} {r : ℕ} → k ≡ kind.Parity n → Put (item_octets (parity_in number sizes o n count j)) out new r
      → Put (item_octets (item_in k count number sizes o j)) out new r
  put-message-one e p = rw (item-message k count number sizes o j e asked.one.below) p

pub ruleset ones =
    (one-near, one-reach, one-spare, one-message, put-spare-asked, put-message-asked, put-spare-one, put-message-one)
