-- The next datagram, in the words of the code: one law for each answer, and for what each writer asks. Assumes nothing.
use Rattle.std.proofs.Common.{◌≡◌, ℕ, ◌+◌, ◌-◌, ◌<◌, ◌≤◌, List, ◌++◌, length, sym, ◌∙◌, append_assoc, arith, length-append, Err}
use borrow.Rule.Slice.PartMut.{mid_of, put_mid}
use Rattle.length.specs.Refusals.{no_room}
use Rattle.length.specs.Answers.{done}
use Rattle.length.specs.Promise.{Puts, RefusalMade, Put}
use Rattle.length.specs.declared.Refusal.{Refusal}
use Rattle.length.proofs.Laws.{size-written, put_next, put-long, put-puts, full-puts, room-left}
use Rattle.datagram.specs.Sizes.{datagram_limit}
use Rattle.datagram.specs.Write.{number_octets, item_octets, items_octets, datagram_octets}
use Rattle.datagram.specs.Inner.Heads.{FrontAsked, kind_head, front_octets, item_size}
use Rattle.datagram.specs.declared.kind.Kind.{Kind}
use Rattle.datagram.proofs.Laws.{extra-form, count-few, n-fits, front_length, kind-bound}
use Rattle.sender.specs.Inner.Items.{items_in, ItemsSize, ItemsAsked}
use Rattle.sender.specs.Inner.Next.{carried_in, NextSizes, NextSize, NextAsked, NextRoom}
use Rattle.sender.proofs.Laws.{items-count, packet-fits}

-- ---- its octets, part by part
module _ (number : ℕ) (sizes o packet : List ℕ) (k : Kind) (count : ℕ) where
  next-form : datagram_octets (carried_in number sizes o packet k count)
      ≡ front_octets number packet k count ++ items_octets (items_in k count number sizes o)
  unfolding datagram_octets
  next-form =
      rw (extra-form k (items_in k count number sizes o), items-count k count number sizes o)
      (sym (append_assoc (number_octets number ++ item_octets packet) _ _ ∙ append_assoc (number_octets number) (item_octets packet) _))

  next-length : length (datagram_octets (carried_in number sizes o packet k count))
      ≡ 2 + item_size (length packet) + length (kind_head k count) + length (items_octets (items_in k count number sizes o))
  next-length =
      rw (
        next-form,
        length-append (front_octets number packet k count) (items_octets (items_in k count number sizes o)),
        front_length number packet k count,
      )

-- ---- next_size
module _ {number : ℕ} {sizes packet : List ℕ} {k : Kind} {count newest before items : ℕ} (asked : NextSizes sizes packet k count)
    (first : newest ≡ item_size (length packet)) (head : before ≡ length (kind_head k count))
    (rest : ItemsSize k count number sizes items) where
  pub next-few : 2 + newest + before + items ≤ datagram_limit
  next-few =
      let short = packet-fits packet asked.newest in
      let two = (size-written (length packet)).1 in
      let five = kind-bound k count in
      let many = rest.small in
      omega arith

  pub next-told : NextSize number sizes packet k count (2 + newest + before + items)
  next-told =
      record {
        answer = λ o stored.
            let all = rest.answer o stored in
            let whole = next-length number sizes o packet k count in
            omega arith;
      }

-- ---- put_next
module _ {number : ℕ} {sizes o packet : List ℕ} {k : Kind} {count : ℕ} {old : List ℕ}
    (asked : NextRoom number sizes o packet k count old) where
  pub front-asked : FrontAsked number packet k count old
  front-asked =
      let short = packet-fits packet asked.asked.newest in
      let few = count-few k count asked.asked.counted in
      let whole = next-length number sizes o packet k count in
      let size = front_length number packet k count in
      let room = asked.room in
      record {
        newest = omega arith;
        head = record { n = n-fits k count asked.asked.counted; counted = omega arith };
        room = omega arith;
      }

  pub items-asked : {mid : List ℕ} {at : ℕ} → Put (front_octets number packet k count) old mid at
      → ItemsAsked k count number sizes o (mid_of at (length mid - at) mid)
  items-asked {mid} {at} p =
      let whole = next-length number sizes o packet k count in
      let size = front_length number packet k count in
      let long = put-long p in
      let room = asked.room in
      let told = p.answer in
      record {
        counted = asked.asked.counted;
        stored = asked.asked.stored;
        room = room-left mid at (length (items_octets (items_in k count number sizes o))) (omega arith);
      }

pub next-put : (number : ℕ) (sizes o packet : List ℕ) (k : Kind) (count : ℕ) {old mid part : List ℕ} {at n : ℕ}
    → Put (front_octets number packet k count) old mid at
    → Put (items_octets (items_in k count number sizes o)) (mid_of at (length mid - at) mid) part n
    → Put (datagram_octets (carried_in number sizes o packet k count)) old (put_mid at (length mid - at) mid part) (at + n)
next-put number sizes o packet k count p q = rw (next-form number sizes o packet k count) (put_next p q)

-- ---- write_next
module _ {number : ℕ} {sizes o packet : List ℕ} {k : Kind} {count : ℕ} {old : List ℕ} {size : ℕ}
    (asked : NextAsked sizes o packet k count) (told : NextSize number sizes packet k count size) where
  pub next-full : {r : Refusal} → RefusalMade no_room r → length old < size
      → Puts (done (datagram_octets (carried_in number sizes o packet k count))) old old (Err r)
  next-full made full = full-puts made (let same = told.answer o asked.stored in omega arith)

  pub next-room : size ≤ length old → NextRoom number sizes o packet k count old
  next-room room = record { asked = asked; room = (let same = told.answer o asked.stored in omega arith) }

pub next-sizes : {sizes o packet : List ℕ} {k : Kind} {count : ℕ} → NextAsked sizes o packet k count → NextSizes sizes packet k count
next-sizes asked = record { lengths = asked.stored.lengths; newest = asked.newest; counted = asked.counted }

pub ruleset nexts = (next-told, front-asked, items-asked, next-put, next-full, next-room, next-sizes, put-puts)
