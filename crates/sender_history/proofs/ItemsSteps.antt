-- The loops over spares or messages, in the words of the code: one counts the octets that they take, the other writes them.
-- Assumes nothing.
use Rattle.std.proofs.Common.{◌≡◌, ℕ, ◌+◌, ◌-◌, ◌*◌, ◌<◌, ◌≤◌, true, List, [], ◌∷◌, ◌++◌, length, get_or, take, drop, sym, refl, ap, ◌∙◌, ap₂, append_assoc, append-nil, add-one, arith, length-append, take-append-drop, take_all, take-suc}
use borrow.Rule.Slice.PartMut.{mid_of, put_mid}
use Rattle.length.proofs.Laws.{size-written, put-none, put_next, put-long, room-left}
use Rattle.length.specs.Promise.{Put}
use Rattle.datagram.specs.Sizes.{packet_limit, datagram_limit}
use Rattle.datagram.specs.Write.{item_octets, items_octets, count_inside}
use Rattle.datagram.specs.Inner.Heads.{item_size}
use Rattle.datagram.specs.declared.kind.Kind.{Kind}
use Rattle.datagram.proofs.Laws.{count-few, item-length}
use Rattle.sender.specs.Inner.Held.{Stored}
use Rattle.sender.specs.Inner.Items.{items_in, item_in, ItemOf, ItemSize, ItemAsked, ItemsSize, ItemsAsked}
use Rattle.sender.proofs.Laws.{items-count}

-- ---- items as octets
items_octets-append : (items more : List (List ℕ)) → items_octets (items ++ more) ≡ items_octets items ++ items_octets more
unfolding items_octets
items_octets-append [] more = refl
items_octets-append (item ∷ items) more =
    ap (λ (l : List ℕ). item_octets item ++ l) (items_octets-append items more)
    ∙ sym (append_assoc (item_octets item) (items_octets items) (items_octets more))

-- one item more
items_more : (items : List (List ℕ)) (j : ℕ) → j < length items
    → items_octets (take (j + 1) items) ≡ items_octets (take j items) ++ item_octets (get_or items j [])
unfolding items_octets
items_more items j more =
    rw (add-one, take-suc items j [] more)
    (items_octets-append (take j items) (get_or items j [] ∷ [])
    ∙ ap (λ (l : List ℕ). items_octets (take j items) ++ l) (append-nil (item_octets (get_or items j []))))

-- the items so far are no longer than all of them
items-part : (items : List (List ℕ)) (j : ℕ) → length (items_octets (take j items)) ≤ length (items_octets items)
items-part items j =
    let whole : length (items_octets items) ≡ length (items_octets (take j items)) + length (items_octets (drop j items)) =
    ap (λ (l : List (List ℕ)). length (items_octets l)) (sym (take-append-drop j items))
    ∙ ap length (items_octets-append (take j items) (drop j items))
    ∙ length-append (items_octets (take j items)) (items_octets (drop j items)) in
    omega arith

-- ---- items_size
pub record Totalling (k : Kind) (count number : ℕ) (sizes : List ℕ) (size j : ℕ) : Type 0 where
  pub bound : j ≤ count
  pub small : size ≤ j * (packet_limit + 2)
  pub so : (o : List ℕ) → Stored sizes o → size ≡ length (items_octets (take j (items_in k count number sizes o)))

pub item-one : {k : Kind} {count j : ℕ} → count_inside k count ≡ true → j < count → ItemOf k count j
item-one counted below = record { counted = counted; below = below }

pub totalling-start : (k : Kind) (count number : ℕ) (sizes : List ℕ) → Totalling k count number sizes 0 0
unfolding items_octets
totalling-start k count number sizes = record { bound = omega arith; small = omega arith; so = λ o stored. refl }

module _ {k : Kind} {count number : ℕ} {sizes : List ℕ} {size j : ℕ} (v : Totalling k count number sizes size j) where
  pub totalling-turn : {one s : ℕ} → j < count → ItemSize k count number sizes j one → s ≡ item_size one
      → Totalling k count number sizes (size + s) (j + 1)
  totalling-turn {one} {s} more told found =
      let few = (size-written one).1 in
      let short = told.small in
      let before = v.small in
      record {
        bound = omega arith;
        small = omega arith;
        so = λ o stored.
            let items = items_in k count number sizes o in
            let below : j < length items = rw (items-count k count number sizes o) more in
            ap₂ (λ (a b : ℕ). a + b) (v.so o stored)
            (found ∙ ap item_size (told.answer o stored) ∙ sym (item-length (get_or items j [])))
            ∙ sym (ap length (items_more items j below) ∙ length-append (items_octets (take j items)) (item_octets (get_or items j [])));
      }

  pub totalling-done : count ≤ j → count_inside k count ≡ true → ItemsSize k count number sizes size
  totalling-done end counted =
      let few = count-few k count counted in
      let last = v.bound in
      let before = v.small in
      record {
        small = omega arith;
        answer = λ o stored.
            let items = items_in k count number sizes o in
            let all : length items ≤ j = rw (items-count k count number sizes o) end in
            v.so o stored ∙ ap (λ (l : List (List ℕ)). length (items_octets l)) (take_all j items all);
      }

-- the sum of one more fits
pub total-fits : {k : Kind} {count number : ℕ} {sizes : List ℕ} {size j one s : ℕ} → Totalling k count number sizes size j
    → count_inside k count ≡ true → j < count → ItemSize k count number sizes j one → s ≡ item_size one → size + s ≤ datagram_limit
total-fits {k} {count} {number} {sizes} {size} {j} {one} v counted more told found =
    let few = (size-written one).1 in
    let short = told.small in
    let before = v.small in
    let all = count-few k count counted in
    omega arith

pub ruleset totallings = (item-one, totalling-start, totalling-turn, totalling-done)

-- ---- put_items
pub record Putting (k : Kind) (count number : ℕ) (sizes o old new : List ℕ) (j at : ℕ) : Type 0 where
  pub bound : j ≤ count
  pub long : length new ≡ length old
  pub put : Put (items_octets (take j (items_in k count number sizes o))) old new at

module _ {k : Kind} {count number : ℕ} {sizes o old : List ℕ} (asked : ItemsAsked k count number sizes o old) where
  pub putting-start : Putting k count number sizes o old old 0 0
  unfolding items_octets
  putting-start = record { bound = omega arith; long = refl; put = put-none }

  module _ {new : List ℕ} {j at : ℕ} (v : Putting k count number sizes o old new j at) where
    pub item-asked : j < count → ItemAsked k count number sizes o j (mid_of at (length new - at) new)
    item-asked more =
        let items = items_in k count number sizes o in
        let below : j < length items = rw (items-count k count number sizes o) more in
        let so_far : length (items_octets (take (j + 1) items)) ≡ length (items_octets (take j items)) + item_size (length (get_or items j [])) =
        ap length (items_more items j below)
        ∙ length-append (items_octets (take j items)) (item_octets (get_or items j []))
        ∙ ap (λ (n : ℕ). length (items_octets (take j items)) + n) (item-length (get_or items j [])) in
        let part = items-part items (j + 1) in
        let room = asked.room in
        let here = v.put.answer in
        let long = v.long in
        record {
          one = record { counted = asked.counted; below = more };
          stored = asked.stored;
          room = room-left new at (item_size (length (get_or items j []))) (omega arith);
        }

    pub putting-turn : {part : List ℕ} {n : ℕ} → j < count
        → Put (item_octets (item_in k count number sizes o j)) (mid_of at (length new - at) new) part n
        → Putting k count number sizes o old (put_mid at (length new - at) new part) (j + 1) (at + n)
    putting-turn {part} {n} more q =
        let items = items_in k count number sizes o in
        let below : j < length items = rw (items-count k count number sizes o) more in
        let whole = put_next v.put q in
        record { bound = omega arith; long = put-long whole; put = rw (items_more items j below) whole }

    pub putting-done : count ≤ j → Put (items_octets (items_in k count number sizes o)) old new at
    putting-done end =
        let items = items_in k count number sizes o in
        let all : length items ≤ j = rw (items-count k count number sizes o) end in
        rw (take_all j items all) at v.put

pub ruleset puttings = (putting-start, item-asked, putting-turn, putting-done)
