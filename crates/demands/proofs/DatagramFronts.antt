-- Datagrams and their fronts: whatever is due can still come, and a datagram is never over its limit. Each item has a shortest
-- way to be right, with all that it brings; and a most that it takes, with all that it brings. Assumes nothing.
use Prim.Native.Nat.{ℕ, zero, suc, ◌+◌, ◌*◌, ◌≤◌, ◌<◌}
use mathlib.Core.Path.{◌≡◌, refl, ap, subst}
use mathlib.Core.List.{List, [], ◌∷◌, ◌++◌, append_assoc, append-nil}
use lib.ListN.{length, replicate, length-append, length-replicate}
use native.Mathlib.Omega.{arith}
use Rattle.length.specs.Length.{length_octets}
use Rattle.length.specs.Claims.{Octets}
use Rattle.length.proofs.Laws.{size-written, octets-cons, octets-none, octets-written}
use Rattle.datagram.specs.Sizes.{packet_limit, datagram_limit, spares_limit, messages_limit}
use Rattle.demands.specs.Demand1.DatagramItems.{Item, number, packet, kind, spares, octet01, octet_n, count_m, message, inside, many}
use Rattle.demands.specs.Demand1.DatagramItems.{sized, plain, flag, form_of, brings, Right, right_octets, right_size, right_octet}
use Rattle.demands.specs.Demand1.DatagramItems.{right_spares, right_parity, Due, begins, passes, WholeDatagram}
use Rattle.demands.specs.Demand1.DatagramRefusals.{CutOver}

-- ---- octets
pub octets-join : (a b : List ℕ) → Octets a → Octets b → Octets (a ++ b)
octets-join [] b p q = q
octets-join (x ∷ a) b p q = octets-cons x (a ++ b) (p 0) (octets-join a b (λ i. p (suc i)) q)

pub octets-zero : (n : ℕ) → Octets (replicate n 0)
octets-zero zero = octets-none
octets-zero (suc n) = octets-cons 0 (replicate n 0) (omega arith) (octets-zero n)

pub octet-alone : (x : ℕ) → x < 256 → Octets (x ∷ [])
octet-alone x small = octets-cons x [] small octets-none

-- ---- whatever is due can still come
pub record Comes (before : List ℕ) (later : List Item) : Type 0 where
  pub more : List ℕ
  pub octets : Octets more
  pub due : Due (before ++ more) later

pub comes-after : (before x : List ℕ) (later : List Item) → Octets x → Comes (before ++ x) later → Comes before later
comes-after before x later octets c =
    record {
      more = x ++ c.more;
      octets = octets-join x c.more octets c.octets;
      due = subst (λ (l : List ℕ). Due l later) (append_assoc before x c.more) c.due;
    }

now : {before : List ℕ} {later : List Item} (x : List ℕ) → Octets x → Due (before ++ x) later → Comes before later
now x octets due = record { more = x; octets = octets; due = due }

-- octets of a packet, spare or message
octets-come : (before : List ℕ) (later : List Item) (n : ℕ) → Due before (inside n ∷ later) → Comes before later
unfolding form_of brings
octets-come before later n due = now (replicate n 0) (octets-zero n) (passes due (right_octets (length-replicate n 0)))

item-comes : (item : Item) (before : List ℕ) (later : List Item) → Due before (item ∷ later) → Comes before later
unfolding form_of brings
item-comes number before later due = now (0 ∷ 0 ∷ []) (octets-zero 2) (passes due (right_octets refl))
item-comes packet before later due =
    comes-after before (length_octets 1) later (octets-written 1 (omega arith))
    (octets-come (before ++ length_octets 1) later 1 (passes due (right_size {value = 1} (omega arith) (omega arith))))
item-comes kind before later due =
    comes-after before (0x00 ∷ []) later (octets-zero 1)
    (now (length_octets 0) (octets-written 0 (omega arith))
    (passes (passes due right_spares) (right_size {value = 0} (omega arith) (omega arith))))
item-comes spares before later due =
    now (length_octets 0) (octets-written 0 (omega arith)) (passes due (right_size {value = 0} (omega arith) (omega arith)))
item-comes octet01 before later due =
    now (1 ∷ []) (octet-alone 1 (omega arith)) (passes due (right_octet {value = 1} (omega arith) (omega arith)))
item-comes octet_n before later due =
    now (1 ∷ []) (octet-alone 1 (omega arith)) (passes due (right_octet {value = 1} (omega arith) (omega arith)))
item-comes count_m before later due =
    comes-after before (length_octets 1) later (octets-written 1 (omega arith))
    (comes-after (before ++ length_octets 1) (length_octets 0) later (octets-written 0 (omega arith))
    (octets-come (before ++ length_octets 1 ++ length_octets 0) later 0
    (passes (passes due (right_size {value = 1} (omega arith) (omega arith))) (right_size {value = 0} (omega arith) (omega arith)))))
item-comes message before later due =
    comes-after before (length_octets 0) later (octets-written 0 (omega arith))
    (octets-come (before ++ length_octets 0) later 0 (passes due (right_size {value = 0} (omega arith) (omega arith))))
item-comes (inside n) before later due = octets-come before later n due

pub all_come : (items : List Item) (before : List ℕ) → Due before items → Comes before []
all_come [] before due = now [] octets-none (rw (append-nil before) due)
all_come (item ∷ later) before due =
    let first = item-comes item before later due in
    comes-after before first.more [] first.octets (all_come later (before ++ first.more) first.due)

-- ---- a datagram is never over its limit

-- the most octets that an item takes, with all that it brings
abbrev item_most : ℕ
item_most = 2 + packet_limit

most_octets : Item → ℕ
most_octets number = 2
most_octets packet = item_most
most_octets kind = 3 + spares_limit * item_most
most_octets spares = 2 + spares_limit * item_most
most_octets octet01 = 1
most_octets octet_n = 1
most_octets count_m = 2 + messages_limit * item_most
most_octets message = item_most
most_octets (inside n) = n

all_most : List Item → ℕ
all_most [] = 0
all_most (item ∷ later) = most_octets item + all_most later

all-most-append : (items later : List Item) → all_most (items ++ later) ≡ all_most items + all_most later
unfolding all_most
all-most-append [] later = omega arith
all-most-append (item ∷ items) later = omega (arith, all-most-append items later)

all-most-packets : (n : ℕ) → all_most (replicate n packet) ≡ n * item_most
unfolding all_most most_octets
all-most-packets zero = refl
all-most-packets (suc n) = omega (arith, all-most-packets n)

all-most-messages : (n : ℕ) → all_most (replicate n message) ≡ n * item_most
unfolding all_most most_octets
all-most-messages zero = refl
all-most-messages (suc n) = omega (arith, all-most-messages n)

-- an item as it must be takes no more
right-many : {n v : ℕ} {x : List ℕ} → Right (many n) x v → length x ≡ n
right-many (right_octets is) = is

right-sized : {least most v : ℕ} {x : List ℕ} → Right (sized least most) x v → (length x ≤ 2) × (v ≤ most)
right-sized (right_size {value = v} low high) = ((size-written v).1, high)

right-plain : {least most v : ℕ} {x : List ℕ} → Right (plain least most) x v → length x ≡ 1
right-plain (right_octet low high) = refl

right-flag : {x : List ℕ} {v : ℕ} → Right flag x v → length x + all_most (brings kind v) ≤ most_octets kind
unfolding brings all_most most_octets
right-flag right_spares = omega arith
right-flag right_parity = omega arith

right-most : (item : Item) {x : List ℕ} {v : ℕ} → Right (form_of item) x v → length x + all_most (brings item v) ≤ most_octets item
unfolding form_of brings all_most most_octets
right-most number r = omega (arith, right-many r)
right-most packet r = omega (arith, (right-sized r).0, (right-sized r).1)
right-most kind r = right-flag r
right-most spares {v = v} r = omega (arith, (right-sized r).0, (right-sized r).1, all-most-packets v)
right-most octet01 r = omega (arith, right-plain r)
right-most octet_n r = omega (arith, right-plain r)
right-most count_m {v = v} r = omega (arith, (right-sized r).0, (right-sized r).1, all-most-messages v)
right-most message r = omega (arith, (right-sized r).0, (right-sized r).1)
right-most (inside n) r = omega (arith, right-many r)

due-short : {before : List ℕ} {items : List Item} → Due before items → length before + all_most items ≤ datagram_limit
unfolding all_most most_octets
due-short begins = omega arith
due-short (passes {before} {x} {item} {later} {value = v} due r) =
    omega (arith, due-short due, right-most item r, length-append before x, all-most-append (brings item v) later)

-- nor is one that is cut inside a length or count
size-takes : (item : Item) (least most : ℕ) → form_of item ≡ sized least most → 1 ≤ most_octets item
unfolding form_of most_octets
size-takes number least most is = omega arith
size-takes packet least most is = omega arith
size-takes kind least most is = omega arith
size-takes spares least most is = omega arith
size-takes octet01 least most is = omega arith
size-takes octet_n least most is = omega arith
size-takes count_m least most is = omega arith
size-takes message least most is = omega arith
size-takes (inside n) least most is = let z : ◌≡◌ {A = ℕ} 0 1 = cc in absurd (omega arith)

pub cut_short : {s : List ℕ} → CutOver s → length s ≤ datagram_limit
unfolding all_most
cut_short {s} cut =
    let some : 1 ≤ most_octets cut.item = size-takes cut.item cut.least cut.most cut.form in
    let long : length s ≡ length (cut.before ++ (cut.first ∷ [])) = ap length cut.is in
    omega (arith, due-short cut.due, length-append cut.before (cut.first ∷ []))

pub whole-short : {s : List ℕ} → WholeDatagram s → length s ≤ datagram_limit
unfolding all_most
whole-short due = omega (arith, due-short due)
