-- Laws of the spares and messages of a datagram: which one is which, how many there are, and how long. Assumes nothing.
use Prim.Native.Nat.{ℕ, suc, ◌-◌, ◌≤◌, ◌<◌, min}
use mathlib.Core.Path.{◌≡◌}
use mathlib.Core.Bool.{true}
use mathlib.Core.List.Memᴰ
use mathlib.Core.List.{List, [], Memᴰ as Among}
use lib.ListN.{length}
use native.Mathlib.Omega.{arith}
use borrow.Author.Tests.{le-leb, leb-true}
use Rattle.octets.specs.ExclusiveOr.{longest}
use Rattle.octets.proofs.Laws.{tab-at, length-tab, longest-least}
use Rattle.datagram.specs.Sizes.{packet_limit, spares_limit}
use Rattle.datagram.specs.Write.{count_inside}
use Rattle.datagram.specs.declared.kind.Kind.{Kind}
use Rattle.datagram.specs.declared.kind.Kind.TheVariants as kind
use Rattle.session.specs.Members.{members_of}
use Rattle.sender.specs.Sending.{history_kept}
use Rattle.sender.specs.Carries.{settings_inside, spares_from, messages_from}
use Rattle.sender.specs.Send.{packet_of}
use Rattle.sender.specs.Sender.{history_in}
use Rattle.sender.specs.Inner.Held.{Stored}
use Rattle.sender.specs.Inner.Items.{members_in, parity_in, spare_in, items_in, item_in}
use Rattle.sender.specs.Inner.Next.{kind_asked, count_of}
use Rattle.sender.specs.declared.Settings.{Settings}
use Rattle.sender.specs.declared.Settings.TheVariants as settings
use Rattle.sender.proofs.History.{packet-short}

-- spare j is packet S − 1 − j (rule 4.5), and message j has the members of rule 4.12
pub item-spare : (k : Kind) (count number : ℕ) (sizes o : List ℕ) (j : ℕ) → k ≡ kind.Spares → j < count
    → item_in k count number sizes o j ≡ spare_in number sizes o j
unfolding spares_from
item-spare k count number sizes o j e below =
    rw e (tab-at count (λ i. packet_of (history_in number sizes o) (history_kept - suc i)) j [] below)

pub item-message : (k : Kind) {n : ℕ} (count number : ℕ) (sizes o : List ℕ) (j : ℕ) → k ≡ kind.Parity n → j < count
    → item_in k count number sizes o j ≡ parity_in number sizes o n count j
unfolding messages_from
item-message k {n} count number sizes o j e below =
    rw e (tab-at count (λ i. parity_in number sizes o n count i) j [] below)

-- settings inside the sizes give a count inside the sizes
pub count-inside : (s : Settings) (sent : ℕ) → settings_inside s ≡ true → count_inside (kind_asked s) (count_of s sent) ≡ true
count-inside (settings.Spares k) sent inside =
    let few = leb-true k spares_limit inside in
    le-leb (min k sent) spares_limit (omega arith)
count-inside (settings.Parity n m) sent inside = inside

-- there are as many as are counted
pub items-count : (k : Kind) (count number : ℕ) (sizes o : List ℕ) → length (items_in k count number sizes o) ≡ count
unfolding spares_from messages_from
items-count kind.Spares count number sizes o = length-tab count (λ j. packet_of (history_in number sizes o) (history_kept - suc j))
items-count (kind.Parity n) count number sizes o = length-tab count (λ i. parity_in number sizes o n count i)

-- no message is longer than a packet
pub members-short : {sizes o : List ℕ} → Stored sizes o → (number n m i : ℕ) → longest (members_in number sizes o n m i) ≤ packet_limit
members-short {sizes} {o} stored number n m i =
    longest-least packet_limit (members_in number sizes o n m i)
    (λ l among. each l (Memᴰ.of_map (packet_of (history_in number sizes o)) (members_of history_kept n m i) among))
  where
    each : (l : List ℕ) → (p : ℕ) × Among p (members_of history_kept n m i) × (packet_of (history_in number sizes o) p ≡ l)
        → length l ≤ packet_limit
    each l t = rw t.2 at (packet-short stored number t.0)
