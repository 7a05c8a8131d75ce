-- One turn of each loop that a receiver makes, on plain values: along the numbers from the base on, along the messages of
-- one, along the members of one, and along the members again for the sum. In each, what is left is a list that gives up its
-- first element, or what is done gains one at its end. Assumes nothing.
use Prim.Native.Nat.{ℕ, suc, ◌+◌, ◌-◌, ◌≤◌, ◌<◌}
use mathlib.Core.Path.{◌≡◌, refl, sym, ap, ◌∙◌}
use mathlib.Core.Bool.{Bool, true, false}
use mathlib.Core.List.{List, [], ◌∷◌, ◌++◌, map, map-append, append-nil}
use lib.ListN.{length, get_or, drop, drop_of_length-le}
use lib.Seq.{drop-cons}
use lib.Bits.{bit_xor}
use native.Mathlib.Nat.{add-suc, suc-mul}
use native.Mathlib.Omega.{arith}
use Rattle.octets.specs.Place.{tab}
use Rattle.octets.specs.ExclusiveOr.{exclusive_or, xor_at}
use Rattle.octets.proofs.Laws.{length-tab, tab-at, tab-ext, tab-snoc, exclusive_or-more, xor_at-zeros}
use Rattle.session.specs.Cells.{Cell, cell_at, unknown_at, kept_before}
use Rattle.session.specs.Members.{member_at, members_of}
use Rattle.session.specs.Repair.{Message, passing, unknown_members, other_members, mended}
use Rattle.session.specs.Held.{Held, nothing_held, held_at, message_at, messages_of, messages_in_row, held_messages}
use Rattle.session.specs.Reached.{Unknown}
use Rattle.session.proofs.Passing.{passing-yes, passing-no, passing-among, passing-append, xor_at-parted}

-- ---- along the numbers from the base on
-- the messages held from distance d on
abbrev pub held_from : List Held → ℕ → List Message
held_from held d = messages_in_row (kept_before + d) (drop d held)

pub held_from-start : (held : List Held) → held_from held 0 ≡ held_messages held
unfolding held_messages
held_from-start held = refl

pub held_from-turn : (held : List Held) (d : ℕ) → d < length held
    → held_from held d ≡ messages_of (kept_before + d) (held_at held d) ++ held_from held (suc d)
unfolding messages_in_row
held_from-turn held d inside =
    ap (messages_in_row (kept_before + d)) (drop-cons held d nothing_held inside)
    ∙ ap (λ (at : ℕ). messages_of (kept_before + d) (held_at held d) ++ messages_in_row at (drop (suc d) held))
    (sym (add-suc kept_before d))

pub held_from-end : (held : List Held) (d : ℕ) → length held ≤ d → held_from held d ≡ []
unfolding messages_in_row
held_from-end held d past = ap (messages_in_row (kept_before + d)) (drop_of_length-le held past)

-- ---- along the messages of one number
-- those from message i on
abbrev pub messages_on_from : ℕ → Held → ℕ → List Message
messages_on_from S held i = drop i (messages_of S held)

pub length-messages_of : (S : ℕ) (held : Held) → length (messages_of S held) ≡ length held.messages
unfolding messages_of
length-messages_of S held = length-tab (length held.messages) (message_at S held)

pub messages_on_from-turn : (S : ℕ) (held : Held) (i : ℕ) → i < length held.messages
    → messages_on_from S held i ≡ message_at S held i ∷ messages_on_from S held (suc i)
unfolding messages_of
messages_on_from-turn S held i low =
    drop-cons (messages_of S held) i (message_at S held i) (rw length-messages_of low)
    ∙ ap (λ (x : Message). x ∷ messages_on_from S held (suc i))
    (tab-at (length held.messages) (message_at S held) i (message_at S held i) low)

pub messages_on_from-end : (S : ℕ) (held : Held) (i : ℕ) → length held.messages ≤ i → messages_on_from S held i ≡ []
messages_on_from-end S held i past = drop_of_length-le (messages_of S held) {i = i} (rw length-messages_of past)

-- ---- along the members of one message: the first t of them are those of a message over t packets
pub members-turn : (S t m i : ℕ) → members_of S (suc t) m i ≡ members_of S t m i ++ (member_at S m i t ∷ [])
unfolding members_of
members-turn S t m i = tab-snoc t (member_at S m i)

-- or: the first member, and those of the datagram m before
pub members-back : (S n m i : ℕ) → m ≤ S → members_of S (suc n) m i ≡ member_at S m i 0 ∷ members_of (S - m) n m i
unfolding members_of tab
members-back S n m i fits =
    ap (λ (l : List ℕ). member_at S m i 0 ∷ l)
    (tab-ext n (λ t. member_at S m i (suc t)) (member_at (S - m) m i) (λ t below. omega (arith, suc-mul (suc t) m)))

pub passing-turn-yes : (test : ℕ → Bool) (S t m i : ℕ) → test (member_at S m i t) ≡ true
    → passing test (members_of S (suc t) m i) ≡ passing test (members_of S t m i) ++ (member_at S m i t ∷ [])
unfolding passing
passing-turn-yes test S t m i e =
    ap (passing test) (members-turn S t m i)
    ∙ passing-append test (members_of S t m i) (member_at S m i t ∷ [])
    ∙ ap (λ (l : List ℕ). passing test (members_of S t m i) ++ l) (passing-yes test (member_at S m i t) [] e)

pub passing-turn-no : (test : ℕ → Bool) (S t m i : ℕ) → test (member_at S m i t) ≡ false
    → passing test (members_of S (suc t) m i) ≡ passing test (members_of S t m i)
unfolding passing
passing-turn-no test S t m i e =
    ap (passing test) (members-turn S t m i)
    ∙ passing-append test (members_of S t m i) (member_at S m i t ∷ [])
    ∙ ap (λ (l : List ℕ). passing test (members_of S t m i) ++ l) (passing-no test (member_at S m i t) [] e)
    ∙ append-nil (passing test (members_of S t m i))

-- ---- along the members for the sum
-- the octets of the number at a place
abbrev pub octets_at : List Cell → ℕ → List ℕ
octets_at cells p = (cell_at cells p).octets

-- the sum may take in all members, where an unknown number has no octets
pub mended-all : (cells : List Cell) (message : Message) → ((p : ℕ) → Unknown cells p → octets_at cells p ≡ [])
    → mended cells message ≡ exclusive_or (length message.octets) (message.octets ∷ map (octets_at cells) message.members)
unfolding mended exclusive_or xor_at
mended-all cells message empty =
    tab-ext (length message.octets) (xor_at (message.octets ∷ map (octets_at cells) (other_members cells message)))
    (xor_at (message.octets ∷ map (octets_at cells) message.members))
    (λ k inside.
    ap (bit_xor (get_or message.octets k 0))
    (sym
    (xor_at-parted (unknown_at cells) (octets_at cells) k message.members
    ∙ ap (λ (x : ℕ). bit_xor x (xor_at (map (octets_at cells) (other_members cells message)) k))
    (xor_at-zeros (octets_at cells) (unknown_members cells message) k
    (λ p m. ap (λ (l : List ℕ). get_or l k 0) (empty p (passing-among (unknown_at cells) message.members m).1))))))

-- the sum with one member more
pub sum-turn : (cells : List Cell) (size : ℕ) (x : List ℕ) (S t m i : ℕ)
    → exclusive_or size (x ∷ map (octets_at cells) (members_of S (suc t) m i))
    ≡ tab size
    (λ k. bit_xor (get_or (exclusive_or size (x ∷ map (octets_at cells) (members_of S t m i))) k 0)
    (get_or (octets_at cells (member_at S m i t)) k 0))
sum-turn cells size x S t m i =
    ap (λ (l : List (List ℕ)). exclusive_or size (x ∷ l))
    (ap (map (octets_at cells)) (members-turn S t m i) ∙ map-append (octets_at cells) (members_of S t m i) (member_at S m i t ∷ []))
    ∙ exclusive_or-more size (x ∷ map (octets_at cells) (members_of S t m i)) (octets_at cells (member_at S m i t))
