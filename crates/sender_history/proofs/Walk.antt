-- A walk over the members of a message, back by m at each turn, modulo 65,536: the number is at the place of the member.
-- Assumes nothing.
use Rattle.std.proofs.Common.{◌≡◌, ℕ, suc, ◌+◌, ◌-◌, ◌*◌, ◌%◌, ◌<◌, ◌≤◌, List, [], ◌∷◌, ◌++◌, map, sym, ap, ◌∙◌, mul-le-mul_right, suc-mul, add-one, arith}
use mathlib.Core.List.{map-append}
use native.Mathlib.Nat.{mod-add-mod}
use Rattle.octets.specs.Place.{tab}
use Rattle.octets.proofs.Laws.{tab-more}
use Rattle.session.specs.Members.{members_of}
use Rattle.session.specs.View.{numbers}
use Rattle.sender.specs.Sending.{history_kept}
use Rattle.sender.specs.Send.{packet_of}
use Rattle.sender.specs.Sender.{history_slot, packet_in, history_in}
use Rattle.sender.specs.Inner.Items.{Reach, members_in}
use Rattle.sender.proofs.Laws.{covered-kept, history-at}

-- after t turns the number `at` has the place of member t − 1, counted from number − history_kept
pub record Standing (number m i at t : ℕ) : Type 0 where
  pub stands : (at + history_kept) % numbers ≡ (number + ((history_kept + i) - t * m)) % numbers

pub standing-start : (number m i at : ℕ) → at ≡ (number + i) % numbers → Standing number m i at 0
standing-start number m i at e = record { stands = omega arith }

-- the members up to the t-th are in reach
reach-back : {n m i : ℕ} (t : ℕ) → Reach n m i → t < n → t * m + m ≤ history_kept
reach-back {n} {m} {i} t reach more =
    let whole = covered-kept reach.covered reach.messages in
    omega (arith, mul-le-mul_right m more, suc-mul t m)

cancel : (x y m : ℕ) → (x + m) % numbers ≡ (y + m) % numbers → x % numbers ≡ y % numbers
cancel x y m same = omega arith

step : (number i at r m q : ℕ) → q + m ≤ history_kept → (r + m) % numbers ≡ at
    → (at + history_kept) % numbers ≡ (number + ((history_kept + i) - q)) % numbers
    → (r + history_kept) % numbers ≡ (number + ((history_kept + i) - (q + m))) % numbers
step number i at r m q far back stands =
    let left : (r + history_kept) + m ≡ (r + m) + history_kept = omega arith in
    let right : (number + ((history_kept + i) - (q + m))) + m ≡ number + ((history_kept + i) - q) = omega arith in
    cancel (r + history_kept) (number + ((history_kept + i) - (q + m))) m
    (ap (λ (k : ℕ). k % numbers) left
    ∙ sym (mod-add-mod (r + m) numbers history_kept)
    ∙ ap (λ (k : ℕ). (k + history_kept) % numbers) back
    ∙ stands
    ∙ sym (ap (λ (k : ℕ). k % numbers) right))

-- m less, modulo 65,536
pub stepped-back : {n i : ℕ} (at m : ℕ) → Reach n m i → at < numbers → ((at + (numbers - m)) % numbers + m) % numbers ≡ at
stepped-back at m reach small = let few = reach.messages in omega arith

module _ {n m i : ℕ} (reach : Reach n m i) (number t : ℕ) (more : t < n) where
  pub place_inside : (history_kept + i) - suc t * m < history_kept
  place_inside =
      let one = reach.one in
      let next = suc-mul t m in
      omega arith

  module _ {at : ℕ} (s : Standing number m i at t) (r : ℕ) (back : (r + m) % numbers ≡ at) where
    pub standing-turn : Standing number m i r (t + 1)
    standing-turn =
        let next : (t + 1) * m ≡ t * m + m = rw add-one (suc-mul t m) in
        record { stands = rw next (step number i at r m (t * m) (reach-back t reach more) back s.stands) }

    -- the slot of the number is the slot of the member's place
    pub standing-slot : r % history_kept ≡ history_slot number ((history_kept + i) - suc t * m)
    standing-slot =
        let now : (r + history_kept) % numbers ≡ (number + ((history_kept + i) - suc t * m)) % numbers = rw add-one at
        standing-turn.stands in
        omega arith

-- ---- one member more
pub members-more : (number : ℕ) (sizes o : List ℕ) (t m i : ℕ) → (history_kept + i) - suc t * m < history_kept
    → members_in number sizes o (t + 1) m i
    ≡ members_in number sizes o t m i ++ (packet_in sizes o (history_slot number ((history_kept + i) - suc t * m)) ∷ [])
unfolding members_of
members-more number sizes o t m i inside =
    let place : ℕ → ℕ = λ u. (history_kept + i) - suc u * m in
    ap (map (packet_of (history_in number sizes o))) (tab-more t place)
    ∙ map-append (packet_of (history_in number sizes o)) (tab t place) (place t ∷ [])
    ∙ ap (λ (l : List ℕ). map (packet_of (history_in number sizes o)) (tab t place) ++ (l ∷ [])) (history-at number sizes o (place t) inside)
