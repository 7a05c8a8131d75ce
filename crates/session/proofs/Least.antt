-- Repair makes known what the messages reach, and nothing more: its result holds what was known, is closed under every
-- message, and lies within every closed set that holds what was known. So the known numbers do not depend on the order of
-- the messages, and they grow with what is known before and with more messages. Assumes nothing.
use Prim.Native.Nat.{ℕ}
use mathlib.Core.Path.{◌≡◌, sym, ◌∙◌, subst}
use mathlib.Core.Logic.{◌↔◌, ⊎_elim}
use mathlib.Core.Bool.{false≢true}
use mathlib.Core.List.{List, Memᴰ as Among}
use mathlib.Core.Option.{none}
use Rattle.octets.proofs.Laws.{true-or-false}
use Rattle.session.specs.Cells.{Cell, Makes, unknown_at}
use Rattle.session.specs.Repair.{Message, first_usable, repair}
use Rattle.session.specs.Reached.{Known, Closed, Reached, known, by_message, DistinctMembers}
use Rattle.session.proofs.Fill.{missing, usable-says, usable-of, known-fill}
use Rattle.session.proofs.Search.{found-usable, none-usable}
use Rattle.session.proofs.Grows.{repair-keeps, known-repair}
use Rattle.session.proofs.Enough.{repair-closed}

-- ---- reached places
-- they lie within every closed set that holds the known ones
pub reached-within : (K : ℕ → Type 0) (cells : List Cell) (messages : List Message) → ((p : ℕ) → Known cells p → K p)
    → Closed messages K → {p : ℕ} → Reached cells messages p → K p
reached-within K cells messages start closed {p} (known k) = start p k
reached-within K cells messages start closed {p} (by_message message m long at others) =
    closed message p m long at (λ q member other. reached-within K cells messages start closed (others q member other))

-- they grow with the known places and with the messages
pub reached-more : (cells wider : List Cell) (messages more : List Message) → ((p : ℕ) → Known cells p → Known wider p)
    → ((message : Message) → Among message messages → Among message more)
    → {p : ℕ} → Reached cells messages p → Reached wider more p
reached-more cells wider messages more start held =
    reached-within (Reached wider more) cells messages (λ p k. known (start p k))
    (λ message p m long at others. by_message message (held message m) long at others)

-- ---- where no message is usable
-- the known places are closed
pub none-closed : (cells : List Cell) (messages : List Message) → DistinctMembers messages → first_usable cells messages ≡ none
    → Closed messages (Known cells)
none-closed cells messages distinct e message p m long at others =
    ⊎_elim
    (λ u.
    absurd
    (false≢true
    (sym (none-usable cells messages e message m) ∙ usable-of cells message p (distinct message m) long at u others)))
    (λ k. k)
    (true-or-false (unknown_at cells p))

-- ---- after repair, however a fill is made
module _ (made : List ℕ → Cell) where
  -- every known place lies within every closed set that holds those known before
  pub known-within : (K : ℕ → Type 0) (cells : List Cell) (messages : List Message) → ((p : ℕ) → Known cells p → K p)
      → Closed messages K → (p : ℕ) → Known (repair made cells messages) p → K p
  known-within K cells messages start closed =
      repair-keeps made (λ now. (p : ℕ) → Known now p → K p) messages
      (λ now found e within p k.
      let got = found-usable now messages found e in
      let says = usable-says now found got.1 in
      ⊎_elim (within p)
      (λ same.
      subst K (sym same)
      (closed found (missing now found) got.0 says.length-one says.member (λ q m other. within q (says.others q m other))))
      (known-fill made now found p k))
      cells
      start

  -- known after repair, only if reached
  pub known-reached : (cells : List Cell) (messages : List Message) (p : ℕ)
      → Known (repair made cells messages) p → Reached cells messages p
  known-reached cells messages =
      known-within (Reached cells messages) cells messages (λ p k. known k)
      (λ message p m long at others. by_message message m long at others)

-- ---- and where a fill is known
module _ {made : List ℕ → Cell} (makes : Makes made) where
  pub known-closed : (cells : List Cell) (messages : List Message) → DistinctMembers messages
      → Closed messages (Known (repair made cells messages))
  known-closed cells messages distinct =
      none-closed (repair made cells messages) messages distinct (repair-closed makes cells messages)

  -- known after repair, if reached
  pub reached-known : (cells : List Cell) (messages : List Message) → DistinctMembers messages
      → (p : ℕ) → Reached cells messages p → Known (repair made cells messages) p
  reached-known cells messages distinct p =
      reached-within (Known (repair made cells messages)) cells messages (known-repair made cells messages)
      (known-closed cells messages distinct)

  -- ---- what follows
  -- more known before, more messages: more known after
  pub known_more : (cells wider : List Cell) (messages more : List Message) → DistinctMembers more
      → ((p : ℕ) → Known cells p → Known wider p) → ((message : Message) → Among message messages → Among message more)
      → (p : ℕ) → Known (repair made cells messages) p → Known (repair made wider more) p
  known_more cells wider messages more distinct start held p k =
      reached-known wider more distinct p (reached-more cells wider messages more start held (known-reached made cells messages p k))

  -- the order of the messages, and how often each is held, does not matter
  pub known-any-order : (cells : List Cell) (messages others : List Message) → DistinctMembers messages
      → ((message : Message) → Among message messages ↔ Among message others)
      → (p : ℕ) → Known (repair made cells messages) p ↔ Known (repair made cells others) p
  known-any-order cells messages others distinct same p = (
    known_more cells cells messages others (λ message m. distinct message ((same message).1 m)) (λ q k. k)
        (λ message m. (same message).0 m)
        p,
    known_more cells cells others messages distinct (λ q k. k) (λ message m. (same message).1 m) p,
  )
