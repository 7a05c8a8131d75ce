-- Which numbers the held messages can repair, defined without an order of steps (rule 28.5). A number is reached if it is known, or if a
-- message of length 1 or more covers it and all the other members of that message are reached. Definitions only.
use Rattle.std.specs.Prelude.{ℕ, ◌≤◌, ◌≡◌, true, false, length}
use mathlib.Core.List.{List, [], ◌∷◌, Memᴰ as Among}
use Rattle.session.specs.Cells.{Cell, unknown_at}
use Rattle.session.specs.Repair.{Message}

-- the number at a place is known, or it is unknown
abbrev pub Known : List Cell → ℕ → Type 0
Known cells p = unknown_at cells p ≡ false

abbrev pub Unknown : List Cell → ℕ → Type 0
Unknown cells p = unknown_at cells p ≡ true

-- a set of places to which no message adds another: if it holds all members but one of a message of length 1 or more, it holds that one too
abbrev pub Closed : List Message → (ℕ → Type 0) → Type 0
Closed messages K = (message : Message) (p : ℕ) → Among message messages → 1 ≤ length message.octets
    → Among p message.members → ((q : ℕ) → Among q message.members → (q ≡ p → ⊥) → K q) → K p

-- the places that the messages reach from the known ones
pub data Reached (cells : List Cell) (messages : List Message) : ℕ → Type 0 where
  known : {p : ℕ} → Known cells p → Reached cells messages p
  by_message : {p : ℕ} (message : Message) → Among message messages → 1 ≤ length message.octets → Among p message.members
      → ((q : ℕ) → Among q message.members → (q ≡ p → ⊥) → Reached cells messages q) → Reached cells messages p

-- no number is in the list twice
pub data Distinct : List ℕ → Type 0 where
  nothing : Distinct []
  fresh : {x : ℕ} {l : List ℕ} → (Among x l → ⊥) → Distinct l → Distinct (x ∷ l)

-- no message has a member twice
abbrev pub DistinctMembers : List Message → Type 0
DistinctMembers messages = (message : Message) → Among message messages → Distinct message.members
