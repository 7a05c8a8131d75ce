-- Repair (rules 11.1 to 11.9): the first usable message fills its unknown member, and the search begins again, until no message is usable.
-- What is known is never written over (rule 9.9). Definitions only.
use Rattle.std.specs.Prelude.{ℕ, zero, suc, Bool, not, cond, ◌&&◌, List, [], ◌∷◌, map, length, get_or, set, leb, eqb}
use Rattle.std.proofs.Math.Option.{Option, none, some}
use Rattle.octets.specs.ExclusiveOr.{exclusive_or}
use Rattle.session.specs.Cells.{Cell, cell_at, unknown_at}

-- a held message: the places of its members in the view, and its octets
pub record Message : Type 0 where
  pub members : List ℕ
  pub octets : List ℕ

-- the places of a list that pass a test, in order
unfoldable pub passing : (ℕ → Bool) → List ℕ → List ℕ
passing test [] = []
passing test (p ∷ ps) = cond (test p) (p ∷ passing test ps) (passing test ps)

-- the unknown members of a message, and the known ones
abbrev pub unknown_members : List Cell → Message → List ℕ
unknown_members cells message = passing (unknown_at cells) message.members

abbrev pub other_members : List Cell → Message → List ℕ
other_members cells message = passing (λ p. not (unknown_at cells p)) message.members

-- a message is usable if it has a length of 1 or more and exactly one unknown member (rules 11.1 and 11.7)
unfoldable pub usable : List Cell → Message → Bool
usable cells message = leb 1 (length message.octets) && eqb (length (unknown_members cells message)) 1

-- the first usable one of the held messages, in their order (rule 11.2)
unfoldable pub first_usable : List Cell → List Message → Option Message
first_usable cells [] = none
first_usable cells (message ∷ messages) = cond (usable cells message) (some message) (first_usable cells messages)

-- the exclusive or of a message and its known members, over the message's length (rule 11.3)
unfoldable pub mended : List Cell → Message → List ℕ
mended cells message =
    exclusive_or (length message.octets) (message.octets ∷ map (λ p. (cell_at cells p).octets) (other_members cells message))

-- the unknown member is filled with what is made of these octets (rule 11.3)
unfoldable pub fill : (List ℕ → Cell) → List Cell → Message → List Cell
fill made cells message = set cells (get_or (unknown_members cells message) 0 0) (made (mended cells message))

-- after each fill the search begins again, and it stops when no usable message is left (rule 11.4). Each fill makes one unknown number
-- known, so as many steps as there are numbers are enough (proofs/Enough.antt).
unfoldable pub repair_f : (List ℕ → Cell) → ℕ → List Cell → List Message → List Cell
repair_f made zero cells messages = cells
repair_f made (suc k) cells messages =
    elim (first_usable cells messages) [ none ↦ cells | some message ↦ repair_f made k (fill made cells message) messages ]

-- repair; `made` says how a fill is made
unfoldable pub repair : (List ℕ → Cell) → List Cell → List Message → List Cell
repair made cells messages = repair_f made (length cells) cells messages
