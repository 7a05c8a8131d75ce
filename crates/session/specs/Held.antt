-- What a session keeps of each number from the base on: whether its datagram was accepted, n, and its messages (rule 9.4). Definitions
-- only.
use Rattle.std.specs.Prelude.{ℕ, suc, Bool, false, List, [], ◌∷◌, ◌++◌, length, get_or}
use Rattle.octets.specs.Place.{tab}
use Rattle.session.specs.Cells.{kept_before}
use Rattle.session.specs.Members.{members_of}
use Rattle.session.specs.Repair.{Message}

-- what is kept of a number from the base on; m is how many messages it has
pub record Held : Type 0 where
  pub accepted : Bool
  pub n : ℕ
  pub messages : List (List ℕ)

-- a number whose datagram was not accepted holds nothing (rule 13.7)
abbrev pub nothing_held : Held
nothing_held = record { accepted = false; n = 0; messages = [] }

-- what is held at distance d from the base
abbrev pub held_at : List Held → ℕ → Held
held_at held d = get_or held d nothing_held

-- message i of the datagram at place S
abbrev pub message_at : ℕ → Held → ℕ → Message
message_at S held i =
    record { members = members_of S held.n (length held.messages) i; octets = get_or held.messages i [] }

-- the messages held at place S, the lowest first
unfoldable pub messages_of : ℕ → Held → List Message
messages_of S held = tab (length held.messages) (message_at S held)

-- the messages of several places in a row, from S on
unfoldable pub messages_in_row : ℕ → List Held → List Message
messages_in_row S [] = []
messages_in_row S (held ∷ more) = messages_of S held ++ messages_in_row (suc S) more

-- all held messages, in the order of repair: from the base on, by distance (rule 11.2)
unfoldable pub held_messages : List Held → List Message
held_messages held = messages_in_row kept_before held
