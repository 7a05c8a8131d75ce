-- What the public calls of this crate promise. Definitions only.
use Rattle.std.specs.Prelude.{ℕ, ◌-◌, ◌≡◌, true, List, ◌++◌, length, replicate}
use Rattle.session.specs.Cells.{kept_before, kept_ahead}
use Rattle.session.specs.View.{fresh_view}
use Rattle.session_held.specs.Slots.{slots_kept, kept_octets, message_octets}
use Rattle.session_held.specs.Table.{places, last_state, view_of}
use Rattle.session_held.specs.Laid.{session_in_ranges}
use Rattle.session_held.specs.declared.Session.{Session}

-- the lengths of the arrays of every session
pub record Sized (s : Session) : Type 0 where
  pub table : length s.table ≡ places
  pub octets : length s.octets ≡ kept_octets
  pub messages : length s.messages ≡ message_octets

-- the table of a fresh session: at base 0 the numbers from the base on have the first slots, and those before the first, which are blank,
-- have the rest (rule 9.3)
unfoldable pub fresh_table : List ℕ
fresh_table = replicate kept_ahead 0 ++ replicate kept_before last_state ++ replicate (places - slots_kept) 0

-- what fresh promises: its view is the fresh session (rule 9.1), and it is within its ranges (rule 13.13)
pub record Fresh (r : Session) : Type 0 where
  pub view : view_of r ≡ fresh_view
  pub ranges : session_in_ranges r ≡ true
  pub sized : Sized r
