-- What a receiving session keeps (rules 1.13, 9.1 to 9.4, 9.10 and 9.11): its base, the four counts, 64 numbers with their octets, and for
-- each number from the base on whether its datagram was accepted, n, and its messages. Definitions only.
use Rattle.std.specs.Prelude.{ℕ, ◌+◌, ◌-◌, ◌%◌, List, [], ◌∷◌, ◌++◌, drop, replicate}
use Rattle.octets.specs.Place.{tab}
use Rattle.session.specs.Cells.{Cell, blank_cell, unknown_cell, kept_before, kept_ahead}
use Rattle.session.specs.Held.{Held, nothing_held}

-- how many numbers may pass in a session (rule 1.10)
abbrev pub session_limit : ℕ
session_limit = 1000000

-- arithmetic on numbers is modulo 65,536 (rule 2.35)
abbrev pub numbers : ℕ
numbers = 65536

-- the number after n
abbrev pub following : ℕ → ℕ
following n = (n + 1) % numbers

-- the distance from base to S is a subtraction that wraps (rule 2.35)
abbrev pub distance : ℕ → ℕ → ℕ
distance base S = (S + (numbers - base)) % numbers

-- the number at place p of a view with this base: base − kept_before + p
abbrev pub number_at : ℕ → ℕ → ℕ
number_at base p = (base + (numbers - kept_before) + p) % numbers

-- each count equals how many numbers left so since the start (rules 9.10 and 9.11)
pub record Counts : Type 0 where
  pub received : ℕ
  pub spare : ℕ
  pub repaired : ℕ
  pub lost : ℕ

-- the sum of the counts is the base's whole advance (rule 9.11)
abbrev pub sum : Counts → ℕ
sum c = c.received + c.spare + c.repaired + c.lost

-- the session: place p of cells is the number `number_at base p`, and place d of held is the number base + d
pub record View : Type 0 where
  pub base : ℕ
  pub counts : Counts
  pub cells : List Cell
  pub held : List Held

-- a fresh session has base 0 and all counts 0, and the numbers before the first are blank (rules 9.1 and 9.3)
unfoldable pub fresh_view : View
fresh_view =
    record {
      base = 0;
      counts = record { received = 0; spare = 0; repaired = 0; lost = 0 };
      cells = replicate kept_before blank_cell ++ replicate kept_ahead unknown_cell;
      held = replicate kept_ahead nothing_held;
    }

-- the base moves on by one (rule 12.5): the number that leaves drops its accepted mark and its messages, and the one that comes into view
-- is unknown (rules 12.7 and 12.8)
unfoldable pub gone_on : Counts → View → View
gone_on counts view =
    record {
      base = following view.base;
      counts = counts;
      cells = drop 1 view.cells ++ (unknown_cell ∷ []);
      held = drop 1 view.held ++ (nothing_held ∷ []);
    }
