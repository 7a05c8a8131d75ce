-- A worked solve: demand 3 holds of a session that a host solves (rule 28.9), and the solve brings back a number that no single message
-- does (rule 14.2). Of five packets, datagrams 0, 1 and 3 go without spares, datagram 2 with n = 2 and m = 1, so its message covers 1 and
-- 0, and datagram 4 with n = 4 and m = 1, so its message covers 3, 2, 1 and 0 (rule 4.12). Only datagrams 2 and 4 arrive. Each message has
-- two or more unknown members, and the exclusive or of both has 3 alone. Definitions only.
use Rattle.std.specs.Prelude.{ℕ, ◌+◌, ◌≡◌, List, [], ◌∷◌, Ok}
use Rattle.session.specs.Cells.{repaired, filled_cell, cell_at, kept_before}
use Rattle.session.specs.Honest.{UpToZeros}
use Rattle.session.specs.Reached.{Unknown}
use Rattle.session_held.specs.Table.{view_of}
use Rattle.session_held.specs.Promise.{Fresh}
use Rattle.session_held.specs.declared.Session.{Session}
use Rattle.solve.specs.Equations.{padded}
use Rattle.session_calls.specs.Receiver.{OfferOwes}
use Rattle.session_calls.specs.Solver.{SolveOwes}
use Rattle.session_calls.specs.declared.Returned.{Returned}
use Rattle.sender.specs.Honest.{HonestSender}
use Rattle.demands.specs.Sheet.{packet0, packet1, datagram0, datagram1, datagram2}
use Rattle.demands.specs.Demand3.Feeding.{Fed, sent_at}
use Rattle.demands.specs.Demand3.Burst.{datagram3}

abbrev pub solved_row : List (List ℕ)
solved_row = packet0 ∷ packet1 ∷ packet0 ∷ (0x0A ∷ []) ∷ (0x0C ∷ []) ∷ []

-- the message of datagram 4, over packets 3, 2, 1 and 0 (rule 4.13)
abbrev pub over3210 : List ℕ
over3210 = 0xCA ∷ 0x01 ∷ 0x80 ∷ 0x00 ∷ 0x00 ∷ 0x55 ∷ []

abbrev pub datagram_over4 : List ℕ
datagram_over4 = 0x00 ∷ 0x04 ∷ 0x01 ∷ 0x0C ∷ 0x80 ∷ 0x01 ∷ 0x04 ∷ 0x01 ∷ 0x06 ∷ 0xCA ∷ 0x01 ∷ 0x80 ∷ 0x00 ∷ 0x00 ∷ 0x55 ∷ []

abbrev pub solved_datagrams : List (List ℕ)
solved_datagrams = datagram0 ∷ datagram1 ∷ datagram2 ∷ datagram3 ∷ datagram_over4 ∷ []

-- what the calls return if a fresh session s is offered datagrams 2 and 4, and is then solved twice
pub record SolvedCalls (s : Session) (two four : Returned (Unit {0})) (last again : Returned (Unit {0})) : Type 0 where
  pub start : Fresh s
  pub first2 : OfferOwes s datagram2 two
  pub then4 : OfferOwes two.session datagram_over4 four
  pub then_solve : SolveOwes four.session last
  pub then_again : SolveOwes last.session again

-- the session before the solve and after it, and what the two solves return
pub record SolvedMet (before after : Session) (last again : Returned (Unit {0})) : Type 0 where
  -- the session after is one that the sender alone feeds, so demand 3 speaks of it
  pub fed : Fed solved_row solved_datagrams after
  -- repair brought none of the three numbers back
  pub missing0 : Unknown (view_of before).cells kept_before
  pub missing1 : Unknown (view_of before).cells (kept_before + 1)
  pub missing3 : Unknown (view_of before).cells (kept_before + 3)
  -- solving brings 3 back: 256 octets, the packet `0A` and zeros (rule 14.3)
  pub back3 : cell_at (view_of after).cells (kept_before + 3) ≡ filled_cell 0 repaired (padded (0x0A ∷ []))
  -- it equals the sender's packet, except for zeros at the end (rules 14.9 and 28.9)
  pub sent3 : sent_at solved_row (view_of after) (kept_before + 3) ≡ 0x0A ∷ []
  pub right3 : UpToZeros (cell_at (view_of after).cells (kept_before + 3)).octets (0x0A ∷ [])
  -- 23 does not come (rule 14.9), and the second solve fills nothing more and returns the same session (rule 14.10)
  pub filled : last.answer ≡ Ok tt
  pub same : again ≡ last

pub record SolvedExample : Type 0 where
  pub honest : HonestSender solved_row solved_datagrams
  pub met : (s : Session) (two four : Returned (Unit {0})) (last again : Returned (Unit {0})) → SolvedCalls s two four last again
      → SolvedMet four.session last.session last again
