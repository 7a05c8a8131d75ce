-- A worked refusal of solve: 23 for a message that was cut short against a longer known member (rules 14.6, 26.18 and 26.35). Packet 1 is
-- `AA BB`, and datagram 2 has n = 2, m = 1 and the message `01`. Definitions only.
use Rattle.std.specs.Prelude.{ℕ, ◌≡◌, List, [], ◌∷◌, Err}
use Rattle.length.specs.Refusals.{refusal, no_solution}
use Rattle.session.specs.Cells.{repaired, filled_cell, cell_at, kept_before}
use Rattle.session_held.specs.Table.{view_of}
use Rattle.session_held.specs.Promise.{Fresh}
use Rattle.session_held.specs.declared.Session.{Session}
use Rattle.session_calls.specs.Receiver.{OfferOwes}
use Rattle.session_calls.specs.Solver.{SolveOwes}
use Rattle.session_calls.specs.declared.Returned.{Returned}

abbrev pub long_datagram1 : List ℕ
long_datagram1 = 0x00 ∷ 0x01 ∷ 0x02 ∷ 0xAA ∷ 0xBB ∷ 0x00 ∷ 0x00 ∷ []

abbrev pub short_datagram2 : List ℕ
short_datagram2 = 0x00 ∷ 0x02 ∷ 0x01 ∷ 0x06 ∷ 0x80 ∷ 0x01 ∷ 0x02 ∷ 0x01 ∷ 0x01 ∷ 0x01 ∷ []

-- what the calls return if a fresh session s is offered datagrams 1 and 2, and is then solved
pub record CutShortCalls (s : Session) (one two : Returned (Unit {0})) (last : Returned (Unit {0})) : Type 0 where
  pub start : Fresh s
  pub first1 : OfferOwes s long_datagram1 one
  pub then2 : OfferOwes one.session short_datagram2 two
  pub then_solve : SolveOwes two.session last

pub record CutShortMet (before : Session) (last : Returned (Unit {0})) : Type 0 where
  -- packet 0 is repaired as `AB` (rule 26.18)
  pub back0 : cell_at (view_of before).cells kept_before ≡ filled_cell 2 repaired (0xAB ∷ [])
  -- solving is 23, with place 0 (rules 2.30 and 26.35), and returns the session unchanged (rule 14.7)
  pub answer : last.answer ≡ Err (refusal no_solution)
  pub unchanged : last.session ≡ before

abbrev pub CutShortExample : Type 0
CutShortExample = (s : Session) (one two : Returned (Unit {0})) (last : Returned (Unit {0}))
    → CutShortCalls s one two last → CutShortMet two.session last
