-- Demand 3's hypotheses can be met (rule 28.8), with the packets of rule 26.10, `06` and `C0 01 80 00 00 55`, and a third, `06`.
-- Datagrams 0 and 1 go without spares, datagram 2 with n = 2 and m = 1. Datagram 0 never arrives. Definitions only.
use Rattle.std.specs.Prelude.{ℕ, ◌≡◌, true}
use mathlib.Core.List.{List, [], ◌∷◌, Memᴰ as Among}
use Rattle.session.specs.Cells.{repaired, filled_cell, cell_at, kept_before}
use Rattle.session.specs.Held.{held_at}
use Rattle.session.specs.Reached.{Unknown}
use Rattle.session_held.specs.Table.{view_of}
use Rattle.session_held.specs.Promise.{Fresh}
use Rattle.session_held.specs.declared.Session.{Session}
use Rattle.session_calls.specs.Receiver.{OfferOwes}
use Rattle.session_calls.specs.declared.Returned.{Returned}
use Rattle.sender.specs.Honest.{HonestSender}
use Rattle.demands.specs.Sheet.{packet0, packet1, message2, datagram0, datagram1, datagram2}
use Rattle.demands.specs.Demand3.Feeding.{Fed, Takes}
use Rattle.demands.specs.Demand3.Demand3.{RestKnown}

abbrev pub example_row : List (List ℕ)
example_row = packet0 ∷ packet1 ∷ packet0 ∷ []

abbrev pub example_datagrams : List (List ℕ)
example_datagrams = datagram0 ∷ datagram1 ∷ datagram2 ∷ []

-- what the calls return if a fresh session s is offered datagram 2 alone, and if it is offered datagrams 1, 2 and 1. Such results exist,
-- because each call terminates and keeps its promise
pub record HandedBack (s : Session) (alone : Returned (Unit {0})) (one two three : Returned (Unit {0})) : Type 0 where
  pub start : Fresh s
  pub only2 : OfferOwes s datagram2 alone
  pub first1 : OfferOwes s datagram1 one
  pub then2 : OfferOwes one.session datagram2 two
  pub again1 : OfferOwes two.session datagram1 three

-- demand 3's hypotheses, and what is known after the two lists
pub record Met (s one two : Session) : Type 0 where
  pub fed : Fed example_row example_datagrams s
  -- the first list is datagram 2 alone; the second holds it too, and datagram 1 twice
  pub first : Takes example_row example_datagrams (2 ∷ []) s one
  pub second : Takes example_row example_datagrams (1 ∷ 2 ∷ 1 ∷ []) s two
  -- after the first list packet 0 is not known: two numbers of the reach are missing, and m is 1
  pub missing : Unknown (view_of one).cells kept_before
  -- after the second list it is back, with five zeros at its end (rule 26.11), and datagram 2 is still held
  pub back : cell_at (view_of two).cells kept_before ≡ filled_cell 2 repaired (0x06 ∷ 0 ∷ 0 ∷ 0 ∷ 0 ∷ 0 ∷ [])
  pub held : held_at (view_of two).held 2 ≡ record { accepted = true; n = 2; messages = message2 ∷ [] }
  -- in its reach everything is known except the one number that is brought back, and m is 1 (rule 28.10)
  pub rest : RestKnown (view_of two) 2 kept_before 1

pub record Example : Type 0 where
  pub honest : HonestSender example_row example_datagrams
  pub all : (S : ℕ) → Among S (2 ∷ []) → Among S (1 ∷ 2 ∷ 1 ∷ [])
  pub met : (s : Session) (alone one two three : Returned (Unit {0})) → HandedBack s alone one two three → Met s alone.session three.session
