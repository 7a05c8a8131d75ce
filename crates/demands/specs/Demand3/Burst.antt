-- A worked burst: one accepted datagram, still held, with m messages brings back any m or fewer numbers in a row within its reach, if the
-- rest of its reach is known (rule 28.10). Of five packets, datagrams 0 to 3 go without spares and datagram 4 with n = 2 and m = 2, so
-- its messages cover 2, 0 and 3, 1 (rule 26.12). Datagrams 1 and 2 never arrive. Definitions only.
use Rattle.std.specs.Prelude.{ℕ, ◌+◌, ◌≤◌, ◌<◌, ◌≡◌, ◌⊎◌, true, List, [], ◌∷◌}
use Rattle.session.specs.Cells.{repaired, filled_cell, cell_at, kept_before}
use Rattle.session.specs.Held.{held_at}
use Rattle.session.specs.Members.{InReach}
use Rattle.session.specs.Reached.{Known, Unknown}
use Rattle.session_held.specs.Table.{view_of}
use Rattle.session_held.specs.Promise.{Fresh}
use Rattle.session_held.specs.declared.Session.{Session}
use Rattle.session_calls.specs.Receiver.{OfferOwes}
use Rattle.session_calls.specs.declared.Returned.{Returned}
use Rattle.sender.specs.Honest.{HonestSender}
use Rattle.demands.specs.Sheet.{packet0, packet1, datagram0, datagram1}
use Rattle.demands.specs.Demand3.Feeding.{Fed}
use Rattle.demands.specs.Demand3.Demand3.{RestKnown}

abbrev pub packet2 : List ℕ
packet2 = 0x08 ∷ []

abbrev pub burst_row : List (List ℕ)
burst_row = packet0 ∷ packet1 ∷ packet2 ∷ (0x0A ∷ []) ∷ (0x0C ∷ []) ∷ []

abbrev pub datagram3 : List ℕ
datagram3 = 0x00 ∷ 0x03 ∷ 0x01 ∷ 0x0A ∷ 0x00 ∷ 0x00 ∷ []

-- message 0 over packets 2 and 0, message 1 over packets 3 and 1 (rules 4.12 and 4.13)
abbrev pub burst_messages : List (List ℕ)
burst_messages = (0x0E ∷ []) ∷ (0xCA ∷ 0x01 ∷ 0x80 ∷ 0x00 ∷ 0x00 ∷ 0x55 ∷ []) ∷ []

abbrev pub datagram4 : List ℕ
datagram4 = 0x00 ∷ 0x04 ∷ 0x01 ∷ 0x0C ∷ 0x80 ∷ 0x01 ∷ 0x02 ∷ 0x02 ∷ 0x01 ∷ 0x0E ∷ 0x06 ∷ 0xCA ∷ 0x01 ∷ 0x80 ∷ 0x00 ∷ 0x00 ∷ 0x55 ∷ []

abbrev pub burst_datagrams : List (List ℕ)
burst_datagrams = datagram0 ∷ datagram1 ∷ (0x00 ∷ 0x02 ∷ 0x01 ∷ 0x08 ∷ 0x00 ∷ 0x00 ∷ []) ∷ datagram3 ∷ datagram4 ∷ []

-- what the calls return if a fresh session s is offered datagrams 0, 3 and 4
pub record BurstOffered (s : Session) (zero three four : Returned (Unit {0})) : Type 0 where
  pub start : Fresh s
  pub first0 : OfferOwes s datagram0 zero
  pub then3 : OfferOwes zero.session datagram3 three
  pub then4 : OfferOwes three.session datagram4 four

-- the session before datagram 4, and after it
pub record BurstMet (before after : Session) : Type 0 where
  pub fed : Fed burst_row burst_datagrams after
  -- two numbers in a row are missing, and all others in the reach of datagram 4 are known
  pub missing1 : Unknown (view_of before).cells (kept_before + 1)
  pub missing2 : Unknown (view_of before).cells (kept_before + 2)
  pub others : (p : ℕ) → InReach (kept_before + 4) 2 2 p → ((p < kept_before + 1) ⊎ (kept_before + 3 ≤ p)) → Known (view_of before).cells p
  -- datagram 4 is held, with two messages: demand 3's hypotheses hold (rule 28.10)
  pub held : held_at (view_of after).held 4 ≡ record { accepted = true; n = 2; messages = burst_messages }
  pub rest : RestKnown (view_of after) 4 (kept_before + 1) 2
  -- both numbers are back (rule 28.10)
  pub back1 : cell_at (view_of after).cells (kept_before + 1) ≡ filled_cell 4 repaired packet1
  pub back2 : cell_at (view_of after).cells (kept_before + 2) ≡ filled_cell 4 repaired packet2

pub record Burst : Type 0 where
  pub honest : HonestSender burst_row burst_datagrams
  pub met : (s : Session) (zero three four : Returned (Unit {0})) → BurstOffered s zero three four → BurstMet three.session four.session
