-- Which senders are honest (rule 15.14). Nothing here refers to a session, so the definition applies to any sender. Definitions only.
use Rattle.std.specs.Prelude.{ℕ, ◌+◌, ◌<◌, ◌≡◌, true, List, [], ◌++◌, length, get_or, replicate}
use Rattle.datagram.specs.Carried.{Carried}
use Rattle.datagram.specs.Write.{datagram_octets}
use Rattle.sender.specs.Sending.{history_kept}
use Rattle.sender.specs.Carries.{settings_inside, carried_from}
use Rattle.sender.specs.Send.{packet_inside}
use Rattle.sender.specs.declared.Settings.{Settings}

-- the packets by places: number 0 is at place history_kept, and the places before it, as far as a message reaches, are empty (rule 4.14)
unfoldable pub packet_at : List (List ℕ) → ℕ → List ℕ
packet_at row p = get_or (replicate history_kept [] ++ row) p []

-- what the datagram of packet S carries, with these settings (rules 15.3 to 15.7)
abbrev pub carried_at : Settings → List (List ℕ) → ℕ → Carried
carried_at settings row S = carried_from settings S (get_or row S []) (packet_at row) (history_kept + S)

-- the datagram of packet S has the octets of sections 4 and 15, with some settings
pub record HonestAt (row : List (List ℕ)) (S : ℕ) (datagram : List ℕ) : Type 0 where
  pub settings : Settings
  pub inside : settings_inside settings ≡ true
  pub follows : datagram ≡ datagram_octets (carried_at settings row S)

-- the datagrams of an honest sender, one for each packet, in the order in which they were sent (rule 15.14)
pub record HonestSender (row datagrams : List (List ℕ)) : Type 0 where
  pub packets : (S : ℕ) → S < length row → packet_inside (get_or row S []) ≡ true
  pub places : length datagrams ≡ length row
  pub follow : (S : ℕ) → S < length row → HonestAt row S (get_or datagrams S [])
