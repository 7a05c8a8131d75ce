-- What a send within the ranges writes or refuses (rules 15.2, 15.8 to 15.10). Promise adds 17, which depends on how the session is
-- stored, and 13, which applies to every call that writes to the caller's buffer. Definitions only.
use Rattle.std.specs.Prelude.{ℕ, Bool, not, List, [], ◌∷◌, length, get_or, leb}
use Rattle.std.proofs.Math.Option.{Option}
use Rattle.length.specs.Refusals.{outside_sizes, wrong_settings, all_passed}
use Rattle.length.specs.Answers.{Answer}
use Rattle.length.specs.Tables.{when, unless}
use Rattle.length.specs.Length.{within}
use Rattle.length.specs.declared.Reason.{Reason}
use Rattle.datagram.specs.Sizes.{packet_least, packet_limit}
use Rattle.datagram.specs.Carried.{Carried}
use Rattle.datagram.specs.Write.{datagram_octets}
use Rattle.session.specs.View.{session_limit}
use Rattle.sender.specs.Sending.{Sending, history_kept}
use Rattle.sender.specs.Carries.{settings_inside, carried_from}
use Rattle.sender.specs.declared.Settings.{Settings}

-- the packet at a place of the history
abbrev pub packet_of : List (List ℕ) → ℕ → List ℕ
packet_of history p = get_or history p []

-- what the next datagram carries (rules 15.3 to 15.7)
abbrev pub carried_next : Settings → List ℕ → Sending → Carried
carried_next settings packet s = carried_from settings s.sent packet (packet_of s.history) history_kept

-- a packet's length is inside the sizes (rule 1.1)
abbrev pub packet_inside : List ℕ → Bool
packet_inside packet = within packet_least packet_limit (length packet)

-- the refusals of a send within the ranges, in order: 16, 15, 4 (rules 15.8 to 15.10); and what it writes if none of them applies
abbrev pub send_rows : Settings → List ℕ → Sending → List (Option Reason)
send_rows settings packet s =
    when (leb session_limit s.sent) all_passed
    ∷ when (not (settings_inside settings)) wrong_settings
    ∷ when (not (packet_inside packet)) outside_sizes
    ∷ []

unfoldable pub datagram_to_send : Settings → List ℕ → Sending → Answer (List ℕ)
datagram_to_send settings packet s = unless (send_rows settings packet s) (datagram_octets (carried_next settings packet s))
