-- What datagram S carries beside its packet (rules 4.5, 4.12 to 4.14 and 15.3 to 15.7). Packets are given by the places of a row
-- that begins far enough before S and is empty at the places before the session's first number. So one definition serves the
-- session, whose row is its history, and the honest sender, whose row is all that it sends. Definitions only.
use Rattle.std.specs.Prelude.{ℕ, suc, ◌-◌, ◌%◌, min, Bool, ◌&&◌, List, map, leb}
use Rattle.octets.specs.Place.{tab}
use Rattle.datagram.specs.Sizes.{spares_limit, covered_least, covered_limit, messages_least, messages_limit}
use Rattle.datagram.specs.Carried.{Extra, spares, parity, Carried}
use Rattle.length.specs.Length.{within}
use Rattle.session.specs.Members.{members_of}
use Rattle.session.specs.Honest.{message_over}
use Rattle.session.specs.View.{numbers}
use Rattle.sender.specs.declared.Settings.{Settings}
use Rattle.sender.specs.declared.Settings.TheVariants as settings

-- settings inside the sizes: k from 0 to 8, or n from 1 to 8 and m from 1 to 4 (rules 1.3 to 1.5 and 15.9)
abbrev pub settings_inside : Settings → Bool
settings_inside (settings.Spares k) = leb k spares_limit
settings_inside (settings.Parity n m) = within covered_least covered_limit n && within messages_least messages_limit m

-- the first `count` spares of the datagram at place S: the j-th, j from 1, is packet S − j (rule 4.5)
unfoldable pub spares_from : ℕ → (ℕ → List ℕ) → ℕ → List (List ℕ)
spares_from count row S = tab count (λ j. row (S - suc j))

-- its m messages, each the exclusive or of its n members (rules 4.12 to 4.14)
unfoldable pub messages_from : ℕ → ℕ → (ℕ → List ℕ) → ℕ → List (List ℕ)
messages_from n m row S = tab m (λ i. message_over (map row (members_of S n m i)))

-- what goes beside the packet, where `sent` packets were sent before it: never more spares than that (rules 15.4 and 15.5)
abbrev pub extra_from : Settings → ℕ → (ℕ → List ℕ) → ℕ → Extra
extra_from (settings.Spares k) sent row S = spares (spares_from (min k sent) row S)
extra_from (settings.Parity n m) sent row S = parity n (messages_from n m row S)

-- the datagram that carries the packet, where `sent` packets were sent before it (rule 15.3)
abbrev pub carried_from : Settings → ℕ → List ℕ → (ℕ → List ℕ) → ℕ → Carried
carried_from settings sent packet row S = record { number = sent % numbers; packet = packet; extra = extra_from settings sent row S }
