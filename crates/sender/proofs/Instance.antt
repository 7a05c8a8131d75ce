-- The worked instances of an honest sender and of a chain. Assumes nothing.
use Prim.Native.Nat.{ℕ, zero, suc, ◌≤◌, ◌<◌}
use mathlib.Core.Path.{◌≡◌, refl, ap, subst, ◌∙◌}
use mathlib.Core.Bool.{true}
use mathlib.Core.List.{List, [], ◌∷◌}
use lib.ListN.{length, get_or, take}
use native.Mathlib.Omega.{arith}
use Rattle.octets.specs.Place.{tab}
use Rattle.length.specs.Length.{length_octets}
use Rattle.datagram.specs.Write.{number_octets, item_octets, items_octets, counted_octets, datagram_octets}
use Rattle.sender.specs.Sending.{Sending, fresh_sending}
use Rattle.sender.specs.Carries.{spares_from}
use Rattle.sender.specs.Send.{packet_inside, carried_next}
use Rattle.sender.specs.Sender.{sending_of}
use Rattle.sender.specs.Promise.{SenderMade, Sends}
use Rattle.sender.specs.Honest.{packet_at, HonestAt, HonestSender}
use Rattle.sender.specs.Run.{Run, fresh, sent}
use Rattle.sender.specs.Instance.{first_packet, first_datagram, second_packet, second_datagram, FirstSend, Instance}
use Rattle.sender.specs.declared.Sender.{Sender}
use Rattle.sender.specs.declared.Sent.{Sent}
use Rattle.sender.specs.declared.Settings.TheVariants as settings
use Rattle.sender.proofs.Chain.{run_holds}
use Rattle.sender.proofs.Outcome.{sent-says}
use Rattle.sender.proofs.Takes.{send-takes}

abbrev row : List (List ℕ)
row = first_packet ∷ second_packet ∷ []

abbrev datagrams : List (List ℕ)
datagrams = first_datagram ∷ second_datagram ∷ []

packets : (S : ℕ) → S < 2 → packet_inside (get_or row S []) ≡ true
packets zero low = refl
packets (suc zero) low = refl
packets (suc (suc S)) low = absurd (omega arith)

follow : (S : ℕ) → S < 2 → HonestAt row S (get_or datagrams S [])
unfolding packet_at spares_from tab length_octets number_octets item_octets items_octets counted_octets datagram_octets
follow zero low = record { settings = settings.Spares 8; inside = refl; follows = refl }
follow (suc zero) low = record { settings = settings.Spares 1; inside = refl; follows = refl }
follow (suc (suc S)) low = absurd (omega arith)

first-octets : datagram_octets (carried_next (settings.Spares 8) first_packet fresh_sending) ≡ first_datagram
unfolding fresh_sending spares_from tab length_octets number_octets item_octets items_octets counted_octets datagram_octets
first-octets = refl

none-sent : {s : Sender} → SenderMade s → s.sent ≡ 0
unfolding fresh_sending
none-sent made = ap (λ (x : Sending). x.sent) made.state

first-send : {s : Sender} {old new : List ℕ} {r : Sent} → SenderMade s → 2400 ≤ length old
    → Sends s (settings.Spares 8) first_packet old new r → FirstSend r new
first-send {s} {old} {new} {r} made room sends =
    let none = none-sent made in
    let t = send-takes s (settings.Spares 8) first_packet made.proper (omega (arith, none)) refl refl room sends in
    let says = sent-says sends t.1 in
    let same : take t.0 new ≡ first_datagram =
    says.allowed.same
    ∙ ap (λ (x : Sending). datagram_octets (carried_next (settings.Spares 8) first_packet x)) made.state
    ∙ first-octets in
    let run : Run r.sender (first_packet ∷ []) (first_datagram ∷ []) =
    subst (λ (o : List ℕ). Run r.sender (first_packet ∷ []) (o ∷ [])) same (sent (fresh made) sends t.1) in
    record { size = t.0; answer = t.1; octets = same; run = run; honest = (run_holds run).honest }

pub worked : Instance
worked = record { honest = record { packets = packets; places = refl; follow = follow }; chain = first-send }
