-- The worked burst, computed. Assumes nothing.
use Prim.Native.Nat.{ℕ, zero, suc, ◌+◌, ◌≤◌, ◌<◌}
use mathlib.Core.Path.{◌≡◌, refl, subst}
use mathlib.Core.Logic.{◌⊎◌, ⊎_elim}
use mathlib.Core.Bool.{true}
use mathlib.Core.List.{[], ◌∷◌}
use lib.ListN.{length, get_or}
use native.Mathlib.Omega.{arith}
use Rattle.octets.specs.Place.{tab}
use Rattle.octets.specs.ExclusiveOr.{xor_at, exclusive_or, longest}
use Rattle.length.specs.Answers.{done}
use Rattle.length.specs.Length.{length_at, length_octets, allowed, length_within}
use Rattle.datagram.specs.Carried.{spares, parity, Carried}
use Rattle.datagram.specs.Read.{octet_at, item_at, items_at, end_of, spares_at, parity_at, extra_at, number_of, whole_of, read_datagram}
use Rattle.datagram.specs.Read.{carried_by}
use Rattle.datagram.specs.Write.{number_octets, item_octets, items_octets, counted_octets, datagram_octets}
use Rattle.session.specs.Cells.{repaired, filled_cell, cell_at, kept_before}
use Rattle.session.specs.Members.{members_of, InReach}
use Rattle.session.specs.Repair.{passing, usable, first_usable, mended, fill, repair_f, repair}
use Rattle.session.specs.Held.{Held, held_at, messages_of, messages_in_row, held_messages}
use Rattle.session.specs.Reached.{Known, Unknown}
use Rattle.session.specs.View.{View, fresh_view}
use Rattle.session.specs.Offer as offers
use Rattle.session.specs.Offer.{keep, keep_spares, accept, offered}
use Rattle.session_held.specs.declared.Session.{Session}
use Rattle.session_calls.specs.declared.Returned.{Returned}
use Rattle.sender.specs.Send.{packet_inside}
use Rattle.sender.specs.Carries as carries
use Rattle.sender.specs.Honest.{packet_at, HonestAt, HonestSender}
use Rattle.sender.specs.declared.Settings.TheVariants as settings
use Rattle.demands.specs.Sheet.{packet0, packet1, datagram0}
use Rattle.demands.specs.Demand3.Feeding as feeding
use Rattle.demands.specs.Demand3.Feeding.{Near}
use Rattle.demands.specs.Demand3.Demand3.{RestKnown}
use Rattle.demands.specs.Demand3.Burst.{packet2, burst_row, datagram3, burst_messages, datagram4, burst_datagrams, BurstOffered}
use Rattle.demands.specs.Demand3.Burst.{BurstMet, Burst}
use Rattle.demands.proofs.Calling.{fresh-seen}
use Rattle.demands.proofs.OfferedTo.{then-seen, offers-of}

-- ---- the sender
sized : (S : ℕ) → S < length burst_row → packet_inside (get_or burst_row S []) ≡ true
sized zero low = refl
sized (suc zero) low = refl
sized (suc (suc zero)) low = refl
sized (suc (suc (suc zero))) low = refl
sized (suc (suc (suc (suc zero)))) low = refl
sized (suc (suc (suc (suc (suc S))))) low = absurd (omega arith)

follow : (S : ℕ) → S < length burst_row → HonestAt burst_row S (get_or burst_datagrams S [])
unfolding datagram_octets number_octets item_octets items_octets counted_octets length_octets carries.spares_from carries.messages_from tab
    members_of packet_at xor_at exclusive_or longest
follow zero low = record { settings = settings.Spares 0; inside = refl; follows = refl }
follow (suc zero) low = record { settings = settings.Spares 0; inside = refl; follows = refl }
follow (suc (suc zero)) low = record { settings = settings.Spares 0; inside = refl; follows = refl }
follow (suc (suc (suc zero))) low = record { settings = settings.Spares 0; inside = refl; follows = refl }
follow (suc (suc (suc (suc zero)))) low = record { settings = settings.Parity 2 2; inside = refl; follows = refl }
follow (suc (suc (suc (suc (suc S))))) low = absurd (omega arith)

honest : HonestSender burst_row burst_datagrams
honest = record { packets = sized; places = refl; follow = follow }

-- ---- what arrives, and the sessions after it
abbrev carried0 : Carried
carried0 = record { number = 0; packet = packet0; extra = spares [] }

abbrev carried3 : Carried
carried3 = record { number = 3; packet = 0x0A ∷ []; extra = spares [] }

abbrev carried4 : Carried
carried4 = record { number = 4; packet = 0x0C ∷ []; extra = parity 2 burst_messages }

abbrev with0 : View
with0 = accept 0 carried0 fresh_view

abbrev with03 : View
with03 = accept 3 carried3 with0

abbrev with034 : View
with034 = accept 4 carried4 with03

takes-0 : offers.offer datagram0 fresh_view ≡ done with0
unfolding offers.offer read_datagram carried_by number_of whole_of extra_at spares_at parity_at items_at item_at length_within octet_at
    allowed end_of
    length_at offered fresh_view
takes-0 = refl

takes-3 : offers.offer datagram3 with0 ≡ done with03
unfolding offers.offer read_datagram carried_by number_of whole_of extra_at spares_at parity_at items_at item_at length_within octet_at
    allowed end_of
    length_at offered accept fresh_view
takes-3 = refl

takes-4 : offers.offer datagram4 with03 ≡ done with034
unfolding offers.offer read_datagram carried_by number_of whole_of extra_at spares_at parity_at items_at item_at length_within octet_at
    allowed end_of
    length_at offered accept fresh_view
takes-4 = refl

near-0 : (S : ℕ) → S < 5 → Near S fresh_view
unfolding fresh_view
near-0 S low = record { ahead = omega arith; behind = omega arith }

near-3 : (S : ℕ) → S < 5 → Near S with0
unfolding fresh_view accept
near-3 S low = record { ahead = omega arith; behind = omega arith }

near-4 : (S : ℕ) → S < 5 → Near S with03
unfolding fresh_view accept
near-4 S low = record { ahead = omega arith; behind = omega arith }

-- ---- the burst
-- the cells before datagram 4 and after it
record Cells : Type 0 where
  missing1 : Unknown with03.cells (kept_before + 1)
  missing2 : Unknown with03.cells (kept_before + 2)
  known0 : Known with03.cells kept_before
  known3 : Known with03.cells (kept_before + 3)
  still0 : Known with034.cells kept_before
  still3 : Known with034.cells (kept_before + 3)
  back1 : cell_at with034.cells (kept_before + 1) ≡ filled_cell 4 repaired packet1
  back2 : cell_at with034.cells (kept_before + 2) ≡ filled_cell 4 repaired packet2

cells : Cells
unfolding fresh_view accept keep keep_spares tab xor_at exclusive_or members_of passing usable first_usable mended fill repair_f repair
    messages_of
    messages_in_row held_messages
cells =
    record {
      missing1 = refl;
      missing2 = refl;
      known0 = refl;
      known3 = refl;
      still0 = refl;
      still3 = refl;
      back1 = refl;
      back2 = refl;
    }

held : held_at with034.held 4 ≡ record { accepted = true; n = 2; messages = burst_messages }
unfolding fresh_view accept
held = refl

-- of the reach, the places 32 to 35, the first and the last are known
ends-known : (view : View) (p : ℕ) → Known view.cells kept_before → Known view.cells (kept_before + 3)
    → InReach (kept_before + 4) 2 2 p → ((p < kept_before + 1) ⊎ (kept_before + 3 ≤ p)) → Known view.cells p
ends-known view p first last reach other =
    ⊎_elim
    (λ low.
    let is : p ≡ kept_before = omega (arith, low, reach.above) in
    rw is first)
    (λ high.
    let is : p ≡ kept_before + 3 = omega (arith, high, reach.before) in
    rw is last)
    other

others : (p : ℕ) → InReach (kept_before + 4) 2 2 p → ((p < kept_before + 1) ⊎ (kept_before + 3 ≤ p)) → Known with03.cells p
others p reach other = ends-known with03 p cells.known0 cells.known3 reach other

rest : RestKnown with034 4 (kept_before + 1) 2
rest p reach other =
    ends-known with034 p cells.still0 cells.still3
    (subst (λ (x : Held). InReach (kept_before + 4) x.n (length x.messages) p) held reach) other

met : (s : Session) (zero three four : Returned (Unit {0})) → BurstOffered s zero three four → BurstMet three.session four.session
met s first three four c =
    let seen = fresh-seen s c.start in
    let seen-0 = then-seen seen c.first0 (done with0) takes-0 in
    let seen-3 = then-seen seen-0 c.then3 (done with03) takes-3 in
    let seen-4 = then-seen seen-3 c.then4 (done with034) takes-4 in
    let one = offers-of burst_row burst_datagrams 0 (omega arith) seen (near-0 0 (omega arith)) c.first0 in
    let two = offers-of burst_row burst_datagrams 3 (omega arith) seen-0 (near-3 3 (omega arith)) c.then3 in
    let last = offers-of burst_row burst_datagrams 4 (omega arith) seen-3 (near-4 4 (omega arith)) c.then4 in
    record {
      fed = feeding.offered (feeding.offered (feeding.offered (feeding.fresh c.start) one) two) last;
      missing1 = rw seen-3.view cells.missing1;
      missing2 = rw seen-3.view cells.missing2;
      others = rw seen-3.view others;
      held = rw seen-4.view held;
      rest = rw seen-4.view rest;
      back1 = rw seen-4.view cells.back1;
      back2 = rw seen-4.view cells.back2;
    }

pub burst : Burst
burst = record { honest = honest; met = met }
