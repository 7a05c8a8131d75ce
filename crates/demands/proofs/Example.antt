-- The example, computed. Assumes nothing.
use Prim.Native.Nat.{ℕ, zero, suc, ◌<◌}
use mathlib.Core.Path.{◌≡◌, refl, subst, ◌∙◌}
use mathlib.Core.Logic.{⊎_elim}
use mathlib.Core.Bool.{true}
use mathlib.Core.List.Memᴰ
use mathlib.Core.List.Memᴰ.{head as here}
use mathlib.Core.List.Memᴰ.{tail as further}
use mathlib.Core.List.{[], ◌∷◌, Memᴰ as Among}
use lib.ListN.{length, get_or}
use native.Mathlib.Omega.{arith}
use Rattle.octets.specs.Place.{tab}
use Rattle.octets.specs.ExclusiveOr.{xor_at, exclusive_or, longest}
use Rattle.length.specs.Refusals as refusals
use Rattle.length.specs.Answers.{done, refuse}
use Rattle.length.specs.Length.{length_at, length_octets, allowed, length_within}
use Rattle.datagram.specs.Carried.{spares, parity, Carried}
use Rattle.datagram.specs.Read.{octet_at, item_at, items_at, end_of, spares_at, parity_at, extra_at, number_of, whole_of, read_datagram}
use Rattle.datagram.specs.Read.{carried_by}
use Rattle.datagram.specs.Write.{number_octets, item_octets, items_octets, counted_octets, datagram_octets}
use Rattle.session.specs.Cells.{repaired, filled_cell, cell_at, kept_before}
use Rattle.session.specs.Members.{members_of, InReach}
use Rattle.session.specs.Repair.{passing, usable, first_usable, mended, fill, repair_f, repair}
use Rattle.session.specs.Held.{Held, held_at, messages_of, messages_in_row, held_messages}
use Rattle.session.specs.Reached.{Known, Unknown}
use Rattle.session.specs.View.{View, fresh_view}
use Rattle.session.specs.Offer as offers
use Rattle.session.specs.Offer.{keep, keep_spares, accept, offered}
use Rattle.session_held.specs.declared.Session.{Session}
use Rattle.session_calls.specs.declared.Returned.{Returned}
use Rattle.sender.specs.Send.{packet_inside}
use Rattle.sender.specs.Carries as carries
use Rattle.sender.specs.Honest.{packet_at, HonestAt, HonestSender}
use Rattle.sender.specs.declared.Settings.TheVariants as settings
use Rattle.demands.specs.Sheet.{packet0, packet1, message2, datagram1, datagram2}
use Rattle.demands.specs.Demand3.Feeding.{Near, fresh, none, accepted, repeated}
use Rattle.demands.specs.Demand3.Demand3.{RestKnown}
use Rattle.demands.specs.Demand3.Example.{example_row, example_datagrams, HandedBack, Met, Example}
use Rattle.demands.proofs.Calling.{fresh-seen}
use Rattle.demands.proofs.OfferedTo.{call-accepted, call-refused, then-seen, offers-of}

-- ---- the sender
sized : (S : ℕ) → S < length example_row → packet_inside (get_or example_row S []) ≡ true
sized zero low = refl
sized (suc zero) low = refl
sized (suc (suc zero)) low = refl
sized (suc (suc (suc S))) low = absurd (omega arith)

follow : (S : ℕ) → S < length example_row → HonestAt example_row S (get_or example_datagrams S [])
unfolding datagram_octets number_octets item_octets items_octets counted_octets length_octets carries.spares_from carries.messages_from tab
    members_of packet_at xor_at exclusive_or longest
follow zero low = record { settings = settings.Spares 0; inside = refl; follows = refl }
follow (suc zero) low = record { settings = settings.Spares 0; inside = refl; follows = refl }
follow (suc (suc zero)) low = record { settings = settings.Parity 2 1; inside = refl; follows = refl }
follow (suc (suc (suc S))) low = absurd (omega arith)

honest : HonestSender example_row example_datagrams
honest = record { packets = sized; places = refl; follow = follow }

-- ---- what arrives
abbrev carried1 : Carried
carried1 = record { number = 1; packet = packet1; extra = spares [] }

abbrev carried2 : Carried
carried2 = record { number = 2; packet = packet0; extra = parity 2 (message2 ∷ []) }

abbrev with1 : View
with1 = accept 1 carried1 fresh_view

near-fresh : (S : ℕ) → S < 3 → Near S fresh_view
unfolding fresh_view
near-fresh S low = record { ahead = omega arith; behind = omega arith }

-- a read datagram, offered
reads-1 : (view : View) → offers.offer datagram1 view ≡ offered carried1 view
unfolding offers.offer read_datagram carried_by number_of whole_of extra_at spares_at parity_at items_at item_at length_within octet_at
    allowed end_of
    length_at
reads-1 view = refl

reads-2 : (view : View) → offers.offer datagram2 view ≡ offered carried2 view
unfolding offers.offer read_datagram carried_by number_of whole_of extra_at spares_at parity_at items_at item_at length_within octet_at
    allowed end_of
    length_at
reads-2 view = refl

-- ---- the two lists
abbrev only2 : View
only2 = accept 2 carried2 fresh_view

abbrev with12 : View
with12 = accept 2 carried2 with1

near-1 : (S : ℕ) → S < 3 → Near S with1
unfolding fresh_view accept
near-1 S low = record { ahead = omega arith; behind = omega arith }

near-12 : (S : ℕ) → S < 3 → Near S with12
unfolding fresh_view accept
near-12 S low = record { ahead = omega arith; behind = omega arith }

fresh-takes-1 : offered carried1 fresh_view ≡ done with1
unfolding offered fresh_view
fresh-takes-1 = refl

fresh-takes-2 : offered carried2 fresh_view ≡ done only2
unfolding offered fresh_view
fresh-takes-2 = refl

with1-takes-2 : offered carried2 with1 ≡ done with12
unfolding offered accept fresh_view
with1-takes-2 = refl

again-1 : offered carried1 with12 ≡ refuse refusals.repeated
unfolding offered accept fresh_view
again-1 = refl

all : (S : ℕ) → Among S (2 ∷ []) → Among S (1 ∷ 2 ∷ 1 ∷ [])
all S among = ⊎_elim (λ same. further (here same)) (λ later. absurd (Memᴰ.not-nil later)) (Memᴰ.cases_cons among)

missing : Unknown only2.cells kept_before
unfolding fresh_view accept keep keep_spares tab xor_at exclusive_or members_of passing usable first_usable mended fill repair_f repair
    messages_of
    messages_in_row held_messages
missing = refl

back : cell_at with12.cells kept_before ≡ filled_cell 2 repaired (0x06 ∷ 0 ∷ 0 ∷ 0 ∷ 0 ∷ 0 ∷ [])
unfolding fresh_view accept keep keep_spares tab xor_at exclusive_or members_of passing usable first_usable mended fill repair_f repair
    messages_of
    messages_in_row held_messages
back = refl

held : held_at with12.held 2 ≡ record { accepted = true; n = 2; messages = message2 ∷ [] }
unfolding fresh_view accept
held = refl

-- of the reach of datagram 2, places 32 and 33, the second is known
known33 : Known with12.cells 33
unfolding fresh_view accept keep keep_spares tab xor_at exclusive_or members_of passing usable first_usable mended fill repair_f repair
    messages_of
    messages_in_row held_messages
known33 = refl

rest : RestKnown with12 2 kept_before 1
rest p reach other =
    let in_reach = subst (λ (x : Held). InReach 34 x.n (length x.messages) p) held reach in
    let is : p ≡ 33 =
    ⊎_elim (λ low. absurd (omega (arith, low, in_reach.above))) (λ high. omega (arith, high, in_reach.before)) other in
    rw is known33

-- ---- the calls
met : (s : Session) (alone one two three : Returned (Unit {0})) → HandedBack s alone one two three → Met s alone.session three.session
met s alone one two three c =
    let seen = fresh-seen s c.start in
    let alone-is = reads-2 fresh_view ∙ fresh-takes-2 in
    let one-is = reads-1 fresh_view ∙ fresh-takes-1 in
    let two_is = reads-2 with1 ∙ with1-takes-2 in
    let three-is = reads-1 with12 ∙ again-1 in
    let seen-alone = then-seen seen c.only2 (done only2) alone-is in
    let seen_one = then-seen seen c.first1 (done with1) one-is in
    let seen-two = then-seen seen_one c.then2 (done with12) two_is in
    let seen-three = then-seen seen-two c.again1 (refuse refusals.repeated) three-is in
    let only-2 = offers-of example_row example_datagrams 2 (omega arith) seen (near-fresh 2 (omega arith)) c.only2 in
    let first-1 = offers-of example_row example_datagrams 1 (omega arith) seen (near-fresh 1 (omega arith)) c.first1 in
    let then-2 = offers-of example_row example_datagrams 2 (omega arith) seen_one (near-1 2 (omega arith)) c.then2 in
    let again-1 = offers-of example_row example_datagrams 1 (omega arith) seen-two (near-12 1 (omega arith)) c.again1 in
    record {
      fed = fresh c.start;
      first = accepted only-2 (call-accepted seen c.only2 alone-is) none;
      second =
          accepted first-1 (call-accepted seen c.first1 one-is)
          (accepted then-2 (call-accepted seen_one c.then2 two_is)
          (repeated again-1 (call-refused seen-two c.again1 three-is) none));
      missing = rw seen-alone.view missing;
      back = rw seen-three.view back;
      held = rw seen-three.view held;
      rest = rw seen-three.view rest;
    }

pub example : Example
example = record { honest = honest; all = all; met = met }
