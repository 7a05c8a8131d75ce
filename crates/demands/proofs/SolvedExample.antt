-- The worked solve, computed: the views up to the solve, and the two messages whose exclusive or has one unknown number. What the solve
-- fills then follows from what is proved of every honest sender. Assumes nothing.
use Prim.Native.Nat.{ℕ, zero, suc, ◌+◌, ◌<◌}
use mathlib.Core.Path.{◌≡◌, refl, sym, ap, subst, ◌∙◌}
use mathlib.Core.List.{List, [], ◌∷◌, Memᴰ as Among}
use mathlib.Core.Bool.{true}
use lib.ListN.{length, get_or}
use native.Mathlib.Omega.{arith}
use Rattle.octets.specs.Place.{tab}
use Rattle.octets.specs.ExclusiveOr.{xor_at, exclusive_or, longest}
use Rattle.length.specs.Answers.{done}
use Rattle.length.specs.Length.{length_at, length_octets, allowed, length_within}
use Rattle.datagram.specs.Carried.{parity, Carried}
use Rattle.datagram.specs.Read.{octet_at, item_at, items_at, end_of, spares_at, parity_at, extra_at, number_of, whole_of, read_datagram}
use Rattle.datagram.specs.Read.{carried_by}
use Rattle.datagram.specs.Write.{number_octets, item_octets, items_octets, counted_octets, datagram_octets}
use Rattle.solve_algebra.specs.Masks.{mask_of}
use Rattle.session.specs.Cells.{filled_cell, repaired, cell_at, kept_before}
use Rattle.session.specs.Members.{members_of}
use Rattle.session.specs.Repair.{Message, passing, usable, first_usable, mended, fill, repair_f, repair}
use Rattle.session.specs.Held.{messages_of, messages_in_row, held_messages}
use Rattle.session.specs.Honest.{UpToZeros}
use Rattle.session.specs.Reached.{Known, Unknown}
use Rattle.session.specs.View.{View, fresh_view}
use Rattle.session.specs.Offer as offers
use Rattle.session.specs.Offer.{keep, keep_spares, accept, offered}
use Rattle.session_held.specs.Table.{view_of}
use Rattle.session_held.specs.declared.Session.{Session}
use Rattle.solve.specs.Equations.{padded}
use Rattle.solve.specs.Claims.{unknown_in}
use Rattle.session_calls.specs.declared.Returned.{Returned}
use Rattle.session_calls.proofs.SolverClaims as solver
use Rattle.sender.specs.Send.{packet_inside}
use Rattle.sender.specs.Carries as carries
use Rattle.sender.specs.Honest.{packet_at, HonestAt, HonestSender}
use Rattle.sender.specs.declared.Settings.TheVariants as settings
use Rattle.demands.specs.Sheet.{packet0, message2, datagram2}
use Rattle.demands.specs.Demand3.Feeding as feeding
use Rattle.demands.specs.Demand3.Feeding.{Near, Fed, sent_at}
use Rattle.demands.specs.Demand3.SolvedExample.{solved_row, over3210, datagram_over4, solved_datagrams, SolvedCalls, SolvedMet}
use Rattle.demands.specs.Demand3.SolvedExample.{SolvedExample}
use Rattle.demands.specs.Requests.Losses.{TogetherIn}
use Rattle.demands.proofs.Calling.{fresh-seen}
use Rattle.demands.proofs.OfferedTo.{then-seen, offers-of}
use Rattle.demands.proofs.Demand3.{fed-seen, demand-3}
use Rattle.demands.proofs.Losses.{fed-same-sent, losses}

-- ---- the sender
sized : (S : ℕ) → S < length solved_row → packet_inside (get_or solved_row S []) ≡ true
sized zero low = refl
sized (suc zero) low = refl
sized (suc (suc zero)) low = refl
sized (suc (suc (suc zero))) low = refl
sized (suc (suc (suc (suc zero)))) low = refl
sized (suc (suc (suc (suc (suc S))))) low = absurd (omega arith)

follow : (S : ℕ) → S < length solved_row → HonestAt solved_row S (get_or solved_datagrams S [])
unfolding datagram_octets number_octets item_octets items_octets counted_octets length_octets carries.spares_from carries.messages_from tab
    members_of packet_at xor_at exclusive_or longest
follow zero low = record { settings = settings.Spares 0; inside = refl; follows = refl }
follow (suc zero) low = record { settings = settings.Spares 0; inside = refl; follows = refl }
follow (suc (suc zero)) low = record { settings = settings.Parity 2 1; inside = refl; follows = refl }
follow (suc (suc (suc zero))) low = record { settings = settings.Spares 0; inside = refl; follows = refl }
follow (suc (suc (suc (suc zero)))) low = record { settings = settings.Parity 4 1; inside = refl; follows = refl }
follow (suc (suc (suc (suc (suc S))))) low = absurd (omega arith)

honest : HonestSender solved_row solved_datagrams
honest = record { packets = sized; places = refl; follow = follow }

-- ---- what arrives, and the sessions after it
abbrev carried2 : Carried
carried2 = record { number = 2; packet = packet0; extra = parity 2 (message2 ∷ []) }

abbrev carried4 : Carried
carried4 = record { number = 4; packet = 0x0C ∷ []; extra = parity 4 (over3210 ∷ []) }

abbrev with2 : View
with2 = accept 2 carried2 fresh_view

abbrev with24 : View
with24 = accept 4 carried4 with2

takes-2 : offers.offer datagram2 fresh_view ≡ done with2
unfolding offers.offer read_datagram carried_by number_of whole_of extra_at spares_at parity_at items_at item_at length_within octet_at
    allowed end_of
    length_at offered fresh_view
takes-2 = refl

takes-4 : offers.offer datagram_over4 with2 ≡ done with24
unfolding offers.offer read_datagram carried_by number_of whole_of extra_at spares_at parity_at items_at item_at length_within octet_at
    allowed end_of
    length_at offered accept fresh_view
takes-4 = refl

near-2 : Near 2 fresh_view
unfolding fresh_view
near-2 = record { ahead = omega arith; behind = omega arith }

near-4 : Near 4 with2
unfolding fresh_view accept
near-4 = record { ahead = omega arith; behind = omega arith }

-- ---- before the solve
record Cells : Type 0 where
  missing0 : Unknown with24.cells kept_before
  missing1 : Unknown with24.cells (kept_before + 1)
  missing3 : Unknown with24.cells (kept_before + 3)

cells : Cells
unfolding fresh_view accept keep keep_spares tab xor_at exclusive_or members_of passing usable first_usable mended fill repair_f repair
    messages_of
    messages_in_row held_messages
cells = record { missing0 = refl; missing1 = refl; missing3 = refl }

-- the two messages, by places of the view
abbrev both : List Message
both = record { members = 33 ∷ 32 ∷ []; octets = message2 } ∷ record { members = 35 ∷ 34 ∷ 33 ∷ 32 ∷ []; octets = over3210 } ∷ []

held_both : held_messages with24.held ≡ both
unfolding fresh_view accept tab members_of messages_of messages_in_row held_messages
held_both = refl

alone-3 : mask_of (unknown_in with24.cells both) ≡ mask_of ((kept_before + 3) ∷ [])
unfolding fresh_view accept keep keep_spares tab xor_at exclusive_or members_of passing usable first_usable mended fill repair_f repair
    messages_of
    messages_in_row held_messages unknown_in mask_of
alone-3 = refl

together-3 : TogetherIn with24 (kept_before + 3)
together-3 = record { chosen = both; held = λ message m. subst (Among message) (sym held_both) m; alone = alone-3 }

sent-3 : sent_at solved_row with24 (kept_before + 3) ≡ 0x0A ∷ []
unfolding fresh_view accept packet_at
sent-3 = refl

-- ---- and after it
met : (s : Session) (two four : Returned (Unit {0})) (last again : Returned (Unit {0})) → SolvedCalls s two four last again
    → SolvedMet four.session last.session last again
met s two four last again c =
    let seen = fresh-seen s c.start in
    let seen-2 = then-seen seen c.first2 (done with2) takes-2 in
    let seen-4 = then-seen seen-2 c.then4 (done with24) takes-4 in
    let one = offers-of solved_row solved_datagrams 2 (omega arith) seen near-2 c.first2 in
    let more = offers-of solved_row solved_datagrams 4 (omega arith) seen-2 near-4 c.then4 in
    let fed : Fed solved_row solved_datagrams four.session = feeding.offered (feeding.offered (feeding.fresh c.start) one) more in
    let unknown : Unknown (view_of four.session).cells (kept_before + 3) = rw seen-4.view cells.missing3 in
    let sent : sent_at solved_row (view_of four.session) (kept_before + 3) ≡ 0x0A ∷ [] = rw seen-4.view sent-3 in
    let known : Known (view_of last.session).cells (kept_before + 3) =
    losses.brought_back solved_row solved_datagrams honest four.session fed last c.then_solve (kept_before + 3) (omega arith)
    (rw seen-4.view together-3) in
    let filled : cell_at (view_of last.session).cells (kept_before + 3)
    ≡ filled_cell 0 repaired (padded (sent_at solved_row (view_of four.session) (kept_before + 3))) =
    losses.fills solved_row solved_datagrams honest four.session fed last c.then_solve (kept_before + 3) unknown known in
    let after : Fed solved_row solved_datagrams last.session = feeding.solved fed c.then_solve in
    let place : sent_at solved_row (view_of last.session) (kept_before + 3) ≡ 0x0A ∷ [] =
    ap (λ (f : ℕ → List ℕ). f (kept_before + 3)) (fed-same-sent honest fed c.then_solve) ∙ sent in
    let sound = (fed-seen after).seen.within.sound in
    let Done-first = losses.never_refused solved_row solved_datagrams honest four.session fed last c.then_solve in
    record {
      fed = after;
      missing0 = rw seen-4.view cells.missing0;
      missing1 = rw seen-4.view cells.missing1;
      missing3 = unknown;
      back3 = filled ∙ ap (λ (l : List ℕ). filled_cell 0 repaired (padded l)) sent;
      sent3 = place;
      right3 =
          subst (λ (l : List ℕ). UpToZeros (cell_at (view_of last.session).cells (kept_before + 3)).octets l) place
          (demand-3.known_right solved_row solved_datagrams honest last.session after (kept_before + 3) (omega (arith, sound.kept)) known);
      filled = Done-first;
      same = (solver.claims).nothing_more four.session last again c.then_solve Done-first c.then_again;
    }

pub solved-example : SolvedExample
solved-example = record { honest = honest; met = met }
