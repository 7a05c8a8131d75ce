-- The worked refusal of solve, computed: at octet 1 the two known members have the exclusive or BB, and the message has 0. Assumes nothing.
use Prim.Native.Nat.{ℕ, ◌+◌}
use mathlib.Core.Path.{◌≡◌, refl, sym, ap, subst, ◌∙◌}
use mathlib.Core.List.Memᴰ.{head as here}
use mathlib.Core.List.{List, [], ◌∷◌, Memᴰ as Among}
use lib.ListN.{get_or}
use lib.Bits.{bit_xor}
use native.Mathlib.Omega.{arith}
use Rattle.octets.specs.Place.{tab}
use Rattle.octets.specs.ExclusiveOr.{xor_at, exclusive_or}
use Rattle.length.specs.Answers.{done}
use Rattle.length.specs.Length.{length_at, allowed, length_within}
use Rattle.datagram.specs.Carried.{spares, parity, Carried}
use Rattle.datagram.specs.Read.{octet_at, item_at, items_at, end_of, spares_at, parity_at, extra_at, number_of, whole_of, read_datagram}
use Rattle.datagram.specs.Read.{carried_by}
use Rattle.session.specs.Cells.{Cell, received, repaired, filled_cell, cell_at, is_unknown, kept_before}
use Rattle.session.specs.Members.{members_of}
use Rattle.session.specs.Repair.{Message, passing, usable, first_usable, mended, fill, repair_f, repair}
use Rattle.session.specs.Held.{messages_of, messages_in_row, held_messages}
use Rattle.session.specs.View.{View, fresh_view}
use Rattle.session.specs.Offer as offers
use Rattle.session.specs.Offer.{keep, keep_spares, accept, offered}
use Rattle.session_held.proofs.Laws.{in-ranges-true}
use Rattle.solve.specs.Equations.{Solution, Unsolvable}
use Rattle.solve.proofs.Laws.{known_at, equation-at}
use Rattle.session_calls.specs.SolverClaims.{HasNone}
use Rattle.session_calls.proofs.SolverClaims as solver
use Rattle.demands.specs.Demand1.CutShortExample.{long_datagram1, short_datagram2, CutShortExample}
use Rattle.demands.proofs.Calling.{fresh-seen}
use Rattle.demands.proofs.OfferedTo.{then-seen}

-- ---- what arrives, and the sessions after it
abbrev carried1 : Carried
carried1 = record { number = 1; packet = 0xAA ∷ 0xBB ∷ []; extra = spares [] }

abbrev carried2 : Carried
carried2 = record { number = 2; packet = 0x06 ∷ []; extra = parity 2 ((0x01 ∷ []) ∷ []) }

abbrev with1 : View
with1 = accept 1 carried1 fresh_view

abbrev with12 : View
with12 = accept 2 carried2 with1

takes-1 : offers.offer long_datagram1 fresh_view ≡ done with1
unfolding offers.offer read_datagram carried_by number_of whole_of extra_at spares_at parity_at items_at item_at length_within octet_at
    allowed end_of
    length_at offered fresh_view
takes-1 = refl

takes-2 : offers.offer short_datagram2 with1 ≡ done with12
unfolding offers.offer read_datagram carried_by number_of whole_of extra_at spares_at parity_at items_at item_at length_within octet_at
    allowed end_of
    length_at offered accept fresh_view
takes-2 = refl

record Cells : Type 0 where
  back0 : cell_at with12.cells kept_before ≡ filled_cell 2 repaired (0xAB ∷ [])
  there1 : cell_at with12.cells (kept_before + 1) ≡ filled_cell 1 received (0xAA ∷ 0xBB ∷ [])

cells : Cells
unfolding fresh_view accept keep keep_spares tab xor_at exclusive_or members_of passing usable first_usable mended fill repair_f repair
    messages_of
    messages_in_row held_messages
cells = record { back0 = refl; there1 = refl }

-- ---- the equation
abbrev short : Message
short = record { members = 33 ∷ 32 ∷ []; octets = 0x01 ∷ [] }

held-short : held_messages with12.held ≡ short ∷ []
unfolding fresh_view accept tab members_of messages_of messages_in_row held_messages
held-short = refl

module _ (x : ℕ → List ℕ) (s : Solution with12.cells (held_messages with12.held) x) where
  octet-0 : get_or (x 32) 1 0 ≡ 0
  octet-0 =
      known_at s 32 1 (omega arith) (ap (λ (c : Cell). is_unknown c.state) cells.back0)
      ∙ ap (λ (c : Cell). get_or c.octets 1 0) cells.back0

  octet-1 : get_or (x 33) 1 0 ≡ 0xBB
  octet-1 =
      known_at s 33 1 (omega arith) (ap (λ (c : Cell). is_unknown c.state) cells.there1)
      ∙ ap (λ (c : Cell). get_or c.octets 1 0) cells.there1

  sum_is : bit_xor (get_or (x 33) 1 0) (bit_xor (get_or (x 32) 1 0) 0) ≡ 0
  unfolding xor_at
  sum_is = equation-at s short (subst (Among short) (sym held-short) (here refl)) 1 (omega arith)

  no-solution : ⊥
  no-solution =
      let e : bit_xor 0xBB (bit_xor 0 0) ≡ 0 = rw (octet-1, octet-0) at sum_is in
      let z : ◌≡◌ {A = ℕ} 0xBB 0 = e in
      omega arith

none-12 : Unsolvable with12.cells (held_messages with12.held)
none-12 x s = no-solution x s

pub cut-short-example : CutShortExample
cut-short-example s one two last c =
    let seen = fresh-seen s c.start in
    let seen-1 = then-seen seen c.first1 (done with1) takes-1 in
    let seen-2 = then-seen seen-1 c.then2 (done with12) takes-2 in
    let none : HasNone two.session = rw seen-2.view none-12 in
    let answer =
    ((solver.claims).answers.refused23 two.session last c.then_solve).1 (in-ranges-true seen-2.within, none) in
    record {
      back0 = rw seen-2.view cells.back0;
      answer = answer;
      unchanged = (solver.claims).answers.refused_stays two.session last _ c.then_solve answer;
    }
