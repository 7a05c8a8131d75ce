-- The worked case: k = 2, and two lost in a row. Assumes nothing.
use Prim.Native.Nat.{ℕ, ◌%◌}
use mathlib.Core.Path.{◌≡◌, refl, sym, ap, ap₂, subst, ◌∙◌}
use mathlib.Core.List.{List, [], ◌∷◌}
use lib.ListN.{length}
use native.Mathlib.Omega.{arith}
use Rattle.octets.specs.Place.{tab}
use Rattle.length.specs.Length.{length_octets}
use Rattle.length.specs.Tables.{unless}
use Rattle.datagram.specs.Write.{number_octets, item_octets, items_octets, counted_octets, datagram_octets}
use Rattle.session.specs.View.{numbers}
use Rattle.sender.specs.Carries.{spares_from}
use Rattle.sender.specs.Send.{datagram_to_send}
use Rattle.sender_to_modem.specs.Marks.{Mark, arrives, lost, NeverMoreInARow, how_many_arrive, how_many_lost}
use Rattle.sender_to_modem.specs.Transfer.{Transfer, Ran}
use Rattle.sender_to_modem.specs.Instance.{four_marks, four_packets, WorkedOut, Instance}
use Rattle.sender_to_modem.proofs.Lines.{pending, pending_from, Steady, steady, few-lost}
use Rattle.sender_to_modem.proofs.Modem.{wanted}
use Rattle.sender_to_modem.proofs.Sold.{holds, count-sent}
use Rattle.sender_to_modem.proofs.Host.{hosted-transfers}

four-few : NeverMoreInARow 2 four_marks
unfolding how_many_lost
four-few = few-lost 2 four_marks (omega arith)

worked-out : (x : Transfer) → Ran 2 x → x.line ≡ four_marks → x.packets ≡ four_packets → WorkedOut x
unfolding tab pending_from how_many_arrive how_many_lost
worked-out x ran line packets =
    let good : Steady 2 x.line = subst (Steady 2) (sym line) (steady 2 four_marks four-few) in
    let s = (holds ran good).stands in
    let none : pending x.line ≡ 0 = ap pending line in
    let left : s.left ≡ 4 = omega (arith, s.marks, ap length line) in
    let filled : s.filled ≡ 2 = omega (arith, s.losses, ap how_many_lost line) in
    record {
      modem =
          s.modem_has
          ∙ ap (λ (n : ℕ). tab n (wanted x.line x.packets)) left
          ∙ ap₂ (λ (l : List Mark) (p : List (List ℕ)). tab 4 (wanted l p)) line packets;
      counts =
          s.counts
          ∙ ap₂ (λ (a b : ℕ). record { received = a; spare = b; repaired = 0; lost = 0 }) (ap how_many_arrive line) filled;
      base = s.ready.base ∙ ap (λ (n : ℕ). n % numbers) left;
      sent = count-sent ran ∙ ap length packets;
    }

pub worked : Instance
unfolding datagram_to_send unless spares_from tab length_octets number_octets item_octets items_octets counted_octets datagram_octets
worked =
    record {
      few = four-few;
      last = record { before = arrives ∷ lost ∷ lost ∷ []; last = refl };
      datagram = refl;
      transfer = λ s t hosted. hosted-transfers 2 (omega arith) four_marks four_packets s t hosted four-few (omega arith);
      worked_out = worked-out;
    }
