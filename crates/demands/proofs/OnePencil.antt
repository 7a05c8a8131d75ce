-- Two outcomes of a production of the second reader are one: its promise tells what was found, and that tells the answer. Assumes nothing.
use Rattle.std.proofs.Common.{Result, Ok, Err}
use Prim.Native.Nat.{ℕ}
use mathlib.Core.Path.{◌≡◌, refl, sym, ap, ◌∙◌}
use mathlib.Core.Bool.{Bool}
use mathlib.Core.List.{List}
use lib.ListN.{length, length-drop}
use native.Mathlib.Omega.{arith}
use Rattle.length.specs.declared.Refusal.{Refusal}
use Rattle.format.specs.Reading.{Finding, found, stopped}
use Rattle.packet.specs.Packet as description
use Rattle.packet_pencil.specs.Bits.{finding, edge_found}
use Rattle.packet_pencil.specs.Items.{OctetTaken, part_found}
use Rattle.packet_pencil.specs.Fields.{header_found}
use Rattle.packet_pencil.specs.Packet.{first_found}
use Rattle.packet_pencil.specs.declared.whole.First.{First}
use Rattle.demands.specs.OneOutcome.OnePencil.{InPencilReader}

-- an answer that what was found gives back
found-one : {A B : Type 0} (seen : A → B) (back : B → A) → ((r : A) → back (seen r) ≡ r) → {told : B} (r q : A) → told ≡ seen r
    → told ≡ seen q
    → r ≡ q
found-one seen back is r q a b = sym (is r) ∙ ap back (sym a ∙ b) ∙ is q

-- ---- what each kind of answer is given back by
abbrev back_of : {A : Type 0} → Finding A → Result (A × ℕ) Refusal
back_of (found a p) = Ok (a, p)
back_of (stopped why) = Err why

finding-back : {A : Type 0} (r : Result (A × ℕ) Refusal) → back_of (finding r) ≡ r
finding-back (Ok x) = refl
finding-back (Err why) = refl

abbrev edge_of : Finding (Unit {0}) → Result ℕ Refusal
edge_of (found a p) = Ok p
edge_of (stopped why) = Err why

edge-back : (r : Result ℕ Refusal) → edge_of (edge_found r) ≡ r
edge-back (Ok p) = refl
edge-back (Err why) = refl

abbrev part_of : Finding (ℕ × ℕ) → Result (ℕ × ℕ × ℕ) Refusal
part_of (found x p) = Ok (x.0, x.1, p)
part_of (stopped why) = Err why

part-back : (r : Result (ℕ × ℕ × ℕ) Refusal) → part_of (part_found r) ≡ r
part-back (Ok x) = refl
part-back (Err why) = refl

abbrev header_of : Finding description.Header → Result (ℕ × Bool × ℕ) Refusal
header_of (found h p) = Ok (h.type, h.present, p)
header_of (stopped why) = Err why

header-back : (r : Result (ℕ × Bool × ℕ) Refusal) → header_of (header_found r) ≡ r
header-back (Ok x) = refl
header-back (Err why) = refl

abbrev first_of : Finding description.First → Result First Refusal
first_of (found f p) = Ok (record { kind = f.kind; value = f.value; present = f.present; next = p })
first_of (stopped why) = Err why

first_back : (r : Result First Refusal) → first_of (first_found r) ≡ r
first_back (Ok x) = refl
first_back (Err why) = refl

-- ---- the productions
finding-one : {A : Type 0} {told : Finding A} (r q : Result (A × ℕ) Refusal) → told ≡ finding r → told ≡ finding q → r ≡ q
finding-one = found-one finding back_of finding-back

-- an octet is told by what stands from there on
octet-one : (s : List ℕ) (at r q : ℕ) → OctetTaken s at r → OctetTaken s at q → r ≡ q
octet-one s at r q a b =
    let left = sym (length-drop r s) ∙ ap length (a.rest ∙ sym b.rest) ∙ length-drop q s in
    omega (arith, left, a.inside, b.inside)

pub in-pencil-reader : InPencilReader
in-pencil-reader =
    record {
      bit = λ s item at r q a b. finding-one r q a.answer b.answer;
      flag = λ s item at r q a b. finding-one r q a.answer b.answer;
      align = λ s at r q a b. found-one edge_found edge_of edge-back r q (a.answer 0) (b.answer 0);
      t30_indicator = λ named s item at r q a b. finding-one r q a.answer b.answer;
      t30_data = λ named s item at r q a b. finding-one r q a.answer b.answer;
      field_type = λ named s item at r q a b. finding-one r q a.answer b.answer;
      octet = octet-one;
      count = λ s at r q a b. finding-one r q (a.answer 0) (b.answer 0);
      size = λ s at r q a b. finding-one r q (a.answer 0) (b.answer 0);
      field_data = λ s at r q a b. found-one part_found part_of part-back r q (a.answer 0) (b.answer 0);
      header = λ named s at r q a b. found-one header_found header_of header-back r q a.answer b.answer;
      start = λ named s at r q a b. found-one first_found first_of first_back r q (a.answer 0) (b.answer 0);
    }
