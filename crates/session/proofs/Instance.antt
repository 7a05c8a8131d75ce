-- The worked instances of repair and of a burst. Assumes nothing.
use Prim.Native.Nat.{ℕ, zero, suc, ◌<◌, ◌≤◌}
use mathlib.Core.Path.{◌≡◌, refl, sym, ap, subst, ◌∙◌}
use mathlib.Core.Logic.{⊎_elim}
use mathlib.Core.Bool.{Bool, true, false, false≢true, cond}
use mathlib.Core.List.{List, [], ◌∷◌, map, Memᴰ as Among}
use mathlib.Core.List.Memᴰ
use lib.ListN.{length, get_or}
use lib.Dec.{eqb}
use native.Mathlib.Omega.{arith}
use borrow.Author.Tests.{eqb-true}
use Rattle.octets.specs.Place.{tab, all_below}
use Rattle.octets.specs.ExclusiveOr.{xor_at, exclusive_or, longest}
use Rattle.octets.proofs.Laws.{all_below-at}
use Rattle.session.specs.Cells.{Cell, Makes, unknown_at}
use Rattle.session.specs.Members.{members_of, InReach}
use Rattle.session.specs.Held.{message_at}
use Rattle.session.specs.Claims.{BurstAt, SentBefore}
use Rattle.session.specs.Repair.{Message, passing, usable, first_usable, mended, fill, repair_f, repair}
use Rattle.session.specs.Reached.{Known, Unknown, Closed, Distinct, nothing, fresh, Reached, known, by_message}
use Rattle.session.specs.Honest.{message_over, HonestMessage, HonestMessages, HonestHeld, UpToZeros, TrueCells}
use Rattle.session.specs.RepairCases.{filled, holding}
use Rattle.session.specs.Instance.{sent_row, first_lost, first_back, over_first_two, empty_message, RepairInstance}
use Rattle.session.specs.Instance.{start_row, start_cells, start_held, BurstInstance}
use Rattle.session.proofs.Fill.{makes-repaired}
use Rattle.session.proofs.Honest.{repair-right}
use Rattle.session.proofs.Least.{reached-known}
use Rattle.session.proofs.MendedBurst.{burst-repaired}

-- ---- three places and one message
one_or_zero : {p : ℕ} → Among p (1 ∷ 0 ∷ []) → p < 2
one_or_zero m =
    ⊎_elim (λ (e : _ ≡ 1). omega (arith, e)) (λ rest. let e = Memᴰ.eq_of_singleton rest in omega (arith, e)) (Memᴰ.cases_cons m)

honest : HonestMessages sent_row 3 over_first_two
unfolding xor_at exclusive_or longest tab
honest message m =
    subst (HonestMessage sent_row 3) (sym (Memᴰ.eq_of_singleton m))
    (record { sum = refl; inside = λ p at. let low = one_or_zero at in omega arith })

distinct : (message : Message) → Among message over_first_two → Distinct message.members
distinct message m =
    subst (λ (x : Message). Distinct x.members) (sym (Memᴰ.eq_of_singleton m))
    (fresh (λ at. let e = Memᴰ.eq_of_singleton at in omega (arith, e)) (fresh Memᴰ.not-nil nothing))

same : (x : List ℕ) → UpToZeros x x
same x = record { long = omega arith; same = λ k. refl }

before : TrueCells sent_row first_lost
before zero low k = absurd (false≢true (sym k))
before (suc zero) low k = same _
before (suc (suc zero)) low k = same _
before (suc (suc (suc p))) low k = absurd (omega arith)

reached : Reached first_lost over_first_two 0
reached =
    by_message (record { members = 1 ∷ 0 ∷ []; octets = 0xC6 ∷ 0x01 ∷ [] }) (Among.head refl) (omega arith)
    (Among.tail (Among.head refl))
    (λ q at other.
    ⊎_elim (λ (e : q ≡ 1). known (rw e refl)) (λ rest. absurd (other (Memᴰ.eq_of_singleton rest))) (Memᴰ.cases_cons at))

empty-adds : Closed empty_message (λ (p : ℕ). p ≡ 1)
empty-adds message p m long at others =
    let e = ap (λ (x : Message). length x.octets) (Memᴰ.eq_of_singleton m) in
    absurd (omega (arith, e, long))

brings-back : repair (filled 2) first_lost over_first_two ≡ first_back
unfolding repair repair_f first_usable usable passing mended fill tab xor_at exclusive_or longest
brings-back = refl

pub repair-instance : RepairInstance
repair-instance =
    record {
      makes = makes-repaired 2;
      honest = honest;
      distinct = distinct;
      before = before;
      reached = reached;
      empty_adds = empty-adds;
      mended = brings-back;
      known =
          subst (λ (cells : List Cell). Known cells 0) brings-back
          (reached-known (makes-repaired 2) first_lost over_first_two distinct 0 reached);
      after = subst (TrueCells sent_row) brings-back (repair-right (makes-repaired 2) sent_row first_lost over_first_two honest before);
    }

-- ---- at the start of a session
only-first : (p : ℕ) → p < 34 → Unknown start_cells p → p ≡ 32
unfolding all_below
only-first p low unknown =
    let one : cond (unknown_at start_cells p) (eqb p 32) true ≡ true =
    all_below-at 34 (λ q. cond (unknown_at start_cells q) (eqb q 32) true) refl p low in
    eqb-true p 32 (ap (λ (b : Bool). cond b (eqb p 32) true) (sym unknown) ∙ one)

sums : (i : ℕ) → i < 1
    → get_or ((0xC6 ∷ 0x01 ∷ []) ∷ []) i []
    ≡ message_over (map start_row (message_at 34 (holding 2 ((0xC6 ∷ 0x01 ∷ []) ∷ [])) i).members)
unfolding members_of tab xor_at exclusive_or longest
sums zero low = refl
sums (suc i) low = absurd (omega arith)

held : HonestHeld start_row 34 (holding 2 ((0xC6 ∷ 0x01 ∷ []) ∷ []))
held = record { reach = omega arith; sums = sums }

sent : SentBefore start_row start_cells 34
sent p low unknown = rw (only-first p low unknown) (omega arith)

burst : BurstAt start_cells 34 2 1 32
burst p at unknown =
    let low : p < 34 = at.before in
    let e = only-first p low unknown in
    (omega (arith, e), omega (arith, e))

inside : InReach 34 2 1 32
inside = record { above = omega arith; before = omega arith }

pub burst-instance : BurstInstance
burst-instance =
    record {
      lost = refl;
      honest = held;
      sent = sent;
      burst = burst;
      inside = inside;
      known = burst-repaired (filled 2) (makes-repaired 2) start_row start_cells start_held 2 32 (omega arith) held sent burst 32 inside;
    }
