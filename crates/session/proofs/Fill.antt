-- What a usable message says, and what its fill does: the one unknown member, which is in the view, is filled, and
-- every other number stays as it is. Assumes nothing.
use Prim.Native.Nat.{ℕ, ◌≤◌, ◌<◌}
use mathlib.Core.Path.{◌≡◌, refl, sym, ap, ◌∙◌, subst}
use mathlib.Core.Logic.{◌⊎◌, inl, inr, ⊎_elim}
use mathlib.Core.Bool.{true, false≢true}
use mathlib.Core.List.{List, [], ◌∷◌, map, Memᴰ as Among}
use mathlib.Core.List.Memᴰ
use mathlib.Core.List.Memᴰ.{head as here}
use lib.ListN.{length, get_or, length-set, get_or-eq_default}
use lib.Seq.{get_or-set_same, get_or-set_other}
use lib.Dec.{leb}
use borrow.Author.Tests.{leb-true, eqb-true, le-leb, eq-eqb}
use native.Mathlib.Omega.{arith}
use Rattle.octets.proofs.Laws.{below_or_not, same_or_not, true-or-false, and_left, and_right, and_both, length-exclusive_or}
use Rattle.octets.proofs.Laws.{exclusive_or-octet}
use Rattle.session.specs.Cells.{Cell, blank_cell, filled_cell, Makes, cell_at, unknown_at, is_unknown, repaired}
use Rattle.session.specs.Repair.{Message, unknown_members, other_members, usable, mended, fill}
use Rattle.session.specs.Reached.{Known, Unknown, Distinct}
use Rattle.session.proofs.Passing.{passing-among, among-passing, passing-one, list-of-one}

-- the place that a fill fills
abbrev pub missing : List Cell → Message → ℕ
missing cells message = get_or (unknown_members cells message) 0 0

-- ---- known and unknown
-- an unknown place is in the view: a place outside counts as known
pub unknown-inside : (cells : List Cell) (p : ℕ) → Unknown cells p → p < length cells
unknown-inside cells p u =
    ⊎_elim (λ inside. inside)
    (λ outside. absurd (false≢true (ap (λ (c : Cell). is_unknown c.state) (sym (get_or-eq_default cells blank_cell outside)) ∙ u)))
    (below_or_not p (length cells))

-- no place is both
pub known-not-unknown : (cells : List Cell) (p : ℕ) → Known cells p → Unknown cells p → ⊥
known-not-unknown cells p k u = false≢true (sym k ∙ u)

-- a number whose cell is the same is known or unknown as it was
pub same-unknown : (cells after : List Cell) (p : ℕ) → cell_at after p ≡ cell_at cells p → unknown_at after p ≡ unknown_at cells p
same-unknown cells after p e = ap (λ (c : Cell). is_unknown c.state) e

-- ---- usable
pub record Usable (cells : List Cell) (message : Message) : Type 0 where
  pub length-one : 1 ≤ length message.octets
  pub alone : unknown_members cells message ≡ missing cells message ∷ []
  pub member : Among (missing cells message) message.members
  pub unknown : Unknown cells (missing cells message)
  pub inside : missing cells message < length cells
  pub others : (q : ℕ) → Among q message.members → (q ≡ missing cells message → ⊥) → Known cells q

pub usable-says : (cells : List Cell) (message : Message) → usable cells message ≡ true → Usable cells message
unfolding usable
usable-says cells message e =
    record {
      length-one = leb-true 1 (length message.octets) (and_left (leb 1 (length message.octets)) _ e);
      alone = alone;
      member = at.0;
      unknown = at.1;
      inside = unknown-inside cells (missing cells message) at.1;
      others = others;
    }
  where
    alone : unknown_members cells message ≡ missing cells message ∷ []
    alone =
        let exactly-one = and_right (leb 1 (length message.octets)) _ e in
        list-of-one (unknown_members cells message) (omega (arith, eqb-true, leb-true))

    at : Among (missing cells message) message.members × Unknown cells (missing cells message)
    at = passing-among (unknown_at cells) message.members (rw alone (here refl))

    others : (q : ℕ) → Among q message.members → (q ≡ missing cells message → ⊥) → Known cells q
    others q m other =
        ⊎_elim
        (λ u. absurd (other (Memᴰ.eq_of_singleton (rw alone at (among-passing (unknown_at cells) message.members m u)))))
        (λ k. k)
        (true-or-false (unknown_at cells q))

-- a message is usable if one member is unknown, all others are known and none is in it twice
pub usable-of : (cells : List Cell) (message : Message) (p : ℕ) → Distinct message.members → 1 ≤ length message.octets
    → Among p message.members → Unknown cells p
    → ((q : ℕ) → Among q message.members → (q ≡ p → ⊥) → Known cells q) → usable cells message ≡ true
unfolding usable
usable-of cells message p d some m u others =
    and_both (le-leb 1 (length message.octets) some)
    (eq-eqb (length (unknown_members cells message)) 1 (ap length (passing-one (unknown_at cells) message.members p d m u others)))

-- ---- fill, however it is made
module _ (made : List ℕ → Cell) where
  pub length-fill : (cells : List Cell) (message : Message) → length (fill made cells message) ≡ length cells
  unfolding fill
  length-fill cells message = length-set cells _ _

  -- the missing member becomes what is made of the octets that mend
  pub fill-missing : (cells : List Cell) (message : Message) → usable cells message ≡ true
      → cell_at (fill made cells message) (missing cells message) ≡ made (mended cells message)
  unfolding fill
  fill-missing cells message e =
      get_or-set_same cells (missing cells message) (made (mended cells message)) blank_cell
      (usable-says cells message e).inside

  -- every other number stays
  pub fill-other : (cells : List Cell) (message : Message) (q : ℕ) → (q ≡ missing cells message → ⊥)
      → cell_at (fill made cells message) q ≡ cell_at cells q
  unfolding fill
  fill-other cells message q other = get_or-set_other cells (missing cells message) q _ blank_cell other

  -- what is known is never written over (rule 9.9)
  pub fill_known : (cells : List Cell) (message : Message) (q : ℕ) → usable cells message ≡ true → Known cells q
      → cell_at (fill made cells message) q ≡ cell_at cells q
  fill_known cells message q e k =
      fill-other cells message q
      (λ same. known-not-unknown cells q k (ap (unknown_at cells) same ∙ (usable-says cells message e).unknown))

  -- known after a fill: known before, or the missing member
  pub known-fill : (cells : List Cell) (message : Message) (q : ℕ) → Known (fill made cells message) q
      → Known cells q ⊎ (q ≡ missing cells message)
  known-fill cells message q k =
      ⊎_elim (λ same. inr same)
      (λ other. inl (sym (same-unknown cells (fill made cells message) q (fill-other cells message q other)) ∙ k))
      (same_or_not q (missing cells message))

-- the repair of a session: a fill is a repaired number (rule 11.3)
pub makes-repaired : (S : ℕ) → Makes (filled_cell S repaired)
makes-repaired S = record { known = λ octets. refl; same = λ octets. refl }

-- the fill's octets are as many as the message's
pub length-mended : (cells : List Cell) (message : Message) → length (mended cells message) ≡ length message.octets
unfolding mended
length-mended cells message = length-exclusive_or (length message.octets) _

-- and they are octets where the message's and the numbers' are
pub mended-octet : (cells : List Cell) (message : Message) (k : ℕ) → get_or message.octets k 0 < 256
    → ((p : ℕ) → get_or (cell_at cells p).octets k 0 < 256) → get_or (mended cells message) k 0 < 256
unfolding mended
mended-octet cells message k small each =
    exclusive_or-octet (length message.octets) (message.octets ∷ map (λ p. (cell_at cells p).octets) (other_members cells message)) k
    (λ l m.
    ⊎_elim (λ same. rw same small)
    (λ rest. of-member l (Memᴰ.of_map (λ p. (cell_at cells p).octets) (other_members cells message) rest))
    (Memᴰ.cases_cons m))
  where
    of-member : (l : List ℕ) → (p : ℕ) × Among p (other_members cells message) × ((cell_at cells p).octets ≡ l) → get_or l k 0 < 256
    of-member l t = subst (λ (x : List ℕ). get_or x k 0 < 256) t.2 (each t.0)
