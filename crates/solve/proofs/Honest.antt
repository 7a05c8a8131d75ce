-- With an honest sender the sender's packets, padded with zeros, satisfy all equations. So the call is never refused with 23, and each
-- fill is the sender's packet with zeros. Assumes nothing.
use Prim.Native.Nat.{ℕ, ◌≤◌, ◌<◌}
use mathlib.Core.Path.{◌≡◌, sym, ap, ◌∙◌, subst}
use mathlib.Core.Logic.{⊎_elim}
use mathlib.Core.Bool.{Bool, cond}
use mathlib.Core.List.{List, [], map, Memᴰ as Among}
use lib.ListN.{length, get_or, get_or-eq_default}
use lib.Dec.{ltb}
use borrow.Author.Tests.{lt-ltb, le-ltb}
use native.Mathlib.Omega.{arith}
use Rattle.octets.specs.ExclusiveOr.{xor_at, exclusive_or}
use Rattle.octets.proofs.Laws.{tab-ext, below_or_not, true-or-false, xor_at-same, exclusive_or-longest}
use Rattle.datagram.specs.Sizes.{packet_limit}
use Rattle.session.specs.Cells.{Cell, blank_cell, filled_cell, repaired, cell_at, unknown_at}
use Rattle.session.specs.Repair.{Message}
use Rattle.session.specs.Reached.{Known, Unknown}
use Rattle.session.specs.Honest.{HonestMessages, UpToZeros, TrueCells}
use Rattle.session.proofs.Laws.{unknown-inside}
use Rattle.solve.specs.Equations.{padded, Solution}
use Rattle.solve.specs.Solved.{Solved}
use Rattle.solve.specs.Claims.{HonestView}
use Rattle.solve.proofs.Padded.{padded-at, length-padded, padded-same, padded-zeros}
use Rattle.solve.proofs.After.{known-one}

-- the sender's octets in view; a place outside has none
unfoldable pub sent_in : (ℕ → List ℕ) → ℕ → ℕ → List ℕ
sent_in row size p = cond (ltb p size) (row p) []

pub sent-inside : (row : ℕ → List ℕ) (size p : ℕ) → p < size → sent_in row size p ≡ row p
unfolding sent_in
sent-inside row size p inside = ap (λ (t : Bool). cond t (row p) []) (lt-ltb p size inside)

sent-outside : (row : ℕ → List ℕ) (size p : ℕ) → size ≤ p → sent_in row size p ≡ []
unfolding sent_in
sent-outside row size p outside = ap (λ (t : Bool). cond t (row p) []) (le-ltb p size outside)

module _ (row : ℕ → List ℕ) (cells : List Cell) (messages : List Message) (h : HonestView row cells messages) where
  abbrev pub sent : ℕ → List ℕ
  sent p = padded (sent_in row (length cells) p)

  -- the sender's packets are right where a number is known
  sent-known : (p : ℕ) → Known cells p → sent p ≡ padded (cell_at cells p).octets
  sent-known p known =
      ⊎_elim
      (λ inside.
      ap padded (sent-inside row (length cells) p inside)
      ∙ padded-same (row p) (cell_at cells p).octets (λ k. sym ((h.cells_true p inside known).same k)))
      (λ outside.
      ap padded (sent-outside row (length cells) p outside)
      ∙ ap (λ (c : Cell). padded c.octets) (sym (get_or-eq_default cells blank_cell outside)))
      (below_or_not p (length cells))

  pub sent-solution : Solution cells messages sent
  unfolding exclusive_or padded
  sent-solution =
      record {
        long = λ p. length-padded (sent_in row (length cells) p);
        known = sent-known;
        equation = λ message held.
            tab-ext packet_limit (xor_at (map sent message.members)) (λ k. get_or message.octets k 0)
            (λ k inside.
            xor_at-same sent row message.members k
            (λ p m.
            padded-at (sent_in row (length cells) p) k inside
            ∙ ap (λ (l : List ℕ). get_or l k 0) (sent-inside row (length cells) p ((h.messages_honest message held).inside p m)))
            ∙ sym (exclusive_or-longest (map row message.members) k)
            ∙ ap (λ (l : List ℕ). get_or l k 0) (sym (h.messages_honest message held).sum));
      }

  -- each fill is the sender's packet with zeros
  module _ (after : List Cell) (s : Solved cells messages after) where
    pub honest-fill : (p : ℕ) → Unknown cells p → Known after p → cell_at after p ≡ filled_cell 0 repaired (padded (row p))
    honest-fill p unknown known =
        s.filled p unknown (known-one s p known) sent sent-solution
        ∙ ap (λ (l : List ℕ). filled_cell 0 repaired (padded l)) (sent-inside row (length cells) p (unknown-inside cells p unknown))

    pub solved-right : TrueCells row after
    solved-right p inside known =
        ⊎_elim
        (λ unknown.
        subst (λ (c : Cell). UpToZeros c.octets (row p)) (sym (honest-fill p unknown known))
        (padded-zeros (row p) (h.short p (unknown-inside cells p unknown))))
        (λ was.
        subst (λ (c : Cell). UpToZeros c.octets (row p)) (sym (s.kept p was))
        (h.cells_true p (omega (arith, s.size)) was))
        (true-or-false (unknown_at cells p))
