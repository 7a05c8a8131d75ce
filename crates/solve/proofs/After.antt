-- What follows from the meaning alone: a number is known afterwards exactly if it has one value, the numbers afterwards are settled, and
-- no message is usable, so that they hold all that single messages mend. Assumes nothing.
use Prim.Native.Nat.{ℕ, ◌<◌}
use mathlib.Core.Path.{◌≡◌, sym, ap, ◌∙◌}
use mathlib.Core.Logic.{◌↔◌, ⊎_elim}
use mathlib.Core.Bool.{not, true}
use mathlib.Core.List.{List, map, Memᴰ as Among}
use mathlib.Core.Option.{none}
use lib.ListN.{length, get_or}
use lib.Seq.{ext_get_or}
use lib.Bits.{bit_xor, xor_zero_r}
use borrow.Author.Tests.{not-true}
use native.Mathlib.Omega.{arith}
use Rattle.octets.specs.ExclusiveOr.{xor_at}
use Rattle.octets.proofs.Laws.{true-or-false, xor-cancel-right, xor_at-same}
use Rattle.datagram.specs.Sizes.{packet_limit}
use Rattle.session.specs.Cells.{Cell, blank_cell, cell_at, unknown_at, is_unknown}
use Rattle.session.specs.Repair.{Message, other_members, usable, first_usable}
use Rattle.session.specs.Reached.{Known, Unknown, Closed, Reached, DistinctMembers}
use Rattle.session.proofs.Laws.{passing-among, xor_at-parted, Usable, missing, usable-says, usable-of, known-not-unknown, same-unknown}
use Rattle.session.proofs.Laws.{none_found, reached-within}
use Rattle.solve.specs.Equations.{Solution, OneValue}
use Rattle.solve.specs.Solved.{Solved}
use Rattle.solve.proofs.Padded.{lists-same-or-not, equation-at}

module _ {cells : List Cell} {messages : List Message} {after : List Cell} (s : Solved cells messages after) where
  -- what was known is known
  pub stays-known : (p : ℕ) → Known cells p → Known after p
  stays-known p was = same-unknown cells after p (s.kept p was) ∙ was

  -- what is known afterwards has one value
  pub known-one : (p : ℕ) → Known after p → OneValue cells messages p
  known-one p known x y sx sy =
      ⊎_elim
      (λ unknown.
      ⊎_elim (λ same. same)
      (λ differ.
      absurd
      (known-not-unknown after p known
      (same-unknown cells after p (s.left p unknown (λ one. differ (one x y sx sy))) ∙ unknown)))
      (lists-same-or-not (x p) (y p)))
      (λ was. sx.known p was ∙ sym (sy.known p was))
      (true-or-false (unknown_at cells p))

  pub one_known : (p : ℕ) → OneValue cells messages p → Known after p
  one_known p one =
      ⊎_elim (λ unknown. ap (λ (c : Cell). is_unknown c.state) (s.filled p unknown one s.some.0 s.some.1)) (stays-known p)
      (true-or-false (unknown_at cells p))

  -- what is still unknown is as it was
  pub same_left : (p : ℕ) → Unknown cells p → Unknown after p → cell_at after p ≡ cell_at cells p
  same_left p unknown still = s.left p unknown (λ one. known-not-unknown after p (one_known p one) still)

  -- ---- no message is usable afterwards
  module _ (message : Message) (held : Among message messages) (u : Usable after message) where
    abbrev gap : ℕ
    gap = missing after message

    -- the missing member is the message and the other members
    parts : (x : ℕ → List ℕ) → Solution cells messages x → (k : ℕ) → k < packet_limit
        → get_or (x gap) k 0 ≡ bit_xor (get_or message.octets k 0) (xor_at (map x (other_members after message)) k)
    unfolding xor_at
    parts x sx k inside =
        let rest = xor_at (map x (other_members after message)) k in
        sym (xor-cancel-right (get_or (x gap) k 0) rest)
        ∙ ap (λ (v : ℕ). bit_xor v rest)
        (ap (λ (v : ℕ). bit_xor v rest) (sym (xor_zero_r (get_or (x gap) k 0)))
        ∙ sym (ap (λ (l : List ℕ). bit_xor (xor_at (map x l) k) rest) u.alone)
        ∙ sym (xor_at-parted (unknown_at after) x k message.members)
        ∙ equation-at sx message held k inside)

    usable-one : OneValue cells messages gap
    usable-one x y sx sy =
        ext_get_or 0 (x gap) (y gap) (sx.long gap ∙ sym (sy.long gap))
        (λ k below.
        let inside : k < packet_limit = omega (arith, sx.long gap) in
        parts x sx k inside
        ∙ ap (bit_xor (get_or message.octets k 0))
        (xor_at-same x y (other_members after message) k
        (λ q m.
        ap (λ (l : List ℕ). get_or l k 0)
        (known-one q (not-true (unknown_at after q) (passing-among (λ j. not (unknown_at after j)) message.members m).1) x y sx sy)))
        ∙ sym (parts y sy k inside))

  pub not-usable : (message : Message) → Among message messages → usable after message ≡ true → ⊥
  not-usable message held can =
      let u = usable-says after message can in
      known-not-unknown after (missing after message) (one_known (missing after message) (usable-one message held u)) u.unknown

  pub none-usable : first_usable after messages ≡ none
  none-usable =
      none_found after messages
      (λ message held.
      ⊎_elim (λ can. absurd (not-usable message held can)) (λ cannot. cannot) (true-or-false (usable after message)))

  -- ---- what is known is closed under the messages, and so holds all that they reach
  pub solved-closed : DistinctMembers messages → Closed messages (Known after)
  solved-closed distinct message p held some member others =
      ⊎_elim
      (λ unknown. absurd (not-usable message held (usable-of after message p (distinct message held) some member unknown others)))
      (λ known. known)
      (true-or-false (unknown_at after p))

  pub holds-reached : DistinctMembers messages → (p : ℕ) → Reached cells messages p → Known after p
  holds-reached distinct p reached =
      reached-within (Known after) cells messages (λ q k. stays-known q k) (solved-closed distinct) {p = p} reached

-- ---- the meaning settles the numbers
pub solved-unique : {cells : List Cell} {messages : List Message} {one two : List Cell} → Solved cells messages one
    → Solved cells messages two → one ≡ two
solved-unique {cells} {messages} {one} {two} s t = ext_get_or blank_cell one two (s.size ∙ sym t.size) (λ p below. same p)
  where
    same : (p : ℕ) → cell_at one p ≡ cell_at two p
    same p =
        ⊎_elim
        (λ unknown.
        ⊎_elim
        (λ still.
        let not-one : OneValue cells messages p → ⊥ = λ v. known-not-unknown one p (one_known s p v) still in
        s.left p unknown not-one ∙ sym (t.left p unknown not-one))
        (λ known.
        let v = known-one s p known in
        s.filled p unknown v s.some.0 s.some.1 ∙ sym (t.filled p unknown v s.some.0 s.some.1))
        (true-or-false (unknown_at one p)))
        (λ was. s.kept p was ∙ sym (t.kept p was))
        (true-or-false (unknown_at cells p))
