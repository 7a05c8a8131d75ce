-- With an honest sender repair is right: where every known number has the sender's packet up to zeros at the end, and every
-- message is the exclusive or of its members, each number that repair fills has the sender's packet up to zeros too. At each
-- place the other members cancel, and the message is as long as the longest member. Assumes nothing.
use Prim.Native.Nat.{ℕ, ◌≤◌}
use mathlib.Core.Path.{◌≡◌, refl, sym, ap, ap₂, ◌∙◌, subst}
use mathlib.Core.Logic.{⊎_elim}
use mathlib.Core.Bool.{true, not}
use mathlib.Core.List.Memᴰ
use mathlib.Core.List.{List, ◌∷◌, map}
use lib.ListN.{length, get_or, get_or-eq_default}
use lib.Bits.{bit_xor, xor_zero_r}
use native.Mathlib.Omega.{arith}
use borrow.Author.Tests.{not-true}
use Rattle.octets.specs.ExclusiveOr.{xor_at, longest}
use Rattle.octets.proofs.Laws.{below_or_not, same_or_not, xor-cancel-right, xor_at-same, longest-reaches, exclusive_or-at}
use Rattle.octets.proofs.Laws.{exclusive_or-longest, exclusive_or-past, length-exclusive_or}
use Rattle.session.specs.Cells.{Cell, Makes, cell_at, unknown_at}
use Rattle.session.specs.Repair.{Message, other_members, usable, mended, fill, repair}
use Rattle.session.specs.Honest.{HonestMessage, HonestMessages, UpToZeros, TrueCells}
use Rattle.session.proofs.Passing.{passing-among, xor_at-parted}
use Rattle.session.proofs.Fill.{missing, usable-says, length-fill, length-mended, fill-missing, fill-other, same-unknown}
use Rattle.session.proofs.Search.{found-usable}
use Rattle.session.proofs.Grows.{repair-keeps}

-- ---- one fill
module _ (row : ℕ → List ℕ) (cells : List Cell) (message : Message) (can : usable cells message ≡ true)
    (honest : HonestMessage row (length cells) message) (right : TrueCells row cells) where
  abbrev filled : ℕ
  filled = missing cells message

  -- the message is at least as long as the packet that it mends
  long-enough : length (row filled) ≤ length message.octets
  long-enough =
      let reaches = longest-reaches (row filled) (map row message.members) (Memᴰ.map row (usable-says cells message can).member) in
      omega (arith, ap length honest.sum ∙ length-exclusive_or (longest (map row message.members)) (map row message.members))

  -- at each place the known members have what the sender's have
  others-right : (k : ℕ)
      → xor_at (map (λ p. (cell_at cells p).octets) (other_members cells message)) k ≡ xor_at (map row (other_members cells message)) k
  others-right k =
      xor_at-same (λ p. (cell_at cells p).octets) row (other_members cells message) k
      (λ q m.
      let in-others = passing-among (λ p. not (unknown_at cells p)) message.members m in
      (right q (honest.inside q in-others.0) (not-true (unknown_at cells q) in-others.1)).same k)

  -- the message is the missing packet and the other members
  message-parts : (k : ℕ)
      → get_or message.octets k 0 ≡ bit_xor (get_or (row filled) k 0) (xor_at (map row (other_members cells message)) k)
  unfolding xor_at
  message-parts k =
      ap (λ (l : List ℕ). get_or l k 0) honest.sum
      ∙ exclusive_or-longest (map row message.members) k
      ∙ xor_at-parted (unknown_at cells) row k message.members
      ∙ ap (λ (l : List ℕ). bit_xor (xor_at (map row l) k) (xor_at (map row (other_members cells message)) k))
      (usable-says cells message can).alone
      ∙ ap (λ (x : ℕ). bit_xor x (xor_at (map row (other_members cells message)) k)) (xor_zero_r (get_or (row filled) k 0))

  mended-at : (k : ℕ) → get_or (mended cells message) k 0 ≡ get_or (row filled) k 0
  unfolding mended xor_at
  mended-at k =
      ⊎_elim
      (λ inside.
      exclusive_or-at (length message.octets) (message.octets ∷ map (λ p. (cell_at cells p).octets) (other_members cells message)) k
      inside
      ∙ ap₂ bit_xor (message-parts k) (others-right k)
      ∙ xor-cancel-right (get_or (row filled) k 0) (xor_at (map row (other_members cells message)) k))
      (λ past.
      exclusive_or-past (length message.octets) (message.octets ∷ map (λ p. (cell_at cells p).octets) (other_members cells message)) k
      past
      ∙ sym (get_or-eq_default (row filled) 0 {n = k} (omega (arith, long-enough))))
      (below_or_not k (length message.octets))

  pub mended-right : UpToZeros (mended cells message) (row filled)
  mended-right = record { long = omega (arith, long-enough, length-mended cells message); same = mended-at }

  module _ {made : List ℕ → Cell} (makes : Makes made) where
    pub fill-right : TrueCells row (fill made cells message)
    fill-right p inside k =
        ⊎_elim
        (λ same.
        subst (λ (q : ℕ). UpToZeros (cell_at (fill made cells message) q).octets (row q)) (sym same)
        (subst (λ (octets : List ℕ). UpToZeros octets (row filled))
        (sym (ap (λ (c : Cell). c.octets) (fill-missing made cells message can) ∙ makes.same (mended cells message)))
        mended-right))
        (λ other.
        subst (λ (c : Cell). UpToZeros c.octets (row p)) (sym (fill-other made cells message p other))
        (right p (omega (arith, length-fill made cells message))
        (sym (same-unknown cells (fill made cells message) p (fill-other made cells message p other)) ∙ k)))
        (same_or_not p filled)

-- ---- repair
pub repair-right : {made : List ℕ → Cell} → Makes made → (row : ℕ → List ℕ) (cells : List Cell) (messages : List Message)
    → HonestMessages row (length cells) messages → TrueCells row cells → TrueCells row (repair made cells messages)
repair-right {made} makes row cells messages honest right =
    (repair-keeps made (λ now. (length now ≡ length cells) × TrueCells row now) messages
    (λ now found e kept.
    let got = found-usable now messages found e in (
      length-fill made now found ∙ kept.0,
      fill-right row now found got.1 (rw kept.0 (honest found got.0)) kept.1 makes,
    ))
    cells
    (refl, right)
    ).1
