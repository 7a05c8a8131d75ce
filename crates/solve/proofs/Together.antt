-- Messages that together leave one unknown number alone give it one value: what two of them have is gone in their exclusive or. Assumes
-- nothing.
use Prim.Native.Nat.{ℕ, ◌<◌}
use mathlib.Core.Path.{◌≡◌, refl, sym, ap, ap₂, ◌∙◌}
use mathlib.Core.Logic.{⊎_elim}
use mathlib.Core.Bool.{not}
use mathlib.Core.List.{List, [], ◌∷◌, ◌++◌, map, Memᴰ as Among}
use mathlib.Core.List.Memᴰ
use mathlib.Core.List.Memᴰ.{head as here}
use mathlib.Core.List.Memᴰ.{tail as further}
use lib.ListN.{length, get_or}
use lib.Seq.{ext_get_or}
use lib.Bits.{bit_xor, xor_zero_r}
use borrow.Author.Tests.{not-true}
use native.Mathlib.Omega.{arith}
use Rattle.octets.specs.ExclusiveOr.{xor_at}
use Rattle.octets.proofs.Laws.{xor_assoc, xor-cancel-right, xor_at-same}
use Rattle.datagram.specs.Sizes.{packet_limit}
use Rattle.solve_algebra.specs.Sums.{sum_over}
use Rattle.solve_algebra.specs.Masks.{mask_places, has_place, mask_of}
use Rattle.solve_algebra.proofs.MasksLaws.{sum-mask}
use Rattle.session.specs.Cells.{Cell, cell_at, unknown_at}
use Rattle.session.specs.Repair.{Message, unknown_members, other_members}
use Rattle.session.proofs.Laws.{passing-among, xor_at-parted}
use Rattle.solve.specs.Equations.{Solution, OneValue}
use Rattle.solve.specs.Claims.{unknown_in, Together}
use Rattle.solve.proofs.Padded.{known_at, equation-at}

xor_at-append : (x : ℕ → List ℕ) (l rest : List ℕ) (k : ℕ)
    → xor_at (map x (l ++ rest)) k ≡ bit_xor (xor_at (map x l) k) (xor_at (map x rest) k)
unfolding xor_at
xor_at-append x [] rest k = refl
xor_at-append x (p ∷ l) rest k =
    ap (bit_xor (get_or (x p) k 0)) (xor_at-append x l rest k)
    ∙ sym (xor_assoc (get_or (x p) k 0) (xor_at (map x l) k) (xor_at (map x rest) k))

module _ {cells : List Cell} {messages : List Message} {x y : ℕ → List ℕ} (sx : Solution cells messages x)
    (sy : Solution cells messages y) (k : ℕ) (inside : k < packet_limit) where
  -- two solutions have the same exclusive or over the known members of a message, and so over its unknown members
  others_same : (message : Message) → xor_at (map x (other_members cells message)) k ≡ xor_at (map y (other_members cells message)) k
  others_same message =
      xor_at-same x y (other_members cells message) k
      (λ p m.
      let known = not-true (unknown_at cells p) (passing-among (λ q. not (unknown_at cells q)) message.members m).1 in
      known_at sx p k inside known ∙ sym (known_at sy p k inside known))

  unknown-part : {z : ℕ → List ℕ} → Solution cells messages z → (message : Message) → Among message messages
      → xor_at (map z (unknown_members cells message)) k ≡ bit_xor (get_or message.octets k 0) (xor_at (map z (other_members cells message)) k)
  unknown-part {z} sz message held =
      sym (xor-cancel-right (xor_at (map z (unknown_members cells message)) k) (xor_at (map z (other_members cells message)) k))
      ∙ ap (λ (v : ℕ). bit_xor v (xor_at (map z (other_members cells message)) k))
      (sym (xor_at-parted (unknown_at cells) z k message.members) ∙ equation-at sz message held k inside)

  unknown-same : (chosen : List Message) → ((message : Message) → Among message chosen → Among message messages)
      → xor_at (map x (unknown_in cells chosen)) k ≡ xor_at (map y (unknown_in cells chosen)) k
  unfolding unknown_in
  unknown-same [] held = refl
  unknown-same (message ∷ more) held =
      xor_at-append x (unknown_members cells message) (unknown_in cells more) k
      ∙ ap₂ bit_xor
      (unknown-part sx message (held message (here refl))
      ∙ ap (bit_xor (get_or message.octets k 0)) (others_same message)
      ∙ sym (unknown-part sy message (held message (here refl))))
      (unknown-same more (λ other m. held other (further m)))
      ∙ sym (xor_at-append y (unknown_members cells message) (unknown_in cells more) k)

-- their members are in view
chosen-inside : (cells : List Cell) (chosen : List Message)
    → ((message : Message) (p : ℕ) → Among message chosen → Among p message.members → p < mask_places)
    → (p : ℕ) → Among p (unknown_in cells chosen) → p < mask_places
unfolding unknown_in
chosen-inside cells [] inside p m = absurd (Memᴰ.not-nil m)
chosen-inside cells (message ∷ more) inside p m =
    ⊎_elim (λ at. inside message p (here refl) (passing-among (unknown_at cells) message.members at).0)
    (chosen-inside cells more (λ other q there. inside other q (further there)) p)
    (Memᴰ.append_cases (unknown_members cells message) m)

pub together-one : (cells : List Cell) (messages : List Message) (p : ℕ) → p < mask_places
    → ((message : Message) (q : ℕ) → Among message messages → Among q message.members → q < mask_places)
    → Together cells messages p → OneValue cells messages p
unfolding xor_at
together-one cells messages p small inside t x y sx sy =
    ext_get_or 0 (x p) (y p) (sx.long p ∙ sym (sy.long p))
    (λ k below.
    let low : k < packet_limit = omega (arith, sx.long p) in
    sym (alone x k) ∙ unknown-same sx sy k low t.chosen t.held ∙ alone y k)
  where
    ap-less : {q : ℕ} → q ≡ p → q < mask_places
    ap-less e = rw e small

    alone : (z : ℕ → List ℕ) (k : ℕ) → xor_at (map z (unknown_in cells t.chosen)) k ≡ get_or (z p) k 0
    alone z k =
        sym
        (sum-mask z k (unknown_in cells t.chosen)
        (chosen-inside cells t.chosen (λ message q m. inside message q (t.held message m))))
        ∙ ap (λ (mask : ℕ). sum_over mask_places (has_place mask) (λ q. get_or (z q) k 0)) t.alone
        ∙ sum-mask z k (p ∷ []) (λ q m. ap-less (Memᴰ.eq_of_singleton m))
        ∙ xor_zero_r (get_or (z p) k 0)
