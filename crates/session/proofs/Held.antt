-- Laws of the held messages: each stands at a place of a datagram from the base on, and each datagram's messages are among
-- them. So they have no member twice, and they are honest if the held datagrams are. Assumes nothing.
use Prim.Native.Nat.{ℕ, zero, suc, ◌+◌, ◌*◌, ◌≤◌, ◌<◌, zero-le, suc-le-suc}
use mathlib.Core.Path.{◌≡◌, sym, ap, ◌∙◌, subst}
use mathlib.Core.Logic.{⊎_elim}
use mathlib.Core.List.{List, [], ◌∷◌, Memᴰ as Among}
use mathlib.Core.List.Memᴰ
use lib.ListN.{length}
use native.Mathlib.Nat.{add-zero, add-suc, suc-add, not-suc-le-zero, le_of_suc-le-suc}
use native.Mathlib.Omega.{arith}
use Rattle.octets.proofs.Laws.{among-tab}
use Rattle.session.specs.Cells.{kept_before, kept_ahead, kept_numbers}
use Rattle.session.specs.Repair.{Message}
use Rattle.session.specs.Held.{Held, held_at, message_at, messages_of, messages_in_row, held_messages}
use Rattle.session.specs.Reached.{Distinct, DistinctMembers}
use Rattle.session.specs.Honest.{HonestHeld, HonestMessage, HonestMessages}
use Rattle.session.proofs.Members.{members-distinct, member-in-reach}

-- where a message stands: message i of the datagram j after the first place
pub record HeldAt (S : ℕ) (held : List Held) (message : Message) : Type 0 where
  pub j : ℕ
  pub i : ℕ
  pub inside : j < length held
  pub low : i < length (held_at held j).messages
  pub same : message ≡ message_at (S + j) (held_at held j) i

messages_of-held : (S : ℕ) (held : Held) (more : List Held) (message : Message) → Among message (messages_of S held)
    → HeldAt S (held ∷ more) message
unfolding messages_of
messages_of-held S held more message m = told (among-tab (length held.messages) (message_at S held) m)
  where
    told : (i : ℕ) × (i < length held.messages) × (message ≡ message_at S held i) → HeldAt S (held ∷ more) message
    told t =
        record {
          j = zero;
          i = t.0;
          inside = suc-le-suc zero-le;
          low = t.1;
          same = rw add-zero t.2;
        }

later-held : (S : ℕ) (held : Held) (more : List Held) (message : Message) → HeldAt (suc S) more message
    → HeldAt S (held ∷ more) message
later-held S held more message t =
    record {
      j = suc t.j;
      i = t.i;
      inside = suc-le-suc t.inside;
      low = t.low;
      same =
          t.same
          ∙ ap (λ (at : ℕ). message_at at (held_at more t.j) t.i) (suc-add S t.j ∙ sym (add-suc S t.j));
    }

-- every held message stands at a place
pub held-at : (S : ℕ) (held : List Held) (message : Message) → Among message (messages_in_row S held) → HeldAt S held message
unfolding messages_in_row
held-at S [] message m = absurd (Memᴰ.not-nil m)
held-at S (held ∷ more) message m =
    ⊎_elim (messages_of-held S held more message) (λ rest. later-held S held more message (held-at (suc S) more message rest))
    (Memᴰ.append_cases (messages_of S held) m)

-- the messages of each datagram are held
pub messages_of-among : (S : ℕ) (held : List Held) (j : ℕ) (message : Message) → j < length held
    → Among message (messages_of (S + j) (held_at held j)) → Among message (messages_in_row S held)
unfolding messages_in_row
messages_of-among S [] j message inside m = absurd (not-suc-le-zero inside)
messages_of-among S (held ∷ more) zero message inside m =
    Memᴰ.append_left (messages_in_row (suc S) more) (rw add-zero at m)
messages_of-among S (held ∷ more) (suc j) message inside m =
    Memᴰ.append_right (messages_of S held)
    (messages_of-among (suc S) more j message (le_of_suc-le-suc inside)
    (subst (λ (at : ℕ). Among message (messages_of at (held_at more j))) (add-suc S j ∙ sym (suc-add S j)) m))

-- ---- no held message has a member twice
pub held-distinct : (held : List Held)
    → ((j : ℕ) → j < length held → (held_at held j).n * length (held_at held j).messages ≤ kept_before)
    → DistinctMembers (held_messages held)
unfolding held_messages
held-distinct held reach message m =
    let at = held-at kept_before held message m in
    let h : Held = held_at held at.j in
    subst (λ (x : Message). Distinct x.members) (sym at.same)
    (members-distinct (kept_before + at.j) h.n (length h.messages) at.i (omega (arith, reach at.j at.inside)) at.low)

-- ---- honest datagrams hold honest messages
pub held-honest : (row : ℕ → List ℕ) (held : List Held) → length held ≤ kept_ahead
    → ((j : ℕ) → j < length held → HonestHeld row (kept_before + j) (held_at held j))
    → HonestMessages row kept_numbers (held_messages held)
unfolding held_messages
held-honest row held few honest message m =
    let at = held-at kept_before held message m in
    let h : Held = held_at held at.j in
    let true-held = honest at.j at.inside in
    subst (HonestMessage row kept_numbers) (sym at.same)
    (record {
      sum = true-held.sums at.i at.low;
      inside = λ p member.
          let before =
          member-in-reach (kept_before + at.j) h.n (length h.messages) at.i true-held.reach at.low {p = p} member in
          let inside = at.inside in
          omega arith;
    })
