-- The held messages, four to a number: each is one of the 128 equations, and each equation is a held message or says nothing. Assumes
-- nothing.
use Prim.Native.Nat.{ℕ, ◌+◌, ◌*◌, ◌/◌, ◌%◌, ◌≤◌, ◌<◌}
use mathlib.Core.Path.{◌≡◌, sym, ap, ap₂, ◌∙◌, subst}
use mathlib.Core.Logic.{◌⊎◌, inl, inr, ⊎_elim}
use mathlib.Core.Bool.{Bool, cond}
use mathlib.Core.List.Memᴰ
use mathlib.Core.List.{List, Memᴰ as Among}
use lib.ListN.{length}
use borrow.Author.Tests.{lt-ltb, le-ltb}
use native.Mathlib.Omega.{arith}
use Rattle.octets.proofs.Laws.{tab-among, below_or_not}
use Rattle.datagram.specs.Sizes.{messages_limit}
use Rattle.solve_algebra.specs.Masks.{mask_places}
use Rattle.solve_algebra.specs.Rows.{table_rows}
use Rattle.session.specs.Cells.{kept_before, kept_ahead}
use Rattle.session.specs.Members.{members_of}
use Rattle.session.specs.Repair.{Message}
use Rattle.session.specs.Held.{Held, held_at, message_at, messages_of, held_messages}
use Rattle.session.specs.View.{View}
use Rattle.session.specs.Ranges.{Sound}
use Rattle.session.proofs.Laws.{held-at, messages_of-among, member-in-reach, held-sizes, reach-kept}
use Rattle.solve.specs.Table.{no_message, message_or, equation_at}

-- the messages, one to a row of the table
pub record Numbered (messages : List Message) (eq_at : ℕ → Message) : Type 0 where
  pub there : (message : Message) → Among message messages → (e : ℕ) × (e < table_rows) × (message ≡ eq_at e)
  pub each : (e : ℕ) → e < table_rows → Among (eq_at e) messages ⊎ (eq_at e ≡ no_message)
  pub inside : (e p : ℕ) → e < table_rows → Among p (eq_at e).members → p < mask_places

-- ---- a message that is there, and one that is not
pub message-there : (held : List Held) (d i : ℕ) → i < length (held_at held d).messages
    → message_or held d i ≡ message_at (kept_before + d) (held_at held d) i
unfolding message_or
message-there held d i low =
    ap (λ (t : Bool). cond t (message_at (kept_before + d) (held_at held d) i) no_message)
    (lt-ltb i (length (held_at held d).messages) low)

pub message-none : (held : List Held) (d i : ℕ) → length (held_at held d).messages ≤ i → message_or held d i ≡ no_message
unfolding message_or
message-none held d i past =
    ap (λ (t : Bool). cond t (message_at (kept_before + d) (held_at held d) i) no_message)
    (le-ltb i (length (held_at held d).messages) past)

-- what is held, within the ranges
pub record Few (held : List Held) : Type 0 where
  pub long : length held ≡ kept_ahead
  pub few : (d : ℕ) → d < kept_ahead → length (held_at held d).messages ≤ messages_limit
  pub reach : (d : ℕ) → d < kept_ahead → (held_at held d).n * length (held_at held d).messages ≤ kept_before

pub sound-few : {v : View} → Sound v → Few v.held
sound-few s =
    record {
      long = s.ahead;
      few = λ d near. (held-sizes _ _ (s.held d near)).1;
      reach = λ d near. let sizes = held-sizes _ _ (s.held d near) in reach-kept sizes.0 sizes.1;
    }

module _ {held : List Held} (f : Few held) where
  there : (message : Message) → Among message (held_messages held) → (e : ℕ) × (e < table_rows) × (message ≡ equation_at held e)
  unfolding held_messages
  there message m =
      let at = held-at kept_before held message m in
      let near : at.j < kept_ahead = omega (arith, at.inside, f.long) in
      let few = f.few at.j near in
      let low = at.low in
      let quotient : (at.j * messages_limit + at.i) / messages_limit ≡ at.j = omega arith in
      let rest : (at.j * messages_limit + at.i) % messages_limit ≡ at.i = omega arith in (
        at.j * messages_limit + at.i,
        omega arith,
        at.same ∙ sym (message-there held at.j at.i at.low)
            ∙ sym (ap₂ (λ (d i : ℕ). message_or held d i) quotient rest),
      )

  each : (e : ℕ) → e < table_rows → Among (equation_at held e) (held_messages held) ⊎ (equation_at held e ≡ no_message)
  unfolding held_messages messages_of
  each e below =
      let near : e / messages_limit < length held = omega (arith, f.long) in
      ⊎_elim
      (λ low.
      inl
      (messages_of-among kept_before held (e / messages_limit) (equation_at held e) near
      (Memᴰ.cast (message-there held (e / messages_limit) (e % messages_limit) low)
      (tab-among (length (held_at held (e / messages_limit)).messages)
      (message_at (kept_before + e / messages_limit) (held_at held (e / messages_limit)))
      (e % messages_limit)
      low))))
      (λ past. inr (message-none held (e / messages_limit) (e % messages_limit) past))
      (below_or_not (e % messages_limit) (length (held_at held (e / messages_limit)).messages))

  inside : (e p : ℕ) → e < table_rows → Among p (equation_at held e).members → p < mask_places
  inside e p below m =
      let near : e / messages_limit < kept_ahead = omega arith in
      let reach = f.reach (e / messages_limit) near in
      ⊎_elim
      (λ low.
      let in_reach =
      member-in-reach (kept_before + e / messages_limit) (held_at held (e / messages_limit)).n
      (length (held_at held (e / messages_limit)).messages)
      (e % messages_limit)
      (omega arith)
      low
      {p = p}
      (subst (λ (x : Message). Among p x.members) (message-there held (e / messages_limit) (e % messages_limit) low) m) in
      omega arith)
      (λ past.
      absurd
      (Memᴰ.not-nil
      (subst (λ (x : Message). Among p x.members) (message-none held (e / messages_limit) (e % messages_limit) past) m)))
      (below_or_not (e % messages_limit) (length (held_at held (e / messages_limit)).messages))

  pub numbered : Numbered (held_messages held) (equation_at held)
  numbered = record { there = there; each = each; inside = inside }
