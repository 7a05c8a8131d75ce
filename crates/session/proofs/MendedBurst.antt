-- A burst is mended: where repair has come to its end and an honest datagram at S is held, and its reach is known but for
-- numbers that all lie within m in a row, the whole reach is known. Two members of one message are at least m apart, so each
-- message has at most one unknown member; with one it would be usable. Assumes nothing.
use Prim.Native.Nat.{ℕ, ◌+◌, ◌-◌, ◌*◌, ◌%◌, ◌≤◌, ◌<◌}
use mathlib.Core.Path.{◌≡◌, sym, ap, ◌∙◌}
use mathlib.Core.Logic.{◌⊎◌, inl, inr, ⊎_elim}
use mathlib.Core.Bool.{false≢true}
use mathlib.Core.List.Memᴰ
use mathlib.Core.List.{List, map, Memᴰ as Among}
use mathlib.Core.Option.{none}
use lib.ListN.{length}
use native.Mathlib.Nat.{mod-lt, mul-zero}
use native.Mathlib.Omega.{arith}
use Rattle.octets.specs.ExclusiveOr.{longest}
use Rattle.octets.proofs.Laws.{true-or-false, below_or_not, tab-among, length-exclusive_or, longest-reaches}
use Rattle.session.specs.Cells.{Cell, unknown_at, kept_before}
use Rattle.session.specs.Members.{members_of, InReach}
use Rattle.session.specs.Repair.{Message, first_usable, repair}
use Rattle.session.specs.Held.{Held, held_at, message_at, messages_of, held_messages}
use Rattle.session.specs.Reached.{Known, Unknown}
use Rattle.session.specs.Honest.{HonestHeld}
use Rattle.session.specs.Claims.{SentBefore, BurstAt, BurstMended, BurstRepaired}
use Rattle.session.proofs.Fill.{usable-of, known-not-unknown}
use Rattle.session.proofs.Search.{none-usable}
use Rattle.session.proofs.Members.{members-exact, members-apart, members-distinct, member-in-reach}
use Rattle.session.proofs.Held.{messages_of-among}
use Rattle.session.proofs.Grows.{known-repair}
use Rattle.session.proofs.Enough.{repair-closed}

-- an honest message is as long as each member's packet at least
honest-long : (row : ℕ → List ℕ) (S : ℕ) (held : Held) (i p : ℕ) → HonestHeld row S held → i < length held.messages
    → Among p (message_at S held i).members → length (row p) ≤ length (message_at S held i).octets
honest-long row S held i p honest low at =
    let members : List ℕ = (message_at S held i).members in
    let reaches = longest-reaches (row p) (map row members) (Memᴰ.map row at) in
    omega (arith, ap length (honest.sums i low) ∙ length-exclusive_or (longest (map row members)) (map row members))

-- every number of the reach is in one of the messages
pub record Covered (S n m p : ℕ) : Type 0 where
  pub i : ℕ
  pub low : i < m
  pub member : Among p (members_of S n m i)

one-message : (n m : ℕ) → 1 ≤ n * m → 1 ≤ m
one-message n m some =
    ⊎_elim (λ more. more)
    (λ few. let none_left : n * m ≡ 0 = ap (λ (k : ℕ). n * k) (omega arith) ∙ mul-zero n in absurd (omega arith))
    (below_or_not 0 m)

pub covered : (S n m p : ℕ) → n * m ≤ S → InReach S n m p → Covered S n m p
covered S n m p reach inside =
    let some : 1 ≤ m = one-message n m (omega arith) in
    let rest = mod-lt ((S - 1) - p) {m = m} some in
    let low : (m - 1) - ((S - 1) - p) % m < m = omega arith in
    record {
      i = (m - 1) - ((S - 1) - p) % m;
      low = low;
      member = (members-exact S n m ((m - 1) - ((S - 1) - p) % m) reach low p).1 (inside, omega arith);
    }

-- a covered number is known: its message would be usable else
module _ (row : ℕ → List ℕ) (cells : List Cell) (messages : List Message) (S : ℕ) (held : Held) (a : ℕ)
    (honest : HonestHeld row S held) (done : first_usable cells messages ≡ none)
    (among : (message : Message) → Among message (messages_of S held) → Among message messages)
    (sent : SentBefore row cells S)
    (burst : BurstAt cells S held.n (length held.messages) a)
    (p : ℕ) (before : p < S) (unknown-p : Unknown cells p) (c : Covered S held.n (length held.messages) p) where
  abbrev message : Message
  message = message_at S held c.i

  in_reach : {q : ℕ} → Among q message.members → InReach S held.n (length held.messages) q
  in_reach at = member-in-reach S held.n (length held.messages) c.i honest.reach c.low at

  others-known : (q : ℕ) → Among q message.members → (q ≡ p → ⊥) → Known cells q
  others-known q at other =
      ⊎_elim (λ u. absurd (far u (members-apart S held.n (length held.messages) c.i honest.reach c.low
      c.member at other)))
      (λ k. k)
      (true-or-false (unknown_at cells q))
    where
      -- both in the burst, and m apart
      far : Unknown cells q → (p + length held.messages ≤ q) ⊎ (q + length held.messages ≤ p) → ⊥
      far u (inl over) = omega (arith, burst q (in_reach at) u, burst p (in_reach c.member) unknown-p)
      far u (inr under) = omega (arith, burst q (in_reach at) u, burst p (in_reach c.member) unknown-p)

  never : ⊥
  unfolding messages_of
  never =
      false≢true
      (sym (none-usable cells messages done message
      (among message (tab-among (length held.messages) (message_at S held) c.i c.low)))
      ∙ usable-of cells message p (members-distinct S held.n (length held.messages) c.i honest.reach c.low)
      (omega (arith, sent p before unknown-p, honest-long row S held c.i p honest c.low c.member))
      c.member
      unknown-p
      others-known)

pub burst-mended : BurstMended
burst-mended row cells messages S held a honest done among sent burst p inside =
    ⊎_elim
    (λ u.
    absurd
    (never row cells messages S held a honest done among sent burst p inside.before u
    (covered S held.n (length held.messages) p honest.reach inside)))
    (λ k. k)
    (true-or-false (unknown_at cells p))

-- after repair no message is usable, and what was known before still is
pub burst-repaired : BurstRepaired
unfolding held_messages
burst-repaired made makes row cells held d a inside honest sent burst =
    burst-mended row (repair made cells (held_messages held)) (held_messages held) (kept_before + d) (held_at held d) a honest
    (repair-closed makes cells (held_messages held))
    (λ message. messages_of-among kept_before held d message inside)
    (λ p before u. sent p before (unknown-before p u))
    (λ p at u. burst p at (unknown-before p u))
  where
    unknown-before : (p : ℕ) → Unknown (repair made cells (held_messages held)) p → Unknown cells p
    unknown-before p u =
        ⊎_elim (λ was. was)
        (λ k. absurd (known-not-unknown (repair made cells (held_messages held)) p (known-repair made cells (held_messages held) p k) u))
        (true-or-false (unknown_at cells p))
