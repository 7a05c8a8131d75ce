-- A number takes the mark, n and messages of an accepted datagram, and the view stays within the ranges. Its own place passes, since
-- the number is known and n and messages are within the sizes; every other place is as it was. Assumes nothing.
use Prim.Native.Nat.{ℕ, ◌+◌, ◌≤◌, ◌<◌}
use mathlib.Core.Path.{◌≡◌, ap, ◌∙◌}
use mathlib.Core.Bool.{Bool, true, false}
use mathlib.Core.List.{List, []}
use mathlib.Core.Logic.{⊎_elim}
use lib.ListN.{length, get_or, set, length-set}
use lib.Seq.{get_or-set_same, get_or-set_other}
use lib.Dec.{leb, eqb}
use native.Mathlib.Omega.{arith}
use borrow.Author.Tests.{le-leb, eqb-true}
use Rattle.octets.proofs.Laws.{same_or_not, and_left, and_both, all_below-of}
use Rattle.datagram.specs.Sizes.{message_limit}
use Rattle.session.specs.Cells.{kept_before, kept_ahead}
use Rattle.session.specs.Held.{Held, nothing_held, held_at}
use Rattle.session.specs.View.{View}
use Rattle.session.specs.Ranges.{sum_right, mark_right, held_right, known_at, Sound}

-- the view in which h is held at distance d
abbrev pub held_there : View → ℕ → Held → View
held_there v d h = record { base = v.base; counts = v.counts; cells = v.cells; held = set v.held d h }

-- ---- the tests of one number
-- only accepted numbers have messages (rule 13.7)
mark-none : (accepted known : Bool) (n m : ℕ) → accepted ≡ false → mark_right accepted known n m ≡ true → m ≡ 0
unfolding mark_right
mark-none accepted known n m free e = eqb-true m 0 (and_left (eqb m 0) _ (rw free at e))

pub held_none : (h : Held) (known : Bool) → held_right h known ≡ true → h.accepted ≡ false → length h.messages ≡ 0
unfolding held_right
held_none h known e free =
    mark-none h.accepted known h.n (length h.messages) free
    (and_left (mark_right h.accepted known h.n (length h.messages)) _ e)

-- an accepted number that is known, with n and messages within the sizes
pub accepted-right : (n : ℕ) (messages : List (List ℕ)) → mark_right true true n (length messages) ≡ true
    → ((i : ℕ) → i < length messages → length (get_or messages i []) ≤ message_limit)
    → held_right (record { accepted = true; n = n; messages = messages }) true ≡ true
unfolding held_right
accepted-right n messages mark fits =
    and_both mark
    (all_below-of (length messages) (λ i. leb (length (get_or messages i [])) message_limit)
    (λ i below. le-leb (length (get_or messages i [])) message_limit (fits i below)))

-- ---- the view
module _ {v : View} (s : Sound v) (d : ℕ) (near : d < kept_ahead) (h : Held)
    (right : held_right h (known_at v (kept_before + d)) ≡ true) where
  held-each : (e : ℕ) → e < kept_ahead → held_right (held_at (set v.held d h) e) (known_at v (kept_before + e)) ≡ true
  held-each e small =
      ⊎_elim
      (λ (same : e ≡ d).
      ap (λ (k : ℕ). held_right (held_at (set v.held d h) k) (known_at v (kept_before + k))) same
      ∙ ap (λ (x : Held). held_right x (known_at v (kept_before + d))) (get_or-set_same v.held d h nothing_held (omega (arith, s.ahead)))
      ∙ right)
      (λ other.
      ap (λ (x : Held). held_right x (known_at v (kept_before + e))) (get_or-set_other v.held d e h nothing_held other)
      ∙ s.held e small)
      (same_or_not e d)

  pub held-sound : Sound (held_there v d h)
  unfolding sum_right
  held-sound =
      record {
        small = s.small;
        total = s.total;
        kept = s.kept;
        ahead = length-set v.held d h ∙ s.ahead;
        cell = s.cell;
        note = s.note;
        held = held-each;
      }
