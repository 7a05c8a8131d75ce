-- How many characters of a block are taken in: line after line, as long as there is room. Assumes nothing.
use Prim.Native.Nat.{ℕ, suc, ◌+◌, ◌≤◌, ◌<◌}
use mathlib.Core.Path.{◌≡◌, refl, ap, ◌∙◌}
use mathlib.Core.Bool.{Bool, true, false, cond}
use mathlib.Core.List.{List, [], ◌∷◌}
use mathlib.Core.Logic.{⊎_elim}
use lib.ListN.{length, take, drop}
use lib.Dec.{eqb}
use native.Mathlib.Omega.{arith}
use borrow.Author.Tests.{eq-eqb, ne_eqb, lt-ltb, le-ltb}
use Rattle.octets.proofs.Laws.{same_or_not}
use Rattle.line.specs.Lines.{line_feed}
use Rattle.line.specs.Feed.{Going, taken_in, fed}
use Rattle.line.specs.Promise.{step_limit}
use Rattle.line.specs.FeedPromise.{line_end, taken_of}

-- no room for a line
pub taken-full : (room : ℕ) (s : List ℕ) (now : Going) → room < length now.text + step_limit → taken_of room true s now ≡ 0
unfolding taken_of
taken-full room [] now full = refl
taken-full room (c ∷ s) now full =
    ap (λ (b : Bool). cond b 0 (suc (taken_of room (eqb c line_feed) s (taken_in c now)))) (lt-ltb room (length now.text + step_limit) full)

-- within a line
within-line : (room : ℕ) (s : List ℕ) (now : Going)
    → taken_of room false s now ≡ line_end s + taken_of room true (drop (line_end s) s) (fed (take (line_end s) s) now)
unfolding taken_of line_end fed
within-line room [] now = refl
within-line room (c ∷ s) now =
    ⊎_elim
    (λ feed. rw (eq-eqb c line_feed feed) (omega arith))
    (λ other. rw (ne_eqb c line_feed other) (omega (arith, within-line room s (taken_in c now))))
    (same_or_not c line_feed)

-- room for a line: it is taken in, and what comes after it
room_for : (room : ℕ) (s : List ℕ) (now : Going) → length now.text + step_limit ≤ room
    → taken_of room true s now ≡ taken_of room false s now
unfolding taken_of
room_for room [] now free = refl
room_for room (c ∷ s) now free =
    ap (λ (b : Bool). cond b 0 (suc (taken_of room (eqb c line_feed) s (taken_in c now)))) (le-ltb room (length now.text + step_limit) free)

pub taken-line : (room : ℕ) (s : List ℕ) (now : Going) {took : ℕ} → length now.text + step_limit ≤ room → took ≡ line_end s
    → taken_of room true s now ≡ took + taken_of room true (drop took s) (fed (take took s) now)
taken-line room s now {took} free whole = rw whole (room_for room s now free ∙ within-line room s now)

pub line_end-some : (s : List ℕ) → 1 ≤ length s → 0 < line_end s
unfolding line_end
line_end-some [] some = absurd (omega (arith, some))
line_end-some (c ∷ s) some =
    ⊎_elim (λ feed. rw (eq-eqb c line_feed feed) (omega arith)) (λ other. rw (ne_eqb c line_feed other) (omega arith))
    (same_or_not c line_feed)
