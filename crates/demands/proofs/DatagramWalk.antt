-- The datagram reader goes from item to item: of any octets it tells what the walk over the items due tells, and where. Each of its
-- pieces is such a step, and what is left of the octets from its place on is what the next item meets. The walk has one outcome, and so
-- the octets before an item say what the reader makes of any that follow. Assumes nothing.
use Prim.Native.Nat.{ℕ, ◌+◌, ◌≤◌}
use mathlib.Core.Path.{◌≡◌, refl, sym, ap, subst, ◌∙◌}
use mathlib.Core.List.{List, [], ◌∷◌, ◌++◌, append_assoc, append-nil}
use mathlib.Core.Option.{Option, none, some}
use lib.ListN.{length, drop, length-append}
use lib.Seq.{drop-append_seam}
use native.Mathlib.Omega.{arith}
use Rattle.length.specs.Refusals.{refusal, refusal_at}
use Rattle.length.specs.Answers.{Answer, done, refused, refuse, LengthAnswer}
use Rattle.length.specs.Length.{length_limit}
use Rattle.length.specs.declared.Refusal.{Refusal}
use Rattle.length.proofs.Laws.{done-same}
use Rattle.length.specs.declared.Reason.{Reason}
use Rattle.demands.specs.Demand1.DatagramItems.{Item, number, packet, kind, spares, octet01, octet_n, count_m, message, inside, nothing}
use Rattle.demands.specs.Demand1.DatagramItems.{form_of, form_due, brings, Right, Due, begins, passes, WholeDatagram}
use Rattle.demands.specs.Demand1.DatagramRefusals.{Wrong, FirstWrong}
use Rattle.demands.proofs.DatagramForms.{form_at, found, most_in, right-at, wrong-at}

-- ---- the walk

-- why a call was refused, if it was
abbrev pub why_in : {A : Type 0} → Answer A → Option Refusal
why_in (done a) = none
why_in (refused why) = some why

-- from these items due at a place, the octets that are there lead to this refusal, or to none
pub data Walk : ℕ → List Item → List ℕ → Option Refusal → Type 0 where
  ends : {at : ℕ} → Walk at [] [] none
  stops : {at : ℕ} {items : List Item} {rest : List ℕ} {n : Reason} → Wrong (form_due items) rest n
      → Walk at items rest (some (refusal_at at n))
  steps : {at : ℕ} {item : Item} {later : List Item} {rest x : List ℕ} {v : ℕ} {r : Option Refusal} (t : List ℕ)
      → Right (form_of item) x v → rest ≡ x ++ t → Walk (at + length x) (brings item v ++ later) t r → Walk at (item ∷ later) rest r

-- its one outcome
most-fits : (item : Item) → most_in (form_of item) ≤ length_limit
unfolding form_of
most-fits number = omega arith
most-fits packet = omega arith
most-fits kind = omega arith
most-fits spares = omega arith
most-fits octet01 = omega arith
most-fits octet_n = omega arith
most-fits count_m = omega arith
most-fits message = omega arith
most-fits (inside n) = omega arith

right-told : (item : Item) {x : List ℕ} {v : ℕ} (rest t : List ℕ) → Right (form_of item) x v → rest ≡ x ++ t
    → form_at (form_of item) rest ≡ found v (length x)
right-told item rest t r is = ap (form_at (form_of item)) is ∙ right-at (most-fits item) r t

not-both : {n : Reason} {v k : ℕ} {a : Answer LengthAnswer} → a ≡ refuse n → a ≡ found v k → ⊥
not-both p q = let z : ◌≡◌ {A = ℕ} 0 1 = cc in omega arith

refuse-same : {n k : Reason} {a : Answer LengthAnswer} → a ≡ refuse n → a ≡ refuse k → n ≡ k
refuse-same {n} {k} p q =
    let same : refusal n ≡ refusal k = cc in
    ap (λ (why : Refusal). why.reason) same

found-same : {v w n k : ℕ} {a : Answer LengthAnswer} → a ≡ found v n → a ≡ found w k → (v ≡ w) × (n ≡ k)
found-same p q =
    let same = done-same (sym p ∙ q) in
    (ap (λ (l : LengthAnswer). l.value) same, ap (λ (l : LengthAnswer). l.size) same)

nothing-there : form_at nothing [] ≡ found 0 0
unfolding form_at
nothing-there = refl

same_rest : (x y t u rest : List ℕ) → rest ≡ x ++ t → rest ≡ y ++ u → length x ≡ length y → t ≡ u
same_rest x y t u rest p q e =
    sym (drop-append_seam x t) ∙ ap (drop (length x)) (sym p) ∙ ap (λ (n : ℕ). drop n rest) e
    ∙ ap (drop (length y)) q ∙ drop-append_seam y u

pub one-walk : {at : ℕ} {items : List Item} {rest : List ℕ} {r q : Option Refusal} → Walk at items rest r → Walk at items rest q → r ≡ q
unfolding form_due
one-walk ends ends = refl
one-walk ends (stops w) = absurd (not-both (wrong-at w) nothing-there)
one-walk (stops w) ends = absurd (not-both (wrong-at w) nothing-there)
one-walk {at} (stops w) (stops u) = ap (λ (n : Reason). some (refusal_at at n)) (refuse-same (wrong-at w) (wrong-at u))
one-walk (stops w) (steps {item = item} {rest = rest} t r is walk) = absurd (not-both (wrong-at w) (right-told item rest t r is))
one-walk (steps {item = item} {rest = rest} t r is walk) (stops w) = absurd (not-both (wrong-at w) (right-told item rest t r is))
one-walk {at} {q = q} (steps {item = item} {later} {rest} {x} {v} t r is walk) (steps {x = y} {v = w} u o so other) =
    let same = found-same (right-told item rest t r is) (right-told item rest u o so) in
    let left : t ≡ u = same_rest x y t u rest is so same.1 in
    one-walk {q = q} walk
    (subst (λ (l : List ℕ). Walk (at + length x) (brings item v ++ later) l q) (sym left)
    (subst (λ (k : ℕ). Walk (at + k) (brings item v ++ later) u q) (sym same.1)
    (subst (λ (k : ℕ). Walk (at + length y) (brings item k ++ later) u q) (sym same.0) other)))

-- ---- from what is due on
abbrev pub start : List Item
start = number ∷ packet ∷ kind ∷ []

-- the octets before stay as they are
pub walk_from : {before : List ℕ} {items : List Item} {rest : List ℕ} {r : Option Refusal} → Due before items
    → Walk (length before) items rest r → Walk 0 start (before ++ rest) r
walk_from begins walk = walk
walk_from {items = items} {rest} {r} (passes {before} {x} due right) walk =
    subst (λ (l : List ℕ). Walk 0 start l r) (sym (append_assoc before x rest))
    (walk_from due (steps rest right refl (subst (λ (k : ℕ). Walk k items rest r) (length-append before x) walk)))

-- what a walk comes to: a datagram, or octets of which the first wrong item has this refusal's reason, and begins at its place
pub record StopsAt (s : List ℕ) (why : Refusal) : Type 0 where
  pub wrong : FirstWrong s why.reason
  pub place : why.place ≡ length wrong.before

abbrev pub Ended : List ℕ → Option Refusal → Type 0
Ended s none = WholeDatagram s
Ended s (some why) = StopsAt s why

pub walk_ends : {at : ℕ} {before : List ℕ} {items : List Item} {rest : List ℕ} {r : Option Refusal} → at ≡ length before → Due before items
    → Walk at items rest r → Ended (before ++ rest) r
walk_ends {before = before} here due ends = rw (append-nil before) due
walk_ends {before = before} {items} {rest} here due (stops w) =
    record { wrong = record { before = before; rest = rest; items = items; is = refl; due = due; wrong = w }; place = here }
walk_ends {at} {before} {r = r} here due (steps {x = x} t right is walk) =
    subst (λ (l : List ℕ). Ended (before ++ l) r) (sym is)
    (subst (λ (l : List ℕ). Ended l r) (append_assoc before x t)
    (walk_ends (ap (λ (k : ℕ). k + length x) here ∙ sym (length-append before x)) (passes due right) walk))
