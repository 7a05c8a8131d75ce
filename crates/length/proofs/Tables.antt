-- Laws of tables of refusals: a test that refuses is a row, and so are steps one after the other. Assumes nothing.
use Rattle.std.proofs.Common.{Result}
use Prim.Native.Nat.{ℕ}
use mathlib.Core.Path.{◌≡◌, refl, sym, ap, ◌∙◌}
use mathlib.Core.Bool.{Bool, true, false, not, cond}
use mathlib.Core.List.{List, [], ◌∷◌, ◌++◌}
use mathlib.Core.Option.{Option, none, some}
use lib.ListN.{length}
use lib.Dec.{leb}
use native.Mathlib.Omega.{arith}
use Rattle.length.specs.Refusals.{no_room}
use Rattle.length.specs.Answers.{Answer, done, refused, refuse, ◌>>=◌, mapped, fitted, size_of, written_outcome}
use Rattle.length.specs.Promise.{Puts}
use Rattle.length.specs.declared.Reason.{Reason}
use Rattle.length.specs.declared.Refusal.{Refusal}
use Rattle.length.specs.Tables.{when, first, unless, refusal_in, place_in, room_row}
use Rattle.length.proofs.Answers.{AtFront, refuse-front, done-front, cond-front}

-- a test that refuses, and one that must be met
pub row : {A : Type 0} (b : Bool) (n : Reason) (m : Answer A) (rows : List (Option Reason)) → refusal_in m ≡ first rows
    → refusal_in (cond b (refuse n) m) ≡ first (when b n ∷ rows)
unfolding first
row true n m rows e = refl
row false n m rows e = e

pub row-met : {A : Type 0} (b : Bool) (n : Reason) (m : Answer A) (rows : List (Option Reason)) → refusal_in m ≡ first rows
    → refusal_in (cond b m (refuse n)) ≡ first (when (not b) n ∷ rows)
unfolding first
row-met true n m rows e = e
row-met false n m rows e = refl

-- a step, and what follows it
pub row_step : {A B : Type 0} (m : Answer A) (f : A → Answer B) (rows : List (Option Reason))
    → ((a : A) → m ≡ done a → refusal_in (f a) ≡ first rows)
    → refusal_in (◌>>=◌ m f) ≡ first (refusal_in m ∷ rows)
unfolding first
row_step (done a) f rows e = e a refl
row_step (refused why) f rows e = refl

-- no more rows
pub no_row : none ≡ first []
unfolding first
no_row = refl

-- ---- a call by its table
-- its refusal is the first row that is given
pub unless-first : {A : Type 0} (rows : List (Option Reason)) (a : A) → refusal_in (unless rows a) ≡ first rows
unfolding first unless
unless-first [] a = refl
unless-first (some number ∷ rows) a = refl
unless-first (none ∷ rows) a = unless-first rows a

-- where it is done, it answers a
pub unless-done : {A : Type 0} (rows : List (Option Reason)) (a x : A) → unless rows a ≡ done x → x ≡ a
unfolding unless
unless-done [] a x e = cc
unless-done (some number ∷ rows) a x e = let z : ◌≡◌ {A = ℕ} 0 1 = cc in absurd (omega arith)
unless-done (none ∷ rows) a x e = unless-done rows a x e

-- and then a row's condition was not met
pub unless-past : {A : Type 0} (b : Bool) (number : Reason) (rows : List (Option Reason)) (a x : A) → unless (when b number ∷ rows) a ≡ done x
    → (b ≡ false) × (unless rows a ≡ done x)
unfolding unless
unless-past true number rows a x e = let z : ◌≡◌ {A = ℕ} 0 1 = cc in absurd (omega arith)
unless-past false number rows a x e = (refl, e)

-- ---- the last row of every writer: 13
first-none : (rows more : List (Option Reason)) → none ≡ first rows → first (rows ++ more) ≡ first more
unfolding first
first-none [] more e = refl
first-none (some n ∷ rows) more e = let z : ◌≡◌ {A = ℕ} 0 1 = cc in absurd (omega arith)
first-none (none ∷ rows) more e = first-none rows more e

first_some : (rows more : List (Option Reason)) (n : Reason) → some n ≡ first rows → some n ≡ first (rows ++ more)
unfolding first
first_some [] more n e = let z : ◌≡◌ {A = ℕ} 0 1 = cc in absurd (omega arith)
first_some (some k ∷ rows) more n e = e
first_some (none ∷ rows) more n e = first_some rows more n e

last_row : (b : Bool) (octets : List ℕ) → refusal_in {A = List ℕ} (cond b (done octets) (refuse no_room)) ≡ first (when (not b) no_room ∷ [])
unfolding first
last_row true octets = refl
last_row false octets = refl

row-fitted : (w : Answer (List ℕ)) (octets old : List ℕ) (rows : List (Option Reason)) → ((x : List ℕ) → w ≡ done x → x ≡ octets)
    → refusal_in w ≡ first rows → refusal_in (fitted w old) ≡ first (rows ++ room_row octets old)
row-fitted (done x) octets old rows same e =
    let is : x ≡ octets = same x refl in
    ap (λ (o : List ℕ). refusal_in (fitted (done o) old)) is
    ∙ last_row (leb (length octets) (length old)) octets
    ∙ sym (first-none rows (room_row octets old) e)
row-fitted (refused why) octets old rows same e = first_some rows (room_row octets old) why.reason e

-- so of a writer by its table
pub fitted-first : (rows : List (Option Reason)) (octets old : List ℕ)
    → refusal_in (fitted (unless rows octets) old) ≡ first (rows ++ room_row octets old)
fitted-first rows octets old = row-fitted (unless rows octets) octets old rows (unless-done rows octets) (unless-first rows octets)

-- the number that a writer answers with
pub size-refusal : (w : Answer (List ℕ)) → refusal_in (size_of w) ≡ refusal_in w
size-refusal (done octets) = refl
size-refusal (refused why) = refl

pub puts-refusal : {w : Answer (List ℕ)} {old new : List ℕ} {r : Result ℕ Refusal} → Puts w old new r
    → refusal_in (written_outcome r) ≡ refusal_in (fitted w old)
puts-refusal {w} {old} p = ap refusal_in p.answer ∙ size-refusal (fitted w old)

-- a refusal, by its reason
pub refused-some : {A : Type 0} (m : Answer A) (n : Reason) → refusal_in m ≡ some n
    → (why : Refusal) × (m ≡ refused why)
refused-some (done a) n e = let z : ◌≡◌ {A = ℕ} 0 1 = cc in absurd (omega arith)
refused-some (refused why) n e = (why, refl)

pub done_none : {A : Type 0} (m : Answer A) → refusal_in m ≡ none → (a : A) × (m ≡ done a)
done_none (done a) e = (a, refl)
done_none (refused why) e = let z : ◌≡◌ {A = ℕ} 0 1 = cc in absurd (omega arith)

-- ---- where: a table's refusals give no place
pub unless-front : {A : Type 0} (rows : List (Option Reason)) (a : A) → AtFront (unless rows a)
unfolding unless
unless-front [] a = done-front a
unless-front (some number ∷ rows) a = refuse-front number
unless-front (none ∷ rows) a = unless-front rows a

pub fitted-front : (w : Answer (List ℕ)) (old : List ℕ) → AtFront w → AtFront (fitted w old)
fitted-front (done octets) old front = cond-front (leb (length octets) (length old)) (done-front octets) (refuse-front no_room)
fitted-front (refused why) old front = front

pub front-place : {A : Type 0} (m : Answer A) → AtFront m → place_in m ≡ 0
front-place (done a) front = refl
front-place (refused why) front = front.front why refl

pub mapped-place : {A B : Type 0} (f : A → B) (m : Answer A) → place_in (mapped f m) ≡ place_in m
mapped-place f (done a) = refl
mapped-place f (refused why) = refl

pub puts-place : {w : Answer (List ℕ)} {old new : List ℕ} {r : Result ℕ Refusal} → AtFront w → Puts w old new r → place_in (written_outcome r) ≡ 0
puts-place {w} {old} front p =
    ap place_in p.answer ∙ mapped-place length (fitted w old) ∙ front-place (fitted w old) (fitted-front w old front)
