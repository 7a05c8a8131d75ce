-- Laws of answers and of the tests of the sizes: what an answer that is no refusal says of the steps and tests that made it.
-- Assumes nothing.
use Prim.Native.Nat.{ℕ, ◌+◌, ◌≤◌}
use mathlib.Core.Path.{◌≡◌, refl, sym, ap}
use mathlib.Core.Bool.{Bool, true, false, cond, ◌&&◌, true≢false}
use mathlib.Core.List.{List, ◌++◌}
use lib.ListN.{length, get_or}
use lib.Dec.{leb, ltb}
use native.Mathlib.Omega.{arith}
use borrow.Author.Tests.{le-leb, leb-true}
use Rattle.length.specs.Refusals.{refusal, refusal_at, ends_early, bad_form, outside_sizes}
use Rattle.length.specs.Answers.{Answer, done, refused, refuse, refuse_at, read_from, ◌>>=◌, LengthAnswer}
use Rattle.length.specs.declared.Reason.{Reason}
use Rattle.length.specs.declared.Refusal.{Refusal}
use Rattle.length.specs.Length.{within, allowed, length_at, length_within, length_octets, length_limit, two_from, of_two}
use Rattle.length.proofs.LengthRule.{written-reads, Sizes, sizes-read}

-- ---- answers

-- a refusal is never a value
pub not_done : {A : Type 0} {why : Refusal} {a : A} → refused why ≡ done a → ⊥
not_done e = let z : ◌≡◌ {A = ℕ} 0 1 = cc in omega arith

-- two steps that end in a value both have one
pub bind_done : {A B : Type 0} (m : Answer A) (f : A → Answer B) (b : B) → ◌>>=◌ m f ≡ done b
    → (a : A) × (m ≡ done a) × (f a ≡ done b)
bind_done (done a) f b e = (a, refl, e)
bind_done (refused r) f b e = absurd (not_done e)

-- a test that refuses was not met
pub cond-past : {A : Type 0} (t : Bool) (why : Refusal) (m : Answer A) (a : A) → cond t (refused why) m ≡ done a
    → (t ≡ false) × (m ≡ done a)
cond-past true why m a e = absurd (not_done e)
cond-past false why m a e = (refl, e)

pub cond-done : {A : Type 0} (t : Bool) (n : Reason) (m : Answer A) (a : A) → cond t (refuse n) m ≡ done a → (t ≡ false) × (m ≡ done a)
cond-done t n m a e = cond-past t (refusal n) m a e

-- the same of a test that must be met
pub cond-kept : {A : Type 0} (t : Bool) (why : Refusal) (m : Answer A) (a : A) → cond t m (refused why) ≡ done a → (t ≡ true) × (m ≡ done a)
cond-kept true why m a e = (refl, e)
cond-kept false why m a e = absurd (not_done e)

pub cond-met : {A : Type 0} (t : Bool) (n : Reason) (m : Answer A) (a : A) → cond t m (refuse n) ≡ done a → (t ≡ true) × (m ≡ done a)
cond-met t n m a e = cond-kept t (refusal n) m a e

pub done-same : {A : Type 0} {a b : A} → done a ≡ done b → a ≡ b
done-same e = cc

pub refused-same : {A : Type 0} {a b : Refusal} → ◌≡◌ {A = Answer A} (refused a) (refused b) → a ≡ b
refused-same e = cc

-- ---- read from an octet on: the same values, and refusals further on
pub from-done : {A : Type 0} (start : ℕ) (m : Answer A) (a : A) → read_from start m ≡ done a → m ≡ done a
from-done start (done b) a e = e
from-done start (refused why) a e = absurd (not_done e)

-- a refusal at the front is one at that octet
pub from_front : {A : Type 0} (start : ℕ) (n : Reason) → read_from {A = A} start (refuse n) ≡ refuse_at start n
from_front start n = ap (λ (p : ℕ). refused (refusal_at p n)) (omega arith)

-- twice is once, from both octets together
pub from-from : {A : Type 0} (a b : ℕ) (m : Answer A) → read_from a (read_from b m) ≡ read_from (a + b) m
from-from a b (done x) = refl
from-from a b (refused why) = ap (λ (p : ℕ). refused (refusal_at p why.reason)) (omega arith)

-- a refusal at the front: its place is 0
pub record AtFront {A : Type 0} (m : Answer A) : Type 0 where
  pub front : (why : Refusal) → m ≡ refused why → why.place ≡ 0

pub refuse-front : {A : Type 0} (n : Reason) → AtFront {A = A} (refuse n)
refuse-front n = record { front = λ why e. let same : refusal n ≡ why = refused-same e in ap (λ (r : Refusal). r.place) (sym same) }

pub done-front : {A : Type 0} (a : A) → AtFront (done a)
done-front a = record { front = λ why e. let z : ◌≡◌ {A = ℕ} 0 1 = cc in absurd (omega arith) }

pub cond-front : {A : Type 0} (t : Bool) {m k : Answer A} → AtFront m → AtFront k → AtFront (cond t m k)
cond-front true first second = first
cond-front false first second = second

pub bind-front : {A B : Type 0} (m : Answer A) (f : A → Answer B) → AtFront m → ((a : A) → AtFront (f a)) → AtFront (◌>>=◌ m f)
bind-front (done a) f first next = next a
bind-front (refused why) f first next = record { front = λ r e. first.front r (ap refused (refused-same e)) }

-- ---- within the sizes
pub both : (a b : Bool) → (a && b) ≡ true → (a ≡ true) × (b ≡ true)
both true true e = (refl, refl)
both true false e = (refl, e)
both false b e = (e, absurd (true≢false (sym e)))

pub within-true : (least most n : ℕ) → within least most n ≡ true → (least ≤ n) × (n ≤ most)
within-true least most n e =
    let t = both (leb least n) (leb n most) e in
    (leb-true least n t.0, leb-true n most t.1)

pub true-within : (least most n : ℕ) → least ≤ n → n ≤ most → within least most n ≡ true
true-within least most n low high = rw (le-leb least n low, le-leb n most high)

pub allowed-done : (least most : ℕ) (l k : LengthAnswer) → allowed least most l ≡ done k → (l ≡ k) × (least ≤ k.value) × (k.value ≤ most)
unfolding allowed
allowed-done least most l k e =
    let met = cond-met (within least most l.value) outside_sizes (done l) k e in
    let fits = within-true least most l.value met.0 in
    let same : l ≡ k = done-same met.1 in
    rw (← same) (refl, fits.0, fits.1)

pub allowed-sizes : (least most : ℕ) (l : LengthAnswer) → least ≤ l.value → l.value ≤ most → allowed least most l ≡ done l
unfolding allowed
allowed-sizes least most l low high = rw (true-within least most l.value low high)

-- the same where a test told it
pub allowed-met : (least most : ℕ) (l : LengthAnswer) → within least most l.value ≡ true → allowed least most l ≡ done l
unfolding allowed
allowed-met least most l e = rw e

pub allowed-not : (least most : ℕ) (l : LengthAnswer) → within least most l.value ≡ false → allowed least most l ≡ refuse outside_sizes
unfolding allowed
allowed-not least most l e = rw e

-- ---- a length or count within the sizes

-- what one that reads says
pub record LengthInside (least most : ℕ) (s : List ℕ) (l : LengthAnswer) : Type 0 where
  pub read : length_at s ≡ done l
  pub sizes : Sizes s l
  pub low : least ≤ l.value
  pub high : l.value ≤ most

pub within-done : (least most : ℕ) (s : List ℕ) (l : LengthAnswer) → length_within least most s ≡ done l → LengthInside least most s l
unfolding length_within
within-done least most s l e =
    let found = bind_done (length_at s) (λ (k : LengthAnswer). allowed least most k) l e in
    let fits = allowed-done least most found.0 l found.2 in
    let read : length_at s ≡ done l = rw fits.0 at found.1 in
    record { read = read; sizes = sizes-read s l read; low = fits.1; high = fits.2 }

-- what was written reads back, whatever follows it
pub within-written : (least most n : ℕ) (rest : List ℕ) → least ≤ n → n ≤ most → n ≤ length_limit
    → length_within least most (length_octets n ++ rest) ≡ done (record { value = n; size = length (length_octets n) })
unfolding length_within
within-written least most n rest low high fits =
    rw (written-reads n rest fits) (allowed-sizes least most (record { value = n; size = length (length_octets n) }) low high)

-- a length that is refused begins at the front
pub length_front : (s : List ℕ) → AtFront (length_at s)
unfolding length_at
length_front s =
    cond-front (ltb (length s) 1) (refuse-front ends_early)
    (cond-front (ltb (get_or s 0 0) two_from) (done-front _)
    (cond-front (leb 0xC0 (get_or s 0 0)) (refuse-front bad_form)
    (cond-front (ltb (length s) 2) (refuse-front ends_early)
    (cond-front (ltb (of_two (get_or s 0 0) (get_or s 1 0)) two_from) (refuse-front bad_form) (done-front _)))))

pub within-front : (least most : ℕ) (s : List ℕ) → AtFront (length_within least most s)
unfolding length_within allowed
within-front least most s =
    bind-front (length_at s) _ (length_front s)
    (λ (l : LengthAnswer). cond-front (within least most l.value) (done-front l) (refuse-front outside_sizes))
